-- A step of the plain file preserves a lawful state.
use Rattle.std.proofs.Common.{ℕ, ◌≤◌, ◌≡◌, true, List, leb-true}
use Rattle.rows.specs.Limits.{OFFSET_MAX}
use Rattle.rows.specs.declared.row.Row.{Row}
use Rattle.rows.specs.Lists.{In}
use Rattle.extents_meaning.specs.Maps.{map_at}
use Rattle.machine_meaning.specs.Layers.{after_plain, pieces_read}
use Rattle.machine_meaning.specs.States.{Header, lawful_plain, plain_in, plain_to, plain_fits}
use Rattle.machine_meaning.specs.Steps.{row_asked, plain_step_of}
use Rattle.machine_meaning.proofs.Points.{plain-row-pointed}
use Rattle.machine_meaning.proofs.Slices.{PlainHeld}
use Rattle.rows.proofs.Asking.{AllYes}
use Rattle.machine_meaning.proofs.Stepping.{plain-lawful}
use Rattle.machine_state.proofs.Maps.{plain-making}
use Rattle.machine_state.proofs.Questions.{row_named}
use Rattle.machine_state.proofs.LawfulBytes.{points_to, published-pointed, asked-writing}
use Rattle.machine_state.specs.Files.{Preserves}
use Rattle.machine_state.proofs.Keeping.{decided-keeps}

-- The points hold every number up to the end of files.
module _ (points : List ℕ) (whole : (b : ℕ) → b ≤ OFFSET_MAX → In b points) where
  -- A row that passes its questions leaves a lawful plain file lawful.
  row_plain : (h : Header) (xs : List ℕ) (r : Row) (number : ℕ) → let f = after_plain r number (plain_in h xs) in
      lawful_plain h xs ≡ true → AllYes (row_asked h r number) → plain_fits h f ≡ true → lawful_plain h (plain_to h f xs) ≡ true
  row_plain h xs r number law asked fit =
      let parts = plain-making h xs law in
      let k =
      plain-row-pointed (asked-writing points whole h r number asked) (published-pointed points whole (map_at h.space 0 xs) parts.1) in
      let held : PlainHeld h (after_plain r number (plain_in h xs)) =
      record { bytes = record { fine = k.bytes.fine; ends = k.bytes.ends; fit = leb-true _ _ fit }; unmarked = k.unmarked } in
      plain-lawful h held xs parts.0

-- Every step of the plain file keeps its state lawful, and a refusal changes nothing.
pub plain-preserves : (h : Header) → Preserves (lawful_plain h) (plain_step_of h)
unfolding plain_step_of
plain-preserves h =
    record {
      each = λ xs r number out.
          let p = points_to OFFSET_MAX in
          let f = after_plain r number (plain_in h xs) in
          decided-keeps (lawful_plain h) xs r (pieces_read r f) (plain_to h f xs) out (row_asked h r number) (plain_fits h f)
          (row_named h r number) (row_plain p.0 p.1 h xs r number);
    }
