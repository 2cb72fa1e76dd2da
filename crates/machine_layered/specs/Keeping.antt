-- A step of the layered file preserves a lawful state.
use Rattle.std.proofs.Common.{ℕ, suc, ◌≤◌, ◌≡◌, refl, sym, ap, ◌∙◌, true, cond, List, length, leb-true, ltb-true, lt-ltb}
use lib.Dec.{leb, ltb}
use Rattle.rows.specs.Limits.{OFFSET_MAX}
use Rattle.rows.specs.declared.row.Row.{Row}
use Rattle.rows.specs.Lists.{In}
use Rattle.rows.proofs.Bools.{and_out}
use Rattle.extents_meaning.specs.Runs.{runs_of}
use Rattle.extents_meaning.specs.Maps.{map_at}
use Rattle.machine_meaning.specs.Layers.{Layers, nothing, after_row, pieces_read}
use Rattle.machine_meaning.specs.States.{Header, lawful_state, layers_in, layers_to, layers_fit}
use Rattle.machine_meaning.specs.Steps.{row_asked, step_of}
use Rattle.machine_meaning.proofs.Points.{picked, Pointed, LayersPointed, fresh-pointed, row-pointed}
use Rattle.machine_meaning.proofs.Slices.{all-out, LayersHeld, Alike, alike-fit, alike-to}
use Rattle.machine_meaning.proofs.Lawful.{state_parts}
use Rattle.rows.proofs.Asking.{AllYes}
use Rattle.machine_meaning.proofs.Stepping.{alike-row, to_lawful}
use Rattle.machine_state.proofs.Maps.{state_making}
use Rattle.machine_state.proofs.Questions.{row_named, asked-process}
use Rattle.machine_state.proofs.LawfulBytes.{points_to, lawful-pointed, published-pointed, asked-writing}
use Rattle.machine_state.specs.Files.{Preserves}
use Rattle.machine_state.proofs.Keeping.{decided-keeps}

module _ (h : Header) (xs : List ℕ) where
  -- The layers of a slice, where processes from the limit on see nothing.
  abbrev within : Layers
  within = record { shared = (layers_in h xs).shared; view = λ p. cond (ltb p h.processes) ((layers_in h xs).view p) nothing }

  -- Processes below the limit see in `within` what the slice says.
  within-alike : Alike h.processes (layers_in h xs) within
  within-alike = record { shared = refl; view = λ p l. rw (lt-ltb p h.processes l) }

-- The points hold every number up to the end of files.
module _ (points : List ℕ) (whole : (b : ℕ) → b ≤ OFFSET_MAX → In b points) where
  -- The bytes of a lawful state change only at the points.
  within-pointed : (h : Header) (xs : List ℕ) → lawful_state h xs ≡ true → LayersPointed points (within h xs)
  within-pointed h xs law =
      let k = state_parts h xs law in
      let first = published-pointed points whole (map_at h.space 0 xs) k.1 in
      record {
        shared = first.bytes;
        unmarked = first.unmarked;
        view =
            λ p.
            picked (Pointed points) (ltb p h.processes) ((layers_in h xs).view p) nothing
            (λ e. lawful-pointed points whole (map_at h.space (suc p) xs) (k.2 p (ltb-true _ _ e))) fresh-pointed.shared;
      }

  -- Layers that change only at the points and fit the maps' space can be held in maps.
  fit-held : (h : Header) (s : Layers) → LayersPointed points s → layers_fit h s ≡ true → LayersHeld h s
  unfolding layers_fit
  fit-held h s k fit =
      let b = and_out (leb (length (runs_of s.shared)) h.space) _ fit in
      let views = all-out h.processes (λ p. leb (length (runs_of (s.view p))) h.space) b.1 in
      record {
        shared = record { fine = k.shared.fine; ends = k.shared.ends; fit = leb-true _ _ b.0 };
        unmarked = k.unmarked;
        view = λ p l. record { fine = (k.view p).fine; ends = (k.view p).ends; fit = leb-true _ _ (views p l) };
      }

  -- A row that passes its questions leaves a lawful state lawful.
  row_lawful : (h : Header) (xs : List ℕ) (r : Row) (number : ℕ) → let s = after_row h.model r number (layers_in h xs) in
      lawful_state h xs ≡ true → AllYes (row_asked h r number) → layers_fit h s ≡ true → lawful_state h (layers_to h s xs) ≡ true
  row_lawful h xs r number law asked fit =
      let a = alike-row r number (asked-process h r number asked) h.model (within-alike h xs) in
      let k = row-pointed (asked-writing points whole h r number asked) h.model (within-pointed h xs law) in
      let held = fit-held h (after_row h.model r number (within h xs)) k (sym (alike-fit h a) ∙ fit) in
      ap (lawful_state h) (alike-to h a xs) ∙ to_lawful h held xs (state_making h xs law)

-- Every step of the layered file keeps its state lawful, and a refusal changes nothing.
pub step-preserves : (h : Header) → Preserves (lawful_state h) (step_of h)
unfolding step_of
step-preserves h =
    record {
      each = λ xs r number out.
          let p = points_to OFFSET_MAX in
          let s = after_row h.model r number (layers_in h xs) in
          decided-keeps (lawful_state h) xs r (pieces_read r (s.view r.process)) (layers_to h s xs) out (row_asked h r number) (layers_fit h s)
          (row_named h r number) (row_lawful p.0 p.1 h xs r number);
    }
