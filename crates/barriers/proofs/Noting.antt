-- The tables of a pass over rows: before any row, and with one row more that may go on.
use Rattle.std.proofs.Common.{ℕ, ◌<◌, arith, ◌≡◌, refl, sym, ap, ◌∙◌, true, false, List, [], ◌∷◌, ◌++◌, length, replicate}
use Rattle.rows.specs.declared.row.Row.{Row}
use Rattle.rows.specs.Limits.{PROCESSES, MESSAGES}
use Rattle.rows.specs.Rows.{row_at}
use Rattle.barriers.specs.Barriers.{goes_on}
use Rattle.barriers.specs.Participants.{has_row, participants}
use Rattle.barriers.specs.Tables.{noted_stand, noted_arrival, held_by, stands_after, arrivals_after, stands_of, arrivals_of}
use Rattle.barriers.proofs.Arrivals.{NonePassed, none, next}
use Rattle.barriers.proofs.Codes.{arrivals_last}
use Rattle.barriers.proofs.Telling.{Numbered, numbered_next, stands-last, held-told}

-- The tables have the rows taken so far noted, none of which went on before all had arrived; `all` are the rows of the whole trace, and so many
-- processes have one.
pub record Noted (all taken : List Row) (stands arrivals : List ℕ) (processes : ℕ) : Type 0 where
  pub stands-noted : stands ≡ stands_of taken
  pub arrivals_noted : arrivals ≡ arrivals_of taken
  pub counted : processes ≡ participants all
  pub few : (k : ℕ) → k < length all → (row_at all k).process < PROCESSES
  pub passed : NonePassed all taken
  pub numbered : Numbered taken

-- Before any row the tables hold 0.
pub noted-none : (all : List Row) {processes : ℕ} → processes ≡ participants all → ((k : ℕ) → k < length all → (row_at all k).process < PROCESSES) →
    Noted all [] (replicate PROCESSES 0) (replicate MESSAGES 0) processes
unfolding stands_after arrivals_after
noted-none all e few =
    record { stands-noted = refl; arrivals_noted = refl; counted = e; few = few; passed = none; numbered = λ k h. absurd (omega arith) }

module _ {all taken : List Row} {stands arrivals : List ℕ} {processes : ℕ} (n : Noted all taken stands arrivals processes) (r : Row) where
  -- The tables tell whether a row goes on before all have arrived.
  pub noted-held : r.process < PROCESSES → held_by stands arrivals processes r ≡ goes_on all taken r
  noted-held low =
      (λ i. held_by (n.stands-noted i) (n.arrivals_noted i) (n.counted i) r) ∙ held-told all n.few n.passed n.numbered r low

  -- A row that may go on is noted.
  pub noted-next : r.process < PROCESSES → r.message < MESSAGES → has_row r.process all ≡ true → goes_on all taken r ≡ false →
      {stands' arrivals' : List ℕ} → stands' ≡ noted_stand stands r → arrivals' ≡ noted_arrival arrivals r → Noted all (taken ++ (r ∷ [])) stands' arrivals' processes
  noted-next low number has g s a =
      record {
        stands-noted = s ∙ ap (λ (l : List ℕ). noted_stand l r) n.stands-noted ∙ sym (stands-last (replicate PROCESSES 0) taken r);
        arrivals_noted = a ∙ ap (λ (l : List ℕ). noted_arrival l r) n.arrivals_noted ∙ sym (arrivals_last (replicate MESSAGES 0) taken r);
        counted = n.counted;
        few = n.few;
        passed = next r n.passed low has g;
        numbered = numbered_next taken r n.numbered number;
      }
