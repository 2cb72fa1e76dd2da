-- The answers to question 22 of the first rows of a slice, case by case.
use Rattle.std.proofs.Common.{ℕ, zero, suc, ◌<◌, arith, ◌≡◌, sym, ap, subst, ◌∙◌, Bool, true, false, cond, List, length, replicate, ne_eqb}
use mathlib.Core.Bool.{false≢true}
use lib.ListN.{get_or}
use lib.Dec.{eqb}
use Rattle.rows.specs.declared.row.Row.{Row}
use Rattle.rows.specs.Limits.{PROCESSES, MESSAGES}
use Rattle.rows.specs.Rows.{row_in, rows_in}
use Rattle.rows.specs.Counting.{count_below}
use Rattle.rows.specs.Tests.{any}
use Rattle.rows.proofs.Slices.{row-in, length-rows}
use Rattle.barriers.specs.Barriers.{barrier_place}
use Rattle.barriers.specs.Participants.{participants, flagged}
use Rattle.barriers.specs.Tables.{arrivals_after, first_out_by, unfinished_by}
use Rattle.barriers.proofs.Flags.{flagged-many}
use Rattle.barriers.proofs.Telling.{Bounded, place-told}

-- Where a row passes a test, there is one.
some-row : (n : ℕ) (test : Row → Bool) (xs : List ℕ) → any test (rows_in n xs) ≡ true → 0 < n
unfolding any rows_in
some-row zero test xs e = absurd (false≢true e)
some-row (suc n) test xs e = omega arith

module _ (n : ℕ) (xs : List ℕ) (b : (k : ℕ) → k < n → ((row_in xs k).process < PROCESSES) × ((row_in xs k).message < MESSAGES)) where
  -- The first n rows.
  abbrev rows : List Row
  rows = rows_in n xs

  -- Their processes and messages are in range.
  bounded : Bounded rows
  bounded k h =
      let l : k < n = omega (arith, h, length-rows n xs) in
      subst (λ (r : Row). (r.process < PROCESSES) × (r.message < MESSAGES)) (sym (row-in n k xs l)) (b k l)

  module _ {flags : List Bool} {processes : ℕ} (f : flags ≡ flagged (replicate PROCESSES false) rows)
      (p : processes ≡ count_below PROCESSES (λ q. get_or flags q false))
      {stands arrivals : List ℕ} (s : stands ≡ replicate PROCESSES 0) (v : arrivals ≡ replicate MESSAGES 0) where
    -- The processes with rows were counted.
    many : processes ≡ participants rows
    many = p ∙ ap (λ (l : List Bool). count_below PROCESSES (λ q. get_or l q false)) f ∙ flagged-many rows

    module _ {out : ℕ} (e : out ≡ first_out_by stands arrivals processes 0 rows) where
      -- What the answer is.
      whole : barrier_place rows ≡ cond (eqb out 0) (cond (any (unfinished_by (arrivals_after (replicate MESSAGES 0) rows) (participants rows)) rows) (length rows) 0) out
      whole = place-told rows bounded out (e ∙ (λ i. first_out_by (s i) (v i) (many i) 0 rows))

      -- A row out of turn is the place.
      pub asked-out : 0 < out → out ≡ barrier_place rows
      asked-out h = sym (whole ∙ rw (ne_eqb out 0 (λ z. omega arith)))

      module _ (z : out ≡ 0) {arrivals' : List ℕ} (a : arrivals' ≡ arrivals_after arrivals rows) {processes' : ℕ} (k : processes' ≡ processes) {u : Bool}
          (q : u ≡ any (unfinished_by arrivals' processes') rows) where
        -- Without one an unfinished barrier decides.
        last : barrier_place rows ≡ cond u (length rows) 0
        last =
            whole ∙ ap (λ (j : ℕ). cond (eqb j 0) (cond (any (unfinished_by (arrivals_after (replicate MESSAGES 0) rows) (participants rows)) rows) (length rows) 0) j) z
            ∙ ap (λ (x : Bool). cond x (length rows) 0)
            ((λ i. any (unfinished_by (sym (a ∙ ap (λ (l : List ℕ). arrivals_after l rows) v) i) (sym (k ∙ many) i)) rows) ∙ sym q)

        -- The place of an unfinished barrier is the last row.
        pub asked-unfinished : u ≡ true → (n ≡ barrier_place rows) × (0 < n)
        asked-unfinished y = (sym (last ∙ rw y (length-rows n xs)), some-row n (unfinished_by arrivals' processes') xs (sym q ∙ y))

        -- The answer is Yes.
        pub asked-yes : u ≡ false → barrier_place rows ≡ 0
        asked-yes y = last ∙ rw y
