-- Flags of processes: what rows more flag, and how many are flagged.
use Rattle.std.proofs.Common.{ℕ, zero, suc, ◌<◌, arith, ◌≡◌, refl, sym, ap, subst, ◌∙◌, Bool, true, false, ◌||◌, List, [], ◌∷◌, ◌++◌, append-nil, length, replicate, length-set, get_or-set_same, get_or-set_other, eq-eqb, ne_eqb}
use native.Mathlib.Decide.{ℕ_discrete}
use mathlib.Core.Bool.{or-false, or-true}
use lib.ListN.{get_or, set, length-replicate}
use lib.Seq.{append_snoc}
use lib.Dec.{eqb}
use Rattle.rows.specs.declared.row.Row.{Row}
use Rattle.rows.specs.Limits.{PROCESSES}
use Rattle.rows.specs.Counting.{count_below}
use Rattle.rows.specs.Tests.{any}
use Rattle.rows.proofs.Below.{count_same}
use Rattle.rows.proofs.Tests.{any_last}
use Rattle.barriers.specs.Participants.{has_row, participants, Members, flagged}

-- A list of flags that are not set has none set.
none-set : (n p : ℕ) → get_or (replicate n false) p false ≡ false
none-set zero p = refl
none-set (suc n) zero = refl
none-set (suc n) (suc p) = none-set n p

-- Before any row no flag is set.
pub members_none : Members [] (replicate PROCESSES false)
unfolding any
members_none = record { size = length-replicate {A = Bool} PROCESSES false; each = λ p h. none-set PROCESSES p }

-- A row more sets the flag of its process.
members_next : {rows : List Row} {flags : List Bool} → Members rows flags → (r : Row) → Members (rows ++ (r ∷ [])) (set flags r.process true)
members_next {rows} {flags} m r = record { size = length-set flags r.process true ∙ m.size; each = λ p h. at p h (ℕ_discrete p r.process) }
  where
    at : (p : ℕ) → p < PROCESSES → Dec (p ≡ r.process) → get_or (set flags r.process true) p false ≡ has_row p (rows ++ (r ∷ []))
    at p h (yes e) =
        let in-flags : r.process < length flags = omega (arith, m.size) in
        rw e (get_or-set_same flags r.process true false in-flags)
        ∙ sym (any_last (λ (s : Row). eqb s.process p) rows r ∙ ap (λ (b : Bool). has_row p rows || b) (eq-eqb r.process p (sym e)) ∙ or-true (has_row p rows))
    at p h (no n) =
        get_or-set_other flags r.process p true false n ∙ m.each p h
        ∙ sym (any_last (λ (s : Row). eqb s.process p) rows r ∙ ap (λ (b : Bool). has_row p rows || b) (ne_eqb r.process p (λ e. n (sym e))) ∙ or-false (has_row p rows))

-- Rows more set the flags of their processes.
pub members_more : (more : List Row) {rows : List Row} {flags : List Bool} → Members rows flags → Members (rows ++ more) (flagged flags more)
unfolding flagged
members_more [] {rows} m = rw append-nil m
members_more (r ∷ more) {rows} {flags} m =
    subst (λ (l : List Row). Members l (flagged (set flags r.process true) more)) (append_snoc rows r more) (members_more more (members_next m r))

-- There are as many flags set as processes have rows.
pub members_many : {rows : List Row} {flags : List Bool} → Members rows flags → count_below PROCESSES (λ p. get_or flags p false) ≡ participants rows
members_many m = count_same PROCESSES _ _ m.each

-- The flags of rows from none.
pub flagged-many : (rows : List Row) → count_below PROCESSES (λ p. get_or (flagged (replicate PROCESSES false) rows) p false) ≡ participants rows
flagged-many rows = members_many (members_more rows members_none)
