-- The table in the code says for every model and kind what specs/Table.antt says, by one computed test.
use Rattle.std.proofs.Common.{ℕ, ◌*◌, ◌/◌, ◌%◌, ◌+◌, ◌≤◌, ◌<◌, arith, ◌≡◌, refl, sym, ap, ◌∙◌, ◌∷◌, Bool, true, false, ◌&&◌, List, [], slice_index_or, eq-eqb, ne_eqb}
use native.Mathlib.Decide.{ℕ_discrete}
use Rattle.std.proofs.Math.Bool.{beq}
use Rattle.rows.proofs.Bools.{and_out}
use mathlib.Core.Bool.{and-false, false≢true}
use Rattle.rows.specs.Limits.{MODELS}
use Rattle.rows.specs.Counting.{any_below}
use Rattle.rows.proofs.Below.{each-passes}
use Rattle.models.specs.declared.Marks.{Marks}
use Rattle.rows.specs.Kinds.{READ, WRITE, KINDS}
use Rattle.models.specs.Models.{POSIX}
use Rattle.models.specs.Table.{publishes, refreshes, table_entry}

-- ---- The table of the code

-- The entries of the table, by whether a row publishes and whether it refreshes.
abbrev pub marks : Bool → Bool → Marks
marks publishes refreshes = record { publishes = publishes; refreshes = refreshes }

abbrev pub N : Marks
N = marks false false

abbrev pub P : Marks
P = marks true false

abbrev pub R : Marks
R = marks false true

abbrev pub B : Marks
B = marks true true

-- The table as the code has it, models by kinds.
abbrev pub table : List (List Marks)
table =
    (R ∷ P ∷ N ∷ N ∷ N ∷ N ∷ N ∷ N ∷ N ∷ N ∷ [])  -- POSIX
    ∷ (R ∷ N ∷ P ∷ N ∷ N ∷ N ∷ N ∷ N ∷ N ∷ N ∷ [])  -- commit
    ∷ (N ∷ N ∷ N ∷ R ∷ P ∷ N ∷ N ∷ N ∷ N ∷ N ∷ [])  -- session
    ∷ (N ∷ N ∷ N ∷ R ∷ P ∷ B ∷ N ∷ N ∷ N ∷ N ∷ [])  -- MPI-IO
    ∷ []

-- What the table has for a model and a kind.
abbrev pub entry : ℕ → ℕ → Marks
entry model kind = slice_index_or (slice_index_or table model []) kind N

-- Two entries say the same.
same : Marks → Marks → Bool
same x y = beq x.publishes y.publishes && beq x.refreshes y.refreshes

beq-is : (a b : Bool) → beq a b ≡ true → a ≡ b
beq-is true true e = refl
beq-is true false e = absurd (false≢true e)
beq-is false true e = absurd (false≢true e)
beq-is false false e = refl

same-is : (x y : Marks) → same x y ≡ true → x ≡ y
unfolding same
same-is x y e =
    let both = and_out (beq x.publishes y.publishes) (beq x.refreshes y.refreshes) e in
    λ i. marks (beq-is _ _ both.0 i) (beq-is _ _ both.1 i)

-- The entry at a place of the table is the one of the place's model and kind.
right : ℕ → Bool
right k = same (entry (k / KINDS) (k % KINDS)) (table_entry (k / KINDS) (k % KINDS))

-- Within the table, the code reads the entry of the model and the kind.
pub table-right : (model kind : ℕ) → model < MODELS → kind < KINDS → entry model kind ≡ table_entry model kind
unfolding any_below right same publishes refreshes
table-right model kind m k =
    let i = model * KINDS + kind in
    let d : i / KINDS ≡ model = omega arith in
    let r : i % KINDS ≡ kind = omega arith in
    let l : i < MODELS * KINDS = omega arith in
    (λ j. entry (sym d j) (sym r j)) ∙ same-is _ _ (each-passes (MODELS * KINDS) right refl i l) ∙ (λ j. table_entry (d j) (r j))

-- A number that is no model publishes nothing and refreshes nothing.
pub no_model : (model kind : ℕ) → MODELS ≤ model → table_entry model kind ≡ N
unfolding publishes refreshes
no_model model kind h =
    simp (ne_eqb model 0 (λ e. omega arith), ne_eqb model 1 (λ e. omega arith), ne_eqb model 2 (λ e. omega arith), ne_eqb model 3 (λ e. omega arith))

-- A number that is no kind publishes nothing and refreshes nothing.
pub no_kind : (model kind : ℕ) → KINDS ≤ kind → table_entry model kind ≡ N
unfolding publishes refreshes
no_kind model kind h =
    simp
    (ne_eqb kind 0 (λ e. omega arith), ne_eqb kind 1 (λ e. omega arith), ne_eqb kind 2 (λ e. omega arith), ne_eqb kind 3 (λ e. omega arith), ne_eqb kind 4 (λ e. omega arith), ne_eqb kind 5 (λ e. omega arith), and-false)

-- A model whose writes publish refreshes at its reads.
pub own-refresh : (model : ℕ) → publishes model WRITE ≡ true → refreshes model READ ≡ true
unfolding publishes refreshes
own-refresh model e = go (ℕ_discrete model POSIX)
  where
    go : Dec (model ≡ POSIX) → refreshes model READ ≡ true
    go (yes q) = rw (eq-eqb model POSIX q)
    go (no n) = absurd (false≢true (sym none ∙ e))
      where
        none : publishes model WRITE ≡ false
        none = simp (ne_eqb model POSIX n, and-false)

-- Under a model whose writes do not publish, no data row does.
pub no_data_publishes : (model kind : ℕ) → publishes model WRITE ≡ false → kind ≤ WRITE → publishes model kind ≡ false
unfolding publishes
no_data_publishes model kind e h = go (ℕ_discrete kind WRITE)
  where
    go : Dec (kind ≡ WRITE) → publishes model kind ≡ false
    go (yes q) = ap (publishes model) q ∙ e
    go (no n) = let z : kind ≡ READ = omega (arith, h, n) in ap (publishes model) z ∙ none
      where
        none : publishes model READ ≡ false
        none = simp and-false
