-- Question 22 of the joined rows, once all records are taken.
use Rattle.std.proofs.Common.{ℕ, ◌*◌, ◌<◌, ◌≤◌, arith, ◌≡◌, sym, ap, subst, ◌∙◌, List, length, drop, eq-eqb, ne_eqb}
use Rattle.rows.specs.declared.row.Row.{Row}
use Rattle.rows.specs.Limits.{PROCESSES, MESSAGES}
use Rattle.rows.specs.Refusals.{BARRIER_ORDER}
use Rattle.rows.specs.Rows.{row_at, row_in, rows_in}
use Rattle.rows.proofs.Slices.{rows_back, row-in}
use Rattle.barriers.specs.Barriers.{barrier_place}
use Rattle.join_meaning.specs.Files.{Entry, rows_of, entries_of}
use Rattle.join_meaning.specs.Joining.{Joining, refused, joined, ask_joined, join_rows}
use Rattle.join_meaning.proofs.Ahead.{file-rows, file-well_formed}
use Rattle.join_meaning.proofs.Merging.{rows-length, merged_rows, merged_every}
use Rattle.join_meaning.proofs.Taking.{join-rows}
use Rattle.join.specs.Answers.{Accepted, Refused}
use Rattle.join.specs.Leaving.{joined_of, ReadAs, Holds}
use Rattle.join.proofs.Whole.{no_told, yes-told}

-- A refusal of the joining stays as it is.
pub asked-refused : (o : Joining) (xs xs' ps ps' : List ℕ) {k p f : ℕ} → Refused k p f ≡ joined_of o →
    (Refused k p f ≡ joined_of (ask_joined o)) × Holds (ask_joined o) xs xs' ps ps'
unfolding ask_joined
asked-refused o xs xs' ps ps' {k} {p} {f} e =
    let q : ask_joined o ≡ refused k p f = ap ask_joined (no_told o e) in (sym (ap joined_of q), rw q tt)

module _ (o : Joining) (xs xs' ps ps' : List ℕ) {n : ℕ} (e : Accepted n ≡ joined_of o) (h : Holds o xs xs' ps ps') where
  -- The entries that were taken.
  pub taken : (es : List Entry) × (o ≡ joined es) × (n ≡ length es)
  taken = yes-told o e

  -- Their rows stand in the slice.
  pub rows-there : rows_in n xs' ≡ rows_of taken.0
  rows-there =
      let t = taken in
      let held : Holds (joined t.0) xs xs' ps ps' = rw t.1 at h in
      let many : n ≡ length (rows_of t.0) = t.2 ∙ sym (rows-length t.0) in
      (λ i. rows_in (many i) (held.0 i)) ∙ rows_back (rows_of t.0) (drop (6 * length t.0) xs)

  -- A No gets 22.
  pub asked-no : {p : ℕ} → p ≡ barrier_place (rows_in n xs') → 0 < p → (Refused BARRIER_ORDER p 0 ≡ joined_of (ask_joined o)) × Holds (ask_joined o) xs xs' ps ps'
  unfolding ask_joined
  asked-no {p} q z =
      let place_is : p ≡ barrier_place (rows_of taken.0) = q ∙ ap barrier_place rows-there in
      let no : barrier_place (rows_of taken.0) ≡ 0 → ⊥ = λ y. omega (arith, place_is, y) in
      let r : ask_joined o ≡ refused BARRIER_ORDER p 0 =
      ap ask_joined taken.1 ∙ rw (ne_eqb (barrier_place (rows_of taken.0)) 0 no) (ap (λ (k : ℕ). refused BARRIER_ORDER k 0) (sym place_is)) in
      (sym (ap joined_of r), rw r tt)

  -- A Yes accepts the join.
  pub asked-yes : barrier_place (rows_in n xs') ≡ 0 → (Accepted n ≡ joined_of (ask_joined o)) × Holds (ask_joined o) xs xs' ps ps'
  unfolding ask_joined
  asked-yes z =
      let none : barrier_place (rows_of taken.0) ≡ 0 = sym (ap barrier_place rows-there) ∙ z in
      let r : ask_joined o ≡ o = ap ask_joined taken.1 ∙ rw (eq-eqb (barrier_place (rows_of taken.0)) 0 none) (sym taken.1) in
      (e ∙ sym (ap joined_of r), rw r h)

-- The processes and messages of the joined rows are in range.
pub joined-fit : (R P h₁ h₂ : ℕ) (first second : List ℕ) → P ≤ PROCESSES → ReadAs h₁ R P first → ReadAs h₂ R P second → (xs xs' ps ps' : List ℕ) {n : ℕ} →
    Accepted n ≡ joined_of (join_rows R (entries_of 1 h₁ first) (entries_of 2 h₂ second)) →
    Holds (join_rows R (entries_of 1 h₁ first) (entries_of 2 h₂ second)) xs xs' ps ps' →
    (k : ℕ) → k < n → ((row_in xs' k).process < PROCESSES) × ((row_in xs' k).message < MESSAGES)
joined-fit R P h₁ h₂ first second few r s xs xs' ps ps' {n} e h k l =
    let o = join_rows R (entries_of 1 h₁ first) (entries_of 2 h₂ second) in
    let t = taken o xs xs' ps ps' e h in
    let all = merged_every (λ (x : Row). (x.process < PROCESSES) × (x.message < MESSAGES)) (merged_rows (join-rows R (entries_of 1 h₁ first) (entries_of 2 h₂ second) t.0 t.1))
    (in-range 1 h₁ first r) (in-range 2 h₂ second s) in
    let same : row_in xs' k ≡ row_at (rows_of t.0) k = sym (row-in n k xs' l) ∙ ap (λ (x : List Row). row_at x k) (rows-there o xs xs' ps ps' e h) in
    subst (λ (x : Row). (x.process < PROCESSES) × (x.message < MESSAGES)) (sym same) (all k (omega (arith, l, t.2, rows-length t.0)))
  where
    in-range : (file header : ℕ) (text : List ℕ) → ReadAs header R P text → (k : ℕ) → k < length (rows_of (entries_of file header text)) →
        ((row_at (rows_of (entries_of file header text)) k).process < PROCESSES) × ((row_at (rows_of (entries_of file header text)) k).message < MESSAGES)
    in-range file header text r =
        rw (file-rows header R P text r.is_read file)
        (λ k h. let w = file-well_formed header R P text r.is_read k h in let low = w.process in (omega arith, w.message))
