-- What taking one row answers and stores, case by case.
use Rattle.std.proofs.Common.{ℕ, ◌+◌, ◌*◌, ◌/◌, ◌<◌, ◌≤◌, add-one, arith, ◌≡◌, refl, sym, ap, ◌∙◌, List, [], ◌∷◌, ◌++◌, append_assoc, length, take, drop, le-leb}
use native.Mathlib.Numerals.{add-two}
use lib.ListN.{set}
use lib.Seq.{sets-eq}
use borrow.Author.Tests.{lt-leb}
use Rattle.rows.proofs.Slices.{block_next}
use Rattle.join.specs.Choosing.{Choice}
use Rattle.join_meaning.specs.Files.{Entry}
use Rattle.join.specs.Taking.{three, with_part, part_numbers}

-- The choice of an entry.
abbrev pub choice_of : Entry → Choice
choice_of e = record { file = e.file; start = e.start; end = e.end }

module _ (k : ℕ) (c : Choice) (xs : List ℕ) where
  -- A slice without room for the place stays as it is.
  pub part_none : length xs / 3 ≤ k → xs ≡ with_part k c xs
  unfolding with_part
  part_none h = rw (lt-leb (k * 3 + 3) (length xs) (omega arith))

  -- Where there is room, the place stands there and the other numbers stay.
  pub part_room : k * 3 + 3 ≤ length xs → with_part k c xs ≡ take (k * 3) xs ++ (three c ++ drop (k * 3 + 3) xs)
  unfolding with_part
  part_room h = rw (le-leb (k * 3 + 3) (length xs) h)

  -- Three stores put the place.
  pub part-some : k < length xs / 3 →
      set (set (set xs (k * 3) c.file) (k * 3 + 1) c.start) (k * 3 + 2) c.end ≡ with_part k c xs
  part-some h =
      let room : k * 3 + 3 ≤ length xs = omega arith in
      rw (add-one, add-two) (sets-eq (three c) xs (k * 3) room ∙ append_assoc (take (k * 3) xs) (three c) (drop (k * 3 + 3) xs)) ∙ sym (part_room room)

-- ---- The slice of places

-- How many numbers tell of the places.
pub length-parts : (es : List Entry) → length (part_numbers es) ≡ length es * 3
unfolding part_numbers
length-parts [] = refl
length-parts (e ∷ es) = omega (arith, length-parts es)

-- The places of entries with one more behind them.
parts_snoc : (es : List Entry) (e : Entry) → part_numbers (es ++ (e ∷ [])) ≡ part_numbers es ++ three (choice_of e)
unfolding part_numbers
parts_snoc [] e = refl
parts_snoc (f ∷ es) e = ap (λ (l : List ℕ). f.file ∷ (f.start ∷ (f.end ∷ l))) (parts_snoc es e)

-- The slice holds the place of one entry more.
pub parts_next : (es : List Entry) (e : Entry) {n : ℕ} {ps ps' : List ℕ} (ps₀ : List ℕ) → n ≡ length es → ps ≡ part_numbers es ++ drop (3 * n) ps₀ →
    ps' ≡ take (n * 3) ps ++ (three (choice_of e) ++ drop (n * 3 + 3) ps) → ps' ≡ part_numbers (es ++ (e ∷ [])) ++ drop (3 * (n + 1)) ps₀
parts_next es e {n} {ps} ps₀ many held q =
    let size : length (part_numbers es) ≡ n * 3 = length-parts es ∙ omega arith in
    let same : 3 * n ≡ n * 3 = omega arith in
    let on : n * 3 + 3 ≡ 3 * (n + 1) = omega arith in
    block_next (part_numbers es) (three (choice_of e)) 3 ps₀ size (held ∙ ap (λ (k : ℕ). part_numbers es ++ drop k ps₀) same) q
    ∙ (λ i. sym (parts_snoc es e) i ++ drop (on i) ps₀)
