-- Lines laid one behind the other, and their lengths.
use Rattle.std.proofs.Common.{ℕ, ◌+◌, ◌≤◌, arith, ◌≡◌, List, [], ◌∷◌, ◌++◌, length, length-append}
use Rattle.print.specs.Decimal.{decimal_of}
use Rattle.print.specs.Puts.{lay, put_in, put_end}
use Rattle.print.proofs.Parts.{number-most, put-laid, laid-length, then}
use Rattle.races_meaning.specs.Races.{Verdict, free, racing}
use Rattle.checker.specs.Report.{line_end, race_word, pair, verdict_words, model_line}

-- ---- Lengths

-- two numbers with their comma and the line's end have at most 23 bytes
pub pair-most : (a b : ℕ) → length (pair a b) ≤ 23
pair-most a b =
    omega (
      arith,
      number-most a,
      number-most b,
      length-append (decimal_of a) ((44 ∷ []) ++ (decimal_of b ++ line_end)),
      length-append (decimal_of b) line_end,
    )

-- a verdict has at most 29 bytes
words-most : (v : Verdict) → length (verdict_words v) ≤ 29
words-most free = omega arith
words-most (racing earlier later) = omega (arith, pair-most earlier later, length-append race_word (pair earlier later))

-- a model's line has at most 29 bytes behind the model's name
pub line-most : (name : List ℕ) (v : Verdict) → length (model_line name v) ≤ length name + 29
line-most name v = omega (arith, words-most v, length-append name (verdict_words v))

-- ---- Lines

-- two numbers, a comma between them and a line's end put one behind the other are their line
pub pair-laid : (xs : List ℕ) (at a b : ℕ) {i j k end : ℕ} {ys zs us vs : List ℕ} → at + 23 ≤ length xs →
    (i ≡ put_end xs at (decimal_of a)) × (ys ≡ put_in xs at (decimal_of a)) → (j ≡ put_end ys i (44 ∷ [])) × (zs ≡ put_in ys i (44 ∷ [])) →
    (k ≡ put_end zs j (decimal_of b)) × (us ≡ put_in zs j (decimal_of b)) → (end ≡ put_end us k line_end) × (vs ≡ put_in us k line_end) →
    (end ≡ at + length (pair a b)) × (vs ≡ lay xs at (pair a b))
pair-laid xs at a b {i} {j} {k} {end} {ys} {zs} {us} {vs} h p q r s =
    let most-a = number-most a in
    let most-b = number-most b in
    let first = put-laid xs at (decimal_of a) p (omega arith) in
    let same = laid-length first in
    let comma = put-laid ys i (44 ∷ []) q (omega arith) in
    let same2 = laid-length comma in
    let second = put-laid zs j (decimal_of b) r (omega arith) in
    let same3 = laid-length second in
    let line = put-laid us k line_end s (omega arith) in
    let all = then first (then comma (then second line)) in
    (all.behind, all.whole)
