-- Pieces as numbers, three for each: at the front of a slice they tell the pieces.
use Rattle.std.proofs.Common.{ℕ, suc, ◌+◌, ◌*◌, arith, ◌≡◌, refl, sym, ap, ◌∙◌, List, [], ◌∷◌, ◌++◌, length, take, drop, take_at}
use lib.ListN.{get_or}
use Rattle.extents_meaning.specs.Cells.{Bytes, number_in}
use Rattle.extents_meaning.specs.Runs.{Run, run_of, pieces_of, Rising}
use Rattle.extents_meaning.specs.Maps.{threes}
use Rattle.extents_meaning.proofs.Longest.{rising-from}

-- three numbers a run
pub length-threes : (rs : List Run) → length (threes rs) ≡ 3 * length rs
unfolding threes
length-threes [] = refl
length-threes (r ∷ rs) = omega (arith, length-threes rs)

-- runs of cells other than 0 are told by their numbers
threes-tell : (top end c base c' : ℕ) (ps qs : List Run) → Rising top end c ps → Rising top base c' qs → threes ps ≡ threes qs → ps ≡ qs
unfolding threes
threes-tell top end c base c' [] [] g k e = refl
threes-tell top end c base c' [] (q ∷ qs) g k e = let n = ap (λ (l : List ℕ). length l) e in absurd (omega arith)
threes-tell top end c base c' (p ∷ ps) [] g k e = let n = ap (λ (l : List ℕ). length l) e in absurd (omega arith)
threes-tell top end c base c' (p ∷ ps) (q ∷ qs) g k e =
    let cell : p.cell ≡ q.cell = omega (arith, ap (λ (l : List ℕ). get_or l 2 0) e, g.0.written, k.0.written) in
    let rest = threes-tell top (p.start + p.length) p.cell (q.start + q.length) q.cell ps qs g.1 k.1 (ap (drop 3) e) in
    λ i. run_of (get_or (e i) 0 0) (get_or (e i) 1 0) (cell i) ∷ rest i

-- Equally many pieces of a range, listed alike at the front of a slice, are equal pieces.
pub pieces-told : (f g : Bytes) (s n : ℕ) (out : List ℕ) → length (pieces_of f s n) ≡ length (pieces_of g s n) →
    threes (pieces_of f s n) ++ drop (length (threes (pieces_of f s n))) out ≡ threes (pieces_of g s n) ++ drop (length (threes (pieces_of g s n))) out →
    pieces_of f s n ≡ pieces_of g s n
unfolding pieces_of
pieces-told f g s n out l e =
    let ps = pieces_of f s n in
    let qs = pieces_of g s n in
    let m : length (threes ps) ≡ length (threes qs) = omega (arith, l, length-threes ps, length-threes qs) in
    let w = sym (take_at (threes ps) _ (length (threes qs)) m) ∙ ap (take (length (threes qs))) e ∙ take_at (threes qs) _ (length (threes qs)) refl in
    threes-tell (s + n) s 0 s 0 ps qs (rising-from n s (λ b. suc (number_in (f b)))) (rising-from n s (λ b. suc (number_in (g b)))) w
