-- Slices of zeros.
use Rattle.std.proofs.Common.{ℕ, zero, suc, ◌-◌, ◌≤◌, arith, ◌≡◌, refl, ap, ◌∙◌, List, [], ◌++◌, append-nil, length, take, drop, replicate, length-append, length-drop, drop_of_length-le, take_at, drop_at, take_all}
use lib.ListN.{get_or, length-replicate}
use borrow.Rule.Slice.PartMut.{put_mid}

-- A list of zeros has 0 at every index, and past its end.
pub zeros : (n i : ℕ) → ◌≡◌ {A = ℕ} (get_or (replicate n 0) i 0) 0
zeros zero i = refl
zeros (suc n) zero = refl
zeros (suc n) (suc i) = zeros n i

-- A list that is 0 up to its end is zeros alone.
pub cleared : (d : List ℕ) {l : List ℕ} {i : ℕ} → l ≡ replicate i 0 ++ drop i d → length l ≡ length d → length l ≤ i → l ≡ replicate (length d) 0
cleared d {l} {i} e s h =
    let n : i ≡ length d = omega (arith, simp (length-append, length-replicate, length-drop) at (ap length e)) in
    let m : length d ≤ i = omega arith in
    e ∙ (λ j. replicate (n j) 0 ++ drop_of_length-le d m j) ∙ append-nil (replicate (length d) 0)

-- Some numbers stand at a slice's front, and the slice behind them is lent and cleared: the numbers stay, and 0 follows to the end.
pub cleared-behind : (front xs ys : List ℕ) {at : ℕ} {last : List ℕ} → length front ≡ at → ys ≡ front ++ drop at xs →
    last ≡ replicate (length (take (length ys - at) (drop at ys))) 0 → put_mid at (length ys - at) ys last ≡ front ++ replicate (length xs - at) 0
cleared-behind front xs ys {at} {last} size held e =
    let q = drop at xs in
    let k = length ys - at in
    let here : take at ys ≡ front = ap (take at) held ∙ take_at front q at size in
    let rest : drop at ys ≡ q = ap (drop at) held ∙ drop_at front q at size in
    let all : length q ≤ k = omega (arith, size, ap length held, length-append front q) in
    let end : drop k (drop at ys) ≡ [] = ap (drop k) rest ∙ drop_of_length-le q all in
    let zeros : last ≡ replicate (length xs - at) 0 =
    e ∙ ap (λ (x : List ℕ). replicate (length x) 0) (ap (take k) rest ∙ take_all k q all) ∙ ap (λ (m : ℕ). replicate m 0) (length-drop at xs) in
    (λ i. here i ++ (last ++ end i)) ∙ ap (λ (x : List ℕ). front ++ x) (append-nil last ∙ zeros)
