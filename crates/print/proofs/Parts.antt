-- Parts of a text laid one behind the other, and the lengths of numbers.
use Rattle.std.proofs.Common.{ℕ, zero, suc, ◌+◌, ◌-◌, ◌/◌, ◌≤◌, arith, ◌≡◌, sym, ap, ◌∙◌, Bool, true, false, cond, List, [], ◌++◌, append_assoc, append-nil, length, take, drop, length-append, length-drop, drop_of_length-le, drop-drop, take_all}
use lib.Dec.{ltb}
use borrow.Rule.Slice.PartMut.{put_mid}
use Rattle.print.specs.Decimal.{width_within, decimal_of}
use Rattle.print.specs.Puts.{lay, put_in, put_end}
use Rattle.print.proofs.Laying.{put-lay, lay-lay, lay-length, number-length}

-- `width_within` counts at most k digits.
pub width_most : (k n : ℕ) → width_within k n ≤ k
unfolding width_within
width_most zero n = omega arith
width_most (suc k) n = go (ltb n 10) (width_most k (n / 10))
  where
    go : (b : Bool) → width_within k (n / 10) ≤ k → cond b 1 (suc (width_within k (n / 10))) ≤ suc k
    go true h = omega arith
    go false h = omega arith

-- A number has at most ten bytes.
pub number-most : (n : ℕ) → length (decimal_of n) ≤ 10
number-most n = omega (arith, number-length n, width_most 10 n)

-- Bytes are laid where there is room, and `end` is the index behind them.
pub record Laid (xs : List ℕ) (at : ℕ) (w : List ℕ) (end : ℕ) (ys : List ℕ) : Type 0 where
  pub fit : at + length w ≤ length xs
  pub behind : end ≡ at + length w
  pub whole : ys ≡ lay xs at w

-- Bytes put where there is room are laid.
pub put-laid : (xs : List ℕ) (at : ℕ) (w : List ℕ) {end : ℕ} {ys : List ℕ} → (end ≡ put_end xs at w) × (ys ≡ put_in xs at w) →
    at + length w ≤ length xs → Laid xs at w end ys
put-laid xs at w e h =
    let p = put-lay xs at w h in
    record { fit = h; behind = e.0 ∙ sym p.0; whole = e.1 ∙ sym p.1 }

-- Laying keeps the length.
pub laid-length : {xs : List ℕ} {at : ℕ} {w : List ℕ} {end : ℕ} {ys : List ℕ} → Laid xs at w end ys → length ys ≡ length xs
laid-length {xs} {at} {w} l = ap length l.whole ∙ lay-length xs at w l.fit

-- Bytes laid behind others are laid with them.
pub then : {xs : List ℕ} {at : ℕ} {s : List ℕ} {mid : ℕ} {ys t : List ℕ} {end : ℕ} {zs : List ℕ} → Laid xs at s mid ys → Laid ys mid t end zs →
    Laid xs at (s ++ t) end zs
then {xs} {at} {s} {mid} {ys} {t} {end} a b =
    record {
      fit = omega (arith, a.behind, b.fit, laid-length a, length-append s t);
      behind = omega (arith, a.behind, b.behind, length-append s t);
      whole = b.whole ∙ (λ i. lay (a.whole i) (a.behind i) t) ∙ lay-lay xs at s t a.fit;
    }

-- Bytes put at the front of the rest of a slice are laid into the slice behind its first ones.
pub part-laid : (xs : List ℕ) (at : ℕ) (w : List ℕ) {end : ℕ} {last : List ℕ} → at + length w ≤ length xs →
    (end ≡ put_end (take (length xs - at) (drop at xs)) 0 w) × (last ≡ put_in (take (length xs - at) (drop at xs)) 0 w) →
    Laid xs at w (at + end) (put_mid at (length xs - at) xs last)
part-laid xs at w {end} {last} h p =
    let part : take (length xs - at) (drop at xs) ≡ drop at xs = take_all (length xs - at) (drop at xs) (omega (arith, length-drop at xs)) in
    let q = rw part at p in
    let room : 0 + length w ≤ length (drop at xs) = omega (arith, length-drop at xs) in
    let l = put-laid (drop at xs) 0 w q room in
    let short : length (drop at xs) ≤ length xs - at = omega (arith, length-drop at xs) in
    let behind : drop (length xs - at) (drop at xs) ≡ [] = drop_of_length-le (drop at xs) short in
    let sum : at + (0 + length w) ≡ at + length w = omega arith in
    let rest : drop (0 + length w) (drop at xs) ≡ drop (at + length w) xs = drop-drop (0 + length w) at xs ∙ ap (λ (m : ℕ). drop m xs) sum in
    record {
      fit = h;
      behind = omega (arith, l.behind);
      whole =
          (λ k. take at xs ++ (l.whole k ++ behind k)) ∙ ap (λ (z : List ℕ). take at xs ++ z) (append-nil (w ++ drop (0 + length w) (drop at xs)))
          ∙ (λ k. take at xs ++ (w ++ rest k)) ∙ sym (append_assoc (take at xs) w (drop (at + length w) xs));
    }

-- The index behind bytes that are laid is within the slice.
pub laid-within : {xs : List ℕ} {at : ℕ} {w : List ℕ} {end : ℕ} {ys : List ℕ} → Laid xs at w end ys → end ≤ length ys
laid-within l = omega (arith, l.fit, l.behind, laid-length l)
