-- Bytes laid into a slice, one part behind the other.
use Rattle.std.proofs.Common.{ℕ, zero, suc, ◌+◌, ◌-◌, ◌/◌, ◌%◌, ◌≤◌, ◌<◌, arith, ◌≡◌, refl, sym, ap, ◌∙◌, List, [], ◌∷◌, ◌++◌, append_assoc, append-nil, length, take, drop, length-append, take-append-drop, length-set, length-take-le, take_at, drop_at, drop-set-lt, drop-cons, drop-drop, get_or-set_same, le-leb}
use lib.ListN.{set, get_or}
use lib.Seq.{paste-zero, paste-suc, take-length, length-paste, paste, take-set-le, append_snoc}
use Rattle.print.specs.Decimal.{digits_of, width_of, decimal_of}
use Rattle.print.specs.Puts.{lay, put_in, put_end}

-- Where there is room, the bytes are laid.
pub put-lay : (xs : List ℕ) (at : ℕ) (w : List ℕ) → at + length w ≤ length xs → (at + length w ≡ put_end xs at w) × (lay xs at w ≡ put_in xs at w)
unfolding put_end put_in
put-lay xs at w h = rw (le-leb _ _ h) (refl, refl)

-- Laying is the library's copy of all bytes.
pub lay-paste : (xs : List ℕ) (at : ℕ) (w : List ℕ) → paste xs at w (length w) ≡ lay xs at w
lay-paste xs at w = ap (λ (l : List ℕ). (take at xs ++ l) ++ drop (at + length w) xs) (take-length w)

-- Laying no bytes changes nothing.
pub lay-none : (xs : List ℕ) (at : ℕ) → xs ≡ lay xs at []
lay-none xs at =
    let z : at ≡ at + 0 = omega arith in
    sym (ap (λ (l : List ℕ). l ++ drop (at + 0) xs) (append-nil (take at xs)) ∙ ap (λ (k : ℕ). take at xs ++ drop k xs) (sym z) ∙ take-append-drop at xs)

pub lay-length : (xs : List ℕ) (at : ℕ) (w : List ℕ) → at + length w ≤ length xs → length (lay xs at w) ≡ length xs
lay-length xs at w h = ap length (sym (lay-paste xs at w)) ∙ length-paste xs at w (length w) h (omega arith)

-- Bytes laid behind others are laid with them.
pub lay-lay : (xs : List ℕ) (at : ℕ) (s t : List ℕ) → at + length s ≤ length xs → lay (lay xs at s) (at + length s) t ≡ lay xs at (s ++ t)
lay-lay xs at s t h =
    let head : length (take at xs ++ s) ≡ at + length s = length-append (take at xs) s ∙ ap (λ (k : ℕ). k + length s) (length-take-le at xs (omega arith)) in
    let end : at + length s + length t ≡ at + length (s ++ t) = omega (arith, length-append s t) in
    let behind : drop (at + length s + length t) (lay xs at s) ≡ drop (at + length (s ++ t)) xs =
    sym (drop-drop (length t) (at + length s) (lay xs at s))
    ∙ ap (drop (length t)) (drop_at (take at xs ++ s) (drop (at + length s) xs) (at + length s) head)
    ∙ drop-drop (length t) (at + length s) xs
    ∙ ap (λ (k : ℕ). drop k xs) end in
    ap (λ (l : List ℕ). (l ++ t) ++ drop (at + length s + length t) (lay xs at s)) (take_at (take at xs ++ s) (drop (at + length s) xs) (at + length s) head)
    ∙ ap (λ (l : List ℕ). l ++ drop (at + length s + length t) (lay xs at s)) (append_assoc (take at xs) s t)
    ∙ ap (λ (l : List ℕ). (take at xs ++ (s ++ t)) ++ l) behind

-- A last byte may be stored before the others are laid.
pub lay-last : (xs : List ℕ) (at : ℕ) (w : List ℕ) (d : ℕ) → at + length w < length xs → lay (set xs (at + length w) d) at w ≡ lay xs at (w ++ (d ∷ []))
lay-last xs at w d h =
    let i = at + length w in
    let end : at + length (w ++ (d ∷ [])) ≡ suc i = ap (λ (k : ℕ). at + k) (length-append w (d ∷ [])) ∙ omega arith in
    let stored : drop i (set xs i d) ≡ d ∷ drop (suc i) xs =
    drop-cons (set xs i d) i 0 (omega (arith, length-set xs i d))
    ∙ (λ k. get_or-set_same xs i d 0 h k ∷ drop-set-lt (suc i) xs i d (omega arith) k) in
    (λ k. (take-set-le at xs i d (omega arith) k ++ w) ++ stored k)
    ∙ sym (append_snoc (take at xs ++ w) d (drop (suc i) xs))
    ∙ (λ k. append_assoc (take at xs) w (d ∷ []) k ++ drop (sym end k) xs)

pub digits_length : (k n : ℕ) → length (digits_of k n) ≡ k
unfolding digits_of
digits_length zero n = refl
digits_length (suc k) n = length-append (digits_of k _) (_ ∷ []) ∙ ap (λ (l : ℕ). l + 1) (digits_length k _) ∙ omega arith

-- ---- Bytes put one after the other

-- What a copy keeps: the first i bytes are in their places.
pub record Copying (xs : List ℕ) (at : ℕ) (w ys : List ℕ) (i : ℕ) : Type 0 where
  pub so_far : ys ≡ paste xs at w i
  pub within : i ≤ length w
  pub fit : at + length w ≤ length xs

pub copy_start : (xs : List ℕ) (at : ℕ) (w : List ℕ) → at + length w ≤ length xs → Copying xs at w xs 0
copy_start xs at w h = record { so_far = paste-zero xs at w; within = omega arith; fit = h }

module _ {xs : List ℕ} {at : ℕ} {w ys : List ℕ} {i : ℕ} (g : Copying xs at w ys i) where
  pub copy_length : length ys ≡ length xs
  copy_length = ap length g.so_far ∙ length-paste xs at w i (omega (arith, g.within, g.fit)) g.within

  pub copy_next : i < length w → Copying xs at w (set ys (at + i) (get_or w i 0)) (i + 1)
  copy_next h =
      let e : suc i ≡ i + 1 = omega arith in
      record {
        so_far =
            ap (λ (l : List ℕ). set l (at + i) (get_or w i 0)) g.so_far ∙ paste-suc xs at w i 0 (omega (arith, g.fit)) h
            ∙ ap (λ (k : ℕ). paste xs at w k) e;
        within = omega arith;
        fit = g.fit;
      }

  pub copy_done : length w ≤ i → (at + length w ≡ put_end xs at w) × (ys ≡ put_in xs at w)
  copy_done h =
      let e : i ≡ length w = omega (arith, g.within) in
      ((put-lay xs at w g.fit).0, g.so_far ∙ ap (λ (k : ℕ). paste xs at w k) e ∙ lay-paste xs at w ∙ (put-lay xs at w g.fit).1)

-- What spelling from the last digit on keeps: the digits that are left, laid on what is there, make the whole.
pub record Spelling (xs : List ℕ) (at n width : ℕ) (ys : List ℕ) (i rest : ℕ) : Type 0 where
  pub so_far : lay ys at (digits_of i rest) ≡ lay xs at (digits_of width n)
  pub size : length ys ≡ length xs
  pub within : i ≤ width
  pub fit : at + width ≤ length xs

pub spell_start : (xs : List ℕ) (at n width : ℕ) → at + width ≤ length xs → Spelling xs at n width xs width n
spell_start xs at n width h = record { so_far = refl; size = refl; within = omega arith; fit = h }

module _ {xs : List ℕ} {at n width : ℕ} {ys : List ℕ} {i rest : ℕ} (g : Spelling xs at n width ys i rest) where
  pub spell_next : 0 < i → {d : ℕ} → d ≡ 48 + rest % 10 → Spelling xs at n width (set ys (at + (i - 1)) d) (i - 1) (rest / 10)
  unfolding digits_of
  spell_next h {d} e =
      let j = i - 1 in
      let w = digits_of j (rest / 10) in
      let s : suc j ≡ i = omega arith in
      let l : length w ≡ j = digits_length j (rest / 10) in
      record {
        so_far =
            ap (λ (k : ℕ). lay (set ys (at + k) d) at w) (sym l)
            ∙ lay-last ys at w d (omega (arith, l, g.size, g.fit, g.within))
            ∙ (λ k. lay ys at (w ++ (e k ∷ [])))
            ∙ ap (λ (k : ℕ). lay ys at (digits_of k rest)) s
            ∙ g.so_far;
        size = length-set ys (at + j) d ∙ g.size;
        within = omega (arith, g.within);
        fit = g.fit;
      }

  pub spell_done : i ≤ 0 → ys ≡ lay xs at (digits_of width n)
  unfolding digits_of
  spell_done h =
      let z : i ≡ 0 = omega arith in
      lay-none ys at ∙ sym (ap (λ (k : ℕ). lay ys at (digits_of k rest)) z) ∙ g.so_far

-- A number has as many bytes as digits.
pub number-length : (n : ℕ) → length (decimal_of n) ≡ width_of n
unfolding decimal_of
number-length n = digits_length (width_of n) n

pub ruleset number_lengths = (number-length, digits_length)
