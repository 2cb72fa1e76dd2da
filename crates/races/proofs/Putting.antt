-- Pairs put into a list one by one: where there is room for all, they stand at its front.
use Rattle.std.proofs.Common.{leb-true, take, ℕ, zero, suc, ◌+◌, ◌*◌, ◌≤◌, ◌<◌, arith, ◌≡◌, refl, sym, ap, ◌∙◌, Bool, true, false, cond, List, [], ◌∷◌, ◌++◌, append_assoc, length, drop, length-append, length-set, le-leb}
use lib.ListN.{set}
use lib.Seq.{set_at, append_snoc}
use lib.Dec.{leb}
use borrow.Author.Tests.{lt-leb}
use Rattle.rows.specs.Rows.{with_group}
use Rattle.races_meaning.specs.Lists.{RowPair, pair_numbers}
use Rattle.races.specs.Listing.{with_pair, with_pairs}

-- Pairs are put behind each other.
pub put-append : (k : ℕ) (a b : List RowPair) (list : List ℕ) → with_pairs k (a ++ b) list ≡ with_pairs (k + length a) b (with_pairs k a list)
unfolding with_pairs
put-append k [] b list = let e : k ≡ k + 0 = omega arith in ap (λ (i : ℕ). with_pairs i b list) e
put-append k (p ∷ a) b list =
    let e : suc k + length a ≡ k + suc (length a) = omega arith in
    put-append (suc k) a b (with_pair k p.earlier p.later list) ∙ ap (λ (i : ℕ). with_pairs i b (with_pairs (suc k) a (with_pair k p.earlier p.later list))) e

-- One more pair is put behind the others.
pub put_last_lem : (k : ℕ) (a : List RowPair) (p : RowPair) (list : List ℕ) →
    with_pairs k (a ++ (p ∷ [])) list ≡ with_pair (k + length a) p.earlier p.later (with_pairs k a list)
unfolding with_pairs
put_last_lem k a p list = put-append k a (p ∷ []) list

-- Two numbers stored one behind the other stand between what was before and behind them.
two_stored : (at a b : ℕ) (list : List ℕ) → suc (suc at) ≤ length list →
    take at list ++ (a ∷ (b ∷ drop (suc (suc at)) list)) ≡ set (set list at a) (suc at) b
two_stored at a b [] h = absurd (omega arith)
two_stored zero a b (x ∷ []) h = absurd (omega arith)
two_stored zero a b (x ∷ (y ∷ list)) h = refl
two_stored (suc at) a b (x ∷ list) h = ap (λ (l : List ℕ). x ∷ l) (two_stored at a b list (omega arith))

-- A group of two numbers is a pair.
pub pair_group : (k a b : ℕ) (list : List ℕ) → with_group 2 k (a ∷ (b ∷ [])) list ≡ with_pair k a b list
unfolding with_group with_pair
pair_group k a b list =
    let e : k * 2 ≡ 2 * k = omega arith in
    ap (λ (at : ℕ). cond (leb (at + 2) (length list)) (take at list ++ (a ∷ (b ∷ drop (at + 2) list))) list) e
    ∙ go (leb (2 * k + 2) (length list)) refl
  where
    go : (t : Bool) → leb (2 * k + 2) (length list) ≡ t →
        cond t (take (2 * k) list ++ (a ∷ (b ∷ drop (2 * k + 2) list))) list ≡ cond t (set (set list (2 * k) a) (2 * k + 1) b) list
    go true q =
        let one : 2 * k + 1 ≡ suc (2 * k) = omega arith in
        let two : 2 * k + 2 ≡ suc (suc (2 * k)) = omega arith in
        let room : suc (suc (2 * k)) ≤ length list = omega (arith, leb-true _ _ q) in
        rw (one, two) (two_stored (2 * k) a b list room)
    go false q = refl

-- A list keeps its length.
pub length-with : (k : ℕ) (pairs : List RowPair) (list : List ℕ) → length (with_pairs k pairs list) ≡ length list
unfolding with_pairs with_pair
length-with k [] list = refl
length-with k (p ∷ pairs) list = length-with (suc k) pairs (with_pair k p.earlier p.later list) ∙ go (leb (2 * k + 2) (length list))
  where
    go : (b : Bool) → length (cond b (set (set list (2 * k) p.earlier) (2 * k + 1) p.later) list) ≡ length list
    go true = length-set (set list (2 * k) p.earlier) (2 * k + 1) p.later ∙ length-set list (2 * k) p.earlier
    go false = refl

module _ (front : List ℕ) (k a b x y : ℕ) (rest : List ℕ) (e : length front ≡ 2 * k) where
  -- Where there is room, a pair takes the place of two numbers.
  pair_put : with_pair k a b (front ++ (x ∷ (y ∷ rest))) ≡ (front ++ (a ∷ (b ∷ []))) ++ rest
  unfolding with_pair
  pair_put =
      let room : 2 * k + 2 ≤ length (front ++ (x ∷ (y ∷ rest))) = omega (arith, length-append front (x ∷ (y ∷ rest)), e) in
      let many : length (front ++ (a ∷ [])) ≡ 2 * k + 1 = omega (arith, length-append front (a ∷ []), e) in
      rw (le-leb _ _ room)
      (ap (λ (l : List ℕ). set l (2 * k + 1) b) (set_at front x (y ∷ rest) a (2 * k) e ∙ sym (append_snoc front a (y ∷ rest)))
      ∙ set_at (front ++ (a ∷ [])) y rest b (2 * k + 1) many ∙ append_snoc front a (b ∷ rest) ∙ sym (append_assoc front (a ∷ (b ∷ [])) rest))

-- Where there is room for all pairs, they stand behind the front, and the rest of the list behind them.
pub put-behind : (pairs : List RowPair) (k : ℕ) (front rest : List ℕ) → length front ≡ 2 * k → 2 * length pairs ≤ length rest →
    with_pairs k pairs (front ++ rest) ≡ front ++ (pair_numbers pairs ++ drop (2 * length pairs) rest)
unfolding with_pairs pair_numbers
put-behind [] k front rest e h = refl
put-behind (p ∷ pairs) k front [] e h = absurd (omega arith)
put-behind (p ∷ pairs) k front (x ∷ []) e h = absurd (omega arith)
put-behind (p ∷ pairs) k front (x ∷ (y ∷ rest)) e h =
    let two = p.earlier ∷ (p.later ∷ []) in
    let many : length (front ++ two) ≡ 2 * suc k = omega (arith, length-append front two, e) in
    let twice : 2 * length pairs ≤ length rest = omega arith in
    let more : suc (suc (2 * length pairs)) ≡ 2 * suc (length pairs) = omega arith in
    ap (with_pairs (suc k) pairs) (pair_put front k p.earlier p.later x y rest e) ∙ put-behind pairs (suc k) (front ++ two) rest many twice
    ∙ append_assoc front two _ ∙ ap (λ (n : ℕ). front ++ (p.earlier ∷ (p.later ∷ (pair_numbers pairs ++ drop n (x ∷ (y ∷ rest)))))) more

-- Where there is room for all pairs, they stand at the list's front, and the rest of the list behind them.
pub put_all : (pairs : List RowPair) (list : List ℕ) → 2 * length pairs ≤ length list →
    with_pairs 0 pairs list ≡ pair_numbers pairs ++ drop (2 * length pairs) list
put_all pairs list h = put-behind pairs 0 [] list refl h

-- A list of one pair's length holds the first pair.
pub put_first : (p : RowPair) (pairs : List RowPair) (a b : ℕ) →
    with_pairs 0 (p ∷ pairs) (a ∷ (b ∷ [])) ≡ p.earlier ∷ (p.later ∷ [])
unfolding with_pairs with_pair
put_first p pairs a b = full pairs 1 p.earlier p.later (omega arith)
  where
    full : (pairs : List RowPair) (k x y : ℕ) → 0 < k → with_pairs k pairs (x ∷ (y ∷ [])) ≡ x ∷ (y ∷ [])
    full [] k x y h = refl
    full (q ∷ pairs) k x y h = rw (lt-leb (2 * k + 2) 2 (omega arith)) (full pairs (suc k) x y (omega arith))
