-- Longest runs of a byte function: what they mean, that they are lawful, and that nothing else is.
use Rattle.std.proofs.Common.{ℕ, zero, suc, ◌+◌, ◌≤◌, ◌<◌, arith, ◌≡◌, refl, sym, ap, subst, ◌∙◌, ◌⊎◌, inl, inr, Bool, true, false, cond, ◌&&◌, List, [], ◌∷◌, le-leb, lt-ltb, le-ltb, eqb-true}
use native.Mathlib.Decide.{dec_lt}
use mathlib.Core.Bool.{and-false}
use lib.Dec.{leb, eqb}
use borrow.Author.Tests.{lt-leb, eqb-false}
use Rattle.rows.specs.Limits.{ROWS, OFFSET_MAX}
use Rattle.extents_meaning.specs.Cells.{Bytes, number_in, in_range}
use Rattle.extents_meaning.specs.Runs.{Run, run_of, cell_at, joined, runs_from, runs_of, pieces_of, Rising, NumbersLegal, Lawful}

-- ---- Ranges

-- a byte of a range, one before it and one behind it
pub range-in : (s l b : ℕ) → s ≤ b → b < s + l → in_range s l b ≡ true
range-in s l b h k = rw (le-leb s b h, lt-ltb b (s + l) k)

-- A byte before a range lies outside of it.
pub range-before : (s l b : ℕ) → b < s → in_range s l b ≡ false
range-before s l b h = rw (lt-leb s b h)

-- A byte behind a range lies outside of it.
pub range-behind : (s l b : ℕ) → s + l ≤ b → in_range s l b ≡ false
range-behind s l b h = rw (le-ltb b (s + l) h) (and-false (leb s b))

-- ---- The first run of a list

-- The bytes of the first run have its cell.
pub cell-first : (r : Run) (rs : List Run) (b : ℕ) → r.start ≤ b → b < r.start + r.length → cell_at (r ∷ rs) b ≡ r.cell
unfolding cell_at
cell-first r rs b h k = rw (range-in r.start r.length b h k)

-- A byte before the first run, or behind it, has the cell that the other runs give.
pub cell-before : (r : Run) (rs : List Run) (b : ℕ) → b < r.start → cell_at (r ∷ rs) b ≡ cell_at rs b
unfolding cell_at
cell-before r rs b h = rw (range-before r.start r.length b h)

-- A byte behind the first run has the cell that the other runs give.
pub cell-behind : (r : Run) (rs : List Run) (b : ℕ) → r.start + r.length ≤ b → cell_at (r ∷ rs) b ≡ cell_at rs b
unfolding cell_at
cell-behind r rs b h = rw (range-behind r.start r.length b h)

-- ---- Lists in rising order

-- runs behind an end are behind an earlier one too
pub rising-earlier : (top end c x : ℕ) (rs : List Run) → x ≤ end → Rising top end c rs → Rising top x 0 rs
rising-earlier top end c x [] h g = tt
rising-earlier top end c x (r ∷ rs) h g =
    let n = g.0 in
    (record { rising = omega arith; filled = n.filled; inside = n.inside; written = n.written; longest = λ a b. omega arith }, g.1)

-- lists in rising order mean 0 before their first run and from their top on
pub mean-before : (top end c : ℕ) (rs : List Run) → Rising top end c rs → (b : ℕ) → b < end → cell_at rs b ≡ 0
unfolding cell_at
mean-before top end c [] g b h = refl
mean-before top end c (r ∷ rs) g b h =
    let n = g.0.rising in
    cell-before r rs b (omega arith) ∙ mean-before top (r.start + r.length) r.cell rs g.1 b (omega arith)

-- A list in rising order means 0 from its top on.
pub mean-behind : (top end c : ℕ) (rs : List Run) → Rising top end c rs → (b : ℕ) → top ≤ b → cell_at rs b ≡ 0
unfolding cell_at
mean-behind top end c [] g b h = refl
mean-behind top end c (r ∷ rs) g b h =
    let n = g.0.inside in
    cell-behind r rs b (omega arith) ∙ mean-behind top (r.start + r.length) r.cell rs g.1 b h

-- the bytes before the first run
pub mean-first : (top end c : ℕ) (r : Run) (rs : List Run) → Rising top end c (r ∷ rs) → (b : ℕ) → b < r.start → cell_at (r ∷ rs) b ≡ 0
mean-first top end c r rs g b h =
    cell-before r rs b h ∙ mean-before top (r.start + r.length) r.cell rs g.1 b (omega arith)

-- the byte at the end of a run has another cell
pub mean-end : (top end c : ℕ) (rs : List Run) → Rising top end c rs → 1 ≤ c → cell_at rs end ≡ c → ⊥
unfolding cell_at
mean-end top end c [] g h e = omega arith
mean-end top end c (r ∷ rs) g h e = go (dec_lt end r.start)
  where
    go : Dec (end < r.start) → ⊥
    go (yes l) = omega (arith, e, mean-first top end c r rs g end l)
    go (no l) =
        let n = g.0 in
        let q : r.start ≡ end = omega arith in
        n.longest q (sym (cell-first r rs end (omega arith) (omega arith)) ∙ e)

-- of two lists with one meaning the second starts no later
first_below : (top end c : ℕ) (r q : Run) (rs qs : List Run) → Rising top end c (r ∷ rs) → Rising top end c (q ∷ qs) →
    ((b : ℕ) → end ≤ b → cell_at (r ∷ rs) b ≡ cell_at (q ∷ qs) b) → q.start ≤ r.start
first_below top end c r q rs qs g k h = go (dec_lt r.start q.start)
  where
    go : Dec (r.start < q.start) → q.start ≤ r.start
    go (yes l) =
        let n = g.0 in
        let v = cell-first r rs r.start (omega arith) (omega arith) in
        absurd (omega (arith, h r.start n.rising, v, mean-first top end c q qs k r.start l))
    go (no l) = omega arith

-- Of two lists with one meaning that both start with one cell at one byte, the first run of the second ends no later.
end_below : (top end c : ℕ) (r q : Run) (rs qs : List Run) → Rising top end c (r ∷ rs) → Rising top end c (q ∷ qs) →
    ((b : ℕ) → end ≤ b → cell_at (r ∷ rs) b ≡ cell_at (q ∷ qs) b) → r.start ≡ q.start → r.cell ≡ q.cell → q.length ≤ r.length
end_below top end c r q rs qs g k h e d = go (dec_lt r.length q.length)
  where
    go : Dec (r.length < q.length) → q.length ≤ r.length
    go (yes l) =
        let n = g.0 in
        let b = r.start + r.length in
        let w = cell-behind r rs b (omega arith) in
        let v = cell-first q qs b (omega arith) (omega arith) in
        absurd (mean-end top b r.cell rs g.1 n.written (sym w ∙ h b (omega arith) ∙ v ∙ sym d))
    go (no l) = omega arith

-- two lists with one meaning have one first run
first-same : (top end c : ℕ) (r q : Run) (rs qs : List Run) → Rising top end c (r ∷ rs) → Rising top end c (q ∷ qs) →
    ((b : ℕ) → end ≤ b → cell_at (r ∷ rs) b ≡ cell_at (q ∷ qs) b) → r ≡ q
first-same top end c r q rs qs g k h =
    let back : (b : ℕ) → end ≤ b → cell_at (q ∷ qs) b ≡ cell_at (r ∷ rs) b = λ b l. sym (h b l) in
    let n = g.0 in
    let m = k.0 in
    let e : r.start ≡ q.start = omega (arith, first_below top end c r q rs qs g k h, first_below top end c q r qs rs k g back) in
    let u = cell-first r rs r.start (omega arith) (omega arith) in
    let v = cell-first q qs r.start (omega arith) (omega arith) in
    let d : r.cell ≡ q.cell = sym u ∙ h r.start n.rising ∙ v in
    let x = end_below top end c r q rs qs g k h e d in
    let y = end_below top end c q r qs rs k g back (sym e) (sym d) in
    let w : r.length ≡ q.length = omega (arith, x, y) in
    λ i. run_of (e i) (w i) (d i)

-- two lists in rising order with one meaning are one
pub rising-unique : (top end c : ℕ) (rs qs : List Run) → Rising top end c rs → Rising top end c qs →
    ((b : ℕ) → end ≤ b → cell_at rs b ≡ cell_at qs b) → rs ≡ qs
unfolding cell_at
rising-unique top end c [] [] g k h = refl
rising-unique top end c [] (q ∷ qs) g k h =
    let n = k.0 in
    absurd (omega (arith, h q.start n.rising, cell-first q qs q.start (omega arith) (omega arith)))
rising-unique top end c (r ∷ rs) [] g k h =
    let n = g.0 in
    absurd (omega (arith, h r.start n.rising, cell-first r rs r.start (omega arith) (omega arith)))
rising-unique top end c (r ∷ rs) (q ∷ qs) g k h =
    let n = g.0 in
    let e = first-same top end c r q rs qs g k h in
    let j : Rising top (r.start + r.length) r.cell qs = subst (λ (x : Run). Rising top (x.start + x.length) x.cell qs) (sym e) k.1 in
    let o : q.start + q.length ≡ r.start + r.length = ap (λ (x : Run). x.start + x.length) (sym e) in
    let w : (b : ℕ) → r.start + r.length ≤ b → cell_at rs b ≡ cell_at qs b =
    λ b l. sym (cell-behind r rs b l) ∙ h b (omega arith) ∙ cell-behind q qs b (omega arith) in
    let u = rising-unique top (r.start + r.length) r.cell rs qs g.1 j w in
    λ i. e i ∷ u i

-- ---- A byte put before a list

-- A byte put before a list makes the first run longer, or stands alone: then the list may follow its cell.
pub data Joint (s v : ℕ) : List Run → List Run → Type 0 where
  longer : {r : Run} {rs : List Run} → r.start ≡ suc s → r.cell ≡ v → Joint s v (r ∷ rs) (run_of s (suc r.length) v ∷ rs)
  alone : {rs : List Run} → ((top : ℕ) → Rising top (suc s) 0 rs → Rising top (suc s) v rs) → Joint s v rs (run_of s 1 v ∷ rs)

-- `joined` does one of the two.
pub joint : (s v : ℕ) (rs : List Run) → Joint s v rs (joined s v rs)
unfolding joined
joint s v [] = alone (λ top g. tt)
joint s v (r ∷ rs) = go (eqb r.start (suc s)) refl (eqb r.cell v) refl
  where
    apart : (top : ℕ) → (r.start ≡ suc s → r.cell ≡ v → ⊥) → Rising top (suc s) 0 (r ∷ rs) → Rising top (suc s) v (r ∷ rs)
    apart top h g =
        let n = g.0 in
        (record { rising = n.rising; filled = n.filled; inside = n.inside; written = n.written; longest = h }, g.1)

    go : (x : Bool) → eqb r.start (suc s) ≡ x → (y : Bool) → eqb r.cell v ≡ y →
        Joint s v (r ∷ rs) (cond (x && y) (run_of s (suc r.length) v ∷ rs) (run_of s 1 v ∷ (r ∷ rs)))
    go true p true q = longer (eqb-true r.start (suc s) p) (eqb-true r.cell v q)
    go true p false q = alone (λ top. apart top (λ a b. eqb-false r.cell v q b))
    go false p y q = alone (λ top. apart top (λ a b. eqb-false r.start (suc s) p a))

-- A list with a byte put before it is lawful where the list was.
pub joint-rising : {rs js : List Run} (top s v : ℕ) → Joint s v rs js → s < top → 1 ≤ v → Rising top (suc s) 0 rs → Rising top s 0 js
joint-rising top s v (longer {r} {rs} p q) h k g =
    let n = g.0 in
    let e : r.start + r.length ≡ s + suc r.length = omega arith in
    let j : Rising top (s + suc r.length) v rs = rw (e, q) at g.1 in
    (record { rising = omega arith; filled = omega arith; inside = omega arith; written = k; longest = λ a b. omega arith }, j)
joint-rising top s v (alone {rs} f) h k g =
    let e : suc s ≡ s + 1 = omega arith in
    let j : Rising top (s + 1) v rs = rw e at (f top g) in
    (record { rising = omega arith; filled = omega arith; inside = omega arith; written = k; longest = λ a b. omega arith }, j)

-- The byte put before a list has its cell.
pub joint-here : {rs js : List Run} (s v : ℕ) → Joint s v rs js → cell_at js s ≡ v
joint-here s v (longer {r} {rs} p q) = cell-first (run_of s (suc r.length) v) rs s (omega arith) (omega arith)
joint-here s v (alone {rs} f) = cell-first (run_of s 1 v) rs s (omega arith) (omega arith)

-- the bytes behind it keep theirs
pub joint-behind : {rs js : List Run} (s v : ℕ) → Joint s v rs js → (b : ℕ) → s < b → cell_at js b ≡ cell_at rs b
joint-behind s v (longer {r} {rs} p q) b h = go (dec_lt b (r.start + r.length))
  where
    go : Dec (b < r.start + r.length) → cell_at (run_of s (suc r.length) v ∷ rs) b ≡ cell_at (r ∷ rs) b
    go (yes l) =
        cell-first (run_of s (suc r.length) v) rs b (omega (arith, h)) (omega (arith, p, l)) ∙ sym q
        ∙ sym (cell-first r rs b (omega (arith, p, h)) l)
    go (no l) = cell-behind (run_of s (suc r.length) v) rs b (omega (arith, p, l)) ∙ sym (cell-behind r rs b (omega arith))
joint-behind s v (alone {rs} f) b h = cell-behind (run_of s 1 v) rs b (omega arith)

-- ---- Any bytes

-- the runs are in rising order below every top behind their bytes
rising-to : (top n s : ℕ) (f : Bytes) → s + n ≤ top → Rising top s 0 (runs_from n s f)
unfolding runs_from
rising-to top zero s f h = tt
rising-to top (suc n) s f h = go (eqb (f s) 0) refl (rising-to top n (suc s) f (omega arith))
  where
    earlier : (rs : List Run) → Rising top (suc s) 0 rs → Rising top s 0 rs
    earlier [] g = tt
    earlier (r ∷ rs) g =
        let n = g.0 in
        (record { rising = omega arith; filled = n.filled; inside = n.inside; written = n.written; longest = λ a b. omega arith }, g.1)

    go : (x : Bool) → eqb (f s) 0 ≡ x → Rising top (suc s) 0 (runs_from n (suc s) f) →
        Rising top s 0 (cond x (runs_from n (suc s) f) (joined s (f s) (runs_from n (suc s) f)))
    go true e g = earlier (runs_from n (suc s) f) g
    go false e g =
        let z : f s ≡ 0 → ⊥ = eqb-false (f s) 0 e in
        joint-rising top s (f s) (joint s (f s) (runs_from n (suc s) f)) (omega arith) (omega arith) g

-- The runs of n bytes are in rising order and longest.
pub rising-from : (n s : ℕ) (f : Bytes) → Rising (s + n) s 0 (runs_from n s f)
rising-from n s f = rising-to (s + n) n s f (omega arith)

-- the runs mean the function on their bytes, and 0 elsewhere
pub mean-in : (n s : ℕ) (f : Bytes) (b : ℕ) → s ≤ b → b < s + n → cell_at (runs_from n s f) b ≡ f b
unfolding runs_from
mean-in zero s f b h k = absurd (omega arith)
mean-in (suc n) s f b h k = go (eqb (f s) 0) refl (dec_lt s b) (mean-in n (suc s) f b)
  where
    rest : List Run
    rest = runs_from n (suc s) f

    here : s ≡ b → cell_at rest b ≡ 0
    here q = mean-before (suc s + n) (suc s) 0 rest (rising-from n (suc s) f) b (omega arith)

    go : (x : Bool) → eqb (f s) 0 ≡ x → Dec (s < b) → (suc s ≤ b → b < suc s + n → cell_at rest b ≡ f b) →
        cell_at (cond x rest (joined s (f s) rest)) b ≡ f b
    go true e (yes l) ih = ih l (omega arith)
    go true e (no l) ih = let q : s ≡ b = omega arith in here q ∙ sym (eqb-true (f s) 0 e) ∙ ap f q
    go false e (yes l) ih = joint-behind s (f s) (joint s (f s) rest) b l ∙ ih l (omega arith)
    go false e (no l) ih =
        let q : s ≡ b = omega arith in
        ap (λ (x : ℕ). cell_at (joined s (f s) rest) x) (sym q) ∙ joint-here s (f s) (joint s (f s) rest) ∙ ap f q

-- a list in rising order that means the function is the list of its longest runs
pub unique_from : (n s : ℕ) (f : Bytes) (rs : List Run) → Rising (s + n) s 0 rs → ((b : ℕ) → s ≤ b → b < s + n → cell_at rs b ≡ f b) →
    rs ≡ runs_from n s f
unique_from n s f rs g h = rising-unique (s + n) s 0 rs (runs_from n s f) g (rising-from n s f) (λ b l. go b l (dec_lt b (s + n)))
  where
    go : (b : ℕ) → s ≤ b → Dec (b < s + n) → cell_at rs b ≡ cell_at (runs_from n s f) b
    go b l (yes k) = h b l k ∙ sym (mean-in n s f b l k)
    go b l (no k) =
        let o : s + n ≤ b = omega arith in
        mean-behind (s + n) s 0 rs g b o ∙ sym (mean-behind (s + n) s 0 (runs_from n s f) (rising-from n s f) b o)

-- equal bytes have equal runs
pub same_from : (n s : ℕ) (f g : Bytes) → ((b : ℕ) → s ≤ b → b < s + n → f b ≡ g b) → runs_from n s f ≡ runs_from n s g
same_from n s f g h = unique_from n s g (runs_from n s f) (rising-from n s f) (λ b l k. mean-in n s f b l k ∙ h b l k)

-- ---- All bytes of a file

-- 0, or a row number from 1 to 4,096 with its mark
abbrev pub Fine : ℕ → Type 0
Fine c = (c ≡ 0) ⊎ ((1 ≤ number_in c) × (number_in c ≤ ROWS))

-- The runs of all bytes mean those bytes.
pub runs-mean : (f : Bytes) (b : ℕ) → b < OFFSET_MAX → cell_at (runs_of f) b ≡ f b
unfolding runs_of
runs-mean f b h = mean-in OFFSET_MAX 0 f b (omega arith) h

-- Equal bytes have equal runs, over the whole file.
pub runs_same : (f g : Bytes) → ((b : ℕ) → b < OFFSET_MAX → f b ≡ g b) → runs_of f ≡ runs_of g
unfolding runs_of
runs_same f g h = same_from OFFSET_MAX 0 f g (λ b l k. h b k)

-- a cell that is fine and not 0
fine-number : (c : ℕ) → 1 ≤ c → Fine c → (1 ≤ number_in c) × (number_in c ≤ ROWS)
fine-number c h (inl e) = absurd (omega arith)
fine-number c h (inr f) = f

-- the runs of fine cells have row numbers
fine-numbered : (top end c : ℕ) (rs : List Run) → Rising top end c rs → ((b : ℕ) → end ≤ b → b < top → Fine (cell_at rs b)) → NumbersLegal rs
fine-numbered top end c [] g h = tt
fine-numbered top end c (r ∷ rs) g h =
    let n = g.0 in
    let e = cell-first r rs r.start (omega arith) (omega arith) in
    let f = fine-number r.cell n.written (subst Fine e (h r.start n.rising (omega arith))) in
    (f.0, f.1, fine-numbered top (r.start + r.length) r.cell rs g.1 (λ b l k. subst Fine (cell-behind r rs b l) (h b (omega arith) k)))

-- the runs of fine cells are lawful
pub runs-lawful : (f : Bytes) → ((b : ℕ) → b < OFFSET_MAX → Fine (f b)) → Lawful (runs_of f)
unfolding runs_of
runs-lawful f h =
    let g = rising-from OFFSET_MAX 0 f in
    record {
      in_order = g;
      numbered = fine-numbered OFFSET_MAX 0 0 (runs_from OFFSET_MAX 0 f) g (λ b l k. subst Fine (sym (mean-in OFFSET_MAX 0 f b l k)) (h b k));
    }

-- every cell of a lawful list is fine
pub lawful-fine : (rs : List Run) → Lawful rs → (b : ℕ) → Fine (cell_at rs b)
unfolding cell_at
lawful-fine rs l b = go rs l.numbered
  where
    either : (x : Bool) (c d : ℕ) → Fine c → Fine d → Fine (cond x c d)
    either true c d p q = p
    either false c d p q = q

    go : (qs : List Run) → NumbersLegal qs → Fine (cell_at qs b)
    go [] n = inl refl
    go (q ∷ qs) n = either (in_range q.start q.length b) q.cell (cell_at qs b) (inr (n.0, n.1)) (go qs n.2)

-- a lawful list that means the function is its list of runs
pub runs-unique : (f : Bytes) (rs : List Run) → Lawful rs → ((b : ℕ) → b < OFFSET_MAX → cell_at rs b ≡ f b) → rs ≡ runs_of f
unfolding runs_of
runs-unique f rs l h = unique_from OFFSET_MAX 0 f rs l.in_order (λ b _ k. h b k)

-- two lawful lists with one meaning are one
pub lawful-unique : (rs qs : List Run) → Lawful rs → Lawful qs → ((b : ℕ) → b < OFFSET_MAX → cell_at rs b ≡ cell_at qs b) → rs ≡ qs
lawful-unique rs qs l k h = runs-unique (cell_at qs) rs l h ∙ sym (runs-unique (cell_at qs) qs k (λ b _. refl))

-- what is read back is what was meant
pub runs-back : (rs : List Run) → Lawful rs → runs_of (cell_at rs) ≡ rs
runs-back rs l = sym (runs-unique (cell_at rs) rs l (λ b _. refl))

-- ---- Pieces of a range

-- equal pieces of a range say equal row numbers at every byte of it, and the other way round
pub pieces-same : (f g : Bytes) (s n : ℕ) → ((b : ℕ) → s ≤ b → b < s + n → number_in (f b) ≡ number_in (g b)) → pieces_of f s n ≡ pieces_of g s n
unfolding pieces_of
pieces-same f g s n h = same_from n s (λ b. suc (number_in (f b))) (λ b. suc (number_in (g b))) (λ b l k. ap suc (h b l k))

pub pieces-tell : (f g : Bytes) (s n : ℕ) → pieces_of f s n ≡ pieces_of g s n → (b : ℕ) → s ≤ b → b < s + n → number_in (f b) ≡ number_in (g b)
unfolding pieces_of
pieces-tell f g s n e b l k =
    let u = mean-in n s (λ b. suc (number_in (f b))) b l k in
    let v = mean-in n s (λ b. suc (number_in (g b))) b l k in
    let w : suc (number_in (f b)) ≡ suc (number_in (g b)) = sym u ∙ ap (λ (rs : List Run). cell_at rs b) e ∙ v in
    omega arith
