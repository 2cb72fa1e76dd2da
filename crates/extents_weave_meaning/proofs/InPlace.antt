-- A walk that writes the runs of bytes g into the front of a map while it reads those of f further back in it: nothing unread is written over.
use Rattle.std.proofs.Common.{ℕ, zero, suc, ◌+◌, ◌*◌, ◌-◌, ◌≤◌, ◌<◌, arith, ◌≡◌, refl, sym, ap, subst, ◌∙◌, Bool, true, false, cond, List, [], ◌∷◌, ◌++◌, append_assoc, append-nil, length, take, drop, replicate, length-append, length-drop, length-take-le, take_at, drop_at, drop-drop}
use native.Mathlib.Decide.{dec_lt, ℕ_discrete}
use lib.Seq.{drop-append-add}
use Rattle.extents_meaning.specs.Cells.{Bytes}
use Rattle.extents_meaning.specs.Runs.{Run, run_of, cell_at, runs_from, Rising, Open, NumbersLegal}
use Rattle.extents_meaning.specs.Maps.{fours, map_of}
use Rattle.extents_meaning.specs.Points.{starts}
use Rattle.extents_meaning.proofs.Longest.{cell-first, cell-behind}
use Rattle.extents_meaning.proofs.Trips.{length-fours, fours-append}
use Rattle.extents_meaning.proofs.Points.{begins, begins-zero, begins-same, begins-one, count-starts}
use Rattle.extents_weave_meaning.specs.Walks.{last, trimmed, put, listed, Needed}
use Rattle.extents_weave_meaning.proofs.Starts.{starts-step, starts-at, last-next, last_none}
use Rattle.extents_weave_meaning.proofs.Rests.{rest-unique, put-none, put_some}
use Rattle.extents_weave_meaning.proofs.Walks.{turn_on, turn-needed, turn-put, turn-none, listed-is}
use Rattle.extents_weave_meaning.specs.Kept.{Roomy}

-- ---- Runs that are not yet passed

-- runs that are not passed are as many as byte x and those behind it have
pub unread-count : (top x : ℕ) (f : Bytes) (rs : List Run) → x ≤ top → Rising top 0 0 rs → Open x rs → ((b : ℕ) → x ≤ b → b < top → cell_at rs b ≡ f b) →
    length rs ≡ starts (top - x) x 0 f
unread-count top x f [] h g o m = ap length (sym (rest-unique top f x [] h tt m)) ∙ count-starts (top - x) x f
unread-count top x f (r ∷ rs) h g o m = go (dec_lt r.start x)
  where
    e : ℕ
    e = r.start + r.length

    go : Dec (r.start < x) → suc (length rs) ≡ starts (top - x) x 0 f
    go (yes l) =
        let n = g.0 in
        let cut = run_of x (e - x) r.cell in
        let i : e ≡ x + (e - x) = omega arith in
        let t : Rising top (x + (e - x)) r.cell rs = subst (λ (k : ℕ). Rising top k r.cell rs) i g.1 in
        let w : Rising top x 0 (cut ∷ rs) =
        (record { rising = omega arith; filled = omega arith; inside = omega arith; written = n.written; longest = λ a b. omega arith }, t) in
        ap length (sym (rest-unique top f x (cut ∷ rs) h w (λ b p q. sub b p q (dec_lt b e)))) ∙ count-starts (top - x) x f
      where
        sub : (b : ℕ) → x ≤ b → b < top → Dec (b < e) → cell_at (run_of x (e - x) r.cell ∷ rs) b ≡ f b
        sub b p q (yes k) = cell-first (run_of x (e - x) r.cell) rs b p (omega arith) ∙ sym (cell-first r rs b (omega arith) k) ∙ m b p q
        sub b p q (no k) = cell-behind (run_of x (e - x) r.cell) rs b (omega arith) ∙ sym (cell-behind r rs b (omega arith)) ∙ m b p q
    go (no l) =
        let n = g.0 in
        let w : Rising top x 0 (r ∷ rs) =
        (record { rising = omega arith; filled = n.filled; inside = n.inside; written = n.written; longest = λ a b. omega arith }, g.1) in
        ap length (sym (rest-unique top f x (r ∷ rs) h w m)) ∙ count-starts (top - x) x f

-- ---- A run stored at place q

module _ (xs ys : List ℕ) (q : ℕ) (r : Run) (fit : 4 * q + 4 ≤ length xs) (e : ys ≡ (take (4 * q) xs ++ fours (r ∷ [])) ++ drop (4 * q + 4) xs) where
  stored-head : length (take (4 * q) xs ++ fours (r ∷ [])) ≡ 4 * q + 4
  stored-head = length-append (take (4 * q) xs) (fours (r ∷ [])) ∙ omega (arith, length-take-le (4 * q) xs (omega arith), length-fours (r ∷ []))

  -- The slice keeps its length.
  pub stored-size : length ys ≡ length xs
  stored-size =
      ap length e ∙ length-append (take (4 * q) xs ++ fours (r ∷ [])) (drop (4 * q + 4) xs) ∙ omega (arith, stored-head, length-drop (4 * q + 4) xs)

  -- The runs in front are one more.
  pub stored-front : (done : List Run) → take (4 * q) xs ≡ fours done → take (4 * suc q) ys ≡ fours (done ++ (r ∷ []))
  stored-front done h =
      let i : 4 * suc q ≡ 4 * q + 4 = omega arith in
      rw (i, e)
      (take_at (take (4 * q) xs ++ fours (r ∷ [])) (drop (4 * q + 4) xs) (4 * q + 4) stored-head
      ∙ ap (λ (l : List ℕ). l ++ fours (r ∷ [])) h ∙ sym (fours-append done (r ∷ [])))

  -- The runs behind the place stay.
  pub stored-behind : (i : ℕ) → q < i → drop (4 * i) ys ≡ drop (4 * i) xs
  stored-behind i h =
      let m = 4 * i - (4 * q + 4) in
      let a : 4 * i ≡ length (take (4 * q) xs ++ fours (r ∷ [])) + m = omega (arith, stored-head) in
      let b : 4 * q + 4 + m ≡ 4 * i = omega arith in
      ap (drop (4 * i)) e
      ∙ ap (λ (k : ℕ). drop k ((take (4 * q) xs ++ fours (r ∷ [])) ++ drop (4 * q + 4) xs)) a
      ∙ drop-append-add (take (4 * q) xs ++ fours (r ∷ [])) (drop (4 * q + 4) xs) m
      ∙ drop-drop m (4 * q + 4) xs
      ∙ ap (λ (k : ℕ). drop k xs) b

-- ---- The walk

-- At byte x: q runs are written, i runs of the slice are passed, and a run from a to e of cell c is in hand. The source's runs reach up to place
-- `all` of the slice.
pub record Rewriting (space top all : ℕ) (f g : Bytes) (need : ℕ → Bool) (xs : List ℕ) (x q i a e c : ℕ) : Type 0 where
  pub size : length xs ≡ 4 * space
  pub room : all ≤ space
  pub cell : last g x ≡ c
  pub low : a ≤ e
  pub high : e ≤ x
  pub done : List Run
  pub many : length done ≡ q
  pub front : take (4 * q) xs ≡ fours done
  pub count : q + begins c 0 ≡ starts x 0 0 g
  pub whole : listed g need top 0 0 0 0 ≡ done ++ listed g need (top - x) x a e c
  pub src : List Run
  pub unread : drop (4 * i) xs ≡ map_of (space - i) src
  pub order : Rising top 0 0 src
  pub numbered : NumbersLegal src
  pub means : (b : ℕ) → x ≤ b → b < top → cell_at src b ≡ f b
  pub passed : i + length src ≡ all

-- at first
pub rewrite_start : (space top all i : ℕ) (f g : Bytes) (need : ℕ → Bool) (xs : List ℕ) (src : List Run) → length xs ≡ 4 * space → all ≤ space →
    drop (4 * i) xs ≡ map_of (space - i) src → Rising top 0 0 src → NumbersLegal src → ((b : ℕ) → b < top → cell_at src b ≡ f b) → i + length src ≡ all →
    Rewriting space top all f g need xs 0 0 i 0 0 0
unfolding starts fours
rewrite_start space top all i f g need xs src size room unread order numbered means passed =
    let z : top - 0 ≡ top = omega arith in
    record {
      size = size;
      room = room;
      cell = last_none g;
      low = omega arith;
      high = omega arith;
      done = [];
      many = refl;
      front = refl;
      count = omega (arith, begins-zero 0 0 refl);
      whole = ap (λ (n : ℕ). listed g need n 0 0 0 0) (sym z);
      src = src;
      unread = unread;
      order = order;
      numbered = numbered;
      means = λ b l h. means b h;
      passed = passed;
    }

-- where the run in hand ends at byte x, place q has been passed
pub rewrite_room : (space top all : ℕ) (f g : Bytes) (need : ℕ → Bool) (xs : List ℕ) (x q i a e c : ℕ) →
    (w : Rewriting space top all f g need xs x q i a e c) → Roomy top all f g → Open x w.src → x ≤ top → (c ≡ 0 → ⊥) → (x < top → g x ≡ c → ⊥) → q < i
rewrite_room space top all f g need xs x q i a e c w roomy o h z d =
    let n = unread-count top x f w.src h w.order o w.means in
    let r = roomy x (top - x) (omega arith) (λ l y. d (omega arith) (y ∙ w.cell)) in
    let p = w.passed in
    let k = w.count in
    omega (arith, n, r, p, k, begins-one c 0 z z)

-- ---- The turn: from byte x to byte y, on which g has one cell d, needed or not

-- starts of a stretch
starts-flat : (k x c d : ℕ) (g : Bytes) → ((b : ℕ) → x ≤ b → b < x + suc k → g b ≡ d) → starts (suc k) x c g ≡ begins d c
unfolding starts
starts-flat zero x c d g p = rw (p x (omega arith) (omega arith)) (omega arith)
starts-flat (suc k) x c d g p =
    let q = p x (omega arith) (omega arith) in
    let r = starts-flat k (suc x) (g x) d g (λ b l h. p b (omega arith) (omega arith)) in
    starts-step (suc k) x c g ∙ ap (λ (n : ℕ). begins (g x) c + n) r ∙ rw q (omega (arith, begins-same d d refl))

module _ (space top all : ℕ) (f g : Bytes) (need : ℕ → Bool) (first : Needed g need) (xs : List ℕ) (x k q i a e c d : ℕ) (u : Bool)
    (w : Rewriting space top all f g need xs x q i a e c) (inside : x + suc k ≤ top) (flat : (b : ℕ) → x ≤ b → b < x + suc k → g b ≡ d)
    (even : (b : ℕ) → x ≤ b → b < x + suc k → need b ≡ u) where
  left : top - x ≡ suc k + (top - (x + suc k))
  left = omega (arith, inside)

  cell-then : last g (x + suc k) ≡ d
  cell-then =
      let j : x + suc k ≡ suc (x + k) = omega arith in
      ap (last g) j ∙ last-next (x + k) g ∙ flat (x + k) (omega arith) (omega arith)

  count-then : starts (x + suc k) 0 0 g ≡ starts x 0 0 g + begins d c
  count-then =
      starts-at x (suc k) g ∙ ap (λ (n : ℕ). starts x 0 0 g + n) (starts-flat k x (last g x) d g flat ∙ ap (begins d) w.cell)

  -- the cell in hand stays
  pub turn-same : d ≡ c → Rewriting space top all f g need xs (x + suc k) q i a (cond u (x + suc k) e) c
  turn-same z =
      let n = w.count in
      record {
        size = w.size;
        room = w.room;
        cell = cell-then ∙ z;
        low = (grown u).0;
        high = (grown u).1;
        done = w.done;
        many = w.many;
        front = w.front;
        count = omega (arith, n, count-then, begins-same d c z);
        whole = w.whole ∙ ap (λ (l : List Run). w.done ++ l) (ap (λ (j : ℕ). listed g need j x a e c) left ∙ go u refl);
        src = w.src;
        unread = w.unread;
        order = w.order;
        numbered = w.numbered;
        means = λ b l h. w.means b (omega arith) h;
        passed = w.passed;
      }
    where
      grown : (v : Bool) → (a ≤ cond v (x + suc k) e) × (cond v (x + suc k) e ≤ x + suc k)
      grown true = let l = w.low in let h = w.high in (omega arith, omega arith)
      grown false = let l = w.low in let h = w.high in (l, omega arith)

      go : (v : Bool) → u ≡ v → listed g need (suc k + (top - (x + suc k))) x a e c ≡
          listed g need (top - (x + suc k)) (x + suc k) a (cond v (x + suc k) e) c
      go true o = turn-needed g need k (top - (x + suc k)) x a e c (λ b l h. flat b l h ∙ z) (λ b l h. even b l h ∙ o)
      go false o = turn_on g need (suc k) (top - (x + suc k)) x a e c (λ b l h. flat b l h ∙ z) (λ b l h. even b l h ∙ o)

  -- another cell begins: the run in hand is put down
  next-list : (d ≡ c → ⊥) → listed g need (top - x) x a e c ≡ put a e c (listed g need (top - (x + suc k)) (x + suc k) x (x + suc k) d)
  next-list o = ap (λ (j : ℕ). listed g need j x a e c) left ∙ go (ℕ_discrete d 0) (ℕ_discrete c 0)
    where
      here : g x ≡ d
      here = flat x (omega arith) (omega arith)

      needed : (d ≡ 0 → ⊥) → u ≡ true
      needed z = sym (even x (omega arith) (omega arith)) ∙ first x (λ j. o (sym here ∙ j ∙ w.cell)) (λ j. z (sym here ∙ j))

      go : Dec (d ≡ 0) → Dec (c ≡ 0) →
          listed g need (suc k + (top - (x + suc k))) x a e c ≡ put a e c (listed g need (top - (x + suc k)) (x + suc k) x (x + suc k) d)
      go (yes z) (yes v) = absurd (o (z ∙ sym v))
      go (yes z) (no v) =
          turn-none g need k (top - (x + suc k)) x a e c x (x + suc k) v (λ b l h. flat b l h ∙ z)
          ∙ ap (λ (j : ℕ). put a e c (listed g need (top - (x + suc k)) (x + suc k) x (x + suc k) j)) (sym z)
      go (no z) v = turn-put g need k (top - (x + suc k)) x a e c d o flat (λ b l h. even b l h ∙ needed z)

  begins-then : (d ≡ c → ⊥) → begins d c ≡ begins d 0
  begins-then o = go (ℕ_discrete d 0)
    where
      go : Dec (d ≡ 0) → begins d c ≡ begins d 0
      go (yes z) = begins-zero d c z ∙ sym (begins-zero d 0 z)
      go (no z) = begins-one d c z o ∙ sym (begins-one d 0 z z)

  -- nothing was in hand
  pub turn-begin : (d ≡ c → ⊥) → c ≡ 0 → Rewriting space top all f g need xs (x + suc k) q i x (x + suc k) d
  turn-begin o z =
      let n = w.count in
      record {
        size = w.size;
        room = w.room;
        cell = cell-then;
        low = omega arith;
        high = omega arith;
        done = w.done;
        many = w.many;
        front = w.front;
        count = omega (arith, n, count-then, begins-then o, begins-zero c 0 z);
        whole = w.whole ∙ ap (λ (l : List Run). w.done ++ l) (next-list o ∙ put-none a e c (listed g need (top - (x + suc k)) (x + suc k) x (x + suc k) d) z);
        src = w.src;
        unread = w.unread;
        order = w.order;
        numbered = w.numbered;
        means = λ b l h. w.means b (omega arith) h;
        passed = w.passed;
      }

  -- a run was: it is stored at place q, which is passed
  pub turn-store : (ys : List ℕ) → (d ≡ c → ⊥) → (c ≡ 0 → ⊥) → q < i → ys ≡ (take (4 * q) xs ++ fours (run_of a (e - a) c ∷ [])) ++ drop (4 * q + 4) xs →
      Rewriting space top all f g need ys (x + suc k) (suc q) i x (x + suc k) d
  turn-store ys o z below s =
      let n = w.count in
      let si = w.size in
      let p = w.passed in
      let ro = w.room in
      let r = run_of a (e - a) c in
      let fit : 4 * q + 4 ≤ length xs = omega arith in
      record {
        size = stored-size xs ys q r fit s ∙ w.size;
        room = w.room;
        cell = cell-then;
        low = omega arith;
        high = omega arith;
        done = w.done ++ (r ∷ []);
        many = length-append w.done (r ∷ []) ∙ ap (λ (j : ℕ). j + 1) w.many ∙ omega arith;
        front = stored-front xs ys q r fit s w.done w.front;
        count = omega (arith, n, count-then, begins-then o, begins-one c 0 z z);
        whole =
            w.whole
            ∙ ap (λ (l : List Run). w.done ++ l) (next-list o ∙ put_some a e c (listed g need (top - (x + suc k)) (x + suc k) x (x + suc k) d) z)
            ∙ sym (append_assoc w.done (r ∷ []) (listed g need (top - (x + suc k)) (x + suc k) x (x + suc k) d));
        src = w.src;
        unread = stored-behind xs ys q r fit s i below ∙ w.unread;
        order = w.order;
        numbered = w.numbered;
        means = λ b l h. w.means b (omega arith) h;
        passed = w.passed;
      }

-- ---- The end

module _ (space top all : ℕ) (f g : Bytes) (need : ℕ → Bool) (first : Needed g need) (xs : List ℕ) (q i a e c : ℕ)
    (w : Rewriting space top all f g need xs top q i a e c) where
  end_list : listed g need (top - top) top a e c ≡ put a e c []
  unfolding listed
  end_list = let z : top - top ≡ 0 = omega arith in ap (λ (n : ℕ). listed g need n top a e c) z

  -- The runs written in the end.
  abbrev all_runs : List Run
  all_runs = runs_from top 0 (trimmed top g need)

  -- The runs written before and the run in hand are all.
  end_whole : w.done ++ put a e c [] ≡ all_runs
  end_whole = ap (λ (l : List Run). w.done ++ l) (sym end_list) ∙ sym w.whole ∙ listed-is top g need first

  -- nothing is in hand
  pub end_none : c ≡ 0 → (q ≡ length all_runs) × (take (4 * q) xs ≡ fours all_runs)
  end_none z =
      let d : w.done ≡ all_runs = sym (append-nil w.done) ∙ ap (λ (l : List Run). w.done ++ l) (sym (put-none a e c [] z)) ∙ end_whole in
      (sym w.many ∙ ap length d, w.front ∙ ap fours d)

  -- there is room for the run in hand
  pub end-room : Roomy top all f g → (c ≡ 0 → ⊥) → q < all
  unfolding starts
  end-room roomy z =
      let k = w.count in
      omega (arith, k, roomy top 0 (omega arith) (λ l. absurd (omega arith)), begins-one c 0 z z)

  -- it is stored
  pub end-store : (ys : List ℕ) → (c ≡ 0 → ⊥) → q < all → ys ≡ (take (4 * q) xs ++ fours (run_of a (e - a) c ∷ [])) ++ drop (4 * q + 4) xs →
      (suc q ≡ length all_runs) × (take (4 * suc q) ys ≡ fours all_runs) × (drop (4 * all) ys ≡ drop (4 * all) xs)
  end-store ys z below s =
      let si = w.size in
      let ro = w.room in
      let r = run_of a (e - a) c in
      let d : w.done ++ (r ∷ []) ≡ all_runs = ap (λ (l : List Run). w.done ++ l) (sym (put_some a e c [] z)) ∙ end_whole in
      let n = w.many in (
        omega (arith, n, length-append w.done (r ∷ []), ap length d),
        stored-front xs ys q r (omega arith) s w.done w.front ∙ ap fours d,
        stored-behind xs ys q r (omega arith) s all below,
      )

-- Behind the source's last run all is 0.
pub rewrite_behind : (space top all : ℕ) (f g : Bytes) (need : ℕ → Bool) (xs : List ℕ) (x q i a e c : ℕ) →
    Rewriting space top all f g need xs x q i a e c → drop (4 * all) xs ≡ replicate (4 * (space - all)) 0
unfolding map_of
rewrite_behind space top all f g need xs x q i a e c w =
    let p = w.passed in
    let n = length w.src in
    let j : 4 * all ≡ 4 * i + 4 * n = omega arith in
    let k : space - i - n ≡ space - all = omega arith in
    ap (λ (m : ℕ). drop m xs) j ∙ sym (drop-drop (4 * n) (4 * i) xs) ∙ ap (drop (4 * n)) w.unread
    ∙ drop_at (fours w.src) (replicate (4 * (space - i - n)) 0) (4 * n) (length-fours w.src) ∙ ap (λ (m : ℕ). replicate (4 * m) 0) k
