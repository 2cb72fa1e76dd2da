-- A look at a byte goes over the runs that end there or before: from any run on that is a lawful map.
use Rattle.std.proofs.Common.{ℕ, zero, suc, ◌+◌, ◌*◌, ◌-◌, ◌/◌, ◌≤◌, ◌<◌, arith, ◌≡◌, refl, sym, ap, subst, ◌∙◌, ◌≢◌, true, List, [], ◌∷◌, length, take, drop, length-drop, take-append-drop, get_or-drop, drop-drop, length-take-le, lt-ltb, le-ltb}
use native.Mathlib.Decide.{dec_lt}
use lib.ListN.{get_or}
use Rattle.rows.specs.Limits.{OFFSET_MAX}
use Rattle.extents_meaning.specs.Cells.{Bytes, in_range}
use Rattle.extents_meaning.specs.Runs.{Run, run_of, cell_at, Open, NumbersLegal, Lawful}
use Rattle.extents_meaning.specs.Maps.{runs, runs_in, space_in, map_of, lawful, bytes_of}
use Rattle.extents_meaning.specs.Lookups.{change_of}
use Rattle.extents_meaning.proofs.Longest.{range-in, range-before, range-behind, cell-behind, rising-earlier}
use Rattle.extents_meaning.proofs.Trips.{run_at, runs-step, runs-stop, lawful-map, map_lawful, map_back, rest_at, run_at_lem, run_there}
use Rattle.extents_meaning.proofs.Changes.{change_iff, before-change, see_none, see-gap, see-run}
use Rattle.extents_map.specs.Beside.{end_of, run_before}
use Rattle.extents_map.specs.Cursors.{ahead, Part, Passing, Looked, edge_of, BothLooked}
use Rattle.extents_map.specs.declared.scan.Look.{Look}
use Rattle.extents_map.specs.declared.scan.Both.{Both}
use Rattle.extents_map.specs.declared.modes.Range.{Range}
use Rattle.extents_map.proofs.Parted.{rising-at}

-- ---- The part of a map from a run on

-- The runs from run i on have legal row numbers.
pub numbered-drop : (rs : List Run) → NumbersLegal rs → (i : ℕ) → NumbersLegal (drop i rs)
numbered-drop rs g zero = g
numbered-drop [] g (suc i) = tt
numbered-drop (r ∷ rs) g (suc i) = numbered-drop rs g.2 i

module _ (xs : List ℕ) (e : lawful xs ≡ true) (i : ℕ) (h : i ≤ length (runs xs)) where
  -- it holds the runs from run i on
  part-map : drop (4 * i) xs ≡ map_of (space_in xs - i) (drop i (runs xs))
  part-map = rest_at xs e (take i (runs xs)) (drop i (runs xs)) i (sym (take-append-drop i (runs xs))) (length-take-le i (runs xs) h)

  -- The runs from run i on are lawful.
  part-lawful : Lawful (drop i (runs xs))
  part-lawful =
      let l = (lawful-map xs e).lawful-runs in
      let p = run_before (runs xs) i in
      let order = rising-earlier OFFSET_MAX (end_of p) p.cell 0 (drop i (runs xs)) (omega arith) (rising-at (run_of 0 0 0) (runs xs) l.in_order i h) in
      record { in_order = order; numbered = numbered-drop (runs xs) l.numbered i }

  -- The runs from run i on fit.
  part-fit : length (drop i (runs xs)) ≤ space_in xs - i
  part-fit = omega (arith, length-drop i (runs xs), (lawful-map xs e).fit)

  -- They are read from the part.
  pub ahead-runs : ahead xs i ≡ drop i (runs xs)
  ahead-runs = ap runs part-map ∙ map_back (space_in xs - i) (drop i (runs xs)) part-lawful part-fit

  -- the part is lawful
  pub ahead-law : lawful (drop (4 * i) xs) ≡ true
  ahead-law = ap lawful part-map ∙ map_lawful (space_in xs - i) (drop i (runs xs)) part-lawful part-fit

  -- The part starts within the slice.
  pub ahead-fits : 4 * i ≤ length xs
  ahead-fits = let m = lawful-map xs e in omega (arith, m.fours-in, m.fit)

-- ---- Passing runs

-- at first none is passed
pub passing-start : {xs : List ℕ} {i x : ℕ} → Part xs i x → Passing xs i x i
passing-start p = record { fits = p.fits; law = p.law; count = refl; same = λ b l. refl }

-- what is passed is passed for later bytes too
pub passing-on : {xs : List ℕ} {from x i : ℕ} → Passing xs from x i → (y : ℕ) → x ≤ y → Passing xs from y i
passing-on p y h = record { fits = p.fits; law = p.law; count = p.count; same = λ b l. p.same b (omega arith) }

-- and so are those passed behind it
pub passing-then : {xs : List ℕ} {from x i k : ℕ} → Passing xs from x i → Passing xs i x k → Passing xs from x k
passing-then p q = record { fits = q.fits; law = q.law; count = q.count ∙ p.count; same = λ b l. q.same b l ∙ p.same b l }

-- A look may start where runs are passed.
pub passing-part : {xs : List ℕ} {from x i : ℕ} → Passing xs from x i → x < OFFSET_MAX → Part xs i x
passing-part p h = record { fits = p.fits; law = p.law; below = h }

-- A lawful map is passed up to run i where the runs from run i on say all.
pub passing-in : {xs : List ℕ} {x i : ℕ} → lawful xs ≡ true → i ≤ length (runs xs) →
    ((b : ℕ) → x ≤ b → cell_at (drop i (runs xs)) b ≡ cell_at (runs xs) b) → Passing xs 0 x i
passing-in {xs} {x} {i} e h s =
    let a = ahead-runs xs e i h in
    record {
      fits = ahead-fits xs e i h;
      law = ahead-law xs e i h;
      count = omega (arith, ap length a, length-drop i (runs xs), h);
      same = λ b l. ap (λ (rs : List Run). cell_at rs b) a ∙ s b l;
    }

-- ---- A look

-- a cell, the next byte of another, and the run to go on from
abbrev look_of : ℕ → ℕ → ℕ → Look
look_of cell next at = record { cell = cell; next = next; at = at }

module _ {xs : List ℕ} {from x i : ℕ} (p : Passing xs from x i) (below : x < OFFSET_MAX) where
  -- the bytes of the runs looked at
  abbrev f : Bytes
  f = bytes_of (drop (4 * from) xs)

  -- no run is left: the byte and all behind it are not written
  none : ahead xs i ≡ [] → Looked xs from x (look_of 0 OFFSET_MAX i)
  none e =
      let s = see_none f x below (λ b l h. ap (λ (rs : List Run). cell_at rs b) (sym e) ∙ p.same b l) in
      record { passing = p; first = subst (Open x) (sym e) tt; cell = sym s.0; next = sym s.1 }

  -- Where no space is left, no run is.
  pub look_end : length xs / 4 ≤ i → Looked xs from x (look_of 0 OFFSET_MAX i)
  unfolding runs_in
  look_end h =
      let m = lawful-map (drop (4 * i) xs) p.law in
      let e : space_in (drop (4 * i) xs) ≡ 0 = omega (arith, m.fours-in, length-drop (4 * i) xs, p.fits) in
      none (ap (λ (k : ℕ). runs_in k (drop (4 * i) xs)) e)

  -- the length of the run to look at is read
  module _ {l : ℕ} (read : l ≡ get_or xs (4 * i + 1) 0) where
    -- At a length 0 no run is left.
    pub look_stop : l ≡ 0 → Looked xs from x (look_of 0 OFFSET_MAX i)
    look_stop e = none (runs-stop (space_in (drop (4 * i) xs)) (drop (4 * i) xs) (get_or-drop (4 * i) xs 1 0 ∙ sym read ∙ e))

    module _ (more : i < length xs / 4) (some : l ≢ 0) where
      -- the run to look at
      abbrev r : Run
      r = run_at i xs

      -- The runs behind the run to look at.
      abbrev rs : List Run
      rs = runs_in (space_in (drop (4 * i) xs) - 1) (drop 4 (drop (4 * i) xs))

      -- it is the first of those not passed
      first_run : ahead xs i ≡ r ∷ rs
      first_run =
          let n : space_in (drop (4 * i) xs) ≡ suc (space_in (drop (4 * i) xs) - 1) = omega (arith, length-drop (4 * i) xs) in
          ap (λ (k : ℕ). runs_in k (drop (4 * i) xs)) n
          ∙ runs-step (space_in (drop (4 * i) xs) - 1) (drop (4 * i) xs) (λ e. some (read ∙ sym (get_or-drop (4 * i) xs 1 0) ∙ e))
          ∙ ap (λ (q : Run). q ∷ rs) (run_there i xs)

      -- The runs not passed are lawful.
      law-runs : Lawful (r ∷ rs)
      law-runs = subst Lawful first_run (lawful-map (drop (4 * i) xs) p.law).lawful-runs

      -- The runs not passed say all from x on.
      means : (b : ℕ) → x ≤ b → b < OFFSET_MAX → cell_at (r ∷ rs) b ≡ f b
      means b l h = ap (λ (q : List Run). cell_at q b) (sym first_run) ∙ p.same b l

      -- The cell of the run is that of a row number to 4,096 and a mark.
      pub look-cell : r.cell ≤ 8193
      look-cell =
          let a = run_at_lem (drop (4 * i) xs) p.law [] rs r 0 first_run refl in
          omega (arith, a.2, a.3, law-runs.numbered.1)

      -- The run ends within the offset range.
      pub look-inside : r.start + l ≤ OFFSET_MAX
      look-inside = rw read law-runs.in_order.0.inside

      -- a byte before the run is not written, nor are those up to it
      pub look-before : {n : ℕ} → n ≡ r.start → x < n → Looked xs from x (look_of 0 n i)
      look-before e h =
          let s = see-gap f x below r rs law-runs.in_order means (omega arith) in
          record { passing = p; first = subst (Open x) (sym first_run) (omega arith); cell = sym s.0; next = e ∙ sym s.1 }

      -- one of its bytes has its cell, up to its end
      pub look_in : r.start ≤ x → x < r.start + l → {c n : ℕ} → c ≡ r.cell → n ≡ r.start + l → Looked xs from x (look_of c n i)
      look_in h k e d =
          let u : x < r.start + r.length = omega arith in
          let s = see-run f x below r rs law-runs.in_order means h u in
          record { passing = p; first = subst (Open x) (sym first_run) u; cell = e ∙ sym s.0; next = d ∙ rw read (sym s.1) }

      -- a run that ends at the byte or before is passed
      pub look-on : r.start + l ≤ x → Passing xs from x (i + 1)
      look-on h =
          let part = drop (4 * i) xs in
          let e : 4 * (i + 1) ≡ 4 * i + 4 = omega arith in
          let w : drop (4 * (i + 1)) xs ≡ drop 4 part = ap (λ (j : ℕ). drop j xs) e ∙ sym (drop-drop 4 (4 * i) xs) in
          let n : 1 ≤ length (runs part) = omega (arith, ap length first_run) in
          let b : ahead xs (i + 1) ≡ rs = ap runs w ∙ ahead-runs part p.law 1 n ∙ ap (drop 1) first_run in
          let c = p.count in
          record {
            fits = omega (arith, more);
            law = ap lawful w ∙ ahead-law part p.law 1 n;
            count = omega (arith, ap length b, ap length first_run, c);
            same = λ y o.
                ap (λ (q : List Run). cell_at q y) b ∙ sym (cell-behind r rs y (omega arith)) ∙ ap (λ (q : List Run). cell_at q y) (sym first_run) ∙ p.same y o;
          }

-- ---- Two looks and a range

-- The next edge of a range lies behind a byte, and up to it all bytes lie in the range, or none.
abbrev Edge : ℕ → ℕ → ℕ → ℕ → Type 0
Edge start end x y = (x < y) × ((b : ℕ) → x ≤ b → b < y → in_range start (end - start) b ≡ in_range start (end - start) x)

edge-next : (start end x : ℕ) → start ≤ end → x < OFFSET_MAX → Edge start end x (edge_of start end x)
edge-next start end x o below = go (dec_lt x start) (dec_lt x end)
  where
    n : ℕ
    n = end - start

    go : Dec (x < start) → Dec (x < end) → Edge start end x (edge_of start end x)
    go (yes h) e = rw (lt-ltb x start h) (h, λ b l k. range-before start n b k ∙ sym (range-before start n x h))
    go (no h) (yes e) =
        rw (le-ltb x start (omega arith), lt-ltb x end e)
        (e, λ b l k. range-in start n b (omega arith) (omega arith) ∙ sym (range-in start n x (omega arith) (omega arith)))
    go (no h) (no e) =
        rw (le-ltb x start (omega arith), le-ltb x end (omega arith))
        (below, λ b l k. range-behind start n b (omega arith) ∙ sym (range-behind start n x (omega arith)))

module _ {xs : List ℕ} {i : ℕ} {os : List ℕ} {j : ℕ} {range : Range} {x : ℕ} {r : Both} (p : BothLooked xs i os j range x r) (below : x < OFFSET_MAX)
    (order : range.start ≤ range.end) where
  -- the bytes of both maps
  abbrev g : Bytes
  g = bytes_of (drop (4 * i) xs)

  -- The bytes of the other map.
  abbrev o : Bytes
  o = bytes_of (drop (4 * j) os)

  -- the next byte lies behind x, within the offset range
  pub both-on : (x < r.next) × (r.next ≤ OFFSET_MAX)
  both-on =
      let a = (change_iff g x (change_of g x) below).0 refl in
      let b = (change_iff o x (change_of o x) below).0 refl in
      (omega (arith, p.next, a.0, b.0, (edge-next range.start range.end x order below).0), omega (arith, p.next, a.1))

  -- up to it the map has one cell
  pub both-cell : (b : ℕ) → x ≤ b → b < r.next → g b ≡ r.cell
  both-cell b l h = before-change g x b below l (omega (arith, p.next)) ∙ sym p.cell

  -- Up to it the other map has one cell.
  pub both-other : (b : ℕ) → x ≤ b → b < r.next → o b ≡ r.other
  both-other b l h = before-change o x b below l (omega (arith, p.next)) ∙ sym p.other

  -- Up to it all bytes lie in the range, or none.
  pub both-inside : (b : ℕ) → x ≤ b → b < r.next → in_range range.start (range.end - range.start) b ≡ r.inside
  both-inside b l h = (edge-next range.start range.end x order below).1 b l (omega (arith, p.next)) ∙ sym p.inside
