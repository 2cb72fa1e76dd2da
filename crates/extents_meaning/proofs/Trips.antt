-- Maps in slices: what is lawful is what was written from lawful runs, and it is read back as them.
use Rattle.std.proofs.Common.{ℕ, zero, suc, ◌+◌, ◌*◌, ◌-◌, ◌/◌, ◌%◌, ◌≤◌, ◌<◌, add-zero, arith, ◌≡◌, refl, sym, ap, ◌∙◌, ◌≢◌, Bool, true, false, cond, not, ◌&&◌, List, [], ◌∷◌, ◌++◌, append_assoc, append-nil, length, drop, replicate, length-append, length-drop, drop_at, get_or-drop, drop-drop, leb-true, eqb-true, le-leb, eq-eqb, ne_eqb}
use native.Mathlib.Nat.{suc-sub-suc, sub-zero}
use native.Mathlib.Decide.{dec_lt}
use mathlib.Core.Bool.{false≢true}
use lib.ListN.{get_or, length-replicate}
use lib.Dec.{leb, eqb}
use borrow.Author.Tests.{eqb-false, not-true}
use Rattle.rows.specs.Limits.{ROWS, OFFSET_MAX}
use Rattle.extents_meaning.specs.Cells.{cell_of, number_in, mark_in, unpublished, in_range}
use Rattle.extents_meaning.specs.Runs.{Run, run_of, cell_at, Next, Rising, NumbersLegal, Lawful}
use Rattle.extents_meaning.specs.Maps.{fours, map_of, run_here, runs_in, space_in, runs, bytes_of, all_zero, follows, may_follow, lawful_from, lawful, no_marks}
use Rattle.extents_meaning.proofs.Longest.{cell-first, cell-behind, mean-before, lawful-unique}
use Rattle.rows.proofs.Bools.{and_out, not_passed, not_both}
use Rattle.rows.proofs.Zeros.{zeros}

-- ---- Tests

-- ---- Zeros

-- zeros are all zero
pub zeros-in : (n : ℕ) → all_zero (replicate n 0) ≡ true
unfolding all_zero
zeros-in zero = refl
zeros-in (suc n) = zeros-in n

-- A list that is all zero is a list of zeros.
pub zeros-out : (xs : List ℕ) → all_zero xs ≡ true → xs ≡ replicate (length xs) 0
unfolding all_zero
zeros-out [] e = refl
zeros-out (x ∷ xs) e = let b = and_out (eqb x 0) (all_zero xs) e in λ i. eqb-true x 0 b.0 i ∷ zeros-out xs b.1 i

-- ---- Writing a map

-- four numbers a run
pub length-fours : (rs : List Run) → length (fours rs) ≡ 4 * length rs
unfolding fours
length-fours [] = refl
length-fours (r ∷ rs) = omega (arith, length-fours rs)

-- numbers of runs one after the other
pub fours-append : (ps qs : List Run) → fours (ps ++ qs) ≡ fours ps ++ fours qs
unfolding fours
fours-append [] qs = refl
fours-append (r ∷ ps) qs = ap (λ (l : List ℕ). fours (r ∷ []) ++ l) (fours-append ps qs)

-- the four numbers of a run, before others
abbrev pub ahead : Run → List ℕ → List ℕ
ahead r xs = r.start ∷ (r.length ∷ (number_in r.cell ∷ (mark_in r.cell ∷ xs)))

-- a map with no run is 0
pub map_none : (space : ℕ) → map_of space [] ≡ replicate (4 * space) 0
unfolding map_of fours
map_none space = ap (λ (n : ℕ). replicate (4 * n) 0) (sub-zero space)

-- a map with a first run: its four numbers, then the map of the others
pub map_first_lem : (space : ℕ) (r : Run) (rs : List Run) → map_of (suc space) (r ∷ rs) ≡ ahead r (map_of space rs)
unfolding map_of fours
map_first_lem space r rs = ap (λ (n : ℕ). fours (r ∷ rs) ++ replicate (4 * n) 0) (suc-sub-suc space (length rs))

-- a map with runs in front: their numbers, then the map of the others
pub map_append : (space : ℕ) (ps qs : List Run) → map_of space (ps ++ qs) ≡ fours ps ++ map_of (space - length ps) qs
unfolding map_of
map_append space ps qs =
    let e : space - length (ps ++ qs) ≡ space - length ps - length qs = omega (arith, length-append ps qs) in
    (λ i. fours-append ps qs i ++ replicate (4 * e i) 0) ∙ append_assoc (fours ps) (fours qs) (replicate (4 * (space - length ps - length qs)) 0)

-- a map fills its space
pub length-map : (space : ℕ) (rs : List Run) → length rs ≤ space → length (map_of space rs) ≡ 4 * space
unfolding map_of
length-map space rs h =
    let z : List ℕ = replicate (4 * (space - length rs)) 0 in
    omega (arith, length-append (fours rs) z, length-fours rs, length-replicate {A = ℕ} (4 * (space - length rs)) 0)

-- The space of a map is read back.
pub space-map : (space : ℕ) (rs : List Run) → length rs ≤ space → space_in (map_of space rs) ≡ space
space-map space rs h = omega (arith, length-map space rs h)

-- ---- Steps of reading

-- a run whose length is other than 0 is read, and then those behind it
pub runs-step : (n : ℕ) (xs : List ℕ) → get_or xs 1 0 ≢ 0 → runs_in (suc n) xs ≡ run_here xs ∷ runs_in n (drop 4 xs)
unfolding runs_in
runs-step n xs h = rw (ne_eqb (get_or xs 1 0) 0 h)

-- a length 0 ends it
pub runs-stop : (n : ℕ) (xs : List ℕ) → get_or xs 1 0 ≡ 0 → runs_in n xs ≡ []
unfolding runs_in
runs-stop zero xs e = refl
runs-stop (suc n) xs e = rw (eq-eqb (get_or xs 1 0) 0 e)

-- lawful from a length 0 on: all is 0
pub law-stop : (n end c : ℕ) (xs : List ℕ) → get_or xs 1 0 ≡ 0 → lawful_from (suc n) end c xs ≡ all_zero xs
unfolding lawful_from
law-stop n end c xs e = rw (eq-eqb (get_or xs 1 0) 0 e)

-- lawful from a run on: it may stand there, and those behind it are lawful
pub law-step : (n end c : ℕ) (xs : List ℕ) → get_or xs 1 0 ≢ 0 →
    lawful_from (suc n) end c xs ≡ may_follow end c xs && lawful_from n ((run_here xs).start + (run_here xs).length) (run_here xs).cell (drop 4 xs)
unfolding lawful_from
law-step n end c xs h = rw (ne_eqb (get_or xs 1 0) 0 h)

-- four numbers before others are their run
pub here_back : (r : Run) (xs : List ℕ) → run_here (ahead r xs) ≡ r
unfolding run_here
here_back r xs = let e : cell_of (number_in r.cell) (mark_in r.cell) ≡ r.cell = omega arith in λ i. run_of r.start r.length (e i)

-- Four numbers whose mark is 0 or 1 are the numbers of their run.
pub four_back : (xs : List ℕ) → 4 ≤ length xs → get_or xs 3 0 ≤ 1 → xs ≡ ahead (run_here xs) (drop 4 xs)
unfolding run_here
four_back [] h m = absurd (omega arith)
four_back (s ∷ []) h m = absurd (omega arith)
four_back (s ∷ l ∷ []) h m = absurd (omega arith)
four_back (s ∷ l ∷ n ∷ []) h m = absurd (omega arith)
four_back (s ∷ l ∷ n ∷ k ∷ xs) h m =
    let a : n ≡ number_in (cell_of n k) = omega arith in
    let b : k ≡ mark_in (cell_of n k) = omega arith in
    λ i. s ∷ (l ∷ (a i ∷ (b i ∷ xs)))

-- ---- Which run may follow

-- The test of four numbers is the test of the definition.
pub follow-here : (end c : ℕ) (xs : List ℕ) → may_follow end c xs ≡ follows end c (get_or xs 0 0) (get_or xs 1 0) (get_or xs 2 0) (get_or xs 3 0)
unfolding may_follow run_here
follow-here end c xs = refl

-- what the test asks
pub record May (end c s l n k : ℕ) : Type 0 where
  pub rising : end ≤ s
  pub inside : s + l ≤ OFFSET_MAX
  pub low : 1 ≤ n
  pub high : n ≤ ROWS
  pub mark : k ≤ 1
  pub longest : s ≡ end → cell_of n k ≡ c → ⊥

-- what follows where it passes
pub may_out : (end c s l n k : ℕ) → follows end c s l n k ≡ true → May end c s l n k
may_out end c s l n k e =
    let e1 = and_out (leb end s) _ e in
    let e2 = and_out (leb (s + l) OFFSET_MAX) _ e1.1 in
    let e3 = and_out (leb 1 n) _ e2.1 in
    let e4 = and_out (leb n ROWS) _ e3.1 in
    let e5 = and_out (leb k 1) _ e4.1 in
    record {
      rising = leb-true _ _ e1.0;
      inside = leb-true _ _ e2.0;
      low = leb-true _ _ e3.0;
      high = leb-true _ _ e4.0;
      mark = leb-true _ _ e5.0;
      longest =
          λ p q. false≢true (sym (not-true (eqb s end && eqb (cell_of n k) c) e5.1) ∙ (λ i. eq-eqb s end p i && eq-eqb (cell_of n k) c q i));
    }

-- what makes it pass
pub may_in : (end c s l n k : ℕ) → May end c s l n k → follows end c s l n k ≡ true
may_in end c s l n k m =
    let apart = not_both (eqb s end) (eqb (cell_of n k) c) (λ p q. m.longest (eqb-true s end p) (eqb-true (cell_of n k) c q)) in
    λ i.
    le-leb end s m.rising i
    && (le-leb (s + l) OFFSET_MAX m.inside i
    && (le-leb 1 n m.low i && (le-leb n ROWS m.high i && (le-leb k 1 m.mark i && not (apart i)))))

-- what makes it fail
pub may_not : (end c s l n k : ℕ) → (May end c s l n k → ⊥) → follows end c s l n k ≡ false
may_not end c s l n k h = not_passed (follows end c s l n k) (λ e. h (may_out end c s l n k e))

-- a run of a lawful list may follow
may_next : (end c : ℕ) (r : Run) → Next OFFSET_MAX end c r → 1 ≤ number_in r.cell → number_in r.cell ≤ ROWS →
    May end c r.start r.length (number_in r.cell) (mark_in r.cell)
may_next end c r t low high =
    let e : cell_of (number_in r.cell) (mark_in r.cell) ≡ r.cell = omega arith in
    record {
      rising = t.rising;
      inside = t.inside;
      low = low;
      high = high;
      mark = omega arith;
      longest = λ p q. t.longest p (sym e ∙ q);
    }

-- ---- What was written is lawful and read back

-- reading back in a space
read_back : (space : ℕ) (rs : List Run) (top end c : ℕ) → Rising top end c rs → length rs ≤ space → runs_in space (map_of space rs) ≡ rs
read_back space [] top end c t h = runs-stop space (map_of space []) (ap (λ (l : List ℕ). get_or l 1 0) (map_none space) ∙ zeros (4 * space) 1)
read_back zero (r ∷ rs) top end c t h = absurd (omega arith)
read_back (suc n) (r ∷ rs) top end c t h =
    let f : r.length ≢ 0 = omega (arith, t.0.filled) in
    ap (runs_in (suc n)) (map_first_lem n r rs)
    ∙ runs-step n (ahead r (map_of n rs)) f
    ∙ (λ i. here_back r (map_of n rs) i ∷ read_back n rs top (r.start + r.length) r.cell t.1 (omega arith) i)

-- what was written is read back
pub map_back : (space : ℕ) (rs : List Run) → Lawful rs → length rs ≤ space → runs (map_of space rs) ≡ rs
map_back space rs w h = ap (λ (n : ℕ). runs_in n (map_of space rs)) (space-map space rs h) ∙ read_back space rs OFFSET_MAX 0 0 w.in_order h

-- lawful behind a run
written-lawful : (space : ℕ) (rs : List Run) (end c : ℕ) → Rising OFFSET_MAX end c rs → NumbersLegal rs → length rs ≤ space →
    lawful_from space end c (map_of space rs) ≡ true
unfolding lawful_from
written-lawful zero [] end c t w h = refl
written-lawful (suc n) [] end c t w h =
    ap (lawful_from (suc n) end c) (map_none (suc n))
    ∙ law-stop n end c (replicate (4 * suc n) 0) (zeros (4 * suc n) 1)
    ∙ zeros-in (4 * suc n)
written-lawful zero (r ∷ rs) end c t w h = absurd (omega arith)
written-lawful (suc n) (r ∷ rs) end c t w h =
    let f : r.length ≢ 0 = omega (arith, t.0.filled) in
    let xs = ahead r (map_of n rs) in
    let first : may_follow end c xs ≡ true = follow-here end c xs ∙ may_in end c _ _ _ _ (may_next end c r t.0 w.0 w.1) in
    let back = here_back r (map_of n rs) in
    ap (lawful_from (suc n) end c) (map_first_lem n r rs)
    ∙ law-step n end c xs f
    ∙ (λ i. first i && lawful_from n ((back i).start + (back i).length) (back i).cell (map_of n rs))
    ∙ written-lawful n rs (r.start + r.length) r.cell t.1 w.2 (omega arith)

-- The map of lawful runs that fit is lawful.
pub map_lawful : (space : ℕ) (rs : List Run) → Lawful rs → length rs ≤ space → lawful (map_of space rs) ≡ true
unfolding lawful
map_lawful space rs w h =
    let m : length (map_of space rs) % 4 ≡ 0 = omega (arith, length-map space rs h) in
    (λ i. eq-eqb (length (map_of space rs) % 4) 0 m i && lawful_from (space-map space rs h i) 0 0 (map_of space rs))
    ∙ written-lawful space rs 0 0 w.in_order w.numbered h

-- ---- What is lawful was written

-- runs that were read from a slice with space for n, behind a run that ends at `end` with cell c
record Read (n end c : ℕ) (xs : List ℕ) (rs : List Run) : Type 0 where
  in_order : Rising OFFSET_MAX end c rs
  numbered : NumbersLegal rs
  fit : length rs ≤ n
  whole : xs ≡ map_of n rs

-- no run in a slice of zeros
read_none : (n end c : ℕ) (xs : List ℕ) → length xs ≡ 4 * n → all_zero xs ≡ true → Read n end c xs []
read_none n end c xs l e =
    record {
      in_order = tt;
      numbered = tt;
      fit = omega arith;
      whole = zeros-out xs e ∙ ap (λ (k : ℕ). replicate k 0) l ∙ sym (map_none n);
    }

-- a run, and those behind it
read_more : (n end c : ℕ) (xs : List ℕ) (rs : List Run) → length xs ≡ 4 * suc n → get_or xs 1 0 ≢ 0 → may_follow end c xs ≡ true →
    Read n ((run_here xs).start + (run_here xs).length) (run_here xs).cell (drop 4 xs) rs → Read (suc n) end c xs (run_here xs ∷ rs)
unfolding run_here
read_more n end c xs rs l f e rest =
    let m = may_out end c _ _ _ _ (sym (follow-here end c xs) ∙ e) in
    let low : 1 ≤ get_or xs 2 0 = m.low in
    let high : get_or xs 2 0 ≤ ROWS = m.high in
    let mark : get_or xs 3 0 ≤ 1 = m.mark in
    record {
      in_order =
          (record { rising = m.rising; filled = omega arith; inside = m.inside; written = omega arith; longest = m.longest }, rest.in_order);
      numbered = (omega arith, omega arith, rest.numbered);
      fit = let h = rest.fit in omega arith;
      whole = four_back xs (omega arith) mark ∙ ap (ahead (run_here xs)) rest.whole ∙ sym (map_first_lem n (run_here xs) rs);
    }

-- a slice that is lawful behind a run was written there
lawful-read : (n end c : ℕ) (xs : List ℕ) → length xs ≡ 4 * n → lawful_from n end c xs ≡ true → Read n end c xs (runs_in n xs)
unfolding runs_in all_zero
lawful-read zero end c [] l e = read_none zero end c [] l refl
lawful-read zero end c (x ∷ xs) l e = absurd (omega arith)
lawful-read (suc n) end c xs l e =
    let k : length (drop 4 xs) ≡ 4 * n = omega (arith, length-drop 4 xs) in
    go (eqb (get_or xs 1 0) 0) refl (lawful-read n ((run_here xs).start + (run_here xs).length) (run_here xs).cell (drop 4 xs) k)
  where
    go : (b : Bool) → eqb (get_or xs 1 0) 0 ≡ b →
        (lawful_from n ((run_here xs).start + (run_here xs).length) (run_here xs).cell (drop 4 xs) ≡ true →
        Read n ((run_here xs).start + (run_here xs).length) (run_here xs).cell (drop 4 xs) (runs_in n (drop 4 xs))) →
        Read (suc n) end c xs (cond b [] (run_here xs ∷ runs_in n (drop 4 xs)))
    go true q rest = read_none (suc n) end c xs l (sym (law-stop n end c xs (eqb-true (get_or xs 1 0) 0 q)) ∙ e)
    go false q rest =
        let f = eqb-false (get_or xs 1 0) 0 q in
        let b = and_out (may_follow end c xs) _ (sym (law-step n end c xs f) ∙ e) in
        read_more n end c xs (runs_in n (drop 4 xs)) l f b.0 (rest b.1)

-- what a lawful slice is
pub record Map (xs : List ℕ) : Type 0 where
  pub fours-in : length xs ≡ 4 * space_in xs
  pub lawful-runs : Lawful (runs xs)
  pub fit : length (runs xs) ≤ space_in xs
  pub whole : xs ≡ map_of (space_in xs) (runs xs)

-- every lawful slice is one
pub lawful-map : (xs : List ℕ) → lawful xs ≡ true → Map xs
unfolding lawful
lawful-map xs e =
    let b = and_out (eqb (length xs % 4) 0) _ e in
    let l : length xs ≡ 4 * space_in xs = omega (arith, eqb-true (length xs % 4) 0 b.0) in
    let r = lawful-read (space_in xs) 0 0 xs l b.1 in
    record { fours-in = l; lawful-runs = record { in_order = r.in_order; numbered = r.numbered }; fit = r.fit; whole = r.whole }

-- two lawful maps of one space with one meaning are the same list
pub maps-unique : (xs ys : List ℕ) → lawful xs ≡ true → lawful ys ≡ true → length xs ≡ length ys → ((b : ℕ) → b < OFFSET_MAX → bytes_of xs b ≡ bytes_of ys b) →
    xs ≡ ys
maps-unique xs ys e f l h =
    let m = lawful-map xs e in
    let k = lawful-map ys f in
    let r : runs xs ≡ runs ys = lawful-unique (runs xs) (runs ys) m.lawful-runs k.lawful-runs h in
    m.whole ∙ (λ i. map_of (l i / 4) (r i)) ∙ sym k.whole

-- ---- Scans: the run at place 4 * i, and the places behind it

-- the run there
abbrev pub run_at : ℕ → List ℕ → Run
run_at i xs = run_of (get_or xs (4 * i) 0) (get_or xs (4 * i + 1) 0) (cell_of (get_or xs (4 * i + 2) 0) (get_or xs (4 * i + 3) 0))

-- may it follow?
abbrev pub follows_at : ℕ → ℕ → ℕ → List ℕ → Bool
follows_at end c i xs = follows end c (get_or xs (4 * i) 0) (get_or xs (4 * i + 1) 0) (get_or xs (4 * i + 2) 0) (get_or xs (4 * i + 3) 0)

-- the first number there
first-there : (i : ℕ) (xs : List ℕ) → get_or (drop (4 * i) xs) 0 0 ≡ get_or xs (4 * i) 0
first-there i xs = get_or-drop (4 * i) xs 0 0 ∙ ap (λ (p : ℕ). get_or xs p 0) (add-zero (4 * i))

-- The run at place 4 * i is the run at the front of the rest.
pub run_there : (i : ℕ) (xs : List ℕ) → run_here (drop (4 * i) xs) ≡ run_at i xs
unfolding run_here
run_there i xs = λ j. run_of (first-there i xs j) (get_or-drop (4 * i) xs 1 0 j) (cell_of (get_or-drop (4 * i) xs 2 0 j) (get_or-drop (4 * i) xs 3 0 j))

-- The test at place 4 * i is the test at the front of the rest.
pub follow-there : (end c i : ℕ) (xs : List ℕ) → may_follow end c (drop (4 * i) xs) ≡ follows_at end c i xs
follow-there end c i xs =
    follow-here end c (drop (4 * i) xs)
    ∙ (λ j. follows end c (first-there i xs j) (get_or-drop (4 * i) xs 1 0 j) (get_or-drop (4 * i) xs 2 0 j) (get_or-drop (4 * i) xs 3 0 j))

-- the numbers behind it
pub behind-there : (i : ℕ) (xs : List ℕ) → drop 4 (drop (4 * i) xs) ≡ drop (4 * (i + 1)) xs
behind-there i xs = let e : 4 * i + 4 ≡ 4 * (i + 1) = omega arith in drop-drop 4 (4 * i) xs ∙ ap (λ (p : ℕ). drop p xs) e

-- reading: a length 0 ends it
pub read-stop : (space i : ℕ) (xs : List ℕ) → get_or xs (4 * i + 1) 0 ≡ 0 → runs_in (space - i) (drop (4 * i) xs) ≡ []
read-stop space i xs e = runs-stop (space - i) (drop (4 * i) xs) (get_or-drop (4 * i) xs 1 0 ∙ e)

module _ (space i : ℕ) (xs : List ℕ) (h : i < space) where
  -- space for one run more
  room : space - i ≡ suc (space - (i + 1))
  room = omega arith

  -- reading: a run, and then those behind it
  pub read-on : get_or xs (4 * i + 1) 0 ≢ 0 → runs_in (space - i) (drop (4 * i) xs) ≡ run_at i xs ∷ runs_in (space - (i + 1)) (drop (4 * (i + 1)) xs)
  read-on f =
      ap (λ (n : ℕ). runs_in n (drop (4 * i) xs)) room
      ∙ runs-step (space - (i + 1)) (drop (4 * i) xs) (λ e. f (sym (get_or-drop (4 * i) xs 1 0) ∙ e))
      ∙ (λ j. run_there i xs j ∷ runs_in (space - (i + 1)) (behind-there i xs j))

  -- the law at a length 0: all is 0 from there on
  pub scan_stop : (end c : ℕ) → get_or xs (4 * i + 1) 0 ≡ 0 → lawful_from (space - i) end c (drop (4 * i) xs) ≡ all_zero (drop (4 * i) xs)
  scan_stop end c e =
      ap (λ (n : ℕ). lawful_from n end c (drop (4 * i) xs)) room
      ∙ law-stop (space - (i + 1)) end c (drop (4 * i) xs) (get_or-drop (4 * i) xs 1 0 ∙ e)

  -- the law at a run: it may follow, and those behind it are lawful
  scan_step : (end c : ℕ) → get_or xs (4 * i + 1) 0 ≢ 0 →
      lawful_from (space - i) end c (drop (4 * i) xs)
      ≡ follows_at end c i xs && lawful_from (space - (i + 1)) ((run_at i xs).start + (run_at i xs).length) (run_at i xs).cell (drop (4 * (i + 1)) xs)
  scan_step end c f =
      let r = run_there i xs in
      ap (λ (n : ℕ). lawful_from n end c (drop (4 * i) xs)) room
      ∙ law-step (space - (i + 1)) end c (drop (4 * i) xs) (λ e. f (sym (get_or-drop (4 * i) xs 1 0) ∙ e))
      ∙ (λ j. follow-there end c i xs j && lawful_from (space - (i + 1)) ((r j).start + (r j).length) (r j).cell (behind-there i xs j))

  -- a run that may not follow breaks it
  pub scan_bad : (end c : ℕ) → get_or xs (4 * i + 1) 0 ≢ 0 → follows_at end c i xs ≡ false → lawful_from (space - i) end c (drop (4 * i) xs) ≡ false
  scan_bad end c f e = scan_step end c f ∙ rw e

  -- a run that may follow leaves it to those behind
  pub scan_on : (end c : ℕ) → get_or xs (4 * i + 1) 0 ≢ 0 → follows_at end c i xs ≡ true →
      lawful_from (space - i) end c (drop (4 * i) xs)
      ≡ lawful_from (space - (i + 1)) ((run_at i xs).start + (run_at i xs).length) (run_at i xs).cell (drop (4 * (i + 1)) xs)
  scan_on end c f e = scan_step end c f ∙ rw e

-- ---- Places of a lawful map

-- behind the numbers of some runs stands the map of the others
pub rest_at : (xs : List ℕ) → lawful xs ≡ true → (ps qs : List Run) (i : ℕ) → runs xs ≡ ps ++ qs → length ps ≡ i →
    drop (4 * i) xs ≡ map_of (space_in xs - i) qs
rest_at xs e ps qs i q l =
    let n : length (fours ps) ≡ 4 * i = omega (arith, length-fours ps) in
    ap (drop (4 * i)) ((lawful-map xs e).whole ∙ ap (map_of (space_in xs)) q ∙ map_append (space_in xs) ps qs)
    ∙ drop_at (fours ps) (map_of (space_in xs - length ps) qs) (4 * i) n
    ∙ (λ j. map_of (space_in xs - l j) qs)

-- At the place of a run stand its four numbers.
pub run_at_lem : (xs : List ℕ) → lawful xs ≡ true → (ps qs : List Run) (r : Run) (i : ℕ) → runs xs ≡ ps ++ (r ∷ qs) → length ps ≡ i →
    (get_or xs (4 * i) 0 ≡ r.start) × (get_or xs (4 * i + 1) 0 ≡ r.length)
    × (get_or xs (4 * i + 2) 0 ≡ number_in r.cell) × (get_or xs (4 * i + 3) 0 ≡ mark_in r.cell)
unfolding map_of fours
run_at_lem xs e ps qs r i q l =
    (ap (λ (p : ℕ). get_or xs p 0) (sym (add-zero (4 * i))) ∙ there 0, there 1, there 2, there 3)
  where
    there : (k : ℕ) → get_or xs (4 * i + k) 0 ≡ get_or (map_of (space_in xs - i) (r ∷ qs)) k 0
    there k = sym (get_or-drop (4 * i) xs k 0) ∙ ap (λ (ys : List ℕ). get_or ys k 0) (rest_at xs e ps (r ∷ qs) i q l)

-- Behind the last run stands a length 0.
pub end-at : (xs : List ℕ) → lawful xs ≡ true → (i : ℕ) → length (runs xs) ≡ i → get_or xs (4 * i + 1) 0 ≡ 0
end-at xs e i l =
    sym (get_or-drop (4 * i) xs 1 0)
    ∙ ap (λ (ys : List ℕ). get_or ys 1 0) (rest_at xs e (runs xs) [] i (sym (append-nil (runs xs))) l ∙ map_none (space_in xs - i))
    ∙ zeros (4 * (space_in xs - i)) 1

-- ---- Marks

-- without marks every byte is published
pub no_marks-out : (rs : List Run) → no_marks rs ≡ true → (b : ℕ) → unpublished (cell_at rs b) ≡ false
unfolding no_marks cell_at
no_marks-out [] e b = refl
no_marks-out (r ∷ rs) e b =
    let a = and_out (not (unpublished r.cell)) (no_marks rs) e in
    go (in_range r.start r.length b) (not-true (unpublished r.cell) a.0) (no_marks-out rs a.1 b)
  where
    go : (x : Bool) → unpublished r.cell ≡ false → unpublished (cell_at rs b) ≡ false → unpublished (cond x r.cell (cell_at rs b)) ≡ false
    go true here rest = here
    go false here rest = rest

-- runs in rising order have no marks where every byte is published
marks-none : (top end c : ℕ) (rs : List Run) → Rising top end c rs → ((b : ℕ) → unpublished (cell_at rs b) ≡ false) → no_marks rs ≡ true
unfolding no_marks
marks-none top end c [] t h = refl
marks-none top end c (r ∷ rs) t h =
    let here : unpublished r.cell ≡ false = ap unpublished (sym (cell-first r rs r.start (omega arith) (omega (arith, t.0.filled)))) ∙ h r.start in
    λ i. not (here i) && marks-none top (r.start + r.length) r.cell rs t.1 rest i
  where
    rest : (b : ℕ) → unpublished (cell_at rs b) ≡ false
    rest b = go (dec_lt b (r.start + r.length))
      where
        go : Dec (b < r.start + r.length) → unpublished (cell_at rs b) ≡ false
        go (yes l) = ap unpublished (mean-before top (r.start + r.length) r.cell rs t.1 b l)
        go (no l) = ap unpublished (sym (cell-behind r rs b (omega arith))) ∙ h b

-- where every byte is published there are no marks
pub no_marks-in : (rs : List Run) → Lawful rs → ((b : ℕ) → unpublished (cell_at rs b) ≡ false) → no_marks rs ≡ true
no_marks-in rs w h = marks-none OFFSET_MAX 0 0 rs w.in_order h
