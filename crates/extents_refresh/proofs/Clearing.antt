-- Clearing the marks of a map one by one, where no neighbour joins: what the loop keeps.
use Rattle.std.proofs.Common.{ℕ, zero, suc, ◌+◌, ◌*◌, ◌-◌, ◌≤◌, ◌<◌, arith, ◌≡◌, refl, sym, ap, ◌∙◌, Bool, true, false, cond, List, [], ◌∷◌, ◌++◌, length, drop, replicate, length-set, length-drop, drop-set-lt}
use lib.ListN.{get_or, set}
use lib.Seq.{set-append_left}
use Rattle.rows.specs.Limits.{OFFSET_MAX}
use Rattle.extents_meaning.specs.Cells.{number_in, mark_in, cleared, in_range, as_published}
use Rattle.extents_meaning.specs.Runs.{Run, run_of, cell_at, Next, Rising, NumbersLegal, Lawful}
use Rattle.extents_meaning.specs.Maps.{fours, map_of, map_for, space_in, runs, bytes_of, lawful}
use Rattle.extents_meaning.proofs.Trips.{length-fours, map_back, map_lawful, lawful-map}
use Rattle.extents_map.specs.Beside.{end_of, run_no}
use Rattle.extents_pair.specs.Marks.{marked}
use Rattle.extents_pair.proofs.Spots.{here-at}
use Rattle.extents_pair.proofs.Parts.{bytes-map, map_same}
use Rattle.extents_pair.proofs.Gathering.{marked-fewer, as_published-none, marked-at}
use Rattle.extents_pair.proofs.Bounds.{marked-first}
use Rattle.extents_refresh.specs.Clearing.{Apart, Cleared}

-- ---- One run of a list

-- a run marked published
abbrev clear_run : Run → Run
clear_run r = run_of r.start r.length (cleared r.cell)

-- the list with run i marked published
abbrev clear_at : List Run → ℕ → List Run
clear_at rs i = set rs i (clear_run (run_no rs i))

-- Marked published, a choice between two cells is the same as the choice between two others with their row numbers.
either : (x : Bool) (c d e f : ℕ) → cleared c ≡ cleared d → cleared e ≡ cleared f → cleared (cond x c e) ≡ cleared (cond x d f)
either true c d e f p q = p
either false c d e f p q = q

-- Clearing the mark of run i leaves as many unpublished runs less as its mark counts.
clear_marked : (rs : List Run) (i : ℕ) → i < length rs → length (marked (clear_at rs i)) + mark_in (run_no rs i).cell ≡ length (marked rs)
clear_marked [] i h = absurd (omega arith)
clear_marked (r ∷ rs) zero h = omega (arith, marked-first (clear_run r) rs, marked-first r rs)
clear_marked (r ∷ rs) (suc i) h = omega (arith, marked-first r (clear_at rs i), marked-first r rs, clear_marked rs i (omega arith))

-- Clearing one mark changes no byte but for its mark.
clear_mean : (rs : List Run) (i b : ℕ) → cleared (cell_at (clear_at rs i) b) ≡ cleared (cell_at rs b)
unfolding cell_at
clear_mean [] i b = refl
clear_mean (r ∷ rs) zero b = either (in_range r.start r.length b) (cleared r.cell) r.cell _ _ (omega arith) refl
clear_mean (r ∷ rs) (suc i) b = either (in_range r.start r.length b) r.cell _ _ _ refl (clear_mean rs i b)

-- Clearing one mark keeps legal row numbers.
clear_numbered : (rs : List Run) (i : ℕ) → NumbersLegal rs → NumbersLegal (clear_at rs i)
clear_numbered [] i n = tt
clear_numbered (r ∷ rs) zero n = (omega (arith, n.0), omega (arith, n.1), n.2)
clear_numbered (r ∷ rs) (suc i) n = (n.0, n.1, clear_numbered rs i n.2)

-- A run keeps `Next` with another cell behind a run with another cell, where it does not follow that run at once with its cell.
next-as : (d e : ℕ) {end c : ℕ} {r : Run} → Next OFFSET_MAX end c r → 1 ≤ d → (r.start ≡ end → d ≡ e → ⊥) →
    Next OFFSET_MAX end e (run_of r.start r.length d)
next-as d e n w a = record { rising = n.rising; filled = n.filled; inside = n.inside; written = w; longest = a }

-- Clearing the mark of a run that is apart from both neighbours keeps the list rising.
clear_rising : (q : Run) (rs : List Run) (i : ℕ) → i < length rs → Rising OFFSET_MAX (end_of q) q.cell rs → NumbersLegal rs → Apart q rs i →
    (suc i < length rs → Apart q rs (suc i)) → Rising OFFSET_MAX (end_of q) q.cell (clear_at rs i)
clear_rising q [] i h g n before behind = absurd (omega arith)
clear_rising q (r ∷ []) zero h g n before behind =
    (next-as (cleared r.cell) q.cell g.0 (omega (arith, n.0)) (λ e d. before (sym e) (omega (arith, d))), tt)
clear_rising q (r ∷ (p ∷ ps)) zero h g n before behind = (
  next-as (cleared r.cell) q.cell g.0 (omega (arith, n.0)) (λ e d. before (sym e) (omega (arith, d))),
  (next-as p.cell (cleared r.cell) g.1.0 g.1.0.written (λ e d. behind (omega arith) (sym e) (omega (arith, d))), g.1.1),
)
clear_rising q (r ∷ rs) (suc i) h g n before behind =
    (g.0, clear_rising r rs i (omega arith) g.1 n.2 before (λ k. behind (omega arith)))

-- Clearing the mark of a run that is apart from both neighbours keeps the list lawful.
clear_lawful : (rs : List Run) (i : ℕ) → i < length rs → Lawful rs → Apart (run_of 0 0 0) rs i → (suc i < length rs → Apart (run_of 0 0 0) rs (suc i)) →
    Lawful (clear_at rs i)
clear_lawful rs i h l before behind =
    record {
      in_order = clear_rising (run_of 0 0 0) rs i h l.in_order l.numbered before behind;
      numbered = clear_numbered rs i l.numbered;
    }

-- ---- Its mark in a slice

-- The numbers of a list with one mark cleared are those of the list with 0 for that mark.
clear_fours : (rs : List Run) (i : ℕ) → fours (clear_at rs i) ≡ set (fours rs) (i * 4 + 3) 0
unfolding fours
clear_fours [] i = refl
clear_fours (r ∷ rs) zero =
    let a : number_in (cleared r.cell) ≡ number_in r.cell = omega arith in
    let b : mark_in (cleared r.cell) ≡ 0 = omega arith in
    λ j. r.start ∷ (r.length ∷ (a j ∷ (b j ∷ fours rs)))
clear_fours (r ∷ rs) (suc i) =
    let e : suc (suc (suc (suc (i * 4 + 3)))) ≡ suc i * 4 + 3 = omega arith in
    ap (λ (t : List ℕ). r.start ∷ (r.length ∷ (number_in r.cell ∷ (mark_in r.cell ∷ t)))) (clear_fours rs i)
    ∙ ap (λ (p : ℕ). set (fours (r ∷ rs)) p 0) e

-- a lawful map with the mark of run i put to 0, where the run is apart from both neighbours
module _ (xs : List ℕ) (law : lawful xs ≡ true) (i : ℕ) (h : i < length (runs xs)) where
  -- The fourth number of run i is its mark.
  mark-at : get_or xs (i * 4 + 3) 0 ≡ mark_in (run_no (runs xs) i).cell
  mark-at = let e : i * 4 + 3 ≡ 4 * i + 3 = omega arith in ap (λ (p : ℕ). get_or xs p 0) e ∙ (here-at xs law i h).mark

  -- The slice with the mark cleared is the map of the list with that mark cleared.
  unmarked-map : set xs (i * 4 + 3) 0 ≡ map_of (space_in xs) (clear_at (runs xs) i)
  unfolding map_of
  unmarked-map =
      let rs = runs xs in
      let fill : List ℕ = replicate (4 * (space_in xs - length rs)) 0 in
      ap (λ (l : List ℕ). set l (i * 4 + 3) 0) (lawful-map xs law).whole
      ∙ set-append_left (fours rs) fill (i * 4 + 3) 0 (omega (arith, length-fours rs))
      ∙ (λ j. sym (clear_fours rs i) j ++ replicate (4 * (space_in xs - sym (length-set rs i (clear_run (run_no rs i))) j)) 0)

  module _ (before : Apart (run_of 0 0 0) (runs xs) i) (behind : suc i < length (runs xs) → Apart (run_of 0 0 0) (runs xs) (suc i)) where
    -- It is lawful, and its runs are those with that mark cleared.
    unmarked : (lawful (set xs (i * 4 + 3) 0) ≡ true) × (runs (set xs (i * 4 + 3) 0) ≡ clear_at (runs xs) i)
    unmarked =
        let m = lawful-map xs law in
        let list = clear_lawful (runs xs) i h m.lawful-runs before behind in
        let fit : length (clear_at (runs xs) i) ≤ space_in xs = omega (arith, length-set (runs xs) i (clear_run (run_no (runs xs) i)), m.fit) in
        (ap lawful unmarked-map ∙ map_lawful (space_in xs) _ list fit, ap runs unmarked-map ∙ map_back (space_in xs) _ list fit)

-- The first run of a lawful list follows none.
pub first-apart : (rs : List Run) → Lawful rs → {i : ℕ} → i ≡ 0 → i < length rs → Apart (run_of 0 0 0) rs i
first-apart [] l z h = absurd (omega arith)
first-apart (r ∷ rs) l z h = rw z (λ p q. absurd (omega (arith, l.numbered.0, q)))

-- ---- The loop

-- Some marks are cleared in place, and all of the first i runs are published.
pub record Clearing (xs₀ xs : List ℕ) (left i : ℕ) : Type 0 where
  pub done : Cleared xs₀ left xs
  pub passed : length (marked (drop i (runs xs))) ≡ length (marked (runs xs))

module _ {xs₀ xs : List ℕ} {left i : ℕ} (k : Clearing xs₀ xs left i) (h : 0 < left) where
  -- While an unpublished run is left there is a run i.
  here : i < length (runs xs)
  here = omega (arith, k.done.all, k.passed, marked-fewer (drop i (runs xs)), length-drop i (runs xs))

  -- The four numbers of run i stand in the slice, which has its length.
  pub clear_room : (i * 4 + 4 ≤ length xs) × (length xs ≡ length xs₀)
  clear_room = let m = lawful-map xs k.done.law in (omega (arith, here, m.fit, m.fours-in), k.done.same)

  -- A published run is passed.
  pub clear_skip : (get_or xs (i * 4 + 3) 0 ≡ 1 → ⊥) → Clearing xs₀ xs left (i + 1)
  clear_skip p =
      let law = k.done.law in
      record { done = k.done; passed = omega (arith, k.passed, marked-at xs law i here, p, mark-at xs law i here) }

  -- The mark of an unpublished run that is apart from both neighbours is cleared.
  pub clear_one : get_or xs (i * 4 + 3) 0 ≡ 1 → (i < length (runs xs) → Apart (run_of 0 0 0) (runs xs) i) →
      (i + 1 < length (runs xs) → Apart (run_of 0 0 0) (runs xs) (i + 1)) →
      Clearing xs₀ (set xs (i * 4 + 3) 0) (left - 1) (i + 1)
  clear_one p before behind =
      let law = k.done.law in
      let rs = runs xs in
      let s : i + 1 ≡ suc i = omega arith in
      let after : suc i < length rs → Apart (run_of 0 0 0) rs (suc i) = rw s at behind in
      let new = unmarked xs law i here (before here) after in
      let u = new.1 in
      let r = clear_run (run_no rs i) in
      let fewer = clear_marked rs i here in
      let rest = ap (λ (l : List Run). length (marked l)) (ap (drop (i + 1)) u ∙ drop-set-lt (i + 1) rs i r (omega arith)) in
      let marks = ap (λ (l : List Run). length (marked l)) u in
      record {
        done =
            record {
              law = new.0;
              same = length-set xs (i * 4 + 3) 0 ∙ k.done.same;
              mean = λ b. ap (λ (l : List Run). as_published (cell_at l) b) u ∙ clear_mean rs i b ∙ k.done.mean b;
              all = omega (arith, k.done.all, fewer, marks, mark-at xs law i here, p);
            };
        passed = omega (arith, k.passed, marked-at xs law i here, rest, fewer, marks, mark-at xs law i here, p);
      }

-- A map without an unpublished run left is marked published.
pub cleared-all : {xs ys : List ℕ} {left : ℕ} → Cleared xs left ys → left ≡ 0 → ys ≡ map_for (space_in xs) (as_published (bytes_of xs))
cleared-all {xs} {ys} k z =
    let l = (lawful-map ys k.law).lawful-runs in
    let s : space_in ys ≡ space_in xs = omega (arith, k.same) in
    sym (bytes-map ys k.law)
    ∙ ap (λ (n : ℕ). map_for n (bytes_of ys)) s
    ∙ map_same (space_in xs) (bytes_of ys) (as_published (bytes_of xs)) (λ b. sym (as_published-none (runs ys) l (sym k.all ∙ z) b) ∙ k.mean b)
