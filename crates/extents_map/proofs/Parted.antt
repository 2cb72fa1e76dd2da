-- Runs parted at a place, and a range laid between the parts.
use Rattle.std.proofs.Common.{ℕ, zero, suc, ◌+◌, ◌-◌, ◌≤◌, ◌<◌, add-one, arith, ◌≡◌, refl, sym, ap, ◌∙◌, cond, List, [], ◌∷◌, ◌++◌, append_assoc, length, take, drop, take-append-drop, drop_of_length-le, drop-cons, eq-eqb, ne_eqb}
use native.Mathlib.Decide.{dec_lt, ℕ_discrete}
use lib.ListN.{get_or}
use Rattle.rows.specs.Limits.{OFFSET_MAX}
use Rattle.extents_meaning.specs.Cells.{Bytes, in_range, overwrite}
use Rattle.extents_meaning.specs.Runs.{Run, run_of, cell_at, runs_of, Next, Rising}
use Rattle.extents_meaning.proofs.Longest.{cell-first, cell-before, cell-behind, mean-before, mean-first, mean-end, unique_from, rising-earlier}
use Rattle.extents_meaning.proofs.Overwrites.{over-in, over-before, over-behind}
use Rattle.extents_weave_meaning.proofs.Rests.{rest, put_some, rest-rising, rest-mean, rest-unique, rest-skip, close}
use Rattle.extents_map.specs.Cursors.{part_of}
use Rattle.extents_map.specs.Beside.{end_of, run_no, run_before, Met, Behind, Front, Back}

-- ---- Lists of runs

-- bytes have one cell by two lists with one front where they have one by what stands behind it
pub cell_same : (ps qs rs : List Run) (b : ℕ) → cell_at qs b ≡ cell_at rs b → cell_at (ps ++ qs) b ≡ cell_at (ps ++ rs) b
unfolding cell_at
cell_same [] qs rs b e = e
cell_same (p ∷ ps) qs rs b e = ap (λ (c : ℕ). cond (in_range p.start p.length b) p.cell c) (cell_same ps qs rs b e)

-- what may follow a run may follow one that ends earlier, or there with the same cell
pub rising-from : (end c x d : ℕ) (rs : List Run) → end ≤ x → (end ≡ x → c ≡ d) → Rising OFFSET_MAX x d rs → Rising OFFSET_MAX end c rs
rising-from end c x d [] h e g = tt
rising-from end c x d (r ∷ rs) h e g =
    let n = g.0 in
    let longest : r.start ≡ end → r.cell ≡ c → ⊥ =
    λ p q. let z : end ≡ x = omega arith in n.longest (p ∙ z) (q ∙ e z) in
    (record { rising = omega arith; filled = n.filled; inside = n.inside; written = n.written; longest = longest }, g.1)

-- runs that may follow at byte x may follow a run that ends there with a cell that the byte has not
rising-apart : (x c : ℕ) (rs : List Run) → (cell_at rs x ≡ c → 1 ≤ c → ⊥) → Rising OFFSET_MAX x 0 rs → Rising OFFSET_MAX x c rs
rising-apart x c [] h g = tt
rising-apart x c (r ∷ rs) h g =
    let n = g.0 in
    let longest : r.start ≡ x → r.cell ≡ c → ⊥ =
    λ p q. h (cell-first r rs x (omega arith) (omega arith) ∙ q) (omega arith) in
    (record { rising = n.rising; filled = n.filled; inside = n.inside; written = n.written; longest = longest }, g.1)

-- a part of length 0 is no run
pub part_none : (s l c : ℕ) → l ≡ 0 → part_of s l c ≡ []
unfolding part_of
part_none s l c e = rw (eq-eqb l 0 e)

-- A part of another length is one run.
pub part-some : (s l c : ℕ) → 1 ≤ l → part_of s l c ≡ run_of s l c ∷ []
unfolding part_of
part-some s l c h = rw (ne_eqb l 0 (λ e. omega arith))

-- ---- The first i runs of a list behind a run p

-- the others may follow the last of them
pub rising-at : (p : Run) (rs : List Run) → Rising OFFSET_MAX (end_of p) p.cell rs → (i : ℕ) → i ≤ length rs →
    Rising OFFSET_MAX (end_of (get_or (p ∷ rs) i (run_of 0 0 0))) (get_or (p ∷ rs) i (run_of 0 0 0)).cell (drop i rs)
rising-at p rs g zero h = g
rising-at p [] g (suc i) h = absurd (omega arith)
rising-at p (r ∷ rs) g (suc i) h = rising-at r rs g.1 i (omega arith)

-- Runs that may follow the last of the first i runs may follow all i.
follow-at : (p : Run) (rs : List Run) → Rising OFFSET_MAX (end_of p) p.cell rs → (i : ℕ) → i ≤ length rs → (qs : List Run) →
    Rising OFFSET_MAX (end_of (get_or (p ∷ rs) i (run_of 0 0 0))) (get_or (p ∷ rs) i (run_of 0 0 0)).cell qs →
    Rising OFFSET_MAX (end_of p) p.cell (take i rs ++ qs)
follow-at p rs g zero h qs k = k
follow-at p [] g (suc i) h qs k = absurd (omega arith)
follow-at p (r ∷ rs) g (suc i) h qs k = (g.0, follow-at r rs g.1 i (omega arith) qs k)

-- the last of them ends last
end-at : (p : Run) (rs : List Run) → Rising OFFSET_MAX (end_of p) p.cell rs → (i : ℕ) → i ≤ length rs →
    end_of p ≤ end_of (get_or (p ∷ rs) i (run_of 0 0 0))
end-at p rs g zero h = omega arith
end-at p [] g (suc i) h = absurd (omega arith)
end-at p (r ∷ rs) g (suc i) h = let n = g.0 in omega (arith, end-at r rs g.1 i (omega arith))

-- From the end of the last of the first i runs on, bytes have the cells of the runs behind.
ends_at : (p : Run) (rs : List Run) → Rising OFFSET_MAX (end_of p) p.cell rs → (i : ℕ) → i ≤ length rs → (qs : List Run) (b : ℕ) →
    end_of (get_or (p ∷ rs) i (run_of 0 0 0)) ≤ b → cell_at (take i rs ++ qs) b ≡ cell_at qs b
ends_at p rs g zero h qs b k = refl
ends_at p [] g (suc i) h qs b k = absurd (omega arith)
ends_at p (r ∷ rs) g (suc i) h qs b k =
    cell-behind r (take i rs ++ qs) b (omega (arith, end-at r rs g.1 i (omega arith))) ∙ ends_at r rs g.1 i (omega arith) qs b k

-- ---- Runs in order

-- the run before run i + 1 is run i
pub before-next : (rs : List Run) (i : ℕ) → run_before rs (i + 1) ≡ run_no rs i
before-next rs i = rw add-one

-- The run before run i is run i - 1.
pub before_last : (rs : List Run) (i : ℕ) → 0 < i → run_before rs i ≡ run_no rs (i - 1)
before_last rs i h = let e : i ≡ suc (i - 1) = omega arith in ap (run_before rs) e

module _ (rs : List Run) (g : Rising OFFSET_MAX 0 0 rs) where
  -- what run i keeps behind the run before it
  pub next-at : (i : ℕ) → i < length rs →
      Next OFFSET_MAX (end_of (run_before rs i)) (run_before rs i).cell (run_no rs i)
      × Rising OFFSET_MAX (end_of (run_no rs i)) (run_no rs i).cell (drop (suc i) rs)
  next-at i h = rw (drop-cons rs i (run_of 0 0 0) h) at (rising-at (run_of 0 0 0) rs g i (omega arith))

  -- from where the run before run i ends on, the runs from run i on say all
  pub same-behind : (i : ℕ) → i ≤ length rs → (b : ℕ) → end_of (run_before rs i) ≤ b → cell_at (drop i rs) b ≡ cell_at rs b
  same-behind i h b k = sym (ends_at (run_of 0 0 0) rs g i h (drop i rs) b k) ∙ ap (λ (qs : List Run). cell_at qs b) (take-append-drop i rs)

  -- The bytes of run i have its cell.
  cell_in_lem : (i : ℕ) → i < length rs → (b : ℕ) → (run_no rs i).start ≤ b → b < end_of (run_no rs i) → cell_at rs b ≡ (run_no rs i).cell
  cell_in_lem i h b l k =
      let n = (next-at i h).0 in
      sym (same-behind i (omega arith) b (omega arith))
      ∙ ap (λ (qs : List Run). cell_at qs b) (drop-cons rs i (run_of 0 0 0) h)
      ∙ cell-first (run_no rs i) (drop (suc i) rs) b l k

-- ---- The side before a range

module _ {rs : List Run} (g : Rising OFFSET_MAX 0 0 rs) {start cell i : ℕ} (m : Met rs start cell i) where
  -- the first i runs with a part of run i behind them, none or one run, before the range, which begins at x
  left_by : (ps : List Run) (x d : ℕ) → x ≤ start → end_of (run_before rs i) ≤ x → (d ≡ cell → 1 ≤ cell → ⊥) →
      ((qs : List Run) → Rising OFFSET_MAX x d qs → Rising OFFSET_MAX (end_of (run_before rs i)) (run_before rs i).cell (ps ++ qs)) →
      ((qs : List Run) (b : ℕ) → x ≤ b → cell_at (ps ++ qs) b ≡ cell_at qs b) →
      ((qs : List Run) (b : ℕ) → b < x → cell_at qs b ≡ 0 → cell_at (ps ++ qs) b ≡ cell_at (drop i rs) b) →
      ((b : ℕ) → x ≤ b → b < start → cell_at rs b ≡ cell) → Front rs start cell (take i rs ++ ps) x
  left_by ps x d near passed apart follow ends same join =
      record {
        last = d;
        apart = apart;
        near = near;
        follow = λ qs k. rw append_assoc (follow-at (run_of 0 0 0) rs g i m.most (ps ++ qs) (follow qs k));
        ends = λ qs b k. rw append_assoc (ends_at (run_of 0 0 0) rs g i m.most (ps ++ qs) b (omega arith) ∙ ends qs b k);
        same = λ qs b k z.
            rw append_assoc
            (cell_same (take i rs) (ps ++ qs) (drop i rs) b (same qs b k z) ∙ ap (λ (l : List Run). cell_at l b) (take-append-drop i rs));
        join = join;
      }

  -- nothing of run i is left before the range, which begins at x
  left-whole : (x : ℕ) → x ≤ start → end_of (run_before rs i) ≤ x → (end_of (run_before rs i) ≡ x → (run_before rs i).cell ≡ cell → 1 ≤ cell → ⊥) →
      ((b : ℕ) → b < x → cell_at (drop i rs) b ≡ 0) → ((b : ℕ) → x ≤ b → b < start → cell_at rs b ≡ cell) →
      Front rs start cell (take i rs ++ part_of 0 0 0) x
  left-whole x near passed apart free join = rw (part_none 0 0 0 refl) (go (dec_lt (end_of p) x))
    where
      p : Run
      p = run_before rs i

      front : (d : ℕ) → (d ≡ cell → 1 ≤ cell → ⊥) → (end_of p ≡ x → p.cell ≡ d) → Front rs start cell (take i rs ++ []) x
      front d a e =
          left_by [] x d near passed a (λ qs. rising-from (end_of p) p.cell x d qs passed e) (λ qs b k. refl) (λ qs b k z. z ∙ sym (free b k)) join

      go : Dec (end_of p < x) → Front rs start cell (take i rs ++ []) x
      go (yes l) = front 0 (λ a b. omega arith) (λ e. absurd (omega arith))
      go (no l) = front p.cell (apart (omega arith)) (λ e. refl)

  -- no run is met
  pub left-none : ((b : ℕ) → b < start → cell_at (drop i rs) b ≡ 0) → Front rs start cell (take i rs ++ part_of 0 0 0) start
  left-none free = left-whole start (omega arith) m.passed m.apart free (λ b l k. absurd (omega arith))

  module _ (h : i < length rs) where
    -- run i
    abbrev here : Run
    here = run_no rs i

    -- what the runs from it on say
    from-here : (b : ℕ) → cell_at (drop i rs) b ≡ cell_at (here ∷ drop (suc i) rs) b
    from-here b = ap (λ (qs : List Run). cell_at qs b) (drop-cons rs i (run_of 0 0 0) h)

    -- the bytes before it are free by them
    free-here : (x b : ℕ) → x ≤ here.start → b < x → cell_at (drop i rs) b ≡ 0
    free-here x b l k =
        from-here b
        ∙ mean-first OFFSET_MAX (end_of (run_before rs i)) (run_before rs i).cell here (drop (suc i) rs) (next-at rs g i h) b (omega arith)

    -- Run i starts with the range or later: nothing stays before the range.
    pub left-clear : start ≤ here.start → Front rs start cell (take i rs ++ part_of 0 0 0) start
    left-clear l = left-none (λ b k. free-here start b l k)

    -- Run i starts earlier, with the range's cell: the range begins with the run.
    pub left_join : here.start < start → here.cell ≡ cell → Front rs start cell (take i rs ++ part_of 0 0 0) here.start
    left_join l e =
        let n = (next-at rs g i h).0 in
        left-whole here.start (omega arith) n.rising (λ p q o. n.longest (sym p) (e ∙ sym q)) (λ b k. free-here _ b (omega arith) k)
        (λ b k o. cell_in_lem rs g i h b k (omega (arith, m.meets h)) ∙ e)

    -- the part of it before the range
    abbrev part : Run
    part = run_of here.start (start - here.start) here.cell

    -- what that part says before the range, with runs behind it that say nothing there
    part-cell : here.start < start → (qs : List Run) (b : ℕ) → b < start → cell_at qs b ≡ 0 → Dec (b < here.start) →
        cell_at (part ∷ qs) b ≡ cell_at (drop i rs) b
    part-cell l qs b k z (yes o) = cell-before part qs b o ∙ z ∙ sym (free-here _ b (omega arith) o)
    part-cell l qs b k z (no o) =
        cell-first part qs b (omega arith) (omega arith)
        ∙ sym (from-here b ∙ cell-first here (drop (suc i) rs) b (omega arith) (omega (arith, m.meets h)))

    -- Run i starts earlier, with another cell: its part before the range stays.
    pub left-rest : here.start < start → (here.cell ≡ cell → ⊥) →
        Front rs start cell (take i rs ++ part_of here.start (start - here.start) here.cell) start
    left-rest l e =
        let n = (next-at rs g i h).0 in
        let meets = m.meets h in
        let end : end_of part ≡ start = omega arith in
        let next : Next OFFSET_MAX (end_of (run_before rs i)) (run_before rs i).cell part =
        record { rising = n.rising; filled = omega arith; inside = omega (arith, n.inside); written = n.written; longest = n.longest } in
        rw (part-some here.start (start - here.start) here.cell (omega arith))
        (left_by (part ∷ []) start here.cell (omega arith) m.passed (λ q o. e q) (λ qs k. (next, rw end k)) (λ qs b k. cell-behind part qs b (omega arith))
        (λ qs b k z. part-cell l qs b k z (dec_lt b here.start)) (λ b k o. absurd (omega arith)))

-- ---- The side behind a range

module _ {rs : List Run} (g : Rising OFFSET_MAX 0 0 rs) {first end cell i : ℕ} (m : Behind rs first end cell i) (t : end ≤ OFFSET_MAX) where
  -- nothing of the run before run i is left behind the range
  right-clear : end_of (run_before rs i) ≤ end → Back rs end cell (part_of 0 0 0 ++ drop i rs) end
  right-clear l =
      rw (part_none 0 0 0 refl)
      (record {
        far = omega arith;
        inside = t;
        in_order = m.apart;
        same = λ b k. same-behind rs g i m.most b (omega arith);
        join = λ b k o. absurd (omega arith);
      })

  -- no run is met
  pub right-none : i ≤ first → end_of (run_before rs first) ≤ end → Back rs end cell (part_of 0 0 0 ++ drop i rs) end
  right-none h l = let e : i ≡ first = omega (arith, m.low) in right-clear (rw e l)

  module _ (h : first < i) where
    -- run i - 1, the last run met
    abbrev final : Run
    final = run_no rs (i - 1)

    -- Run i - 1 is the run before run i.
    final-at : run_before rs i ≡ final
    final-at = before_last rs i (omega arith)

    -- The bytes of the last run met that lie behind the range have its cell.
    final-in : (b : ℕ) → end ≤ b → b < end_of final → cell_at rs b ≡ final.cell
    final-in b l k =
        let low : final.start ≤ end = rw final-at at (m.reached h) in
        cell_in_lem rs g (i - 1) (omega (arith, m.most)) b (omega arith) k

    -- The last run met may follow the run before it, and the runs behind it may follow it.
    final-next :
        Next OFFSET_MAX (end_of (run_before rs (i - 1))) (run_before rs (i - 1)).cell final × Rising OFFSET_MAX (end_of final) final.cell (drop i rs)
    final-next = let e : suc (i - 1) ≡ i = omega arith in rw e at (next-at rs g (i - 1) (omega (arith, m.most)))

    -- From the end of the last run met on, the runs behind it say all.
    final-same : (b : ℕ) → end_of final ≤ b → cell_at (drop i rs) b ≡ cell_at rs b
    final-same b l = same-behind rs g i m.most b (rw final-at l)

    -- The last run met ends with the range or earlier: nothing stays behind the range.
    pub right-done : end_of final ≤ end → Back rs end cell (part_of 0 0 0 ++ drop i rs) end
    right-done l = right-clear (rw final-at l)

    -- The last run met ends later, with the range's cell: the range ends with the run.
    pub right-join : end < end_of final → final.cell ≡ cell → Back rs end cell (part_of 0 0 0 ++ drop i rs) (end_of final)
    right-join l e =
        rw (part_none 0 0 0 refl)
        (record {
          far = omega arith;
          inside = final-next.0.inside;
          in_order = rw e at final-next.1;
          same = final-same;
          join = λ b k o. final-in b k o ∙ e;
        })

    -- the part of it behind the range
    abbrev rest_part : Run
    rest_part = run_of end (end_of final - end) final.cell

    -- what that part and the runs behind it say
    rest-cell : (b : ℕ) → end ≤ b → Dec (b < end_of final) → cell_at (rest_part ∷ drop i rs) b ≡ cell_at rs b
    rest-cell b k (yes o) = cell-first rest_part (drop i rs) b k (omega arith) ∙ sym (final-in b k o)
    rest-cell b k (no o) = cell-behind rest_part (drop i rs) b (omega arith) ∙ final-same b (omega arith)

    -- The last run met ends later, with another cell: its part behind the range stays.
    pub right-rest : end < end_of final → (final.cell ≡ cell → ⊥) → Back rs end cell (part_of end (end_of final - end) final.cell ++ drop i rs) end
    right-rest l e =
        let n = final-next.0 in
        let o : end_of rest_part ≡ end_of final = omega arith in
        let next : Next OFFSET_MAX end cell rest_part =
        record { rising = omega arith; filled = omega arith; inside = omega (arith, n.inside); written = n.written; longest = λ p q. e q } in
        rw (part-some end (end_of final - end) final.cell (omega arith))
        (record {
          far = omega arith;
          inside = t;
          in_order = (next, rw o final-next.1);
          same = λ b k. rest-cell b k (dec_lt b (end_of final));
          join = λ b k o. absurd (omega arith);
        })

-- ---- The first run met, and the first behind

module _ {rs : List Run} {start cell i : ℕ} (h : i ≤ length rs) where
  -- the run before it ends at the start: that one is
  pub met_last : Rising OFFSET_MAX 0 0 rs → 0 < i → end_of (run_no rs (i - 1)) ≡ start → Met rs start cell (i - 1)
  met_last g o e =
      let n = (next-at rs g (i - 1) (omega arith)).0 in
      let k : end_of (run_before rs (i - 1)) < start = omega (arith, n.rising, n.filled) in
      record { most = omega arith; passed = omega arith; apart = λ p q w. omega arith; meets = λ w. omega arith }

-- the runs from `first` to run i are met
pub record Reaching (rs : List Run) (first end i : ℕ) : Type 0 where
  pub low : first ≤ i
  pub within : i ≤ length rs
  pub reached : first < i → (run_before rs i).start ≤ end

module _ {rs : List Run} {first end i : ℕ} (k : Reaching rs first end i) where
  -- run i is not, or there is none
  pub reach_stop : Rising OFFSET_MAX 0 0 rs → (cell : ℕ) → (i < length rs → end ≤ (run_no rs i).start) →
      (i < length rs → (run_no rs i).start ≡ end → (run_no rs i).cell ≡ cell → ⊥) → Behind rs first end cell i
  reach_stop g cell f a = record { low = k.low; most = k.within; reached = k.reached; apart = go (dec_lt i (length rs)) }
    where
      go : Dec (i < length rs) → Rising OFFSET_MAX end cell (drop i rs)
      go (yes h) =
          let n = next-at rs g i h in
          rw (drop-cons rs i (run_of 0 0 0) h)
          (record { rising = f h; filled = n.0.filled; inside = n.0.inside; written = n.0.written; longest = a h }, n.1)
      go (no h) = let o : length rs ≤ i = omega arith in rw (drop_of_length-le rs o) tt

-- ---- A range between its sides

module _ (rs : List Run) (start end cell : ℕ) (wide : start < end) {front back : List Run} {from to : ℕ} (a : Front rs start cell front from)
    (z : Back rs end cell back to) {n : ℕ} (clear : cell ≡ 0 → n ≡ 0) (fill : 1 ≤ cell → n ≡ to - from) where
  -- what every byte is to hold
  abbrev goal : Bytes
  goal = overwrite start (end - start) cell (cell_at rs)

  -- from `from` up to `to` all bytes are to have the range's cell
  goal_cell : (b : ℕ) → from ≤ b → b < to → goal b ≡ cell
  goal_cell b l k = go (dec_lt b start) (dec_lt b end)
    where
      go : Dec (b < start) → Dec (b < end) → goal b ≡ cell
      go (yes h) d = over-before start (end - start) cell (cell_at rs) b h ∙ a.join b l h
      go (no h) (yes d) = over-in start (end - start) cell (cell_at rs) b (omega arith) (omega arith)
      go (no h) (no d) = over-behind start (end - start) cell (cell_at rs) b (omega arith) ∙ z.join b (omega arith) k

  -- from `to` on they keep their cells
  goal_behind : (b : ℕ) → to ≤ b → goal b ≡ cell_at back b
  goal_behind b l = over-behind start (end - start) cell (cell_at rs) b (omega (arith, z.far)) ∙ sym (z.same b l)

  -- the runs behind the range are those of what every byte is to hold
  laid-back : rest OFFSET_MAX goal to ≡ back
  laid-back =
      rest-unique OFFSET_MAX goal to back z.inside (rising-earlier OFFSET_MAX to cell to back (omega arith) z.in_order)
      (λ b l k. sym (goal_behind b l))

  -- With the range, none where its cell is 0, they are those from `from` on.
  laid-range : rest OFFSET_MAX goal from ≡ part_of from n cell ++ back
  laid-range = go (ℕ_discrete cell 0)
    where
      wider : from < to
      wider = omega (arith, a.near, z.far, wide)

      go : Dec (cell ≡ 0) → rest OFFSET_MAX goal from ≡ part_of from n cell ++ back
      go (yes e) =
          rw (part_none from n cell (clear e))
          (rest-skip OFFSET_MAX goal from to (omega (arith, wider)) z.inside (λ b l k. goal_cell b l k ∙ e) ∙ laid-back)
      go (no e) =
          let s : to - from ≡ n = sym (fill (omega arith)) in
          rw (part-some from n cell (omega (arith, wider)))
          (close OFFSET_MAX goal from to to cell wider (omega arith) z.inside e goal_cell (λ b l k. absurd (omega arith))
          (λ p l q. mean-end OFFSET_MAX to cell back z.in_order (omega arith) (sym (goal_behind to (omega arith)) ∙ q))
          ∙ put_some from to cell (rest OFFSET_MAX goal to) e
          ∙ (λ i. run_of from (s i) cell ∷ laid-back i))

  -- The runs before the range, the range and the runs behind it are the runs of what every byte is to hold.
  pub laid_runs : front ++ (part_of from n cell ++ back) ≡ runs_of goal
  unfolding runs_of
  laid_runs =
      ap (λ (l : List Run). front ++ l) (sym laid-range)
      ∙ unique_from OFFSET_MAX 0 goal (front ++ more) (a.follow more (rising-apart from a.last more apart order)) (λ b l k. go b k (dec_lt b from))
    where
      more : List Run
      more = rest OFFSET_MAX goal from

      order : Rising OFFSET_MAX from 0 more
      order = rest-rising OFFSET_MAX goal from (omega (arith, a.near, z.far, z.inside, wide))

      mean : (b : ℕ) → from ≤ b → b < OFFSET_MAX → cell_at more b ≡ goal b
      mean = rest-mean OFFSET_MAX goal from

      apart : cell_at more from ≡ a.last → 1 ≤ a.last → ⊥
      apart p l =
          let w : from < to = omega (arith, a.near, z.far, wide) in
          let e : a.last ≡ cell = sym p ∙ mean from (omega arith) (omega (arith, z.inside)) ∙ goal_cell from (omega arith) w in
          a.apart e (omega arith)

      go : (b : ℕ) → b < OFFSET_MAX → Dec (b < from) → cell_at (front ++ more) b ≡ goal b
      go b k (yes h) =
          a.same more b h (mean-before OFFSET_MAX from 0 more order b h) ∙ sym (over-before start (end - start) cell (cell_at rs) b (omega (arith, a.near)))
      go b k (no h) = a.ends more b (omega arith) ∙ mean b (omega arith) k
