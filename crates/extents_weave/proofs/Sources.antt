-- What a look tells a walk: its source from the run looked at on.
use Rattle.std.proofs.Common.{ℕ, ◌*◌, ◌-◌, ◌≤◌, ◌<◌, arith, ◌≡◌, refl, ap, ◌∙◌, Bool, List, length, drop, length-drop}
use Rattle.rows.specs.Limits.{OFFSET_MAX}
use Rattle.extents_meaning.specs.Cells.{Bytes}
use Rattle.extents_meaning.specs.Runs.{Run, cell_at, Lawful}
use Rattle.extents_meaning.specs.Maps.{runs, space_in, map_of, lawful, bytes_of}
use Rattle.extents_meaning.proofs.Trips.{lawful-map, map_lawful, map_back}
use Rattle.extents_weave_meaning.proofs.InPlace.{Rewriting}
use Rattle.extents_map.specs.Cursors.{ahead, Part, Passing}

module _ (space all : ℕ) (f g : Bytes) (need : ℕ → Bool) (xs : List ℕ) (x q i a e c : ℕ) (w : Rewriting space OFFSET_MAX all f g need xs x q i a e c) where
  here : Lawful w.src
  here = record { in_order = w.order; numbered = w.numbered }

  fit : length w.src ≤ space - i
  fit = let p = w.passed in let r = w.room in omega arith

  -- A look may start at the source.
  pub source_part : x < OFFSET_MAX → Part xs i x
  source_part below =
      record {
        fits = omega (arith, w.passed, w.room, w.size);
        law = ap lawful w.unread ∙ map_lawful (space - i) w.src here fit;
        below = below;
      }

  source_runs : ahead xs i ≡ w.src
  source_runs = ap runs w.unread ∙ map_back (space - i) w.src here fit

  -- the bytes that it speaks of are the source's
  pub source_means : (b : ℕ) → x ≤ b → b < OFFSET_MAX → bytes_of (drop (4 * i) xs) b ≡ f b
  source_means b l h = ap (λ (rs : List Run). cell_at rs b) source_runs ∙ w.means b l h

  -- from its cursor on
  pub rewrite_at : (k : ℕ) → Passing xs i x k → Rewriting space OFFSET_MAX all f g need xs x q k a e c
  rewrite_at k p =
      let m = lawful-map (drop (4 * k) xs) p.law in
      let s = w.size in
      let n : space_in (drop (4 * k) xs) ≡ space - k = omega (arith, length-drop (4 * k) xs, s) in
      let pa = w.passed in
      let co = p.count in
      record {
        size = w.size;
        room = w.room;
        cell = w.cell;
        low = w.low;
        high = w.high;
        done = w.done;
        many = w.many;
        front = w.front;
        count = w.count;
        whole = w.whole;
        src = ahead xs k;
        unread = m.whole ∙ ap (λ (j : ℕ). map_of j (ahead xs k)) n;
        order = m.lawful-runs.in_order;
        numbered = m.lawful-runs.numbered;
        means = λ b l h. p.same b l ∙ source_means b l h;
        passed = omega (arith, co, ap length source_runs, pa);
      }

  pub rewrite_src : (k : ℕ) (p : Passing xs i x k) → (rewrite_at k p).src ≡ ahead xs k
  unfolding rewrite_at
  rewrite_src k p = refl
