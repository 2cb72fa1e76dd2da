-- A map rewritten in place: the kept runs, where they move, and what the second walk leaves.
use Rattle.std.proofs.Common.{ℕ, ◌+◌, ◌*◌, ◌-◌, ◌/◌, ◌≤◌, ◌<◌, max, arith, ◌≡◌, refl, sym, ap, ◌∙◌, inl, true, false, List, ◌++◌, append_assoc, length, take, drop, replicate, length-take-le, drop_at, drop-drop}
use lib.ListN.{length-replicate, replicate-append-replicate}
use lib.Seq.{slice}
use borrow.Rule.Slice.PartMut.{put_mid}
use Rattle.rows.specs.Limits.{OFFSET_MAX}
use Rattle.extents_meaning.specs.Cells.{Bytes}
use Rattle.extents_meaning.specs.Runs.{Run, cell_at, runs_of, Lawful}
use Rattle.extents_meaning.specs.Maps.{fours, map_of, map_for, space_in, runs, bytes_of, lawful, part_at, with_part}
use Rattle.extents_meaning.specs.Points.{starts}
use Rattle.extents_meaning.proofs.Longest.{Fine, runs-mean, runs-back, runs-lawful, lawful-fine}
use Rattle.extents_meaning.proofs.Points.{count-starts}
use Rattle.extents_meaning.proofs.Trips.{Map, lawful-map, map_lawful, map_back}
use Rattle.extents_map.specs.Cursors.{ahead}
use Rattle.extents_map.specs.Mixes.{Mix, becomes_in}
use Rattle.extents_pair.proofs.Parts.{lent, part_length}
use Rattle.extents_weave_meaning.specs.Kept.{Results, held, kept, Lasting}
use Rattle.extents_weave_meaning.proofs.Kept.{pack_room}
use Rattle.extents_weave_meaning.proofs.Weave.{roomy_more, few-kept, weave_ready, weave_end, kept_either}
use Rattle.extents_weave.specs.Rewrites.{results_in, woven_in, source_in, source_end, runs_written, OnlyPart, Weavable, Ready, Rewritten}
use Rattle.extents_weave.proofs.Homes.{only-length, only-apart, only-with, only_then, home-part, home-only}
use Rattle.extents_weave.proofs.Lasting.{mix-lasting}

-- of some zeros the later ones
drop_zeros : (k n : ℕ) → k ≤ n → ◌≡◌ {A = List ℕ} (drop k (replicate n 0)) (replicate (n - k) 0)
drop_zeros k n h =
    let e : n ≡ k + (n - k) = omega arith in
    ap (λ (j : ℕ). drop k (replicate j 0)) e
    ∙ ap (drop k) (sym (replicate-append-replicate k (n - k) 0))
    ∙ drop_at (replicate k 0) (replicate (n - k) 0) k (length-replicate k 0)

module _ {size t o : ℕ} {mix : Mix} {room : ℕ} {xs : List ℕ} (p : Weavable size t o mix room xs) where
  -- the map, its bytes, what they become, its space, the kept runs and those of the result
  abbrev part : List ℕ
  part = part_at t size xs

  abbrev f : Bytes
  f = bytes_of part

  abbrev m : Results
  m = results_in size t o mix xs

  abbrev space : ℕ
  space = size / 4

  abbrev keeps : List Run
  keeps = runs_of (kept OFFSET_MAX m f)

  abbrev woven : List Run
  woven = runs_of (woven_in size t o mix xs)

  whole : Map part
  whole = lawful-map part p.law

  size_is : (length part ≡ size) × (4 * space ≡ size)
  size_is = let l = part_length t size xs p.two.target_within in (l, omega (arith, whole.fours-in, l))

  lasting : Lasting m
  lasting = mix-lasting mix (bytes_of (part_at o size xs))

  -- the first walk may start
  pub keep-ready : Ready size t o 0 mix true xs
  unfolding runs_of
  keep-ready =
      record {
        two = p.two;
        order = p.order;
        fits = omega arith;
        law = p.law;
        room =
            roomy_more OFFSET_MAX (starts OFFSET_MAX 0 0 f) (source_end size t o mix xs 0) f (held m f)
            (omega (arith, count-starts OFFSET_MAX 0 f, ap length (runs-back (runs part) whole.lawful-runs))) (pack_room OFFSET_MAX m f);
      }

  -- ---- The kept runs

  keeps_lawful : Lawful keeps
  keeps_lawful =
      runs-lawful (kept OFFSET_MAX m f) (λ b h. kept_either Fine OFFSET_MAX m f (inl refl) (lawful-fine (runs part) whole.lawful-runs) b h)

  keeps_few : length keeps ≤ room
  unfolding runs_of
  keeps_few = omega (arith, few-kept OFFSET_MAX m f lasting, p.few)

  module _ {all place k : ℕ} {ys : List ℕ} (a : all ≡ length (runs (take (t + size - t) (drop t xs)))) (e : place ≡ max all room)
      (r : Rewritten size t o 0 mix true xs k ys) where
    all-is : all ≡ length (runs part)
    all-is = a ∙ ap (λ (l : List ℕ). length (runs l)) (lent t size xs)

    -- they fit up to the place, which is in the map
    pub place-fits : (k ≤ place) × (4 * place ≤ size)
    place-fits =
        let s = size_is in
        let n : space_in part ≡ space = ap (λ (j : ℕ). j / 4) s.0 in
        (omega (arith, r.count, keeps_few, e), omega (arith, all-is, whole.fit, n, s.1, p.fit, e))

    -- The kept runs can be moved up.
    pub move-fits : k * 4 + (place - k) * 4 ≤ length (take (t + size - t) (drop t ys))
    move-fits = omega (arith, place-fits.0, place-fits.1, ap length (lent t size ys), r.only.filled)

    -- the run from which the second walk reads
    abbrev from : ℕ
    from = place - k

    -- Behind the place all is 0.
    zeros : drop (4 * place) (part_at t size ys) ≡ replicate (4 * (space - place)) 0
    zeros =
        let i : 4 * place ≡ 4 * all + 4 * (place - all) = omega (arith, e) in
        let j : 4 * (space - all) - 4 * (place - all) ≡ 4 * (space - place) = omega (arith, e, place-fits.1) in
        let s : all ≡ source_end size t o mix xs 0 = omega (arith, all-is) in
        ap (λ (n : ℕ). drop n (part_at t size ys)) i
        ∙ sym (drop-drop (4 * (place - all)) (4 * all) (part_at t size ys))
        ∙ ap (drop (4 * (place - all))) (ap (λ (n : ℕ). drop (4 * n) (part_at t size ys)) s ∙ r.behind ∙ ap (λ (n : ℕ). replicate (4 * (space - n)) 0) (sym s))
        ∙ drop_zeros (4 * (place - all)) (4 * (space - all)) (omega (arith, e, place-fits.1))
        ∙ ap (λ (n : ℕ). replicate n 0) j

    -- ---- The kept runs moved up

    module _ {end : List ℕ} (l : length end ≡ length (take (t + size - t) (drop t ys)))
        (q : end ≡ take (0 + (place - k) * 4) (take (t + size - t) (drop t ys))
        ++ (slice 0 (k * 4) (take (t + size - t) (drop t ys)) ++ drop (k * 4 + (place - k) * 4) (take (t + size - t) (drop t ys)))) where
      -- the slice with them
      abbrev zs : List ℕ
      zs = put_mid t (t + size - t) ys end

      filled : length end ≡ size
      filled = l ∙ ap length (lent t size ys) ∙ r.only.filled

      -- only the map at t has changed
      only-moved : OnlyPart t size xs zs
      only-moved = home-only p.two.target_within r.only end filled

      pub moved_length : length zs ≡ length xs
      moved_length = only-length p.two.target_within only-moved

      moved : end ≡ take (4 * from) (part_at t size ys) ++ (fours keeps ++ replicate (4 * (space - place)) 0)
      moved =
          let b : 0 + (place - k) * 4 ≡ 4 * from = omega arith in
          let c : k * 4 ≡ 4 * k = omega arith in
          let d : k * 4 + (place - k) * 4 ≡ 4 * place = omega (arith, place-fits.0) in
          q
          ∙ (λ z. take (b z) (lent t size ys z) ++ (take (c z) (lent t size ys z) ++ drop (d z) (lent t size ys z)))
          ∙ (λ z. take (4 * from) (part_at t size ys) ++ (r.front z ++ zeros z))

      -- the second walk reads them from there
      source : drop (4 * from) (part_at t size zs) ≡ map_of (space - from) keeps
      unfolding map_of
      source =
          let n : space - place ≡ space - from - length keeps = omega (arith, r.count, place-fits.0) in
          ap (drop (4 * from)) (home-part p.two.target_within r.only end filled ∙ moved)
          ∙ drop_at (take (4 * from) (part_at t size ys)) (fours keeps ++ replicate (4 * (space - place)) 0) (4 * from)
          (length-take-le (4 * from) (part_at t size ys) (omega (arith, r.only.filled, place-fits.1)))
          ∙ ap (λ (j : ℕ). fours keeps ++ replicate (4 * j) 0) n

      keeps-fit : length keeps ≤ space - from
      keeps-fit = omega (arith, r.count, place-fits.0, place-fits.1, size_is.1)

      source_runs : ahead (part_at t size zs) from ≡ keeps
      source_runs = ap runs source ∙ map_back (space - from) keeps keeps_lawful keeps-fit

      other-is : part_at o size zs ≡ part_at o size xs
      other-is = only-apart p.two.target_within only-moved o p.two.apart

      -- what it reads and what it makes of that
      means : (b : ℕ) → b < OFFSET_MAX → source_in size t o mix zs from b ≡ kept OFFSET_MAX m f b
      means b h = ap (λ (rs : List Run). cell_at rs b) source_runs ∙ runs-mean (kept OFFSET_MAX m f) b h

      even : (b c : ℕ) → results_in size t o mix zs b c ≡ m b c
      even b c = λ z. becomes_in mix (bytes_of (other-is z)) b c

      -- The second walk may start.
      pub write-ready : Ready size t o from mix false zs
      unfolding runs_of
      write-ready =
          let n : length woven ≤ source_end size t o mix zs from = omega (arith, ap length source_runs, r.count, place-fits.0, p.few, e) in
          record {
            two = record {
              target_within = omega (arith, moved_length, p.two.target_within);
              other_in = omega (arith, moved_length, p.two.other_in);
              apart = p.two.apart;
              other_law = ap lawful other-is ∙ p.two.other_law;
            };
            order = p.order;
            fits = omega (arith, place-fits.1);
            law = ap lawful source ∙ map_lawful (space - from) keeps keeps_lawful keeps-fit;
            room =
                weave_ready OFFSET_MAX (source_end size t o mix zs from) m (results_in size t o mix zs) f (source_in size t o mix zs from) lasting n means even;
          }

      -- ---- The end

      module _ {n : ℕ} {us : List ℕ} (w : Rewritten size t o from mix false zs n us) where
        -- the second walk leaves the runs of the result
        written : runs_written size t o mix zs from false ≡ woven
        unfolding runs_of
        written = weave_end OFFSET_MAX m (results_in size t o mix zs) f (source_in size t o mix zs from) means even

        many : n ≡ length woven
        many = w.count ∙ ap length written

        only-woven : OnlyPart t size xs us
        only-woven = only_then p.two.target_within only-moved w.only

        -- What stands behind them can be cleared.
        pub clear-fits : (n * 4 ≤ place * 4) × (place * 4 ≤ length (take (t + size - t) (drop t us)))
        clear-fits =
            (omega (arith, many, p.few, e), omega (arith, place-fits.1, ap length (lent t size us), w.only.filled))

        behind : drop (4 * place) (part_at t size us) ≡ replicate (4 * (space - place)) 0
        behind =
            let i : source_end size t o mix zs from ≡ place = omega (arith, ap length source_runs, r.count, place-fits.0) in
            ap (λ (j : ℕ). drop (4 * j) (part_at t size us)) (sym i) ∙ w.behind ∙ ap (λ (j : ℕ). replicate (4 * (space - j)) 0) i

        module _ {last : List ℕ} (b : length last ≡ length (take (t + size - t) (drop t us)))
            (c : last ≡ (take (n * 4) (take (t + size - t) (drop t us)) ++ replicate (place * 4 - n * 4) 0) ++ drop (place * 4) (take (t + size - t) (drop t us))) where
          last-is : last ≡ map_for space (woven_in size t o mix xs)
          unfolding map_of
          last-is =
              let i : n * 4 ≡ 4 * n = omega arith in
              let j : place * 4 ≡ 4 * place = omega arith in
              let h : place * 4 - n * 4 + 4 * (space - place) ≡ 4 * (space - length woven) = omega (arith, many, place-fits.1, clear-fits.0, size_is.1) in
              c
              ∙ (λ z. (take (i z) (lent t size us z) ++ replicate (place * 4 - n * 4) 0) ++ drop (j z) (lent t size us z))
              ∙ (λ z. ((w.front ∙ ap fours written) z ++ replicate (place * 4 - n * 4) 0) ++ behind z)
              ∙ append_assoc (fours woven) (replicate (place * 4 - n * 4) 0) (replicate (4 * (space - place)) 0)
              ∙ ap (λ (l : List ℕ). fours woven ++ l)
              (replicate-append-replicate (place * 4 - n * 4) (4 * (space - place)) 0 ∙ ap (λ (v : ℕ). replicate v 0) h)

          last-filled : length last ≡ size
          last-filled = b ∙ ap length (lent t size us) ∙ w.only.filled

          -- The map at t is that of the result.
          pub woven-home : put_mid t (t + size - t) us last ≡ with_part t size (map_for space (woven_in size t o mix xs)) xs
          woven-home =
              only-with p.two.target_within (home-only p.two.target_within only-woven last last-filled)
              (home-part p.two.target_within only-woven last last-filled ∙ last-is)
