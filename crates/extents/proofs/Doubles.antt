-- What the entries for a view and the published map answer and leave, from what they test.
use Rattle.std.proofs.Common.{ℕ, ◌+◌, ◌*◌, ◌-◌, ◌≤◌, ◌<◌, arith, ◌≡◌, refl, sym, ap, ◌∙◌, inl, inr, Bool, true, false, cond, not, ◌&&◌, List, length, le-leb, leb-true, leb-false, eq-eqb, ne_eqb}
use native.Mathlib.Decide.{dec_lt}
use mathlib.Core.Bool.{and-false}
use lib.Dec.{leb}
use borrow.Author.Tests.{lt-leb, not-true, not-false}
use Rattle.rows.specs.Limits.{ROWS, OFFSET_MAX}
use Rattle.rows.specs.Questions.{first_no}
use Rattle.extents_meaning.specs.Cells.{Bytes, cell_of, number_in, mark_in, unpublished, cleared, overwrite, published, as_published, refreshed, in_range}
use Rattle.extents_meaning.specs.Runs.{Run, cell_at, runs_from, runs_of, pieces_of, Lawful}
use Rattle.extents_meaning.specs.Maps.{map_of, map_for, bytes_of, runs, lawful, map_at, with_map, listed_in}
use Rattle.extents_meaning.proofs.Longest.{same_from, runs_same, runs-back, runs-mean, runs-lawful, lawful-fine, Fine, pieces-same, range-behind}
use Rattle.extents_meaning.proofs.Trips.{lawful-map, length-map, map_lawful, map_back}
use Rattle.extents_meaning.proofs.Points.{runs_by}
use Rattle.extents_meaning.proofs.Overwrites.{over-before, over-behind}
use Rattle.extents_meaning.proofs.Sides.{with_length, at_same, at_other, with_same, with_comm, with_over}
use Rattle.extents.specs.Answers.{Done, Listed, Refused}
use Rattle.extents_map.specs.Mixes.{Publish, MarkPublished, Refresh, mixed, mix}
use Rattle.extents_meaning.specs.Pairs.{two_maps, view_of, below_of}
use Rattle.extents.specs.Entries.{or_refused, or_kept, listed_count, both_maps, publish_refusal, published_maps, PublishEntry, refresh_refusal, refreshed_maps, RefreshEntry, sync_refusal, synced_maps, SyncEntry, write_through_refusal, written_through_maps, WriteThroughEntry, read_refusal, ReadEntry}
use Rattle.extents.proofs.Entering.{accepted}
use Rattle.extents_pair.proofs.Pairing.{Told, two-told, two-apart, map_space, map_whole}

-- no byte lies in an empty range
empty_range : (b : ℕ) → in_range 0 0 b ≡ false
empty_range b = range-behind 0 0 b (omega arith)

-- a cell without its mark is as fine as before
clear_fine : (c : ℕ) → Fine c → Fine (cleared c)
clear_fine c (inl e) = inl (rw e)
clear_fine c (inr f) = inr (omega (arith, f.0), omega (arith, f.1))

-- ---- The mixes of the walk

-- whether the runs of a mix fit a space, said of the bytes that it means
module _ (f g : Bytes) (same : (b : ℕ) → f b ≡ g b) (space : ℕ) {r : Bool} (e : r ≡ leb (length (runs_from (4294967295 - 0) 0 f)) space) where
  told_of : r ≡ leb (length (runs_of g)) space
  unfolding runs_of
  told_of = e ∙ ap (λ (l : List Run). leb (length l) space) (same_from 4294967295 0 f g (λ b l k. same b))

  -- The runs fit.
  enough : not r ≡ false → length (runs_of g) ≤ space
  enough q = leb-true (length (runs_of g)) space (sym told_of ∙ not-false r q)

  -- The runs do not fit.
  short : not r ≡ true → space < length (runs_of g)
  short q = leb-false (length (runs_of g)) space (sym told_of ∙ not-true r q)

-- Without a range the mix is publishing.
pub mix-publish : (v w : Bytes) (b : ℕ) → mix Publish 0 0 0 v w b ≡ published v w b
unfolding mixed
mix-publish v w b = rw (empty_range b)

-- Without a range the mix is a refresh.
pub mix-refresh : (v w : Bytes) (b : ℕ) → mix Refresh 0 0 0 v w b ≡ refreshed v w b
unfolding mixed
mix-refresh v w b = refl

-- ---- Two lawful maps

module _ (space view below : ℕ) (xs : List ℕ) where
  abbrev own : Bytes
  own = view_of space view below xs

  abbrev base : Bytes
  base = below_of space view below xs

  module _ (two : two_maps space view below xs ≡ true) where
    told : Told space view below xs
    told = two-told space view below xs two

    apart : view ≡ below → ⊥
    apart = two-apart space view below xs two

    -- the maps that are there fit
    view-fits : length (runs_of own) ≤ space
    view-fits =
        let m = lawful-map (map_at space view xs) told.view-law in
        let e : length (runs_of own) ≡ length (runs (map_at space view xs)) = ap (λ (l : List Run). length l) (runs-back (runs (map_at space view xs)) m.lawful-runs) in
        omega (arith, e, m.fit, map_space space view xs told.view_within)

    below-fits : length (runs_of base) ≤ space
    below-fits =
        let m = lawful-map (map_at space below xs) told.below-law in
        let e : length (runs_of base) ≡ length (runs (map_at space below xs)) = ap (λ (l : List Run). length l) (runs-back (runs (map_at space below xs)) m.lawful-runs) in
        omega (arith, e, m.fit, map_space space below xs told.below_within)

    -- marked published, a view fits too
    pub as-published-fits : length (runs_of (as_published own)) ≤ space
    as-published-fits = omega (arith, runs_by cleared refl own, view-fits)

    -- the published map is what its bytes write
    pub below-whole : map_for space base ≡ map_at space below xs
    below-whole = map_whole space below xs told.below_within told.below-law

    -- maps put at both places, the view's last
    pub both-last : (v w : Bytes) → length (runs_of v) ≤ space → length (runs_of w) ≤ space →
        with_map space view (map_for space v) (with_map space below (map_for space w) xs) ≡ both_maps space view below xs v w
    unfolding both_maps
    both-last v w a b =
        with_comm space view below (map_for space v) (map_for space w) xs apart (length-map space (runs_of v) a) (length-map space (runs_of w) b) told.view_within
        told.below_within

    -- maps put at the view's place alone
    pub view-alone : (v : Bytes) → length (runs_of v) ≤ space → with_map space view (map_for space v) xs ≡ both_maps space view below xs v base
    unfolding both_maps
    view-alone v a =
        let ys = with_map space view (map_for space v) xs in
        let size = length-map space (runs_of v) a in
        let there : map_at space below ys ≡ map_for space base = at_other space view (map_for space v) xs size told.view_within below (λ q. apart (sym q)) ∙ sym below-whole in
        sym (with_same space below ys (omega (arith, told.below_within, with_length space view (map_for space v) xs size told.view_within)))
        ∙ ap (λ (m : List ℕ). with_map space below m ys) there

    -- where the other map was put, the view's map is as it was
    module _ (w : Bytes) (b : length (runs_of w) ≤ space) where
      abbrev shared : List ℕ
      shared = with_map space below (map_for space w) xs

      pub shared-length : length shared ≡ length xs
      shared-length = with_length space below (map_for space w) xs (length-map space (runs_of w) b) told.below_within

      pub shared_view : map_at space view shared ≡ map_at space view xs
      shared_view = at_other space below (map_for space w) xs (length-map space (runs_of w) b) told.below_within view apart

      pub shared-below : map_at space below shared ≡ map_for space w
      shared-below = at_same space below (map_for space w) xs (length-map space (runs_of w) b) told.below_within

  -- ---- Publishing

  publish_asks : publish_refusal space view below xs ≡
      cond (two_maps space view below xs) (cond (leb (length (runs_of (as_published own))) space && leb (length (runs_of (published own base))) space) 0 16) 13
  unfolding publish_refusal first_no
  publish_asks = refl

  -- Publishing refuses unlawful maps with 13.
  pub publish_unlawful : two_maps space view below xs ≡ false → publish_refusal space view below xs ≡ 13
  publish_unlawful e = publish_asks ∙ rw e

  -- whether the published map fits
  module _ {r : Bool} (e : r ≡ leb (length (runs_from (4294967295 - 0) 0 (mix Publish 0 (0 - 0) 0 own base))) space) where
    -- The test passed: the published map fits.
    pub publish-enough : not r ≡ false → length (runs_of (published own base)) ≤ space
    publish-enough = enough (mix Publish 0 0 0 own base) (published own base) (mix-publish own base) space e

    -- The test failed: the published map does not fit.
    pub publish-short : not r ≡ true → space < length (runs_of (published own base))
    publish-short = short (mix Publish 0 0 0 own base) (published own base) (mix-publish own base) space e

  sync_asks : sync_refusal space view below xs ≡
      cond (two_maps space view below xs)
      (cond (leb (length (runs_of (refreshed (as_published own) (published own base)))) space && leb (length (runs_of (published own base))) space) 0 16) 13
  unfolding sync_refusal first_no
  sync_asks = refl

  -- A sync refuses unlawful maps with 13.
  pub sync_unlawful : two_maps space view below xs ≡ false → sync_refusal space view below xs ≡ 13
  sync_unlawful e = sync_asks ∙ rw e

  module _ (two : two_maps space view below xs ≡ true) where
    -- A sync refuses with 16 where the published map does not fit.
    pub sync-full : space < length (runs_of (published own base)) → sync_refusal space view below xs ≡ 16
    sync-full h = sync_asks ∙ rw (two, lt-leb (length (runs_of (published own base))) space h, and-false)

    -- Publishing refuses with 16 where the published map does not fit.
    pub publish-full : space < length (runs_of (published own base)) → publish_refusal space view below xs ≡ 16
    publish-full h = publish_asks ∙ rw (two, lt-leb (length (runs_of (published own base))) space h, and-false)

    module _ (fit : length (runs_of (published own base)) ≤ space) where
      -- Publishing is accepted where the published map fits.
      pub publish-fits : publish_refusal space view below xs ≡ 0
      publish-fits = publish_asks ∙ rw (two, le-leb (length (runs_of (as_published own))) space (as-published-fits two), le-leb (length (runs_of (published own base))) space fit)

      -- what sharing leaves, said by publishing
      same_runs : runs_of (mix Publish 0 0 0 own base) ≡ runs_of (published own base)
      same_runs = runs_same (mix Publish 0 0 0 own base) (published own base) (λ b l. mix-publish own base b)

      -- The mix that `share` writes fits where the published map does.
      pub share-fits : length (runs_of (mix Publish 0 (0 - 0) (cell_of 0 0) own base)) ≤ space
      share-fits = omega (arith, fit, ap (λ (l : List Run). length l) same_runs)

      module _ {ys : List ℕ} (y : ys ≡ with_map space below (map_for space (mix Publish 0 (0 - 0) (cell_of 0 0) own base)) xs) where
        -- After `share` the slice holds the published map in its place.
        pub after-share : ys ≡ shared two (published own base) fit
        after-share = y ∙ ap (λ (l : List Run). with_map space below (map_of space l) xs) same_runs

        -- `share` leaves the view as it was.
        view-after : map_at space view ys ≡ map_at space view xs
        view-after = ap (map_at space view) after-share ∙ shared_view two (published own base) fit

        -- The steps of publishing meet the entry.
        pub publish-done : {zs : List ℕ} → zs ≡ with_map space view (map_for space (as_published (bytes_of (map_at space view ys)))) ys →
            PublishEntry space view below xs Done zs
        unfolding published_maps
        publish-done z =
            accepted Done (both_maps space view below xs (as_published own) (published own base)) xs publish-fits
            (z ∙ (λ i. with_map space view (map_for space (as_published (bytes_of (view-after i)))) (after-share i))
            ∙ both-last two (as_published own) (published own base) (as-published-fits two) fit)

      -- a view without marks is the published map after a refresh
      synced-runs : runs_of (refreshed (as_published own) (published own base)) ≡ runs_of (published own base)
      synced-runs =
          runs_same (refreshed (as_published own) (published own base)) (published own base)
          (λ b l. rw (ne_eqb (mark_in (as_published own b)) 1 (omega arith)))

      sync-fits : sync_refusal space view below xs ≡ 0
      sync-fits = sync_asks ∙ rw (two, ap (λ (l : List Run). length l) synced-runs, le-leb (length (runs_of (published own base))) space fit)

      module _ {ys : List ℕ} (y : ys ≡ with_map space below (map_for space (mix Publish 0 (0 - 0) (cell_of 0 0) own base)) xs) where
        -- publishing, then refreshing: the view is the published map then
        pub sync-done : {zs : List ℕ} → zs ≡ with_map space view (map_at space below ys) ys →
            SyncEntry space view below xs Done zs
        unfolding synced_maps
        sync-done z =
            accepted Done (both_maps space view below xs (refreshed (as_published own) (published own base)) (published own base)) xs sync-fits
            (z ∙ (λ i. with_map space view (map_at space below (after-share y i)) (after-share y i))
            ∙ ap (λ (m : List ℕ). with_map space view m (shared two (published own base) fit)) (shared-below two (published own base) fit)
            ∙ ap (λ (l : List Run). with_map space view (map_of space l) (shared two (published own base) fit)) (sym synced-runs)
            ∙ both-last two (refreshed (as_published own) (published own base)) (published own base) (omega (arith, fit, ap (λ (l : List Run). length l) synced-runs)) fit)

  -- ---- Refreshing

  refresh_asks : refresh_refusal space view below xs ≡
      cond (two_maps space view below xs) (cond (leb (length (runs_of (refreshed own base))) space && leb (length (runs_of base)) space) 0 16) 13
  unfolding refresh_refusal first_no
  refresh_asks = refl

  -- A refresh refuses unlawful maps with 13.
  pub refresh_unlawful : two_maps space view below xs ≡ false → refresh_refusal space view below xs ≡ 13
  refresh_unlawful e = refresh_asks ∙ rw e

  -- whether the refreshed view fits
  module _ {r : Bool} (e : r ≡ leb (length (runs_from (4294967295 - 0) 0 (mix Refresh 0 (0 - 0) 0 own base))) space) where
    -- The test passed: the refreshed view fits.
    pub refresh-enough : not r ≡ false → length (runs_of (refreshed own base)) ≤ space
    refresh-enough = enough (mix Refresh 0 0 0 own base) (refreshed own base) (mix-refresh own base) space e

    -- The test failed: the refreshed view does not fit.
    pub refresh-short : not r ≡ true → space < length (runs_of (refreshed own base))
    refresh-short = short (mix Refresh 0 0 0 own base) (refreshed own base) (mix-refresh own base) space e

  module _ (two : two_maps space view below xs ≡ true) where
    -- A refresh refuses with 16 where the refreshed view does not fit.
    pub refresh-full : space < length (runs_of (refreshed own base)) → refresh_refusal space view below xs ≡ 16
    refresh-full h = refresh_asks ∙ rw (two, lt-leb (length (runs_of (refreshed own base))) space h)

    module _ (fit : length (runs_of (refreshed own base)) ≤ space) where
      refresh-fits : refresh_refusal space view below xs ≡ 0
      refresh-fits = refresh_asks ∙ rw (two, le-leb (length (runs_of (refreshed own base))) space fit, le-leb (length (runs_of base)) space (below-fits two))

      -- The steps of a refresh meet the entry.
      pub refresh-done : {zs : List ℕ} → zs ≡ with_map space view (map_for space (refreshed own base)) xs →
          RefreshEntry space view below xs Done zs
      unfolding refreshed_maps
      refresh-done z = accepted Done (both_maps space view below xs (refreshed own base) base) xs refresh-fits (z ∙ view-alone two (refreshed own base) fit)

      -- what a refresh leaves of the view
      module _ {ys : List ℕ} (y : ys ≡ with_map space view (map_for space (refreshed own base)) xs) where
        -- After a refresh the view stands inside the slice.
        pub view-in-fresh : (view + 1) * (4 * space) ≤ length ys
        view-in-fresh =
            omega (
              arith,
              (told two).view_within,
              ap length y,
              with_length space view (map_for space (refreshed own base)) xs (length-map space (runs_of (refreshed own base)) fit) (told two).view_within,
            )

        view-fresh : map_at space view ys ≡ map_for space (refreshed own base)
        view-fresh =
            ap (map_at space view) y
            ∙ at_same space view (map_for space (refreshed own base)) xs (length-map space (runs_of (refreshed own base)) fit) (told two).view_within

        fresh-lawful : Lawful (runs_of (refreshed own base))
        fresh-lawful = runs-lawful (refreshed own base) (λ b l. go b (unpublished (own b)))
          where
            go : (b : ℕ) (x : Bool) → Fine (cond x (own b) (base b))
            go b true = lawful-fine (runs (map_at space view xs)) (lawful-map (map_at space view xs) (told two).view-law).lawful-runs b
            go b false = lawful-fine (runs (map_at space below xs)) (lawful-map (map_at space below xs) (told two).below-law).lawful-runs b

        -- After a refresh the view is lawful.
        pub view-law-fresh : lawful (map_at space view ys) ≡ true
        view-law-fresh = ap lawful view-fresh ∙ map_lawful space (runs_of (refreshed own base)) fresh-lawful fit

        -- The pieces of the refreshed map are those of the refreshed bytes.
        pub pieces-fresh : (start n : ℕ) → start + n ≤ OFFSET_MAX →
            pieces_of (bytes_of (map_at space view ys)) start (start + n - start) ≡ pieces_of (refreshed own base) start n
        pieces-fresh start n end =
            let q : start + n - start ≡ n = omega arith in
            (λ i. pieces_of (bytes_of (view-fresh i)) start (q i))
            ∙ pieces-same (bytes_of (map_for space (refreshed own base))) (refreshed own base) start n
            (λ b l h. ap number_in
            (ap (λ (rs : List Run). cell_at rs b) (map_back space (runs_of (refreshed own base)) fresh-lawful fit) ∙ runs-mean (refreshed own base) b (omega (arith, h, end))))

  -- ---- Refreshing, then listing

  module _ (start n room : ℕ) where
    abbrev listed : List Run
    listed = pieces_of (refreshed own base) start n

    read-asks : start ≤ OFFSET_MAX → n ≤ OFFSET_MAX → read_refusal space view below xs start n room ≡
        cond (two_maps space view below xs)
        (cond (leb (start + n) OFFSET_MAX)
        (cond (leb (length (runs_of (refreshed own base))) space && leb (length (runs_of base)) space) (cond (leb (3 * length listed) room) 0 17) 16) 11) 13
    unfolding read_refusal first_no
    read-asks s l = rw (le-leb start OFFSET_MAX s, le-leb n OFFSET_MAX l)

    module _ (s : start ≤ OFFSET_MAX) (l : n ≤ OFFSET_MAX) where
      -- A read refuses unlawful maps with 13.
      pub read-unlawful : two_maps space view below xs ≡ false → read_refusal space view below xs start n room ≡ 13
      read-unlawful e = read-asks s l ∙ rw e

      module _ (two : two_maps space view below xs ≡ true) where
        -- A read refuses with 11 where the range ends past the offset range.
        pub read_past : OFFSET_MAX < start + n → read_refusal space view below xs start n room ≡ 11
        read_past h = read-asks s l ∙ rw (two, lt-leb (start + n) OFFSET_MAX h)

        module _ (end : start + n ≤ OFFSET_MAX) where
          -- A read refuses with 16 where the refreshed view does not fit.
          pub read-full : space < length (runs_of (refreshed own base)) → read_refusal space view below xs start n room ≡ 16
          read-full h = read-asks s l ∙ rw (two, le-leb (start + n) OFFSET_MAX end, lt-leb (length (runs_of (refreshed own base))) space h)

          module _ (fit : length (runs_of (refreshed own base)) ≤ space) where
            -- A read refuses with 17 where the pieces do not fit the answer slice.
            pub read-long : room < 3 * length listed → read_refusal space view below xs start n room ≡ 17
            read-long h =
                read-asks s l ∙ rw (two, le-leb (start + n) OFFSET_MAX end, le-leb (length (runs_of (refreshed own base))) space fit, le-leb (length (runs_of base)) space (below-fits two), lt-leb (3 * length listed) room h)

            -- A read is accepted where the refreshed view and the pieces fit.
            pub read_fits : 3 * length listed ≤ room → read_refusal space view below xs start n room ≡ 0
            read_fits h =
                read-asks s l ∙ rw (two, le-leb (start + n) OFFSET_MAX end, le-leb (length (runs_of (refreshed own base))) space fit, le-leb (length (runs_of base)) space (below-fits two), le-leb (3 * length listed) room h)

            -- the maps, the count and the pieces
            pub read_done : (out : List ℕ) → 3 * length listed ≤ room → {k : ℕ} {zs us : List ℕ} → k ≡ length listed → zs ≡ with_map space view (map_for space (refreshed own base)) xs →
                us ≡ listed_in listed out →
                (Listed k ≡ or_refused (read_refusal space view below xs start n room) (listed_count listed))
                × ((zs ≡ or_kept (read_refusal space view below xs start n room) (refreshed_maps space view below xs) xs)
                × (us ≡ or_kept (read_refusal space view below xs start n room) (listed_in listed out) out))
            unfolding refreshed_maps
            read_done out h q z u = rw (read_fits h) (ap Listed q, (z ∙ view-alone two (refreshed own base) fit, u))

  -- ---- Writing a range, then publishing

  module _ (start n number : ℕ) where
    abbrev wrote : Bytes
    wrote = overwrite start n (cell_of number 1) own

    -- the walk's mixes say the same at every byte, the range in or not
    mix-write-through : (b : ℕ) → mix Publish start n (cell_of number 0) own base b ≡ published wrote base b
    unfolding mixed
    mix-write-through b = go (in_range start n b)
      where
        go : (x : Bool) → cond x (cell_of number 0) (cond (unpublished (own b)) (cleared (own b)) (base b)) ≡
            cond (unpublished (cond x (cell_of number 1) (own b))) (cleared (cond x (cell_of number 1) (own b))) (base b)
        go true =
            let q : cell_of number 0 ≡ cleared (cell_of number 1) = omega arith in
            rw (eq-eqb (mark_in (cell_of number 1)) 1 (omega arith)) q
        go false = refl

    mix-mark-published : (b : ℕ) → mix MarkPublished start n (cell_of number 0) own base b ≡ as_published wrote b
    unfolding mixed
    mix-mark-published b = go (in_range start n b)
      where
        go : (x : Bool) → cond x (cell_of number 0) (cleared (own b)) ≡ cleared (cond x (cell_of number 1) (own b))
        go true = omega arith
        go false = refl

    -- a range laid on the marked published view is the marked published view of the write
    lay-as-published : (b : ℕ) → overwrite start n (cell_of number 0) (as_published own) b ≡ as_published wrote b
    lay-as-published b = go (in_range start n b)
      where
        go : (x : Bool) → cond x (cell_of number 0) (cleared (own b)) ≡ cleared (cond x (cell_of number 1) (own b))
        go true = omega arith
        go false = refl

    there : start + n - start ≡ n
    there = omega arith

    module _ {cell : ℕ} (q : cell ≡ cell_of number 0) where
      -- whether the published map fits
      module _ {r : Bool} (e : r ≡ leb (length (runs_from (4294967295 - 0) 0 (mix Publish start (start + n - start) cell own base))) space) where
        write-through-told : r ≡ leb (length (runs_from (4294967295 - 0) 0 (mix Publish start n (cell_of number 0) own base))) space
        write-through-told = e ∙ (λ i. leb (length (runs_from (4294967295 - 0) 0 (mix Publish start (there i) (q i) own base))) space)

        -- The test passed: the published map fits.
        pub write-through-enough : not r ≡ false → length (runs_of (published wrote base)) ≤ space
        write-through-enough = enough (mix Publish start n (cell_of number 0) own base) (published wrote base) mix-write-through space write-through-told

        -- The test failed: the published map does not fit.
        pub write-through-short : not r ≡ true → space < length (runs_of (published wrote base))
        write-through-short = short (mix Publish start n (cell_of number 0) own base) (published wrote base) mix-write-through space write-through-told

      -- whether the view fits
      module _ {r : Bool} (e : r ≡ leb (length (runs_from (4294967295 - 0) 0 (mix MarkPublished start (start + n - start) cell own base))) space) where
        mark-published-told : r ≡ leb (length (runs_from (4294967295 - 0) 0 (mix MarkPublished start n (cell_of number 0) own base))) space
        mark-published-told = e ∙ (λ i. leb (length (runs_from (4294967295 - 0) 0 (mix MarkPublished start (there i) (q i) own base))) space)

        -- The test passed: the view marked published fits.
        pub mark-published-enough : not r ≡ false → length (runs_of (as_published wrote)) ≤ space
        mark-published-enough = enough (mix MarkPublished start n (cell_of number 0) own base) (as_published wrote) mix-mark-published space mark-published-told

        -- The test failed: the view marked published does not fit.
        pub mark-published-short : not r ≡ true → space < length (runs_of (as_published wrote))
        mark-published-short = short (mix MarkPublished start n (cell_of number 0) own base) (as_published wrote) mix-mark-published space mark-published-told

    write-through-asks : start ≤ OFFSET_MAX → n ≤ OFFSET_MAX → write_through_refusal space view below xs start n number ≡
        cond (two_maps space view below xs)
        (cond (leb 1 number && leb number ROWS)
        (cond (leb (start + n) OFFSET_MAX) (cond (leb (length (runs_of (as_published wrote))) space && leb (length (runs_of (published wrote base))) space) 0 16) 11) 14) 13
    unfolding write_through_refusal first_no
    write-through-asks s l = rw (le-leb start OFFSET_MAX s, le-leb n OFFSET_MAX l)

    module _ (s : start ≤ OFFSET_MAX) (l : n ≤ OFFSET_MAX) where
      -- A write through refuses unlawful maps with 13.
      pub write-through-unlawful : two_maps space view below xs ≡ false → write_through_refusal space view below xs start n number ≡ 13
      write-through-unlawful e = write-through-asks s l ∙ rw e

      module _ (two : two_maps space view below xs ≡ true) where
        -- A write through refuses row number 0 with 14.
        pub write-through-low : number < 1 → write_through_refusal space view below xs start n number ≡ 14
        write-through-low h = write-through-asks s l ∙ rw (two, lt-leb 1 number h)

        -- A write through refuses row numbers over the limit with 14.
        pub write-through-high : ROWS < number → write_through_refusal space view below xs start n number ≡ 14
        write-through-high h = write-through-asks s l ∙ rw (two, lt-leb number ROWS h, and-false)

        module _ (low : 1 ≤ number) (high : number ≤ ROWS) where
          -- A write through refuses with 11 where the range ends past the offset range.
          pub write-through-past : OFFSET_MAX < start + n → write_through_refusal space view below xs start n number ≡ 11
          write-through-past h = write-through-asks s l ∙ rw (two, le-leb 1 number low, le-leb number ROWS high, lt-leb (start + n) OFFSET_MAX h)

          module _ (end : start + n ≤ OFFSET_MAX) where
            -- A write through refuses with 16 where the published map does not fit.
            pub write-through-full : space < length (runs_of (published wrote base)) → write_through_refusal space view below xs start n number ≡ 16
            write-through-full h =
                write-through-asks s l
                ∙ rw (two, le-leb 1 number low, le-leb number ROWS high, le-leb (start + n) OFFSET_MAX end, lt-leb (length (runs_of (published wrote base))) space h, and-false)

            -- A write through refuses with 16 where the view does not fit.
            pub write-through-view-full : space < length (runs_of (as_published wrote)) → write_through_refusal space view below xs start n number ≡ 16
            write-through-view-full h =
                write-through-asks s l
                ∙ rw (two, le-leb 1 number low, le-leb number ROWS high, le-leb (start + n) OFFSET_MAX end, lt-leb (length (runs_of (as_published wrote))) space h)

            module _ (fit : length (runs_of (published wrote base)) ≤ space) (view-fit : length (runs_of (as_published wrote)) ≤ space) where
              write-through-fits : write_through_refusal space view below xs start n number ≡ 0
              write-through-fits =
                  write-through-asks s l
                  ∙ rw (
                    two,
                    le-leb 1 number low,
                    le-leb number ROWS high,
                    le-leb (start + n) OFFSET_MAX end,
                    le-leb (length (runs_of (as_published wrote))) space view-fit,
                    le-leb (length (runs_of (published wrote base))) space fit,
                  )

              written-through-runs : runs_of (mix Publish start (start + n - start) (cell_of number 0) own base) ≡ runs_of (published wrote base)
              written-through-runs =
                  (λ i. runs_of (mix Publish start (there i) (cell_of number 0) own base))
                  ∙ runs_same (mix Publish start n (cell_of number 0) own base) (published wrote base) (λ b l. mix-write-through b)

              -- The mix that `share` writes fits where the published map does.
              pub write-through-share : length (runs_of (mix Publish start (start + n - start) (cell_of number 0) own base)) ≤ space
              write-through-share = omega (arith, fit, ap (λ (l : List Run). length l) written-through-runs)

              module _ {ys : List ℕ} (y : ys ≡ with_map space below (map_for space (mix Publish start (start + n - start) (cell_of number 0) own base)) xs) where
                written-through : ys ≡ shared two (published wrote base) fit
                written-through = y ∙ ap (λ (l : List Run). with_map space below (map_of space l) xs) written-through-runs

                -- `share` leaves the view as it was.
                view-written-through : map_at space view ys ≡ map_at space view xs
                view-written-through = ap (map_at space view) written-through ∙ shared_view two (published wrote base) fit

                module _ {zs : List ℕ} (z : zs ≡ with_map space view (map_for space (as_published (bytes_of (map_at space view ys)))) ys) where
                  as-published-there : zs ≡ with_map space view (map_for space (as_published own)) (shared two (published wrote base) fit)
                  as-published-there = z ∙ (λ i. with_map space view (map_for space (as_published (bytes_of (view-written-through i)))) (written-through i))

                  own-size : length (map_for space (as_published own)) ≡ 4 * space
                  own-size = length-map space (runs_of (as_published own)) (as-published-fits two)

                  view-in-shared : (view + 1) * (4 * space) ≤ length (shared two (published wrote base) fit)
                  view-in-shared = omega (arith, (told two).view_within, shared-length two (published wrote base) fit)

                  -- nothing to lay: the range is empty
                  pub write-through-empty : start + n ≤ start → WriteThroughEntry space view below xs start n number Done zs
                  unfolding written_through_maps
                  write-through-empty h =
                      let same : runs_of (as_published own) ≡ runs_of (as_published wrote) = runs_same (as_published own) (as_published wrote)
                      (λ b l. ap cleared (sym (untouched b))) in
                      accepted Done (both_maps space view below xs (as_published wrote) (published wrote base)) xs write-through-fits
                      (as-published-there ∙ ap (λ (l : List Run). with_map space view (map_of space l) (shared two (published wrote base) fit)) same
                      ∙ both-last two (as_published wrote) (published wrote base) view-fit fit)
                    where
                      untouched : (b : ℕ) → wrote b ≡ own b
                      untouched b = go (dec_lt b start)
                        where
                          go : Dec (b < start) → wrote b ≡ own b
                          go (yes k) = over-before start n (cell_of number 1) own b k
                          go (no k) = over-behind start n (cell_of number 1) own b (omega (arith, h, k))

                  -- the range laid on the marked published view
                  view-as-published : map_at space view zs ≡ map_for space (as_published own)
                  view-as-published =
                      ap (map_at space view) as-published-there
                      ∙ at_same space view (map_for space (as_published own)) (shared two (published wrote base) fit) own-size view-in-shared

                  own-lawful : Lawful (runs_of (as_published own))
                  own-lawful =
                      runs-lawful (as_published own)
                      (λ b l. clear_fine (own b) (lawful-fine (runs (map_at space view xs)) (lawful-map (map_at space view xs) (told two).view-law).lawful-runs b))

                  -- Marked published, the view stands inside the slice.
                  pub view-in-as-published : (view + 1) * (4 * space) ≤ length zs
                  view-in-as-published =
                      omega (arith, view-in-shared, ap length as-published-there, with_length space view (map_for space (as_published own)) (shared two (published wrote base) fit) own-size view-in-shared)

                  -- Marked published, the view is lawful.
                  pub view-law-as-published : lawful (map_at space view zs) ≡ true
                  view-law-as-published = ap lawful view-as-published ∙ map_lawful space (runs_of (as_published own)) own-lawful (as-published-fits two)

                  laid_runs : runs_of (overwrite start (start + n - start) (cell_of number 0) (bytes_of (map_at space view zs))) ≡ runs_of (as_published wrote)
                  laid_runs =
                      (λ i. runs_of (overwrite start (there i) (cell_of number 0) (bytes_of (view-as-published i))))
                      ∙ runs_same (overwrite start n (cell_of number 0) (bytes_of (map_for space (as_published own)))) (as_published wrote)
                      (λ b l. ap (λ (c : ℕ). cond (in_range start n b) (cell_of number 0) c)
                      (ap (λ (rs : List Run). cell_at rs b) (map_back space (runs_of (as_published own)) own-lawful (as-published-fits two)) ∙ runs-mean (as_published own) b l)
                      ∙ lay-as-published b)

                  -- The view with the range laid fits.
                  pub write-through-lay : {cell : ℕ} → cell ≡ cell_of number 0 →
                      length (runs_of (overwrite start (start + n - start) cell (bytes_of (map_at space view zs)))) ≤ space
                  write-through-lay q =
                      omega (
                        arith,
                        view-fit,
                        ap (λ (c : ℕ). length (runs_of (overwrite start (start + n - start) c (bytes_of (map_at space view zs))))) q,
                        ap (λ (l : List Run). length l) laid_runs,
                      )

                  -- The steps of a write through meet the entry.
                  pub write-through-done : {cell : ℕ} {us : List ℕ} → cell ≡ cell_of number 0 →
                      us ≡ with_map space view (map_for space (overwrite start (start + n - start) cell (bytes_of (map_at space view zs)))) zs →
                      WriteThroughEntry space view below xs start n number Done us
                  unfolding written_through_maps
                  write-through-done q u =
                      accepted Done (both_maps space view below xs (as_published wrote) (published wrote base)) xs write-through-fits
                      (u ∙ (λ i. with_map space view (map_for space (overwrite start (start + n - start) (q i) (bytes_of (map_at space view zs)))) zs)
                      ∙ (λ i. with_map space view (map_of space (laid_runs i)) (as-published-there i))
                      ∙ with_over space view (map_for space (as_published wrote)) (map_for space (as_published own)) (shared two (published wrote base) fit)
                      (length-map space (runs_of (as_published wrote)) view-fit) own-size view-in-shared
                      ∙ both-last two (as_published wrote) (published wrote base) view-fit fit)

-- A refused read leaves both slices.
pub refused-read : (k space view below : ℕ) (xs : List ℕ) (start n : ℕ) (out : List ℕ) →
    read_refusal space view below xs start n (length out) ≡ k → 0 < k → ReadEntry space view below xs start n out (Refused k) xs out
refused-read k space view below xs start n out e h =
    let z = ne_eqb k 0 (omega arith) in
    record { answer = rw (e, z) refl; left = rw (e, z) refl; listed = rw (e, z) refl }

-- a row number's published cell
pub cell-zero : (number : ℕ) → number * 2 ≡ cell_of number 0
cell-zero number = omega arith
