-- What the entries answer and leave, from what they test.
use Rattle.std.proofs.Common.{ℕ, suc, ◌+◌, ◌*◌, ◌-◌, ◌≤◌, ◌<◌, arith, ◌≡◌, refl, sym, ap, ◌∙◌, ◌⊎◌, inr, Bool, true, false, cond, ◌&&◌, List, length, le-leb, ne_eqb}
use native.Mathlib.Decide.{dec_lt}
use mathlib.Core.Bool.{and-false}
use lib.Dec.{leb}
use borrow.Author.Tests.{lt-leb}
use Rattle.rows.specs.Limits.{ROWS, OFFSET_MAX}
use Rattle.rows.specs.Questions.{first_no}
use Rattle.extents_meaning.specs.Cells.{Bytes, cell_of, number_in, mark_in, overwrite}
use Rattle.extents_meaning.specs.Runs.{Run, runs_of, pieces_of}
use Rattle.extents_meaning.specs.Maps.{map_of, map_for, space_in, bytes_of, runs, lawful, listed_in}
use Rattle.extents_meaning.specs.Lookups.{change_of}
use Rattle.extents_meaning.proofs.Longest.{runs_same, runs-back}
use Rattle.extents_meaning.proofs.Trips.{lawful-map}
use Rattle.extents_meaning.proofs.Points.{count-starts}
use Rattle.extents_meaning.proofs.Overwrites.{over-before, over-behind}
use Rattle.extents_meaning.proofs.Changes.{change_same}
use Rattle.extents_map.specs.Cursors.{Passing, Looked}
use Rattle.extents_map.specs.declared.scan.Look.{Look}
use Rattle.extents_map.proofs.Counting.{starts-most}
use Rattle.extents.specs.Answers.{Answer}
use Rattle.extents.specs.Answers.{Done, Listed, Refused}
use Rattle.extents.specs.declared.Stretch.{Stretch}
use Rattle.extents.specs.LookupAnswers as looked
use Rattle.extents_pair.proofs.Rooms.{pieces-there}
use Rattle.extents.specs.Entries.{listed_count, mark_bit, Entry, write_refusal, written_map, WriteEntry, list_refusal, lookup_of, lookup_refusal, LookupEntry}

-- ---- Answers

-- a refusal, and what it leaves
pub refused : (k : ℕ) {r : ℕ} (a : Answer) (ys xs : List ℕ) → r ≡ k → 0 < k → Entry r a ys xs (Refused k) xs
refused k a ys xs e h = record { answer = rw (e, ne_eqb k 0 (omega arith)) refl; left = rw (e, ne_eqb k 0 (omega arith)) refl }

-- an acceptance
pub accepted : {r : ℕ} (a : Answer) (ys xs : List ℕ) {zs : List ℕ} → r ≡ 0 → zs ≡ ys → Entry r a ys xs a zs
accepted a ys xs e q = record { answer = rw e refl; left = rw e q }

-- what is not true
pub untrue : (b : Bool) → (b ≡ true → false ≡ true) → b ≡ false
untrue true f = sym (f refl)
untrue false f = refl

-- ---- Writing one map

module _ (xs : List ℕ) (start n number : ℕ) (mark : Bool) where
  abbrev anew : Bytes
  anew = overwrite start n (cell_of number (mark_bit mark)) (bytes_of xs)

  -- the questions one after the other
  write_asks : start ≤ OFFSET_MAX → n ≤ OFFSET_MAX → write_refusal xs start n number mark ≡
      cond (lawful xs) (cond (leb 1 number && leb number ROWS) (cond (leb (start + n) OFFSET_MAX) (cond (leb (length (runs_of anew)) (space_in xs)) 0 16) 11) 14) 13
  unfolding write_refusal first_no
  write_asks s l = rw (le-leb start OFFSET_MAX s, le-leb n OFFSET_MAX l)

  module _ (s : start ≤ OFFSET_MAX) (l : n ≤ OFFSET_MAX) where
    -- A write refuses an unlawful map with 13.
    pub write-unlawful : lawful xs ≡ false → write_refusal xs start n number mark ≡ 13
    write-unlawful e = write_asks s l ∙ rw e

    module _ (law : lawful xs ≡ true) where
      -- A write refuses row number 0 with 14.
      pub write_low : number < 1 → write_refusal xs start n number mark ≡ 14
      write_low h = write_asks s l ∙ rw (law, lt-leb 1 number h)

      -- A write refuses row numbers over the limit with 14.
      pub write-high : ROWS < number → write_refusal xs start n number mark ≡ 14
      write-high h = write_asks s l ∙ rw (law, lt-leb number ROWS h, and-false)

      module _ (low : 1 ≤ number) (high : number ≤ ROWS) where
        -- A write refuses with 11 where the range ends past the offset range.
        pub write-past : OFFSET_MAX < start + n → write_refusal xs start n number mark ≡ 11
        write-past h = write_asks s l ∙ rw (law, le-leb 1 number low, le-leb number ROWS high, lt-leb (start + n) OFFSET_MAX h)

        module _ (end : start + n ≤ OFFSET_MAX) where
          -- A write refuses with 16 where the map does not fit.
          pub write-full : leb (length (runs_of anew)) (space_in xs) ≡ false → write_refusal xs start n number mark ≡ 16
          write-full e = write_asks s l ∙ rw (law, le-leb 1 number low, le-leb number ROWS high, le-leb (start + n) OFFSET_MAX end, e)

          -- A write is accepted where the map fits.
          pub write-fits : leb (length (runs_of anew)) (space_in xs) ≡ true → write_refusal xs start n number mark ≡ 0
          write-fits e = write_asks s l ∙ rw (law, le-leb 1 number low, le-leb number ROWS high, le-leb (start + n) OFFSET_MAX end, e)

          -- a range of no bytes changes nothing
          pub write-none : n ≡ 0 → WriteEntry xs start n number mark Done xs
          unfolding written_map
          write-none z =
              let m = lawful-map xs law in
              let same : runs_of anew ≡ runs xs = runs_same anew (bytes_of xs) (λ b h. kept b) ∙ runs-back (runs xs) m.lawful-runs in
              accepted Done (map_for (space_in xs) anew) xs (write-fits (rw same (le-leb (length (runs xs)) (space_in xs) m.fit)))
              (m.whole ∙ sym (ap (map_of (space_in xs)) same))
            where
              kept : (b : ℕ) → anew b ≡ bytes_of xs b
              kept b = go (dec_lt b start)
                where
                  go : Dec (b < start) → anew b ≡ bytes_of xs b
                  go (yes h) = over-before start n (cell_of number (mark_bit mark)) (bytes_of xs) b h
                  go (no h) = over-behind start n (cell_of number (mark_bit mark)) (bytes_of xs) b (omega (arith, z))

          -- what laying a cell answers and leaves
          module _ {r : Bool} {cell : ℕ} {zs : List ℕ} (q : cell ≡ cell_of number (mark_bit mark))
              (answer : r ≡ leb (length (runs_of (overwrite start (start + n - start) cell (bytes_of xs)))) (space_in xs))
              (left : zs ≡ cond r (map_for (space_in xs) (overwrite start (start + n - start) cell (bytes_of xs))) xs) where
            there : overwrite start (start + n - start) cell (bytes_of xs) ≡ anew
            there = let e : start + n - start ≡ n = omega arith in λ i. overwrite start (e i) (q i) (bytes_of xs)

            -- A range laid meets the entry.
            pub write_done : r ≡ true → WriteEntry xs start n number mark Done zs
            unfolding written_map
            write_done e =
                accepted Done (map_for (space_in xs) anew) xs
                (write-fits (ap (λ (f : Bytes). leb (length (runs_of f)) (space_in xs)) (sym there) ∙ sym answer ∙ e))
                (left ∙ ap (λ (b : Bool). cond b (map_for (space_in xs) (overwrite start (start + n - start) cell (bytes_of xs))) xs) e
                ∙ ap (map_for (space_in xs)) there)

            -- A range not laid is a refusal with 16.
            pub write-not : r ≡ false → WriteEntry xs start n number mark (Refused 16) zs
            write-not e =
                let none = refused 16 Done (written_map xs start n number mark) xs
                (write-full (ap (λ (f : Bytes). leb (length (runs_of f)) (space_in xs)) (sym there) ∙ sym answer ∙ e)) (omega arith) in
                record {
                  answer = none.answer;
                  left = left ∙ ap (λ (b : Bool). cond b (map_for (space_in xs) (overwrite start (start + n - start) cell (bytes_of xs))) xs) e ∙ none.left;
                }

-- the cell of a row number has it
pub cell-fine : (number : ℕ) (mark : Bool) → 1 ≤ number → number ≤ 4096 → {cell : ℕ} → cell ≡ cell_of number (mark_bit mark) →
    (cell ≡ 0) ⊎ ((1 ≤ number_in cell) × (number_in cell ≤ 4096))
cell-fine number mark l h {cell} q = inr (go mark q)
  where
    go : (m : Bool) → cell ≡ cell_of number (mark_bit m) → (1 ≤ number_in cell) × (number_in cell ≤ 4096)
    go true e = (omega arith, omega arith)
    go false e = (omega arith, omega arith)

-- ---- Listing the pieces of a range

module _ (xs : List ℕ) (start n room : ℕ) where
  abbrev pieces : List Run
  pieces = pieces_of (bytes_of xs) start n

  list_asks : start ≤ OFFSET_MAX → n ≤ OFFSET_MAX → list_refusal xs start n room ≡
      cond (lawful xs) (cond (leb (start + n) OFFSET_MAX) (cond (leb (3 * length pieces) room) 0 17) 11) 13
  unfolding list_refusal first_no
  list_asks s l = rw (le-leb start OFFSET_MAX s, le-leb n OFFSET_MAX l)

  module _ (s : start ≤ OFFSET_MAX) (l : n ≤ OFFSET_MAX) where
    -- A listing refuses an unlawful map with 13.
    pub list-unlawful : lawful xs ≡ false → list_refusal xs start n room ≡ 13
    list-unlawful e = list_asks s l ∙ rw e

    module _ (law : lawful xs ≡ true) where
      -- A listing refuses with 11 where the range ends past the offset range.
      pub list-past : OFFSET_MAX < start + n → list_refusal xs start n room ≡ 11
      list-past h = list_asks s l ∙ rw (law, lt-leb (start + n) OFFSET_MAX h)

      module _ (end : start + n ≤ OFFSET_MAX) where
        -- A listing refuses with 17 where the pieces do not fit the answer slice.
        pub list_full : room < 3 * length pieces → list_refusal xs start n room ≡ 17
        list_full h = list_asks s l ∙ rw (law, le-leb (start + n) OFFSET_MAX end, lt-leb (3 * length pieces) room h)

        -- A listing is accepted where the pieces fit the answer slice.
        pub list-fits : 3 * length pieces ≤ room → list_refusal xs start n room ≡ 0
        list-fits h = list_asks s l ∙ rw (law, le-leb (start + n) OFFSET_MAX end, le-leb (3 * length pieces) room h)

-- there are no more pieces than bytes
pub pieces-most : (f : Bytes) (start n : ℕ) → length (pieces_of f start n) ≤ n
unfolding pieces_of
pieces-most f start n =
    omega (arith, count-starts n start (λ b. suc (number_in (f b))), starts-most n start 0 (λ b. suc (number_in (f b))))

-- the pieces and their count
pub accepted-list : (xs : List ℕ) (start n : ℕ) (out : List ℕ) {k r : ℕ} {zs : List ℕ} → r ≡ 0 →
    k ≡ length (pieces_of (bytes_of xs) start (start + n - start)) → zs ≡ listed_in (pieces_of (bytes_of xs) start (start + n - start)) out →
    Entry r (listed_count (pieces_of (bytes_of xs) start n)) (listed_in (pieces_of (bytes_of xs) start n) out) out (Listed k) zs
accepted-list xs start n out e q z =
    let p = pieces-there (bytes_of xs) start n in
    record {
      answer = rw e (ap Listed (q ∙ ap (λ (l : List Run). length l) p));
      left = rw e (z ∙ ap (λ (l : List Run). listed_in l out) p);
    }

-- ---- Looking a byte up

-- what stands at a byte, by its numbers
abbrev stretch : ℕ → ℕ → ℕ → Stretch
stretch number mark next = record { number = number; mark = mark; next = next }

module _ (xs : List ℕ) (byte : ℕ) where
  lookup_asks : byte ≤ OFFSET_MAX → lookup_refusal xs byte ≡ cond (lawful xs) (cond (leb (byte + 1) OFFSET_MAX) 0 11) 13
  unfolding lookup_refusal first_no
  lookup_asks s = rw (le-leb byte OFFSET_MAX s)

  -- A lookup refuses an unlawful map with 13.
  pub lookup_unlawful : byte ≤ OFFSET_MAX → lawful xs ≡ false → LookupEntry xs byte (looked.Refused 13)
  lookup_unlawful s e = let q : lookup_refusal xs byte ≡ 13 = lookup_asks s ∙ rw e in rw q refl

  module _ (law : lawful xs ≡ true) where
    -- A lookup refuses with 11 where a range of length 1 ends past the offset range.
    pub lookup-past : byte ≡ OFFSET_MAX → LookupEntry xs byte (looked.Refused 11)
    lookup-past e =
        let q : lookup_refusal xs byte ≡ 11 = lookup_asks (omega arith) ∙ rw (law, lt-leb (byte + 1) OFFSET_MAX (omega arith)) in
        rw q refl

    -- A lookup answers the row number, the mark and the next change of a byte.
    pub lookup-found : byte < OFFSET_MAX → {number mark next : ℕ} → number ≡ number_in (bytes_of xs byte) → mark ≡ mark_in (bytes_of xs byte) →
        next ≡ change_of (bytes_of xs) byte → LookupEntry xs byte (looked.Found (stretch number mark next))
    unfolding lookup_of
    lookup-found h n m t =
        let q : lookup_refusal xs byte ≡ 0 = lookup_asks (omega arith) ∙ rw (law, le-leb (byte + 1) OFFSET_MAX (omega arith)) in
        rw q (λ i. looked.Found (stretch (n i) (m i) (t i)))

-- A look from a run on, where the runs before it are passed, tells the cell and the next change in the whole map.
pub looked_whole : {xs : List ℕ} {x i : ℕ} {r : Look} → x < OFFSET_MAX → Passing xs 0 x i → Looked xs i x r →
    (r.cell ≡ bytes_of xs x) × (r.next ≡ change_of (bytes_of xs) x)
looked_whole {xs} {x} {i} h p l = (l.cell ∙ p.same x (omega arith), l.next ∙ change_same _ (bytes_of xs) x h p.same)
