-- Laws of packing: what the code packs is the definition's number, and every answer is read back from its number.
use Rattle.std.proofs.Common.{ℕ, ◌+◌, ◌*◌, ◌/◌, ◌%◌, ◌<◌, arith, ◌≡◌, refl, sym, ap, ◌∙◌, Bool, true, false, cond, List, length, ne_eqb, eqb-true}
use lib.Dec.{eqb}
use Rattle.rows.specs.Questions.{first_no}
use Rattle.rows.specs.Rows.{rows_in}
use Rattle.rows.specs.declared.row.Row.{Row}
use Rattle.rows.proofs.Slices.{length-rows}
use Rattle.races_meaning.specs.Races.{Verdict, free, racing, verdict_of}
use Rattle.races_meaning.proofs.Verdicts.{racing-within}
use Rattle.races.specs.Answers.{Found, judge_questions, verdict_found, found_of}
use Rattle.races.specs.Answers as found
use Rattle.races_meaning.specs.Lists.{race_pairs}
use Rattle.races.specs.Listing.{Listed, list_questions, listed_of}
use Rattle.races.specs.Listing as listed
use Rattle.races.proofs.Whole.{few-judged, few-listed, pairs-in, square_most}
use Rattle.trace.specs.Questions.{check_trace}
use Rattle.checker.specs.Judging.{Judged, judged_of}
use Rattle.checker.specs.Judging as judged
use Rattle.checker.proofs.Sizes as judging
use Rattle.checker.proofs.Sizes.{judged-small, SmallList, listed_small}
use Rattle.checker.specs.Listing as listing
use Rattle.extents.specs.declared.Stretch.{Stretch}
use Rattle.extents.specs.LookupAnswers.{LookupAnswer}
use Rattle.extents.specs.LookupAnswers as looked
use Rattle.extents.specs.Entries.{looked_up}
use Rattle.extents.proofs.Sizes as lookup
use Rattle.extents.proofs.Sizes.{lookup_small}
use Rattle.join_meaning.specs.Joining.{join_traces}
use Rattle.join_checker.specs.Judging.{JudgedJoin}
use Rattle.join_checker.specs.Judging as join
use Rattle.join_checker.proofs.Sizes as joining
use Rattle.join_checker.proofs.Sizes.{join-small}
use Rattle.writer.specs.Answers.{Written}
use Rattle.writer.specs.Answers as written
use Rattle.writer.specs.Writing.{write_trace, written_of}
use Rattle.writer.proofs.Sizes.{Small, written_small}
use Rattle.kiqsaryn_packing.specs.Packing.{UPPER, WORD, WORD_3, WORD_4, packed_judged, packed_words, FitsWords, unpacked_judged, packed_join, packed_join_words, FitsJoinWords, unpacked_join, packed_found, unpacked_found, packed_listed, unpacked_listed, packed_written, unpacked_written, MARKS, packed_lookup, packed_lookup_words, stretch_in, unpacked_lookup}

-- ---- The whole call

-- A small answer has 16 bits in every number.
pub small_fits : (j : Judged) → judging.Small j → FitsWords j
small_fits (judged.Free n) s = omega arith
small_fits (judged.Race n earlier later) s = (omega arith, omega arith, omega arith)
small_fits (judged.Refused number place) s = (omega arith, omega arith)

-- The words of an answer whose numbers have 16 bits are its number.
pub words-packed : (j : Judged) → FitsWords j → packed_words j ≡ packed_judged j
words-packed (judged.Free n) f = omega arith
words-packed (judged.Race n earlier later) f = omega arith
words-packed (judged.Refused number place) f = omega arith

-- The words of a free trace's answer.
pub packs-free : {j : Judged} {n a : ℕ} → j ≡ judged.Free n → a ≡ n % WORD → a ≡ packed_words j
packs-free q d = d ∙ sym (ap packed_words q)

-- The words of a race's answer.
pub packs-race : {j : Judged} {n earlier later a b c : ℕ} → j ≡ judged.Race n earlier later → a ≡ n % WORD → b ≡ later % WORD →
    c ≡ earlier % WORD → a + b * WORD + c * WORD_3 ≡ packed_words j
packs-race {j} {n} {earlier} {later} {a} {b} {c} q d e h =
    let s : a + b * WORD + c * WORD_3 ≡ n % WORD + (later % WORD) * WORD + (earlier % WORD) * WORD_3 = omega arith in
    s ∙ sym (ap packed_words q)

-- The words of a refusal's answer.
pub packs-refused : {j : Judged} {number place a b : ℕ} → j ≡ judged.Refused number place → a ≡ number % WORD → b ≡ place % WORD →
    a * WORD_4 + b ≡ packed_words j
packs-refused {j} {number} {place} {a} {b} q d e =
    let s : a * WORD_4 + b ≡ (number % WORD) * WORD_4 + place % WORD = omega arith in
    s ∙ sym (ap packed_words q)

-- Four words of 16 bits in one number are read back.
words : (low later earlier number answer : ℕ) → answer ≡ low + later * WORD + earlier * WORD_3 + number * WORD_4 → low < WORD → later < WORD →
    earlier < WORD →
    unpacked_judged answer
    ≡ cond (eqb number 0) (cond (eqb later 0) (judged.Free low) (judged.Race low earlier later)) (judged.Refused number low)
words low later earlier number answer e h i j =
    let a : answer / WORD_4 ≡ number = omega arith in
    let b : answer / WORD_3 % WORD ≡ earlier = omega arith in
    let c : answer / WORD % WORD ≡ later = omega arith in
    let d : answer % WORD ≡ low = omega arith in
    λ k. cond (eqb (a k) 0) (cond (eqb (c k) 0) (judged.Free (d k)) (judged.Race (d k) (b k) (c k))) (judged.Refused (a k) (d k))

-- A small answer is read back from its number.
read_back : (j : Judged) → judging.Small j → unpacked_judged (packed_judged j) ≡ j
read_back (judged.Free n) s = words n 0 0 0 n (omega arith) (omega arith) (omega arith) (omega arith)
read_back (judged.Race n earlier later) s =
    words n later earlier 0 (n + later * WORD + earlier * WORD_3) (omega arith) (omega arith) (omega arith) (omega arith)
    ∙ rw (ne_eqb later 0 (λ z. omega arith))
read_back (judged.Refused number place) s =
    words place 0 0 number (number * WORD_4 + place) (omega arith) (omega arith) (omega arith) (omega arith)
    ∙ rw (ne_eqb number 0 (λ z. omega arith))

-- Every answer of the whole call is read back from its number.
pub judged-back : (text : List ℕ) (header model R P limit a b : ℕ) →
    unpacked_judged (packed_judged (judged_of model (check_trace text header model R P limit a b))) ≡ judged_of model (check_trace text header model R P limit a b)
judged-back text header model R P limit a b = read_back _ (judged-small text header model R P limit a b)

-- ---- The whole call on two files

-- A small answer has 16 bits in every number.
pub small_join_fits : (j : JudgedJoin) → joining.Small j → FitsJoinWords j
small_join_fits (join.Free n) s = omega arith
small_join_fits (join.Race n earlier later) s = (omega arith, omega arith, omega arith)
small_join_fits (join.Refused number place file) s = (omega (arith, s.few), omega (arith, s.placed), omega (arith, s.filed))

-- The words of an answer whose numbers have 16 bits are its number.
pub join-words_packed : (j : JudgedJoin) → FitsJoinWords j → packed_join_words j ≡ packed_join j
join-words_packed (join.Free n) f = omega arith
join-words_packed (join.Race n earlier later) f = omega arith
join-words_packed (join.Refused number place file) f = omega arith

-- The words of a free join's answer.
pub packs-join_free : {j : JudgedJoin} {n a : ℕ} → j ≡ join.Free n → a ≡ n % WORD → a ≡ packed_join_words j
packs-join_free q d = d ∙ sym (ap packed_join_words q)

-- The words of a race's answer.
pub packs-join_race : {j : JudgedJoin} {n earlier later a b c : ℕ} → j ≡ join.Race n earlier later → a ≡ n % WORD → b ≡ later % WORD →
    c ≡ earlier % WORD → a + b * WORD + c * WORD_3 ≡ packed_join_words j
packs-join_race {j} {n} {earlier} {later} {a} {b} {c} q d e h =
    let s : a + b * WORD + c * WORD_3 ≡ n % WORD + (later % WORD) * WORD + (earlier % WORD) * WORD_3 = omega arith in
    s ∙ sym (ap packed_join_words q)

-- The words of a refusal's answer.
pub packs-join_refused : {j : JudgedJoin} {number place file a b c : ℕ} → j ≡ join.Refused number place file → a ≡ number % WORD → b ≡ file % WORD →
    c ≡ place % WORD → a * WORD_4 + b * WORD + c ≡ packed_join_words j
packs-join_refused {j} {number} {place} {file} {a} {b} {c} q d e h =
    let s : a * WORD_4 + b * WORD + c ≡ (number % WORD) * WORD_4 + (file % WORD) * WORD + place % WORD = omega arith in
    s ∙ sym (ap packed_join_words q)

-- Four words of 16 bits in one number are read back.
join-words : (low second third number answer : ℕ) → answer ≡ low + second * WORD + third * WORD_3 + number * WORD_4 → low < WORD → second < WORD →
    third < WORD →
    unpacked_join answer
    ≡ cond (eqb number 0) (cond (eqb second 0) (join.Free low) (join.Race low third second)) (join.Refused number low second)
join-words low second third number answer e h i j =
    let a : answer / WORD_4 ≡ number = omega arith in
    let b : answer / WORD_3 % WORD ≡ third = omega arith in
    let c : answer / WORD % WORD ≡ second = omega arith in
    let d : answer % WORD ≡ low = omega arith in
    λ k. cond (eqb (a k) 0) (cond (eqb (c k) 0) (join.Free (d k)) (join.Race (d k) (b k) (c k))) (join.Refused (a k) (d k) (c k))

-- A small answer is read back from its number.
join-read_back : (j : JudgedJoin) → joining.Small j → unpacked_join (packed_join j) ≡ j
join-read_back (join.Free n) s = join-words n 0 0 0 n (omega arith) (omega arith) (omega arith) (omega arith)
join-read_back (join.Race n earlier later) s =
    join-words n later earlier 0 (n + later * WORD + earlier * WORD_3) (omega arith) (omega arith) (omega arith) (omega arith)
    ∙ rw (ne_eqb later 0 (λ z. omega arith))
join-read_back (join.Refused number place file) s =
    let some = s.some in
    join-words place file 0 number (number * WORD_4 + file * WORD + place) (omega arith) (omega (arith, s.placed)) (omega (arith, s.filed)) (omega arith)
    ∙ rw (ne_eqb number 0 (λ z. omega arith))

-- Every answer of the whole call on two files is read back from its number.
pub join-back : (first second : List ℕ) (h₁ h₂ model R P a b c : ℕ) →
    unpacked_join (packed_join (join.judged_of model (join_traces first second h₁ h₂ model R P a b c)))
    ≡ join.judged_of model (join_traces first second h₁ h₂ model R P a b c)
join-back first second h₁ h₂ model R P a b c = join-read_back _ (join-small first second h₁ h₂ model R P a b c)

-- ---- Verdicts

-- Two halves of 32 bits in one number are read back.
halves : (high low answer : ℕ) → answer ≡ high * UPPER + low → low < UPPER →
    unpacked_found answer ≡ cond (eqb low 0) (cond (eqb high 0) found.Free (found.Refused high)) (found.Race high low)
halves high low answer e h =
    let a : answer / UPPER ≡ high = omega arith in
    let b : answer % UPPER ≡ low = omega arith in
    λ k. cond (eqb (b k) 0) (cond (eqb (a k) 0) found.Free (found.Refused (a k))) (found.Race (a k) (b k))

-- A verdict on fewer than 2^32 rows is read back from its number.
verdict_back : (rows : List Row) (model : ℕ) → length rows < UPPER →
    unpacked_found (packed_found (verdict_found (verdict_of rows model))) ≡ verdict_found (verdict_of rows model)
verdict_back rows model h = go (verdict_of rows model) refl
  where
    go : (v : Verdict) → verdict_of rows model ≡ v → unpacked_found (packed_found (verdict_found v)) ≡ verdict_found v
    go free e = refl
    go (racing earlier later) e =
        let w = racing-within rows model e in
        halves earlier later (earlier * UPPER + later) refl (omega arith) ∙ rw (ne_eqb later 0 (λ z. omega arith))

-- Every answer of a verdict is read back from its number.
pub found_back : (n P model : ℕ) (xs : List ℕ) (L : ℕ) →
    unpacked_found (packed_found (found_of (first_no (judge_questions n P model xs L)) xs n model))
    ≡ found_of (first_no (judge_questions n P model xs L)) xs n model
found_back n P model xs L = go (eqb first 0) refl
  where
    first : ℕ
    first = first_no (judge_questions n P model xs L)

    answer : Bool → Found
    answer b = cond b (verdict_found (verdict_of (rows_in n xs) model)) (found.Refused first)

    go : (b : Bool) → eqb first 0 ≡ b → unpacked_found (packed_found (answer b)) ≡ answer b
    go true e = verdict_back (rows_in n xs) model (omega (arith, length-rows n xs, few-judged n P model xs L (eqb-true first 0 e)))
    go false e = halves first 0 (first * UPPER) (omega arith) (omega arith) ∙ rw e

-- ---- The list of races

-- An answer of a list whose numbers have 32 bits is read back from its number.
list_read : (l : Listed) → SmallList l → unpacked_listed (packed_listed l) ≡ l
list_read (listed.Pairs n) s =
    let a : n / UPPER ≡ 0 = omega arith in
    let b : n % UPPER ≡ n = omega arith in
    λ k. cond (eqb (a k) 0) (listed.Pairs (b k)) (listed.Refused (a k) (b k))
list_read (listed.Refused number place) s =
    let answer = number * UPPER + place in
    let a : answer / UPPER ≡ number = omega arith in
    let b : answer % UPPER ≡ place = omega arith in
    (λ k. cond (eqb (a k) 0) (listed.Pairs (b k)) (listed.Refused (a k) (b k))) ∙ rw (ne_eqb number 0 (λ z. omega arith))

-- Every answer of the list of a text's races is read back from its number.
pub listed_back : (text : List ℕ) (header model R P limit a b listLength : ℕ) →
    unpacked_listed (packed_listed (listing.listed_of model (check_trace text header model R P limit a b) listLength))
    ≡ listing.listed_of model (check_trace text header model R P limit a b) listLength
listed_back text header model R P limit a b listLength = list_read _ (listed_small text header model R P limit a b listLength)

-- Every answer of the list of rows' races is read back from its number.
pub rows-listed_back : (n P model : ℕ) (xs : List ℕ) (L M : ℕ) →
    unpacked_listed (packed_listed (listed_of (first_no (list_questions n P model xs L M)) (race_pairs (rows_in n xs) model)))
    ≡ listed_of (first_no (list_questions n P model xs L M)) (race_pairs (rows_in n xs) model)
unfolding list_questions judge_questions
rows-listed_back n P model xs L M = go (eqb first 0) refl
  where
    first : ℕ
    first = first_no (list_questions n P model xs L M)

    answer : Bool → Listed
    answer b = cond b (listed.Pairs (length (race_pairs (rows_in n xs) model))) (listed.Refused first 0)

    go : (b : Bool) → eqb first 0 ≡ b → unpacked_listed (packed_listed (answer b)) ≡ answer b
    go true e = list_read _ (omega (arith, pairs-in n model xs, square_most (few-listed n P model xs L M (eqb-true first 0 e))))
    go false e =
        let a : (first * UPPER + 0) / UPPER ≡ first = omega arith in
        let b : (first * UPPER + 0) % UPPER ≡ 0 = omega arith in
        (λ k. cond (eqb (a k) 0) (listed.Pairs (b k)) (listed.Refused (a k) (b k))) ∙ rw e

-- ---- Writing

-- A small answer of writing is read back from its number.
small_back : (w : Written) → Small w → unpacked_written (packed_written w) ≡ w
small_back (written.Length size) s =
    let a : size / UPPER ≡ 0 = omega arith in
    let b : size % UPPER ≡ size = omega arith in
    λ k. cond (eqb (a k) 0) (written.Length (b k)) (written.Refused (a k) (b k))
small_back (written.Refused number place) s =
    let answer = number * UPPER + place in
    let a : answer / UPPER ≡ number = omega arith in
    let b : answer % UPPER ≡ place = omega arith in
    (λ k. cond (eqb (a k) 0) (written.Length (b k)) (written.Refused (a k) (b k))) ∙ rw (ne_eqb number 0 (λ z. omega arith))

-- Every answer of writing is read back from its number.
pub written_back : (xs : List ℕ) (n header P outLength place : ℕ) →
    unpacked_written (packed_written (written_of (write_trace xs n header P outLength place))) ≡ written_of (write_trace xs n header P outLength place)
written_back xs n header P outLength place = small_back _ (written_small xs n header P outLength place)

-- ---- A lookup

-- The number of an answer that tells what stands at a byte.
pub packs-stretch : {a : LookupAnswer} {s : Stretch} {w : ℕ} → a ≡ looked.Found s → w ≡ s.number % WORD →
    (w * MARKS + s.mark % MARKS) * UPPER + s.next ≡ packed_lookup_words a
packs-stretch {a} {s} q d = (λ i. (d i * MARKS + s.mark % MARKS) * UPPER + s.next) ∙ sym (ap packed_lookup_words q)

-- The number of a lookup's refusal.
pub packs-lookup_refused : {a : LookupAnswer} {number w : ℕ} → a ≡ looked.Refused number → w ≡ number % WORD → w * WORD_4 ≡ packed_lookup_words a
packs-lookup_refused q d = (λ i. d i * WORD_4) ∙ sym (ap packed_lookup_words q)

-- The number of a small answer holds all its bits.
pub lookup_words_packed : (a : LookupAnswer) → lookup.Small a → packed_lookup_words a ≡ packed_lookup a
lookup_words_packed (looked.Found s) l = let n = l.0 in let m = l.1 in omega arith
lookup_words_packed (looked.Refused number) l = let n = l.1 in omega arith

-- A small answer of a lookup is read back from its number.
lookup_read_back : (a : LookupAnswer) → lookup.Small a → unpacked_lookup (packed_lookup a) ≡ a
lookup_read_back (looked.Found s) l =
    let number = s.number in
    let mark = s.mark in
    let next = s.next in
    let answer = (number * MARKS + mark) * UPPER + next in
    let n = l.0 in
    let m = l.1 in
    let t = l.2 in
    let z : answer / WORD_4 ≡ 0 = omega arith in
    let u : answer / UPPER / MARKS ≡ number = omega arith in
    let v : answer / UPPER % MARKS ≡ mark = omega arith in
    let w : answer % UPPER ≡ next = omega arith in
    λ k. cond (eqb (z k) 0) (looked.Found (record { number = u k; mark = v k; next = w k })) (looked.Refused (z k))
lookup_read_back (looked.Refused number) l =
    let answer = number * WORD_4 in
    let n = l.0 in
    let z : answer / WORD_4 ≡ number = omega arith in
    (λ k. cond (eqb (z k) 0) (looked.Found (stretch_in (answer / UPPER) (answer % UPPER))) (looked.Refused (z k)))
    ∙ rw (ne_eqb number 0 (λ e. omega arith))

-- Every answer of a lookup is read back from its number.
pub lookup_back : (xs : List ℕ) (byte : ℕ) → unpacked_lookup (packed_lookup (looked_up xs byte)) ≡ looked_up xs byte
lookup_back xs byte = lookup_read_back _ (lookup_small xs byte)
