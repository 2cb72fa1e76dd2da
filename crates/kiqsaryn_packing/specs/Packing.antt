-- How the answers of a check, of a whole call on one trace or on two files, of a verdict, of a list of races, of writing and of a lookup are packed
-- into one number each, and read back.
use Rattle.std.specs.Prelude.{ℕ, ◌+◌, ◌*◌, ◌/◌, ◌%◌, ◌<◌, cond, eqb, Result, Ok, Err, Option, None, Some}
use Rattle.rows.specs.Refusals.{number_of}
use Rattle.rows.specs.declared.refusal.Refusal.{Refusal}
use Rattle.rows.specs.declared.refusal.Refused as refusal
use Rattle.races.specs.declared.Race as race
use Rattle.races.specs.Answers.{Found, told_found}
use Rattle.races.specs.Answers as found
use Rattle.races.specs.Listing.{Listed}
use Rattle.races.specs.Listing as listed
use Rattle.trace.specs.Questions.{Checked, told}
use Rattle.trace.specs.Questions as checked
use Rattle.checker.specs.Judging.{Judged, told_judged}
use Rattle.checker.specs.Judging as judged
use Rattle.checker.specs.declared.Judged as checking
use Rattle.extents.specs.declared.Stretch.{Stretch}
use Rattle.extents.specs.Answers as answers
use Rattle.extents.specs.LookupAnswers.{LookupAnswer, told_lookup}
use Rattle.extents.specs.LookupAnswers as looked
use Rattle.join.specs.declared.JoinRefused.{JoinRefused}
use Rattle.join_checker.specs.Judging.{JudgedJoin}
use Rattle.join_checker.specs.Judging as join
use Rattle.machine_state.specs.Answers.{told_step}
use Rattle.machine_state.specs.declared.files.Replayed.{Replayed}
use Rattle.machine_state.specs.Replays.{told_end}
use Rattle.writer.specs.Answers as written
use Rattle.writer.specs.Answers.{told_written}

-- The factor of the upper half of a number, which has 32 bits.
abbrev pub UPPER : ℕ
UPPER = 4294967296

-- The factor of the second word of a number, which has 16 bits.
abbrev pub WORD : ℕ
WORD = 65536

-- The factor of the third word.
abbrev pub WORD_3 : ℕ
WORD_3 = 4294967296

-- The factor of the fourth word.
abbrev pub WORD_4 : ℕ
WORD_4 = 281474976710656

-- The factor of the row number in the upper half of a lookup's answer: below it stands the mark, with room for two bits.
abbrev pub MARKS : ℕ
MARKS = 4

-- A check's answer: the row count, or the refusal's number in the upper half and its place in the lower.
abbrev pub packed : Checked → ℕ
packed (checked.Accepted n) = n
packed (checked.Refused number place) = number * UPPER + place

-- The whole call's answer, in four words of 16 bits. Of an accepted trace, from the lowest: the row count, the later and the earlier row of the
-- first race, both 0 for free, and 0. Of a refusal: its place in the lowest, its number in the highest, and 0 between.
abbrev pub packed_judged : Judged → ℕ
packed_judged (judged.Free n) = n
packed_judged (judged.Race n earlier later) = n + later * WORD + earlier * WORD_3
packed_judged (judged.Refused number place) = number * WORD_4 + place

-- The number of any answer: the words hold the lowest 16 bits of each of its numbers. The answers of the whole call have no more bits.
abbrev pub packed_words : Judged → ℕ
packed_words (judged.Free n) = n % WORD
packed_words (judged.Race n earlier later) = n % WORD + (later % WORD) * WORD + (earlier % WORD) * WORD_3
packed_words (judged.Refused number place) = (number % WORD) * WORD_4 + place % WORD

-- Every number of the whole call's answer has 16 bits.
abbrev pub FitsWords : Judged → Type 0
FitsWords (judged.Free n) = n < WORD
FitsWords (judged.Race n earlier later) = (n < WORD) × (earlier < WORD) × (later < WORD)
FitsWords (judged.Refused number place) = (number < WORD) × (place < WORD)

-- The whole call's answer that such a number tells. The later row of a race is not 0.
abbrev pub unpacked_judged : ℕ → Judged
unpacked_judged answer =
    let number = answer / WORD_4 in
    let earlier = answer / WORD_3 % WORD in
    let later = answer / WORD % WORD in
    let low = answer % WORD in
    cond (eqb number 0) (cond (eqb later 0) (judged.Free low) (judged.Race low earlier later)) (judged.Refused number low)

-- The answer of the whole call on two files, in four words of 16 bits. Of an accepted join, from the lowest: the row count, the later and the
-- earlier row of the first race, both 0 for free, and 0. Of a refusal: its place, its file, 0, and its number in the highest.
abbrev pub packed_join : JudgedJoin → ℕ
packed_join (join.Free n) = n
packed_join (join.Race n earlier later) = n + later * WORD + earlier * WORD_3
packed_join (join.Refused number place file) = number * WORD_4 + file * WORD + place

-- The number of any such answer: the words hold the lowest 16 bits of each of its numbers. The answers of the whole call have no more bits.
abbrev pub packed_join_words : JudgedJoin → ℕ
packed_join_words (join.Free n) = n % WORD
packed_join_words (join.Race n earlier later) = n % WORD + (later % WORD) * WORD + (earlier % WORD) * WORD_3
packed_join_words (join.Refused number place file) = (number % WORD) * WORD_4 + (file % WORD) * WORD + place % WORD

-- Every number of the answer has 16 bits.
abbrev pub FitsJoinWords : JudgedJoin → Type 0
FitsJoinWords (join.Free n) = n < WORD
FitsJoinWords (join.Race n earlier later) = (n < WORD) × (earlier < WORD) × (later < WORD)
FitsJoinWords (join.Refused number place file) = (number < WORD) × (place < WORD) × (file < WORD)

-- The answer that such a number tells. The number of a refusal and the later row of a race are not 0.
abbrev pub unpacked_join : ℕ → JudgedJoin
unpacked_join answer =
    let number = answer / WORD_4 in
    let third = answer / WORD_3 % WORD in
    let second = answer / WORD % WORD in
    let low = answer % WORD in
    cond (eqb number 0) (cond (eqb second 0) (join.Free low) (join.Race low third second)) (join.Refused number low second)

-- A verdict: 0 for free, the earlier row's number in the upper half and the later row's in the lower for a race, and of a refusal its number in
-- the upper half.
abbrev pub packed_found : Found → ℕ
packed_found found.Free = 0
packed_found (found.Race earlier later) = earlier * UPPER + later
packed_found (found.Refused number) = number * UPPER

-- The verdict that such a number tells. The later row of a race is not 0.
abbrev pub unpacked_found : ℕ → Found
unpacked_found answer =
    let high = answer / UPPER in
    let low = answer % UPPER in
    cond (eqb low 0) (cond (eqb high 0) found.Free (found.Refused high)) (found.Race high low)

-- The answer of a list of races: the number of pairs, or the refusal's number in the upper half and its place in the lower.
abbrev pub packed_listed : Listed → ℕ
packed_listed (listed.Pairs n) = n
packed_listed (listed.Refused number place) = number * UPPER + place

-- The answer of a list that such a number tells. The number of a refusal is not 0.
abbrev pub unpacked_listed : ℕ → Listed
unpacked_listed answer =
    let high = answer / UPPER in
    let low = answer % UPPER in
    cond (eqb high 0) (listed.Pairs low) (listed.Refused high low)

-- The answer of writing: the text's length, or the refusal's number in the upper half and its place in the lower.
abbrev pub packed_written : written.Written → ℕ
packed_written (written.Length length) = length
packed_written (written.Refused number place) = number * UPPER + place

-- The answer of writing that such a number tells. The number of a refusal is not 0.
abbrev pub unpacked_written : ℕ → written.Written
unpacked_written answer =
    let high = answer / UPPER in
    let low = answer % UPPER in
    cond (eqb high 0) (written.Length low) (written.Refused high low)

-- The answer of a lookup: the next byte in the lower half, four times the row number and the mark in the upper one; of a refusal its number in the
-- highest word.
abbrev pub packed_lookup : LookupAnswer → ℕ
packed_lookup (looked.Found s) = (s.number * MARKS + s.mark) * UPPER + s.next
packed_lookup (looked.Refused number) = number * WORD_4

-- The number of any such answer: it holds the lowest 16 bits of a row number and of a refusal's number, the lowest two bits of a mark, and the next
-- byte. The answers of a lookup have no more bits.
abbrev pub packed_lookup_words : LookupAnswer → ℕ
packed_lookup_words (looked.Found s) = (s.number % WORD * MARKS + s.mark % MARKS) * UPPER + s.next
packed_lookup_words (looked.Refused number) = number % WORD * WORD_4

-- What stands at a byte, by the two halves of a lookup's answer.
abbrev pub stretch_in : ℕ → ℕ → Stretch
stretch_in upper lower = record { number = upper / MARKS; mark = upper % MARKS; next = lower }

-- The answer of a lookup that such a number tells. The number of a refusal is not 0.
abbrev pub unpacked_lookup : ℕ → LookupAnswer
unpacked_lookup answer =
    let number = answer / WORD_4 in
    cond (eqb number 0) (looked.Found (stretch_in (answer / UPPER) (answer % UPPER))) (looked.Refused number)

-- ---- What the code packs

-- A check's answer or a list's.
abbrev pub packed_count : Result ℕ refusal.Refused → ℕ
packed_count answer = packed (told answer)

-- The answer of writing.
abbrev pub packed_length : Result ℕ refusal.Refused → ℕ
packed_length answer = packed_written (told_written answer)

-- A trace's row count and its first race, if it has one.
abbrev pub packed_race : ℕ → Option race.Race → ℕ
packed_race n None = packed_words (judged.Free n)
packed_race n (Some r) = packed_words (judged.Race n r.earlier r.later)

-- The whole call's answer.
abbrev pub packed_judgement : Result checking.Judged refusal.Refused → ℕ
packed_judgement answer = packed_words (told_judged answer)

-- The answer of the whole call on two files.
abbrev pub packed_join_judgement : Result checking.Judged JoinRefused → ℕ
packed_join_judgement answer = packed_join_words (join.told_judged answer)

-- A verdict.
abbrev pub packed_verdict : Result (Option race.Race) Refusal → ℕ
packed_verdict answer = packed_found (told_found answer)

-- A step's answer by what the code says of it: the count of pieces, 0 for a row that is no read, or a refusal's number in the upper half.
abbrev pub packed_answer : answers.Answer → ℕ
packed_answer answers.Done = 0
packed_answer (answers.Listed count) = count
packed_answer (answers.Refused number) = number * UPPER

-- A step's answer.
abbrev pub packed_pieces : Result (Option ℕ) Refusal → ℕ
packed_pieces answer = packed_answer (told_step answer)

-- The answer of a lookup.
abbrev pub packed_stretch : Result Stretch Refusal → ℕ
packed_stretch answer = packed_lookup_words (told_lookup answer)

-- The number of a refusal, and 0 for none.
abbrev pub number_if : Result Unit Refusal → ℕ
number_if (Ok done) = 0
number_if (Err refusal) = number_of refusal

-- A replay's answer: how many rows it has gone through, and its refusal's number in the upper half, 0 for none.
abbrev pub packed_replay : Replayed → ℕ
packed_replay r = told_end r.refusal * UPPER + r.rows
