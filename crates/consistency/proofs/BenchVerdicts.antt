-- The bench traces A to J and L, B also with a wait, from their texts to their verdicts in all models, by the definitions.
use Rattle.std.proofs.Common.{ℕ, ◌≡◌, refl, List, [], ◌∷◌, ◌++◌, map}
use Rattle.csv_field.specs.FieldReading.{field_at, quoted_to, quotes, after_quote, after_cr, stop_of, text_length, is_text, is_quoted}
use Rattle.csv_content.specs.Content.{content_of, undouble, same_bytes}
use Rattle.csv_records.specs.Reading.{records, records_from, on_found, read_at, fields_from, on_stop, prepend}
use Rattle.trace.specs.Rows.{word_of, same_fields, used_by, all_digits, starts_plain, value_from, row_of}
use Rattle.trace.specs.Questions.{call_questions, filled_as_used, numbers_in_range, any, message_in_order, wait_in_order, field_questions, record_questions, row_questions, message_questions, judge_rows, judge_header, read_records, ask_barriers, read_trace, check_trace, Outcome, refused, accepted}
use Rattle.rows.specs.Questions.{first_no}
use Rattle.rows.specs.Counting.{any_below, least_from, last_below}
use Rattle.barriers.specs.Barriers.{goes_on, repeats, out_of_turn, first_out, unfinished, barrier_place}
use Rattle.happens_before.specs.Order.{last_of, passes, crosses, edge, hb_within}
use Rattle.races_meaning.specs.Races.{share_byte, conflict, chain_posix, chain_commit, chain_session, chain_mpi_io, chain, synchronized, race, Verdict, free, racing, verdict_of}

-- ---- Lines, without their line ends

-- process,kind,file,offset,length,message
unfoldable pub l-head : List ℕ
l-head = 112 ∷ 114 ∷ 111 ∷ 99 ∷ 101 ∷ 115 ∷ 115 ∷ 44 ∷ 107 ∷ 105 ∷ 110 ∷ 100 ∷ 44 ∷ 102 ∷ 105 ∷ 108 ∷ 101 ∷ 44 ∷ 111 ∷ 102 ∷ 102 ∷ 115 ∷ 101 ∷ 116 ∷ 44 ∷ 108 ∷ 101 ∷ 110 ∷ 103 ∷ 116 ∷ 104 ∷ 44 ∷ 109 ∷ 101 ∷ 115 ∷ 115 ∷ 97 ∷ 103 ∷ 101 ∷ []

-- 0,write,1,0,10,
unfoldable pub l-write_ten : List ℕ
l-write_ten = 48 ∷ 44 ∷ 119 ∷ 114 ∷ 105 ∷ 116 ∷ 101 ∷ 44 ∷ 49 ∷ 44 ∷ 48 ∷ 44 ∷ 49 ∷ 48 ∷ 44 ∷ []

-- 0,commit,1,,,
unfoldable pub l-commit : List ℕ
l-commit = 48 ∷ 44 ∷ 99 ∷ 111 ∷ 109 ∷ 109 ∷ 105 ∷ 116 ∷ 44 ∷ 49 ∷ 44 ∷ 44 ∷ 44 ∷ []

-- 0,send,,,,7
l-send : List ℕ
l-send = 48 ∷ 44 ∷ 115 ∷ 101 ∷ 110 ∷ 100 ∷ 44 ∷ 44 ∷ 44 ∷ 44 ∷ 55 ∷ []

-- 1,recv,,,,7
l-recv : List ℕ
l-recv = 49 ∷ 44 ∷ 114 ∷ 101 ∷ 99 ∷ 118 ∷ 44 ∷ 44 ∷ 44 ∷ 44 ∷ 55 ∷ []

-- 1,wait,,,,7
l-wait : List ℕ
l-wait = 49 ∷ 44 ∷ 119 ∷ 97 ∷ 105 ∷ 116 ∷ 44 ∷ 44 ∷ 44 ∷ 44 ∷ 55 ∷ []

-- 1,read,1,5,10,
unfoldable pub l-read_ten : List ℕ
l-read_ten = 49 ∷ 44 ∷ 114 ∷ 101 ∷ 97 ∷ 100 ∷ 44 ∷ 49 ∷ 44 ∷ 53 ∷ 44 ∷ 49 ∷ 48 ∷ 44 ∷ []

-- 1,read,1,10,10,
l-read_behind : List ℕ
l-read_behind = 49 ∷ 44 ∷ 114 ∷ 101 ∷ 97 ∷ 100 ∷ 44 ∷ 49 ∷ 44 ∷ 49 ∷ 48 ∷ 44 ∷ 49 ∷ 48 ∷ 44 ∷ []

-- 0,close,1,,,
l-close : List ℕ
l-close = 48 ∷ 44 ∷ 99 ∷ 108 ∷ 111 ∷ 115 ∷ 101 ∷ 44 ∷ 49 ∷ 44 ∷ 44 ∷ 44 ∷ []

-- 1,open,1,,,
l-open : List ℕ
l-open = 49 ∷ 44 ∷ 111 ∷ 112 ∷ 101 ∷ 110 ∷ 44 ∷ 49 ∷ 44 ∷ 44 ∷ 44 ∷ []

-- 0,read,1,0,10,
l-read_first : List ℕ
l-read_first = 48 ∷ 44 ∷ 114 ∷ 101 ∷ 97 ∷ 100 ∷ 44 ∷ 49 ∷ 44 ∷ 48 ∷ 44 ∷ 49 ∷ 48 ∷ 44 ∷ []

-- 1,write,1,5,10,
l-write_there : List ℕ
l-write_there = 49 ∷ 44 ∷ 119 ∷ 114 ∷ 105 ∷ 116 ∷ 101 ∷ 44 ∷ 49 ∷ 44 ∷ 53 ∷ 44 ∷ 49 ∷ 48 ∷ 44 ∷ []

-- 0,read,1,5,10,
l-own_read : List ℕ
l-own_read = 48 ∷ 44 ∷ 114 ∷ 101 ∷ 97 ∷ 100 ∷ 44 ∷ 49 ∷ 44 ∷ 53 ∷ 44 ∷ 49 ∷ 48 ∷ 44 ∷ []

-- 0,write,1,0,1,
l-write_one : List ℕ
l-write_one = 48 ∷ 44 ∷ 119 ∷ 114 ∷ 105 ∷ 116 ∷ 101 ∷ 44 ∷ 49 ∷ 44 ∷ 48 ∷ 44 ∷ 49 ∷ 44 ∷ []

-- 1,write,1,0,1,
l-other_write : List ℕ
l-other_write = 49 ∷ 44 ∷ 119 ∷ 114 ∷ 105 ∷ 116 ∷ 101 ∷ 44 ∷ 49 ∷ 44 ∷ 48 ∷ 44 ∷ 49 ∷ 44 ∷ []

-- 0,write,1,0,0,
l-write_none : List ℕ
l-write_none = 48 ∷ 44 ∷ 119 ∷ 114 ∷ 105 ∷ 116 ∷ 101 ∷ 44 ∷ 49 ∷ 44 ∷ 48 ∷ 44 ∷ 48 ∷ 44 ∷ []

-- Lines as a text.
unfoldable pub in_text : List (List ℕ) → List ℕ
in_text [] = []
in_text (l ∷ ls) = l ++ (13 ∷ (10 ∷ in_text ls))

-- ---- The traces

-- A trace: its header word and its text.
pub record Bench : Type 0 where
  pub header : ℕ
  pub text : List ℕ

-- A: header absent, no bytes
a : Bench
a = record { header = 0; text = in_text ([]) }

-- B
b : Bench
b = record { header = 1; text = in_text (l-head ∷ l-write_ten ∷ l-commit ∷ l-send ∷ l-recv ∷ l-read_ten ∷ []) }

-- B with a wait after row 4
b-wait : Bench
b-wait = record { header = 1; text = in_text (l-head ∷ l-write_ten ∷ l-commit ∷ l-send ∷ l-recv ∷ l-wait ∷ l-read_ten ∷ []) }

-- C: B with a wait, without row 2
c : Bench
c = record { header = 1; text = in_text (l-head ∷ l-write_ten ∷ l-send ∷ l-recv ∷ l-wait ∷ l-read_ten ∷ []) }

-- D: B with the read at offset 10
d : Bench
d = record { header = 1; text = in_text (l-head ∷ l-write_ten ∷ l-commit ∷ l-send ∷ l-recv ∷ l-read_behind ∷ []) }

-- E: B with a wait, the commit after the send
e : Bench
e = record { header = 1; text = in_text (l-head ∷ l-write_ten ∷ l-send ∷ l-commit ∷ l-recv ∷ l-wait ∷ l-read_ten ∷ []) }

-- F: write, close, send by 0; recv, wait, open, read by 1, overlapping
f : Bench
f = record { header = 1; text = in_text (l-head ∷ l-write_ten ∷ l-close ∷ l-send ∷ l-recv ∷ l-wait ∷ l-open ∷ l-read_ten ∷ []) }

-- G: F with the open before the recv
g : Bench
g = record { header = 1; text = in_text (l-head ∷ l-write_ten ∷ l-close ∷ l-send ∷ l-open ∷ l-recv ∷ l-wait ∷ l-read_ten ∷ []) }

-- H: 0 reads and sends; 1 receives, waits, and writes there
h : Bench
h = record { header = 1; text = in_text (l-head ∷ l-read_first ∷ l-send ∷ l-recv ∷ l-wait ∷ l-write_there ∷ []) }

-- I: one process writes and reads, no sync
i : Bench
i = record { header = 1; text = in_text (l-head ∷ l-write_ten ∷ l-own_read ∷ []) }

-- J: two processes write one byte, no messages
j : Bench
j = record { header = 1; text = in_text (l-head ∷ l-write_one ∷ l-other_write ∷ []) }

-- L: B with write length 0
l : Bench
l = record { header = 1; text = in_text (l-head ∷ l-write_none ∷ l-commit ∷ l-send ∷ l-recv ∷ l-read_ten ∷ []) }

pub traces : List Bench
traces = a ∷ b ∷ b-wait ∷ c ∷ d ∷ e ∷ f ∷ g ∷ h ∷ i ∷ j ∷ l ∷ []

-- ---- Their verdicts

-- The verdicts of an outcome under POSIX, commit, session and MPI-IO.
unfoldable pub verdicts : Outcome → List Verdict
verdicts (refused number place) = []
verdicts (accepted rows) = verdict_of rows 0 ∷ (verdict_of rows 1 ∷ (verdict_of rows 2 ∷ (verdict_of rows 3 ∷ [])))

-- Read with room for 128 rows of 8 processes.
unfoldable pub judged : Bench → List Verdict
judged t = verdicts (check_trace t.text t.header 0 128 8 8192 768 1024)

-- The verdicts of A to J and L, B once more with a wait.
abbrev pub expected : List (List Verdict)
expected =
    (free ∷ free ∷ free ∷ free ∷ [])  -- A
    ∷ (racing 1 5 ∷ racing 1 5 ∷ racing 1 5 ∷ racing 1 5 ∷ [])  -- B
    ∷ (free ∷ free ∷ racing 1 6 ∷ racing 1 6 ∷ [])  -- B with a wait after row 4
    ∷ (free ∷ racing 1 5 ∷ racing 1 5 ∷ racing 1 5 ∷ [])  -- C
    ∷ (free ∷ free ∷ free ∷ free ∷ [])  -- D
    ∷ (free ∷ racing 1 6 ∷ racing 1 6 ∷ racing 1 6 ∷ [])  -- E
    ∷ (free ∷ racing 1 7 ∷ free ∷ free ∷ [])  -- F
    ∷ (free ∷ racing 1 7 ∷ racing 1 7 ∷ racing 1 7 ∷ [])  -- G
    ∷ (free ∷ free ∷ free ∷ free ∷ [])  -- H
    ∷ (free ∷ free ∷ free ∷ free ∷ [])  -- I
    ∷ (racing 1 2 ∷ racing 1 2 ∷ racing 1 2 ∷ racing 1 2 ∷ [])  -- J
    ∷ (free ∷ free ∷ free ∷ free ∷ [])  -- L
    ∷ []

pub bench-verdicts : map judged traces ≡ expected
unfolding records records_from on_found read_at fields_from on_stop prepend field_at quoted_to quotes after_quote after_cr stop_of text_length is_text is_quoted content_of undouble same_bytes word_of same_fields used_by all_digits starts_plain value_from row_of first_no call_questions filled_as_used numbers_in_range any message_in_order wait_in_order field_questions record_questions row_questions message_questions judge_rows judge_header read_records goes_on repeats out_of_turn first_out unfinished barrier_place ask_barriers read_trace check_trace any_below last_below last_of passes crosses edge hb_within share_byte conflict chain_posix chain_commit chain_session chain_mpi_io chain synchronized race least_from verdict_of verdicts judged traces in_text l-head l-write_ten l-commit l-send l-recv l-wait l-read_ten l-read_behind l-close l-open l-read_first l-write_there l-own_read l-write_one l-other_write l-write_none a b b-wait c d e f g h i j l
bench-verdicts = refl
