-- Three bench traces with a barrier, from their texts to their verdicts in all models, by the definitions: process 0 writes and arrives, process 1
-- arrives and reads, and 0 commits before the barrier, between the barrier and the read, or behind the read.
use Rattle.std.proofs.Common.{ℕ, ◌≡◌, refl, List, [], ◌∷◌, map}
use Rattle.csv_field.specs.FieldReading.{field_at, after_cr, stop_of, text_length, is_text}
use Rattle.csv_content.specs.Content.{content_of, same_bytes}
use Rattle.csv_records.specs.Reading.{records, records_from, on_found, read_at, fields_from, on_stop, prepend}
use Rattle.trace.specs.Rows.{word_of, same_fields, used_by, all_digits, starts_plain, value_from, row_of}
use Rattle.trace.specs.Questions.{call_questions, filled_as_used, numbers_in_range, any, message_in_order, wait_in_order, field_questions, record_questions, row_questions, message_questions, judge_rows, judge_header, read_records, ask_barriers, read_trace, check_trace}
use Rattle.rows.specs.Questions.{first_no}
use Rattle.rows.specs.Counting.{any_below, least_from, last_below}
use Rattle.barriers.specs.Barriers.{all_arrived, goes_on, repeats, out_of_turn, first_out, unfinished, barrier_place}
use Rattle.happens_before.specs.Order.{last_of, passes, crosses, edge, hb_within}
use Rattle.races_meaning.specs.Races.{share_byte, conflict, chain_posix, chain_commit, chain_session, chain_mpi_io, chain, synchronized, race, Verdict, free, racing, verdict_of}
use Rattle.consistency.proofs.BenchVerdicts.{l-head, l-write_ten, l-commit, l-read_ten, in_text, Bench, verdicts, judged}

-- 0,barrier,,,,7
l-arrive : List ℕ
l-arrive = 48 ∷ 44 ∷ 98 ∷ 97 ∷ 114 ∷ 114 ∷ 105 ∷ 101 ∷ 114 ∷ 44 ∷ 44 ∷ 44 ∷ 44 ∷ 55 ∷ []

-- 1,barrier,,,,7
l-other_arrive : List ℕ
l-other_arrive = 49 ∷ 44 ∷ 98 ∷ 97 ∷ 114 ∷ 114 ∷ 105 ∷ 101 ∷ 114 ∷ 44 ∷ 44 ∷ 44 ∷ 44 ∷ 55 ∷ []

-- 0 writes, commits and arrives; 1 arrives and reads, overlapping
commit-before : Bench
commit-before = record { header = 1; text = in_text (l-head ∷ l-write_ten ∷ l-commit ∷ l-arrive ∷ l-other_arrive ∷ l-read_ten ∷ []) }

-- the commit after both have arrived, before the read
commit-between : Bench
commit-between = record { header = 1; text = in_text (l-head ∷ l-write_ten ∷ l-arrive ∷ l-other_arrive ∷ l-commit ∷ l-read_ten ∷ []) }

-- the commit behind the read
commit-behind : Bench
commit-behind = record { header = 1; text = in_text (l-head ∷ l-write_ten ∷ l-arrive ∷ l-other_arrive ∷ l-read_ten ∷ l-commit ∷ []) }

pub barrier_traces : List Bench
barrier_traces = commit-before ∷ commit-between ∷ commit-behind ∷ []

-- Their verdicts under POSIX, commit, session and MPI-IO.
abbrev pub barrier_verdicts : List (List Verdict)
barrier_verdicts =
    (free ∷ free ∷ racing 1 5 ∷ racing 1 5 ∷ [])  -- commit before the barrier
    ∷ (free ∷ racing 1 5 ∷ racing 1 5 ∷ racing 1 5 ∷ [])  -- commit between the barrier and the read
    ∷ (free ∷ racing 1 4 ∷ racing 1 4 ∷ racing 1 4 ∷ [])  -- commit behind the read
    ∷ []

pub barrier_bench : map judged barrier_traces ≡ barrier_verdicts
unfolding records records_from on_found read_at fields_from on_stop prepend field_at after_cr stop_of text_length is_text content_of same_bytes word_of same_fields used_by all_digits starts_plain value_from row_of first_no call_questions filled_as_used numbers_in_range any message_in_order wait_in_order field_questions record_questions row_questions message_questions judge_rows judge_header read_records all_arrived goes_on repeats out_of_turn first_out unfinished barrier_place ask_barriers read_trace check_trace any_below last_below last_of passes crosses edge hb_within share_byte conflict chain_posix chain_commit chain_session chain_mpi_io chain synchronized race least_from verdict_of verdicts judged barrier_traces in_text l-head l-write_ten l-commit l-read_ten l-arrive l-other_arrive commit-before commit-between commit-behind
barrier_bench = refl
