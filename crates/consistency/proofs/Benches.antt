-- Bench trace K: what is published and what is plain after its rows in trace order.
use Rattle.std.proofs.Common.{ℕ, ◌*◌, ◌<◌, arith, ◌≡◌, refl, sym, ap, ◌∙◌, map, List, [], ◌∷◌, ◌++◌}
use native.Mathlib.Decide.{dec_lt}
use Rattle.rows.specs.Kinds.{WRITE, COMMIT}
use Rattle.models.specs.Models.{COMMIT_MODEL}
use Rattle.models.specs.Table.{publishes, refreshes}
use Rattle.csv_field.specs.FieldReading.{field_at, after_cr, stop_of, text_length, is_text}
use Rattle.csv_content.specs.Content.{content_of, same_bytes}
use Rattle.csv_records.specs.Reading.{records, records_from, on_found, read_at, fields_from, on_stop, prepend}
use Rattle.rows.specs.declared.row.Row.{Row}
use Rattle.trace.specs.Rows.{word_of, used_by, all_digits, starts_plain, value_from, row_of}
use Rattle.trace.specs.Questions.{call_questions, filled_as_used, numbers_in_range, any, message_in_order, wait_in_order, field_questions, record_questions, row_questions, message_questions, judge_rows, read_records, ask_barriers, read_trace, check_trace, accepted}
use Rattle.rows.specs.Questions.{first_no}
use Rattle.rows.specs.Counting.{any_below, least_from, last_below}
use Rattle.barriers.specs.Barriers.{goes_on, repeats, out_of_turn, first_out, unfinished, barrier_place}
use Rattle.happens_before.specs.Order.{last_of, passes, crosses, edge, hb_within}
use Rattle.consistency.proofs.BenchVerdicts.{judged, traces, expected, bench-verdicts}
use Rattle.races_meaning.specs.Races.{share_byte, conflict, chain_commit, chain, synchronized, race, racing, verdict_of}
use Rattle.extents_meaning.specs.Cells.{Bytes, cell_of}
use Rattle.extents_meaning.specs.Runs.{Run, run_of, cell_at, Lawful}
use Rattle.extents_meaning.specs.Maps.{map_of, map_for, map_at}
use Rattle.extents_meaning.proofs.Longest.{range-in, range-before, range-behind, runs-unique}
use Rattle.machine_meaning.specs.Layers.{fresh, nothing, after_row, after_plain}
use Rattle.machine_meaning.specs.States.{Header}
use Rattle.machine_meaning.proofs.Points.{fresh-pointed, plain-pointed}
use Rattle.machine_meaning.proofs.Slices.{to-shared, plain-first, layers_held, plain-held}
use Rattle.consistency.specs.Orders.{places_below, trace_order}
use Rattle.consistency.specs.Files.{NumberedRow, rows_for, run_from, plain_run_from, writes_in, header_for, Lent, fresh_machine, fresh_plain}
use Rattle.consistency.proofs.Meaning.{layers_run, plain_run}
use Rattle.consistency.proofs.Orderings.{trace_order_lem}
use Rattle.consistency.proofs.Encoding.{Made, AllFit, Enough, made-fresh, plain-made_fresh, run_pointed, plain_run-pointed, run_to, plain_run-to}
use Rattle.consistency.proofs.Theorems.{points_of, points_length, points_enough, order-fits, sound_trace}

-- A row by its six numbers.
abbrev pub row : ℕ → ℕ → ℕ → ℕ → ℕ → ℕ → Row
row process kind file offset length message = record { process = process; kind = kind; file = file; offset = offset; length = length; message = message }

-- ---- K: 0 writes 0 to 9 (row 1), 1 writes 5 to 9 (row 2), 1 commits, 0 commits

abbrev pub k_rows : List Row
k_rows = row 0 WRITE 1 0 10 0 ∷ (row 1 WRITE 1 5 5 0 ∷ (row 1 COMMIT 1 0 0 0 ∷ (row 0 COMMIT 1 0 0 0 ∷ [])))

-- 0,write,1,0,10,  1,write,1,5,5,  1,commit,1,,,  0,commit,1,,,
abbrev pub k_text : List ℕ
k_text =
    (48 ∷ 44 ∷ 119 ∷ 114 ∷ 105 ∷ 116 ∷ 101 ∷ 44 ∷ 49 ∷ 44 ∷ 48 ∷ 44 ∷ 49 ∷ 48 ∷ 44 ∷ 13 ∷ 10 ∷ [])
    ++ ((49 ∷ 44 ∷ 119 ∷ 114 ∷ 105 ∷ 116 ∷ 101 ∷ 44 ∷ 49 ∷ 44 ∷ 53 ∷ 44 ∷ 53 ∷ 44 ∷ 13 ∷ 10 ∷ [])
    ++ ((49 ∷ 44 ∷ 99 ∷ 111 ∷ 109 ∷ 109 ∷ 105 ∷ 116 ∷ 44 ∷ 49 ∷ 44 ∷ 44 ∷ 44 ∷ 13 ∷ 10 ∷ [])
    ++ (48 ∷ 44 ∷ 99 ∷ 111 ∷ 109 ∷ 109 ∷ 105 ∷ 116 ∷ 44 ∷ 49 ∷ 44 ∷ 44 ∷ 44 ∷ 13 ∷ 10 ∷ [])))

abbrev pub k_header : Header
k_header = header_for COMMIT_MODEL 2 (2 * writes_in k_rows) 1

-- After the rows in trace order published is (0,10,1) and plain is (0,5,1),(5,5,2).
pub record K : Type 0 where
  pub taken : check_trace k_text 0 COMMIT_MODEL 4 2 8192 24 8 ≡ accepted k_rows
  pub judged : verdict_of k_rows COMMIT_MODEL ≡ racing 1 2
  pub published : (xs ys out : List ℕ) → Lent k_header k_rows xs ys out →
      map_at k_header.space 0 (run_from k_header out (rows_for k_rows 1 (trace_order k_rows)) (fresh_machine k_header xs))
      ≡ map_of k_header.space (run_of 0 10 (cell_of 1 0) ∷ [])
  pub plain : (xs ys out : List ℕ) → Lent k_header k_rows xs ys out →
      map_at k_header.space 0 (plain_run_from k_header out (rows_for k_rows 1 (trace_order k_rows)) (fresh_plain k_header ys))
      ≡ map_of k_header.space (run_of 0 5 (cell_of 1 0) ∷ (run_of 5 5 (cell_of 2 0) ∷ []))

-- ---- From the text to the verdict

-- The text is read as these rows.
k_taken : check_trace k_text 0 COMMIT_MODEL 4 2 8192 24 8 ≡ accepted k_rows
unfolding records records_from on_found read_at fields_from on_stop prepend field_at after_cr stop_of text_length is_text content_of same_bytes word_of used_by all_digits
    starts_plain value_from row_of first_no call_questions filled_as_used numbers_in_range any message_in_order wait_in_order field_questions record_questions row_questions message_questions judge_rows
    read_records goes_on repeats out_of_turn first_out unfinished barrier_place ask_barriers read_trace check_trace
k_taken = refl

-- Rows 1 and 2 race.
k_judged : verdict_of k_rows COMMIT_MODEL ≡ racing 1 2
unfolding any_below last_below last_of passes crosses edge hb_within share_byte conflict chain_commit chain synchronized race least_from verdict_of
k_judged = refl

-- ---- No row is refused

-- What both files get.
abbrev k_run : List NumberedRow
k_run = rows_for k_rows 1 (trace_order k_rows)

-- The header passes the questions of making.
k_made : Made k_header
k_made = record { is_model = omega arith; some-process = omega arith; few-processes = omega arith; is_file = omega arith }

-- The maps have space.
k_enough : Enough k_header k_rows (points_of k_rows)
k_enough = points_enough k_header k_rows (omega arith)

-- The rows pass those before 16.
k_fits : AllFit k_header (points_of k_rows) k_run
k_fits =
    let s = sound_trace k_text 0 COMMIT_MODEL 4 2 8192 24 8 k_rows k_taken in
    order-fits k_rows 2 s.0 s.1 s.2 s.3 COMMIT_MODEL (2 * writes_in k_rows) 1 (omega arith) (omega arith) (trace_order k_rows)
    (trace_order_lem k_rows).of_trace

-- ---- So the maps are those of the bytes after the rows

module _ (xs ys out : List ℕ) (lent : Lent k_header k_rows xs ys out) where
  -- The published map is that of the published bytes.
  k_map : map_at k_header.space 0 (run_from k_header out k_run (fresh_machine k_header xs))
      ≡ map_for k_header.space (layers_run COMMIT_MODEL k_run fresh).shared
  k_map =
      ap (λ (zs : List ℕ). map_at k_header.space 0 (run_from k_header out k_run zs)) (made-fresh k_made lent)
      ∙ ap (map_at k_header.space 0) (run_to k_made k_enough lent k_run k_fits fresh-pointed)
      ∙ to-shared k_header (layers_held k_header (points_length k_rows) (run_pointed k_header k_run k_fits fresh-pointed)) xs

  -- The plain map is that of the plain bytes.
  k_plain-map : map_at k_header.space 0 (plain_run_from k_header out k_run (fresh_plain k_header ys)) ≡ map_for k_header.space (plain_run k_run nothing)
  k_plain-map =
      ap (λ (zs : List ℕ). map_at k_header.space 0 (plain_run_from k_header out k_run zs)) (plain-made_fresh k_made lent)
      ∙ ap (map_at k_header.space 0) (plain_run-to k_made k_enough lent k_run k_fits plain-pointed)
      ∙ plain-first k_header (plain-held k_header (points_length k_rows) (plain_run-pointed k_header k_run k_fits plain-pointed)) ys

-- ---- And their runs are those that mean these bytes

-- The map of bytes is that of the lawful runs that mean them.
map_means : (space : ℕ) (f : Bytes) (rs : List Run) → Lawful rs → ((b : ℕ) → cell_at rs b ≡ f b) → map_for space f ≡ map_of space rs
map_means space f rs l h = ap (map_of space) (sym (runs-unique f rs l (λ b _. h b)))

-- The published runs, (0,10,1).
abbrev k_published : List Run
k_published = run_of 0 10 (cell_of 1 0) ∷ []

-- The published runs are lawful.
published-lawful : Lawful k_published
published-lawful =
    record {
      in_order = (
        record { rising = omega arith; filled = omega arith; inside = omega arith; written = omega arith; longest = λ e q. omega arith },
        tt,
      );
      numbered = (omega arith, omega arith, tt);
    }

-- Each published byte has what the published runs say.
published-bytes : (b : ℕ) → cell_at k_published b ≡ (layers_run COMMIT_MODEL k_run fresh).shared b
unfolding cell_at layers_run places_below rows_for after_row publishes refreshes
published-bytes b = go (dec_lt b 10)
  where
    go : Dec (b < 10) → cell_at k_published b ≡ (layers_run COMMIT_MODEL k_run fresh).shared b
    go (yes l) = rw (range-in 0 10 b (omega arith) l)
    go (no l) = rw (range-behind 0 10 b (omega arith), range-behind 5 5 b (omega arith))

-- The plain runs, (0,5,1),(5,5,2).
abbrev k_plain : List Run
k_plain = run_of 0 5 (cell_of 1 0) ∷ (run_of 5 5 (cell_of 2 0) ∷ [])

-- The plain runs are lawful.
plain-lawful : Lawful k_plain
plain-lawful =
    record {
      in_order = (
        record { rising = omega arith; filled = omega arith; inside = omega arith; written = omega arith; longest = λ e q. omega arith },
        (record { rising = omega arith; filled = omega arith; inside = omega arith; written = omega arith; longest = λ e q. omega arith }, tt),
      );
      numbered = (omega arith, omega arith, (omega arith, omega arith, tt));
    }

-- Each plain byte has what they say.
plain-bytes : (b : ℕ) → cell_at k_plain b ≡ plain_run k_run nothing b
unfolding cell_at plain_run places_below rows_for after_plain
plain-bytes b = go (dec_lt b 5) (dec_lt b 10)
  where
    go : Dec (b < 5) → Dec (b < 10) → cell_at k_plain b ≡ plain_run k_run nothing b
    go (yes l) d = rw (range-in 0 5 b (omega arith) l, range-before 5 5 b l, range-in 0 10 b (omega arith) (omega arith))
    go (no l) (yes m) = rw (range-behind 0 5 b (omega arith), range-in 5 5 b (omega arith) (omega arith))
    go (no l) (no m) = rw (range-behind 0 5 b (omega arith), range-behind 5 5 b (omega arith), range-behind 0 10 b (omega arith))

-- The bench trace K.
pub bench-K : K
bench-K =
    record {
      taken = k_taken;
      judged = k_judged;
      published = λ xs ys out lent. k_map xs ys out lent ∙ map_means k_header.space _ k_published published-lawful published-bytes;
      plain = λ xs ys out lent. k_plain-map xs ys out lent ∙ map_means k_header.space _ k_plain plain-lawful plain-bytes;
    }

-- ---- The table: A to J and L by their verdicts in all models, K by what both files hold

pub bench : (map judged traces ≡ expected) × K
bench = (bench-verdicts, bench-K)
