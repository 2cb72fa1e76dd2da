-- A trace that is accepted by itself is an accepted file of a join, and joined with a file without bytes it stays as it is.
use Rattle.std.proofs.Common.{ℕ, ◌+◌, ◌*◌, ◌≤◌, arith, ◌≡◌, refl, ap, ◌∙◌, Bool, true, false, cond, ◌&&◌, List, [], ◌∷◌, ◌++◌, length, eqb-true, le-leb, lt-ltb}
use lib.Dec.{leb, eqb}
use Rattle.csv_records.specs.Reading.{Records, records, records_from, on_found, read_at, Ending, all_read, at-malformed, at-limit}
use Rattle.rows.specs.declared.row.Row.{Row}
use Rattle.rows.specs.Limits.{MODELS, ROWS}
use Rattle.rows.specs.Questions.{first_no, long_enough}
use Rattle.rows.proofs.Asking.{none-no, none-appended}
use Rattle.rows.proofs.Limits.{limit-of}
use Rattle.messages.specs.Questions.{any}
use Rattle.trace.specs.Rows.{row_of}
use Rattle.trace.specs.Questions.{Outcome, refused, accepted, in_limits, header_word, record_questions, row_questions, field_questions, message_questions, is_header, judge_rows, judge_header, read_records, read_trace, check_trace}
use Rattle.trace.proofs.Barriers.{accepted-records, accepted-barriers}
use Rattle.trace.proofs.Laws as trace
use Rattle.join_meaning.specs.Files.{Entry, rows_of, file_rows, file_header, file_records, read_file, entries_from, on_entry, rows_start, entries_of}
use Rattle.join_meaning.specs.Joining.{PART, join_questions, shares_process, joined, join_traces}
use Rattle.join_meaning.specs.Merging.{Merged, none, first}
use Rattle.join_meaning.proofs.Ahead.{file-rows}
use Rattle.join_meaning.proofs.Accepted.{BothRead, accepted-merging, merging_accepted}

-- ---- An accepted trace is an accepted file

module _ (R P : ℕ) where
  -- Records behind some rows that pass every question pass those up to 11.
  rows-file : (before : List Row) (recs : List (List (List ℕ))) (ending : Ending) {rows : List Row} →
      judge_rows R P before recs ending ≡ accepted rows → file_rows R P before recs ending ≡ accepted rows
  unfolding judge_rows file_rows record_questions row_questions field_questions
  rows-file before [] all_read e = e
  rows-file before [] at-malformed e = let z : ◌≡◌ {A = ℕ} 0 1 = cc in absurd (omega arith)
  rows-file before [] at-limit e = let z : ◌≡◌ {A = ℕ} 0 1 = cc in absurd (omega arith)
  rows-file before (fields ∷ rest) ending {rows} e = go (eqb whole 0) refl e (λ q. rows-file (before ++ (row_of fields ∷ [])) rest ending q)
    where
      whole : ℕ
      whole = first_no (row_questions R P before fields)

      behind : Outcome
      behind = judge_rows R P (before ++ (row_of fields ∷ [])) rest ending

      go : (x : Bool) → eqb whole 0 ≡ x → cond x behind (refused whole (length before + 1)) ≡ accepted rows →
          (behind ≡ accepted rows → file_rows R P (before ++ (row_of fields ∷ [])) rest ending ≡ accepted rows) →
          cond (eqb (first_no (record_questions R P (length before) (length fields) fields)) 0) (file_rows R P (before ++ (row_of fields ∷ [])) rest ending)
          (refused (first_no (record_questions R P (length before) (length fields) fields)) (length before + 1)) ≡ accepted rows
      go true q f next =
          let asked = none-appended (record_questions R P (length before) (length fields) fields) (message_questions before (row_of fields)) (omega arith) (eqb-true whole 0 q) in
          rw (none-no (record_questions R P (length before) (length fields) fields) asked.0) (next f)
      go false q f next = let z : ◌≡◌ {A = ℕ} 0 1 = cc in absurd (omega arith)

  -- So do records with a header first.
  header-file : (recs : List (List (List ℕ))) (ending : Ending) {rows : List Row} →
      judge_header R P recs ending ≡ accepted rows → file_header R P recs ending ≡ accepted rows
  unfolding judge_header file_header
  header-file [] all_read e = let z : ◌≡◌ {A = ℕ} 0 1 = cc in absurd (omega arith)
  header-file [] at-malformed e = let z : ◌≡◌ {A = ℕ} 0 1 = cc in absurd (omega arith)
  header-file [] at-limit e = let z : ◌≡◌ {A = ℕ} 0 1 = cc in absurd (omega arith)
  header-file (fields ∷ rest) ending {rows} e = go (is_header fields) e
    where
      go : (x : Bool) → cond x (judge_rows R P [] rest ending) (refused 5 0) ≡ accepted rows →
          cond x (file_rows R P [] rest ending) (refused 5 0) ≡ accepted rows
      go true f = rows-file [] rest ending f
      go false f = f

  -- Records that are accepted by themselves are an accepted file's, with the same rows.
  records-file : (header : ℕ) (text : List ℕ) {rows : List Row} → read_records header R P (records text (length text)) ≡ accepted rows →
      read_file header R P text ≡ accepted rows
  unfolding read_records read_file file_records
  records-file header text {rows} e = go (eqb header 0) e
    where
      r : Records
      r = records text (length text)

      go : (x : Bool) → cond x (judge_rows R P [] r.rows r.ending) (judge_header R P r.rows r.ending) ≡ accepted rows →
          cond x (file_rows R P [] r.rows r.ending) (file_header R P r.rows r.ending) ≡ accepted rows
      go true f = rows-file [] r.rows r.ending f
      go false f = header-file r.rows r.ending f

  -- A trace that is accepted by itself is an accepted file, with the same rows.
  pub trace_is_file : (header : ℕ) (text : List ℕ) {rows : List Row} → read_trace header R P (records text (length text)) ≡ accepted rows →
      read_file header R P text ≡ accepted rows
  trace_is_file header text {rows} e = records-file header text (accepted-records header R P (records text (length text)) e).0

-- ---- Joined with a file without bytes

-- A text without bytes is a file without rows.
none_read : (R P : ℕ) → read_file 0 R P [] ≡ accepted []
unfolding read_file file_records file_rows records records_from on_found read_at
none_read R P = refl

-- It has no entries.
none-entries : entries_of 2 0 [] ≡ []
unfolding entries_of entries_from on_entry read_at rows_start
none-entries = refl

-- No file shares a process with a file without rows.
none-shared : (a : List Row) → shares_process a [] ≡ false
unfolding shares_process any
none-shared [] = refl
none-shared (r ∷ a) = none-shared a

-- A list is the merging of itself and nothing.
merged_alone : {A : Type 0} (a : List A) → Merged a [] a
merged_alone [] = none
merged_alone (x ∷ a) = first (merged_alone a)

-- It is the only one.
merged_one : {A : Type 0} {a m : List A} → Merged a [] m → m ≡ a
merged_one none = refl
merged_one (first {r} d) = ap (λ l. r ∷ l) (merged_one d)

-- A trace that is accepted by itself, joined with a file without bytes, is accepted with its rows.
pub join-alone : (text : List ℕ) (header model R P rl cl pl : ℕ) (rows : List Row) → PART * R ≤ pl →
    check_trace text header model R P (length text) rl cl ≡ accepted rows →
    (es : List Entry) × (join_traces text [] header 0 model R P rl cl pl ≡ joined es) × (rows_of es ≡ rows)
unfolding join_questions rows_of
join-alone text header model R P rl cl pl rows h e =
    let p = trace.accepted-passed text header model R P (length text) rl cl rows e in
    let file = trace_is_file R P header text p.1 in
    let own = file-rows header R P text file 1 in
    let read : BothRead header 0 R P text [] =
    record {
      first_rows = rows;
      second-rows = [];
      first_read = file;
      second-read = none_read R P;
      apart = rw none-entries (none-shared (rows_of (entries_of 1 header text)));
    } in
    let l = p.0 in
    let slices : long_enough R P rl cl && leb (PART * R) pl ≡ true =
    rw (le-leb (6 * R) rl l.rows_have_room, le-leb (R * P) cl l.counts-fit, le-leb (PART * R) pl h) in
    let limits : in_limits model R P ≡ true =
    rw (
      lt-ltb model MODELS l.known-model,
      le-leb 1 R l.some-rows,
      le-leb R ROWS l.few-rows,
      limit-of P l.some-processes l.few-processes,
    ) in
    let words : header_word header && header_word 0 ≡ true = rw (le-leb header 1 l.header-word) in
    let all : first_no (join_questions header 0 model R P rl cl pl) ≡ 0 =
    none-no (join_questions header 0 model R P rl cl pl) (slices, (limits, (words, tt))) in
    let s = trace.accepted-sound header R P (records text (length text)) rows p.1 in
    let sound : trace.Sound P (rows_of (entries_of 1 header text)) = rw own s.1 in
    let few : length (rows_of (entries_of 1 header text)) ≤ R = rw own s.0 in
    let barriers = accepted-barriers header R P (records text (length text)) p.1 in
    let merged : Merged (rows_of (entries_of 1 header text)) (rows_of (entries_of 2 0 [])) (rows_of (entries_of 1 header text)) =
    rw none-entries (merged_alone (rows_of (entries_of 1 header text))) in
    let j = merging_accepted text [] header 0 model R P rl cl pl all read (rows_of (entries_of 1 header text)) merged sound (rw own barriers) few in
    let m = (accepted-merging text [] header 0 model R P rl cl pl j.0 j.1).merges in
    (j.0, j.1, merged_one (rw none-entries at m) ∙ own)
