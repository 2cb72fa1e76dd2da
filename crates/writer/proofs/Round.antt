-- What is written is read back as the same rows, and equal texts are texts of equal rows.
use Rattle.std.proofs.Common.{ℕ, zero, suc, ◌+◌, ◌*◌, ◌≤◌, ◌<◌, le_refl, arith, ◌≡◌, refl, sym, ap, subst, ◌∙◌, ◌↔◌, Bool, true, false, cond, List, [], ◌∷◌, ◌++◌, map, append_assoc, append-nil, length, take, length-append, le-leb, leb-true, eqb-true}
use lib.ListN.{get_or}
use lib.Seq.{append_snoc}
use lib.Dec.{eqb}
use Rattle.csv_field.specs.FieldGrammar.{CRLF}
use Rattle.csv_field.specs.FieldReading.{is_text, text_length}
use Rattle.csv_field.proofs.Runs.{run_text}
use Rattle.csv_records.specs.Grammar.{Record, ended, Text}
use Rattle.csv_records.specs.Reading.{Records, records}
use Rattle.csv_records.proofs.Grammar.{records-text}
use Rattle.messages.specs.Questions.{message_questions}
use Rattle.rows.specs.declared.row.Row.{Row}
use Rattle.rows.specs.Limits.{MODELS, PROCESSES, ROWS, FIELDS}
use Rattle.rows.specs.Questions.{first_no}
use Rattle.rows.specs.Refusals.{TEXT_SPACE}
use Rattle.rows.specs.Rows.{rows_in}
use Rattle.rows.proofs.Asking.{all_yes}
use Rattle.rows.proofs.Bools.{and_out}
use Rattle.rows.proofs.Limits.{limit-of, limit-told}
use Rattle.rows.proofs.Slices.{length-rows}
use Rattle.trace.specs.Questions.{field_questions, Outcome, refused, accepted, ask_barriers, check_trace}
use Rattle.trace.specs.Rows.{header_names, row_of}
use Rattle.barriers.specs.Barriers.{barrier_place}
use Rattle.barriers.proofs.Kept.{kept}
use Rattle.trace.proofs.Barriers.{asked-yes, asked-accepted, accepted-barriers}
use Rattle.trace.proofs.Laws.{WellFormed, accepted-passed, accepted-sound}
use Rattle.trace.proofs.Accepting.{Passes, AllPass, RowRecords, accepted-iff}
use Rattle.writer_line.specs.Lines.{contents_of, commas, line_of}
use Rattle.writer_line.proofs.Contents.{commas-record, line-record}
use Rattle.writer.specs.Writing.{lines_of, header_line, text_of, write_questions, ask_rows, text_fits, on_asked, not_written, written, write_trace}
pub use Rattle.writer.proofs.Quotes.{no_quotes}
use Rattle.writer.proofs.Formed.{SoundFrom, sound_from, contents_back, questions_back, passes-iff, asked-all, accepted-passes}

-- ---- The grammar derives the text

-- The records of a text: the header where the header word is 1, and the fields of each row.
abbrev pub records_of : ℕ → List Row → List (List (List ℕ))
records_of header rows = cond (eqb header 1) (header_names ∷ map contents_of rows) (map contents_of rows)

-- The grammar derives the header's line as a record of its names.
header-record : Record (commas header_names) header_names
unfolding is_text text_length
header-record =
    commas-record (get_or header_names 0 []) _ (
      run_text (get_or header_names 0 []),
      (
        run_text (get_or header_names 1 []),
        (
          run_text (get_or header_names 2 []),
          (run_text (get_or header_names 3 []), (run_text (get_or header_names 4 []), (run_text (get_or header_names 5 []), tt))),
        ),
      ),
    )

-- The grammar derives the lines of rows as the records of their fields.
lines_derive : (rows : List Row) → Text (lines_of rows) (map contents_of rows)
unfolding lines_of
lines_derive [] = Text.none
lines_derive (r ∷ rs) = Text.more (ended (append_assoc (line_of r) (CRLF []) (lines_of rs)) (line-record r)) (lines_derive rs)

-- The grammar derives the text of rows.
pub text-derives : (header : ℕ) (rows : List Row) → Text (text_of header rows) (records_of header rows)
unfolding text_of
text-derives header rows = go (eqb header 1)
  where
    go : (b : Bool) → Text (cond b header_line [] ++ lines_of rows) (cond b (header_names ∷ map contents_of rows) (map contents_of rows))
    go true = Text.more (ended (append_assoc (commas header_names) (CRLF []) (lines_of rows)) header-record) (lines_derive rows)
    go false = lines_derive rows

-- ---- Rows read back

module _ (P : ℕ) (few : P ≤ PROCESSES) where
  -- The fields of rows that are sound behind the rows before are read back as the rows.
  all_back : (earlier rows : List Row) → SoundFrom P earlier rows → map row_of (map contents_of rows) ≡ rows
  all_back earlier [] s = refl
  all_back earlier (r ∷ rest) s = λ i. contents_back P r few s.0 i ∷ all_back (earlier ++ (r ∷ [])) rest s.2 i

  -- The fields of rows that pass are read back as the rows.
  passed-back : (rows : List Row) → ask_rows P [] rows ≡ accepted rows → map row_of (map contents_of rows) ≡ rows
  passed-back rows e = all_back [] rows (sound_from ((passes-iff P rows).0 e))

  -- The fields of a well-formed row whose message is in order pass the reader's questions.
  fields-pass : (R : ℕ) (earlier : List Row) (r : Row) → length earlier < R → WellFormed P r → first_no (message_questions earlier r) ≡ 0 →
      Passes R P earlier (contents_of r)
  unfolding field_questions contents_of
  fields-pass R earlier r room w m =
      let q = all_yes (field_questions P (contents_of r)) (omega arith) (questions_back P r few w) in
      record {
        within_row_limit = room;
        six-fields = refl;
        kind-known = q.0;
        filled-as_used = q.1.0;
        numbers-in_range = q.1.1.0;
        end-in_range = q.1.1.1.0;
        message-in_order = subst (λ (x : Row). first_no (message_questions earlier x) ≡ 0) (sym (contents_back P r few w)) m;
      }

  -- The fields of rows that are sound behind the rows before all pass the reader's questions.
  all_pass : (R : ℕ) (earlier rows : List Row) → SoundFrom P earlier rows → length earlier + length rows ≤ R →
      AllPass R P earlier (map contents_of rows)
  all_pass R earlier [] s h k l = absurd (omega arith)
  all_pass R earlier (r ∷ rest) s h zero l =
      rw append-nil (fields-pass R earlier r (omega arith) s.0 s.1)
  all_pass R earlier (r ∷ rest) s h (suc k) l =
      let behind = append_snoc earlier r (map row_of (take k (map contents_of rest))) in
      let room : length (earlier ++ (r ∷ [])) + length rest ≤ R = simp length-append (omega arith) in
      rw (contents_back P r few s.0, ← behind) (all_pass R (earlier ++ (r ∷ [])) rest s.2 room k (omega arith))

-- ---- The whole call

-- What a call that writes a text has: limits and a header word in their ranges, rows that pass and keep every barrier, and the text
-- of these rows.
record Wrote (xs : List ℕ) (n header P : ℕ) (text : List ℕ) : Type 0 where
  header-word : header ≤ 1
  some-processes : 1 ≤ P
  few-processes : P ≤ PROCESSES
  rows_pass : ask_rows P [] (rows_in n xs) ≡ accepted (rows_in n xs)
  barriers_pass : barrier_place (rows_in n xs) ≡ 0
  text-is : text ≡ text_of header (rows_in n xs)

-- The outcome of rows that were asked is a text only where they pass.
written-asked : (header outLength place : ℕ) (o : Outcome) {text : List ℕ} → on_asked header outLength place o ≡ written text →
    (rows : List Row) × (o ≡ accepted rows) × (text ≡ text_of header rows)
written-asked header outLength place (refused number row) e = let z : ◌≡◌ {A = ℕ} 0 1 = cc in absurd (omega arith)
written-asked header outLength place (accepted rows) {text} e = (rows, refl, go (text_fits outLength place (text_of header rows)) e)
  where
    go : (b : Bool) → cond b (written (text_of header rows)) (not_written TEXT_SPACE 0) ≡ written text → text ≡ text_of header rows
    go true q = cc
    go false q = let z : ◌≡◌ {A = ℕ} 0 1 = cc in absurd (omega arith)

-- A call that writes a text is as Wrote says.
wrote : (xs : List ℕ) (n header P outLength place : ℕ) (text : List ℕ) → write_trace xs n header P outLength place ≡ written text →
    Wrote xs n header P text
unfolding write_trace write_questions
wrote xs n header P outLength place text e = go (eqb first 0) refl e
  where
    first : ℕ
    first = first_no (write_questions n header P (length xs))

    go : (b : Bool) → eqb first 0 ≡ b →
        cond b (on_asked header outLength place (ask_barriers (ask_rows P [] (rows_in n xs)))) (not_written first 0) ≡ written text →
        Wrote xs n header P text
    go true q d =
        let yes = all_yes (write_questions n header P (length xs)) (omega arith) (eqb-true first 0 q) in
        let limits = and_out _ _ yes.1.0 in
        let processes = limit-told P limits.0 in
        let w = written-asked header outLength place (ask_barriers (ask_rows P [] (rows_in n xs))) d in
        let asked = asked-accepted (ask_rows P [] (rows_in n xs)) w.1 in
        let same = asked-all P (rows_in n xs) w.0 asked.0 in
        record {
          header-word = leb-true _ _ yes.1.1.0;
          some-processes = processes.0;
          few-processes = processes.1;
          rows_pass = asked.0 ∙ ap accepted same;
          barriers_pass = ap barrier_place (sym same) ∙ asked.1;
          text-is = w.2 ∙ ap (text_of header) same;
        }
    go false q d = let z : ◌≡◌ {A = ℕ} 0 1 = cc in absurd (omega arith)

-- The records of a text that are rows are the fields of the rows.
row-records : (header : ℕ) (rows : List Row) → header ≤ 1 → RowRecords header (records_of header rows) (map contents_of rows)
row-records zero rows h = RowRecords.no_header
row-records (suc zero) rows h = RowRecords.header
row-records (suc (suc n)) rows h = absurd (omega arith)

-- A text that was written is read back as the same rows.
pub write_read : (xs : List ℕ) (n header P outLength place : ℕ) (text : List ℕ) → write_trace xs n header P outLength place ≡ written text →
    (model R limit rowsLength countsLength : ℕ) → model < MODELS → 1 ≤ R → R ≤ ROWS → n ≤ R → FIELDS * R ≤ rowsLength → R * P ≤ countsLength →
    length text ≤ limit → check_trace text header model R P limit rowsLength countsLength ≡ accepted (rows_in n xs)
write_read xs n header P outLength place text e model R limit rowsLength countsLength known some few room rows_fit countsFit within =
    let w = wrote xs n header P outLength place text e in
    let rows = rows_in n xs in
    let sound = sound_from ((passes-iff P rows).0 w.rows_pass) in
    let fits : 0 + length rows ≤ R = omega (arith, length-rows n xs) in
    (accepted-iff text header model R P limit rowsLength countsLength rows).1 (record {
      call = record {
        rows_have_room = rows_fit;
        counts-fit = countsFit;
        some-rows = some;
        few-rows = few;
        some-processes = w.some-processes;
        few-processes = w.few-processes;
        known-model = known;
        header-word = w.header-word;
      };
      in_byte_limit = within;
      all-records = records_of header rows;
      derived = subst (λ (t : List ℕ). Text t (records_of header rows)) (sym w.text-is) (text-derives header rows);
      row-records = map contents_of rows;
      header-right = row-records header rows w.header-word;
      all_pass = all_pass P w.few-processes R [] rows sound fits;
      its_rows = sym (passed-back P w.few-processes rows w.rows_pass);
      barriers_kept = kept rows w.barriers_pass;
    })

-- The rows of every accepted trace are written, where the text fits.
pub accepted-written : (text : List ℕ) (header model R P limit a b : ℕ) (rows : List Row) →
    check_trace text header model R P limit a b ≡ accepted rows → (xs : List ℕ) → FIELDS * length rows ≤ length xs → rows_in (length rows) xs ≡ rows →
    (header' outLength place : ℕ) → header' ≤ 1 → place + length (text_of header' rows) ≤ outLength →
    write_trace xs (length rows) header' P outLength place ≡ written (text_of header' rows)
unfolding write_trace write_questions first_no
accepted-written text header model R P limit a b rows e xs long same header' outLength place word fits =
    let call = ((accepted-iff text header model R P limit a b rows).0 e).call in
    let read = (accepted-passed text header model R P limit a b rows e).1 in
    let few : length rows ≤ ROWS = omega (arith, (accepted-sound header R P (records text limit) rows read).0, call.few-rows) in
    rw (
      le-leb (FIELDS * length rows) (length xs) long,
      limit-of P call.some-processes call.few-processes,
      le-leb (length rows) ROWS few,
      le-leb header' 1 word,
      same,
      asked-yes (accepted-passes text header model R P limit a b rows e) (accepted-barriers header R P (records text limit) read),
      le-leb (place + length (text_of header' rows)) outLength fits,
    )

-- ---- Equal texts

-- Records that the grammar derives of one text are equal.
equal-records : {text : List ℕ} {recs recs' : List (List (List ℕ))} → Text text recs → Text text recs' → recs ≡ recs'
equal-records {text} {recs} {recs'} t t' =
    let h = le_refl (length text) in
    ap (λ (r : Records). r.rows) (sym ((records-text text (length text) recs h).1 t) ∙ (records-text text (length text) recs' h).1 t')

-- Equal texts under one header word have rows of equal fields.
equal-contents : (header : ℕ) (rows rows' : List Row) → text_of header rows ≡ text_of header rows' → map contents_of rows ≡ map contents_of rows'
equal-contents header rows rows' e = go (eqb header 1) same
  where
    same : records_of header rows ≡ records_of header rows'
    same =
        equal-records (text-derives header rows)
        (subst (λ (t : List ℕ). Text t (records_of header rows')) (sym e) (text-derives header rows'))

    go : (b : Bool) →
        cond b (header_names ∷ map contents_of rows) (map contents_of rows) ≡ cond b (header_names ∷ map contents_of rows') (map contents_of rows') →
        map contents_of rows ≡ map contents_of rows'
    go true q = cc
    go false q = q

-- Equal texts under one header word are texts of equal rows.
pub equal-texts : (P P' header : ℕ) (rows rows' : List Row) → P ≤ PROCESSES → P' ≤ PROCESSES → ask_rows P [] rows ≡ accepted rows →
    ask_rows P' [] rows' ≡ accepted rows' → (text_of header rows ≡ text_of header rows') ↔ (rows ≡ rows')
equal-texts P P' header rows rows' few few' e e' = (
  λ same. sym (passed-back P few rows e) ∙ ap (map row_of) (equal-contents header rows rows' same) ∙ passed-back P' few' rows' e',
  λ same. ap (text_of header) same,
)

-- Texts that two calls write under one header word are equal exactly where the rows are.
pub equal-written : (xs xs' : List ℕ) (n n' header P P' outLength outLength' place place' : ℕ) (text text' : List ℕ) →
    write_trace xs n header P outLength place ≡ written text → write_trace xs' n' header P' outLength' place' ≡ written text' →
    (text ≡ text') ↔ (rows_in n xs ≡ rows_in n' xs')
equal-written xs xs' n n' header P P' outLength outLength' place place' text text' e e' =
    let w = wrote xs n header P outLength place text e in
    let w' = wrote xs' n' header P' outLength' place' text' e' in
    let same = equal-texts P P' header (rows_in n xs) (rows_in n' xs') w.few-processes w'.few-processes w.rows_pass w'.rows_pass in (
      λ t. same.0 (sym w.text-is ∙ t ∙ w'.text-is),
      λ r. w.text-is ∙ same.1 r ∙ sym w'.text-is,
    )
