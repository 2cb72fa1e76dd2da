-- What stands ahead in a file that is accepted: its entries, record after record, up to the end of its text.
use Rattle.std.proofs.Common.{ℕ, zero, suc, ◌+◌, ◌≤◌, ◌<◌, arith, ◌≡◌, refl, sym, ap, subst, ◌∙◌, Bool, true, false, cond, List, [], ◌∷◌, ◌++◌, map, append-nil, length, length-append, ltb-true, eqb-true}
use lib.ListN.{length-map}
use lib.Seq.{append_snoc}
use lib.Dec.{eqb}
use Rattle.csv_field.specs.declared.Span.{Span}
use Rattle.csv_content.specs.Content.{content_of}
use Rattle.csv_records.specs.Reading.{read_at, Finding, nothing, malformed, past-limit, found, on_found, records_from, records, Records}
use Rattle.csv_records.proofs.Places.{found-places}
use Rattle.csv_records.proofs.Limit.{read_past, records-next}
use Rattle.rows.specs.declared.row.Row.{Row}
use Rattle.rows.specs.Rows.{row_at}
use Rattle.rows.specs.Questions.{first_no}
use Rattle.rows.specs.Refusals.{HEADER}
use Rattle.rows.proofs.Asking.{all_yes, none-no}
use Rattle.trace.specs.Rows.{row_of}
use Rattle.trace.specs.Questions.{Outcome, refused, accepted, field_questions, record_questions, is_header}
use Rattle.trace.proofs.Laws.{WellFormed, well-formed}
use Rattle.join_meaning.specs.Files.{Entry, rows_of, on_entry, entries_from, entries_of, behind, rows_start, file_rows, file_header, file_records, read_file}

-- ---- Entry after entry

-- The entries from a finding on depend on `rest` only at the place of the next record.
entry_same : (file : ℕ) (text : List ℕ) (at : ℕ) (r : Finding) (f g : ℕ → List Entry) →
    ((spans : List Span) (end next : ℕ) → r ≡ found spans end next → f next ≡ g next) → on_entry file text at r f ≡ on_entry file text at r g
unfolding on_entry
entry_same file text at nothing f g h = refl
entry_same file text at malformed f g h = refl
entry_same file text at past-limit f g h = refl
entry_same file text at (found spans end next) f g h = rw (h spans end next refl)

-- A bound larger than the bytes' number changes no entries.
entries_enough : (k m file : ℕ) (text : List ℕ) (at : ℕ) → length text < at + k → length text < at + m →
    entries_from k file text at ≡ entries_from m file text at
unfolding entries_from on_entry
entries_enough zero zero file text at h g = refl
entries_enough zero (suc m) file text at h g = rw (read_past text at (length text) (omega arith))
entries_enough (suc k) zero file text at h g = rw (read_past text at (length text) (omega arith))
entries_enough (suc k) (suc m) file text at h g = entry_same file text at (read_at text at (length text)) _ _
    (λ spans end next e. let p = found-places text at (length text) spans end next e in entries_enough k m file text next (omega arith) (omega arith))

-- The entries from a place on are the entry of the record there and those of the records after it.
pub entries_next : (file : ℕ) (text : List ℕ) (at : ℕ) →
    entries_from (suc (length text)) file text at
    ≡ on_entry file text at (read_at text at (length text)) (λ p. entries_from (suc (length text)) file text p)
unfolding entries_from
entries_next file text at = entry_same file text at (read_at text at (length text)) _ _
    (λ spans end next e. let p = found-places text at (length text) spans end next e in
    entries_enough (length text) (suc (length text)) file text next (omega arith) (omega arith))

-- ---- What stands ahead

-- From a place of a file on stand these entries, each of a record of six fields that passes the questions 8 to 11, and then the text ends.
pub data Ahead (processLimit file : ℕ) (text : List ℕ) : ℕ → List Entry → Type 0 where
  at-end : {at : ℕ} → read_at text at (length text) ≡ nothing → Ahead processLimit file text at []
  more : {at : ℕ} {spans : List Span} {end next : ℕ} {es : List Entry} → read_at text at (length text) ≡ found spans end next → length spans ≡ 6 →
      first_no (field_questions processLimit (map (content_of text) spans)) ≡ 0 → Ahead processLimit file text next es →
      Ahead processLimit file text at (record { file = file; start = at; end = end; row = row_of (map (content_of text) spans) } ∷ es)

-- The rows of the entries that stand ahead are well formed.
pub ahead-well_formed : {processLimit file : ℕ} {text : List ℕ} {at : ℕ} {es : List Entry} → Ahead processLimit file text at es →
    (k : ℕ) → k < length (rows_of es) → WellFormed processLimit (row_at (rows_of es) k)
unfolding rows_of field_questions
ahead-well_formed (at-end e) k h = absurd (omega arith)
ahead-well_formed {processLimit} {text = text} (more {spans = spans} f six q a) zero h =
    let fields = map (content_of text) spans in
    let yes = all_yes (field_questions processLimit fields) (omega arith) q in
    well-formed processLimit fields yes.0 yes.1.0 yes.1.1.0 yes.1.1.1.0
ahead-well_formed (more f six q a) (suc k) h = ahead-well_formed a k (omega arith)

-- ---- A file that is accepted

-- The first No of a record's fields behind some rows.
abbrev first_in : ℕ → ℕ → List Row → List (List ℕ) → ℕ
first_in rowLimit processLimit before fields = first_no (record_questions rowLimit processLimit (length before) (length fields) fields)

module _ (rowLimit processLimit file : ℕ) (text : List ℕ) where
  -- A file's rows are some rows before and those of the entries from a place on, which stand ahead there; the row limit holds for all of them.
  record Came (before : List Row) (at : ℕ) (es : List Entry) (rows : List Row) : Type 0 where
    ahead : Ahead processLimit file text at es
    all : rows ≡ before ++ rows_of es
    few : length before ≤ rowLimit → length rows ≤ rowLimit

  -- At the end of the text no entry stands ahead.
  came_end : {before : List Row} {at : ℕ} → read_at text at (length text) ≡ nothing → Came before at [] before
  unfolding rows_of
  came_end {before} e = record { ahead = at-end e; all = sym (append-nil before); few = λ h. h }

  -- A record that passes its questions stands in front of the entries behind it.
  came_next : {before rows : List Row} {at : ℕ} {spans : List Span} {end next : ℕ} {es : List Entry} →
      read_at text at (length text) ≡ found spans end next →
      first_in rowLimit processLimit before (map (content_of text) spans) ≡ 0 →
      Came (before ++ (row_of (map (content_of text) spans) ∷ [])) next es rows →
      Came before at (record { file = file; start = at; end = end; row = row_of (map (content_of text) spans) } ∷ es) rows
  unfolding record_questions field_questions rows_of
  came_next {before} {spans = spans} {es = es} f q c =
      let fields = map (content_of text) spans in
      let yes = all_yes (record_questions rowLimit processLimit (length before) (length fields) fields) (omega arith) q in
      let room = ltb-true (length before) rowLimit yes.0 in
      let six : length spans ≡ 6 = omega (arith, eqb-true (length fields) 6 yes.1.0, length-map spans (content_of text)) in
      record {
        ahead = more f six (none-no (field_questions processLimit fields) yes.1.1) c.ahead;
        all = c.all ∙ append_snoc before (row_of fields) (rows_of es);
        few = λ h. c.few (simp length-append (omega arith));
      }

  -- The records from a place on, behind some rows, are accepted: their rows are those of the entries from there on.
  rows-came : (k at : ℕ) (before : List Row) {rows : List Row} → length text < at + k →
      file_rows rowLimit processLimit before (records_from k text (length text) at).rows (records_from k text (length text) at).ending ≡ accepted rows →
      Came before at (entries_from k file text at) rows
  unfolding records_from on_found file_rows entries_from on_entry
  rows-came zero at before {rows} h e =
      let same : before ≡ rows = cc in
      subst (Came before at []) same (came_end (read_past text at (length text) (omega arith)))
  rows-came (suc k) at before {rows} h e = go (read_at text at (length text)) refl e (λ p more l q. rows-came k p more l q)
    where
      records-at : ℕ → Records
      records-at p = records_from k text (length text) p

      judge : List Row → Records → Outcome
      judge done r = file_rows rowLimit processLimit done r.rows r.ending

      entries_at : ℕ → List Entry
      entries_at p = entries_from k file text p

      Rest : Type 0
      Rest = (p : ℕ) (done : List Row) → length text < p + k → judge done (records-at p) ≡ accepted rows → Came done p (entries_at p) rows

      on : (spans : List Span) (end next : ℕ) → read_at text at (length text) ≡ found spans end next → (x : Bool) →
          eqb (first_in rowLimit processLimit before (map (content_of text) spans)) 0 ≡ x →
          cond x (judge (before ++ (row_of (map (content_of text) spans) ∷ [])) (records-at next))
          (refused (first_in rowLimit processLimit before (map (content_of text) spans)) (length before + 1)) ≡ accepted rows →
          Rest → Came before at (on_entry file text at (found spans end next) entries_at) rows
      on spans end next f true q e rest =
          let p = found-places text at (length text) spans end next f in
          came_next f (eqb-true _ 0 q) (rest next _ (omega arith) e)
      on spans end next f false q e rest = let z : ◌≡◌ {A = ℕ} 0 1 = cc in absurd (omega arith)

      go : (f : Finding) → read_at text at (length text) ≡ f → judge before (on_found text f records-at) ≡ accepted rows → Rest →
          Came before at (on_entry file text at f entries_at) rows
      go nothing f e rest = let same : before ≡ rows = cc in subst (Came before at []) same (came_end f)
      go malformed f e rest = let z : ◌≡◌ {A = ℕ} 0 1 = cc in absurd (omega arith)
      go past-limit f e rest = let z : ◌≡◌ {A = ℕ} 0 1 = cc in absurd (omega arith)
      go (found spans end next) f e rest = on spans end next f _ refl e rest

  -- A file with a header first is accepted: its rows are those of the entries behind the header.
  header-came : {rows : List Row} →
      file_header rowLimit processLimit (records text (length text)).rows (records text (length text)).ending ≡ accepted rows →
      Came [] (behind (read_at text 0 (length text))) (entries_from (suc (length text)) file text (behind (read_at text 0 (length text)))) rows
  unfolding records on_found file_header
  header-came {rows} e = go (read_at text 0 (length text)) (sym (ap judge (records-next text (length text) 0)) ∙ e)
    where
      records-at : ℕ → Records
      records-at p = records_from (suc (length text)) text (length text) p

      judge : Records → Outcome
      judge r = file_header rowLimit processLimit r.rows r.ending

      on : (next : ℕ) (x : Bool) →
          cond x (file_rows rowLimit processLimit [] (records-at next).rows (records-at next).ending) (refused HEADER 0) ≡ accepted rows →
          Came [] next (entries_from (suc (length text)) file text next) rows
      on next true e = rows-came (suc (length text)) next [] (omega arith) e
      on next false e = let z : ◌≡◌ {A = ℕ} 0 1 = cc in absurd (omega arith)

      go : (f : Finding) → judge (on_found text f records-at) ≡ accepted rows → Came [] (behind f) (entries_from (suc (length text)) file text (behind f)) rows
      go nothing e = let z : ◌≡◌ {A = ℕ} 0 1 = cc in absurd (omega arith)
      go malformed e = let z : ◌≡◌ {A = ℕ} 0 1 = cc in absurd (omega arith)
      go past-limit e = let z : ◌≡◌ {A = ℕ} 0 1 = cc in absurd (omega arith)
      go (found spans end next) e = on next (is_header (map (content_of text) spans)) e

  -- A file is accepted: its rows are those of its entries.
  file-came : (header : ℕ) {rows : List Row} → read_file header rowLimit processLimit text ≡ accepted rows →
      Came [] (rows_start header text) (entries_of file header text) rows
  unfolding read_file file_records records rows_start entries_of
  file-came header {rows} e = go (eqb header 0) e
    where
      start : Bool → ℕ
      start x = cond x 0 (behind (read_at text 0 (length text)))

      go : (x : Bool) →
          cond x (file_rows rowLimit processLimit [] (records text (length text)).rows (records text (length text)).ending)
          (file_header rowLimit processLimit (records text (length text)).rows (records text (length text)).ending) ≡ accepted rows →
          Came [] (start x) (entries_from (suc (length text)) file text (start x)) rows
      go true e = rows-came (suc (length text)) 0 [] (omega arith) e
      go false e = header-came e

module _ (header rowLimit processLimit : ℕ) (text : List ℕ) {rows : List Row} (e : read_file header rowLimit processLimit text ≡ accepted rows) where
  -- The entries of an accepted file stand ahead from where its first row may start.
  pub file-ahead : (file : ℕ) → Ahead processLimit file text (rows_start header text) (entries_of file header text)
  file-ahead file = (file-came rowLimit processLimit file text header e).ahead

  -- The rows of an accepted file are those of its entries.
  pub file-rows : (file : ℕ) → rows_of (entries_of file header text) ≡ rows
  file-rows file = sym (file-came rowLimit processLimit file text header e).all

  -- An accepted file has at most as many rows as the row limit.
  pub file-few : length rows ≤ rowLimit
  file-few = (file-came rowLimit processLimit 0 text header e).few (omega arith)

  -- Each row of an accepted file is well formed.
  pub file-well_formed : (k : ℕ) → k < length rows → WellFormed processLimit (row_at rows k)
  file-well_formed = rw (file-rows 0) at (ahead-well_formed (file-ahead 0))
