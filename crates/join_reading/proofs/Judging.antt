-- A file of a join is read with nothing asked of a row behind the questions 6 to 11.
use Rattle.std.proofs.Common.{ℕ, ◌+◌, ◌*◌, ◌≤◌, ◌≡◌, le-leb, refl, ap, ◌∙◌, cond, List, [], ◌∷◌, ◌++◌, length, replicate, Result, Ok, Err}
use Rattle.std.specs.Result.{IfErr}
use lib.Dec.{eqb}
use Rattle.csv_records.specs.Reading.{Records, Ending, all_read, at-malformed, at-limit}
use Rattle.rows.specs.declared.row.Row.{Row}
use Rattle.rows.specs.Limits.{FIELDS, ROWS}
use Rattle.rows.specs.Questions.{first_no}
use Rattle.trace.specs.declared.questions.Unasked.{Unasked}
use Rattle.trace.specs.Rows.{row_of}
use Rattle.rows.specs.declared.refusal.Refused.{Refused}
use Rattle.trace.specs.Questions.{record_questions, Outcome, refused, told, checked_of}
use Rattle.trace.specs.Reader.{judge_asked, behind_header, read_by, read_asked, room_questions, text_left}
use Rattle.trace.specs.Asked.{nothing_asked, nothing_noted}
use Rattle.trace.proofs.Whole.{refused-told}
use Rattle.join_meaning.specs.Files.{file_rows, file_header, file_records}

module _ (R P : ℕ) (none : Unasked) where
  -- The rest of a file's records comes to what its rows come to.
  unasked : (records : List (List (List ℕ))) (ending : Ending) (done : List Row) →
      judge_asked nothing_asked nothing_noted R P none done records ending ≡ file_rows R P done records ending
  unfolding judge_asked file_rows
  unasked [] all_read done = refl
  unasked [] at-malformed done = refl
  unasked [] at-limit done = refl
  unasked (fields ∷ rest) ending done =
      let first = first_no (record_questions R P (length done) (length fields) fields) in
      ap (λ (o : Outcome). cond (eqb first 0) o (refused first (length done + 1))) (unasked rest ending (done ++ (row_of fields ∷ [])))

  -- A file is read as its records are.
  pub read_unasked : (header : ℕ) (r : Records) → read_by (judge_asked nothing_asked nothing_noted R P none []) header r ≡ file_records header R P r
  unfolding read_by file_records behind_header file_header
  read_unasked header r =
      (λ i. cond (eqb header 0) (unasked r.rows r.ending [] i) (behind_header (λ recs ending. unasked recs ending [] i) r.rows r.ending))
      ∙ ap (λ (o : Outcome). cond (eqb header 0) (file_rows R P [] r.rows r.ending) o) (headers r.rows r.ending)
    where
      headers : (recs : List (List (List ℕ))) (ending : Ending) → behind_header (file_rows R P []) recs ending ≡ file_header R P recs ending
      headers [] all_read = refl
      headers [] at-malformed = refl
      headers [] at-limit = refl
      headers (fields ∷ rest) ending = refl

-- Where the slice has room for as many rows as the limit says, and the limit is within its range, nothing else is asked of them.
pub roomy : (judge : List (List (List ℕ)) → Ending → Outcome) (header R rowsLength : ℕ) (r : Records) → FIELDS * R ≤ rowsLength → R ≤ ROWS →
    read_asked judge header R rowsLength r ≡ read_by judge header r
unfolding read_asked first_no
roomy judge header R rowsLength r room few = rw (le-leb (FIELDS * R) rowsLength room, le-leb R ROWS few) refl

-- Where the text is refused behind those two questions, the slice is left filled with 0.
pub cleared-where : (R : ℕ) (xs : List ℕ) {ys : List ℕ} (o : Outcome) (answer : Result ℕ Refused) → FIELDS * R ≤ length xs → R ≤ ROWS →
    told answer ≡ checked_of o → ys ≡ text_left (first_no (room_questions R (length xs))) o xs → IfErr answer (λ e. ys ≡ replicate (length xs) 0)
unfolding first_no
cleared-where R xs o (Ok n) room few answered left = tt
cleared-where R xs o (Err e) room few answered left =
    let no = refused-told o answered in
    rw (no, le-leb (FIELDS * R) (length xs) room, le-leb R ROWS few) at left
