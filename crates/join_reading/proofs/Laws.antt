-- What a call on one file answers and leaves.
use Rattle.std.proofs.Common.{ℕ, ◌*◌, ◌-◌, ◌≤◌, ◌≡◌, refl, ap, ◌∙◌, List, [], length, take, drop, replicate, eq-eqb, ne_eqb, Result, Ok, Err}
use borrow.Rule.Slice.PartMut.{put_mid}
use Rattle.rows.specs.declared.row.Row.{Row}
use Rattle.rows.specs.Questions.{first_no}
use Rattle.rows.specs.declared.refusal.Refused.{Refused as Refusing}
use Rattle.trace.specs.Questions.{Accepted, Refused, told, Outcome, refused, accepted, checked_of, Holds, Leaves}
use Rattle.trace.proofs.Whole.{accepted-told, refused-told, leaves_all, leaves_none, leaves-rows, rows_within}
use Rattle.join_meaning.specs.Files.{read_file}
use Rattle.join_meaning.proofs.Refusals.{file_from-four}
use Rattle.join_reading.specs.Reading.{file_questions, check_file, ReadsFile}
use Rattle.join_reading.proofs.Asking.{first_three}

-- A call on a file leaves of the rows' slice what a call on a trace would leave; no slice of counts is lent.
reads-file : {o : Outcome} {answer : Result ℕ Refusing} {xs ys : List ℕ} → Leaves o answer xs ys [] [] → ReadsFile o answer xs ys
reads-file l = record { answered = l.answered; rows_after = l.rows_after }

module _ (text : List ℕ) (header rowLimit processLimit rowsLength : ℕ) where
  -- The outcome of the call.
  abbrev called : Outcome
  called = check_file text header rowLimit processLimit rowsLength

  -- The outcome of the text.
  abbrev read : Outcome
  read = read_file header rowLimit processLimit text

  -- Where the questions 1 to 3 have Yes, the text decides.
  pub file-passed : first_no (file_questions header rowLimit processLimit rowsLength) ≡ 0 →
      check_file text header rowLimit processLimit rowsLength ≡ read_file header rowLimit processLimit text
  unfolding check_file
  file-passed e = rw (eq-eqb (first_no (file_questions header rowLimit processLimit rowsLength)) 0 e)

  -- A No to one of the questions 1 to 3 refuses the call and keeps the slice.
  pub reads_kept : {k : ℕ} {answer : Result ℕ Refusing} (xs : List ℕ) → told answer ≡ Refused k 0 →
      k ≡ first_no (file_questions header rowLimit processLimit rowsLength) → (k ≡ 0 → ⊥) → ReadsFile called answer xs xs
  unfolding check_file
  reads_kept {k} xs a e n =
      let refuses : called ≡ refused k 0 = rw (← e, ne_eqb k 0 n) in
      reads-file (leaves_all xs [] a refuses (first_three header rowLimit processLimit rowsLength e))

  -- They are passed, and the text leaves ys of the slice.
  module _ (e : first_no (file_questions header rowLimit processLimit rowsLength) ≡ 0) (xs ys : List ℕ) where
    -- The text is refused, and the code clears the slice.
    pub reads_none : (refusal : Refusing) {zs : List ℕ} → told (Err refusal) ≡ checked_of read → length ys ≡ length xs → zs ≡ replicate (length ys) 0 →
        ReadsFile called (Err refusal) xs zs
    reads_none refusal d s l =
        let refuses = refused-told read d in
        let four = file_from-four header rowLimit processLimit text _ _ refuses in
        rw (file-passed e) (reads-file (leaves_none xs [] refl refuses four (l ∙ ap (λ (n : ℕ). replicate n 0) s) refl))

    -- The text is accepted, and the slice holds its rows.
    module _ (h : Holds read xs ys) {n : ℕ} (d : Accepted n ≡ checked_of read) where
      -- The answer tells the rows.
      accepts : (rows : List Row) × (read ≡ accepted rows) × (n ≡ length rows)
      accepts = accepted-told read d

      -- The slice has space for the rows.
      pub file-rows-in : n * 6 ≤ length ys
      file-rows-in = rows_within xs [] ys accepts h

      -- The rows stay, and the code clears what stands behind them.
      pub reads-rows : {last : List ℕ} → last ≡ replicate (length (take (length ys - n * 6) (drop (n * 6) ys))) 0 →
          ReadsFile called (Ok n) xs (put_mid (n * 6) (length ys - n * 6) ys last)
      reads-rows l = rw (file-passed e) (reads-file (leaves-rows xs [] ys accepts h l refl))
