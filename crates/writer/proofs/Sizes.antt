-- How long a text can be.
use Rattle.std.proofs.Common.{ℕ, suc, ◌+◌, ◌*◌, ◌-◌, ◌/◌, ◌≤◌, ◌<◌, arith, ◌≡◌, refl, sym, ap, subst, ◌∙◌, ◌⊎◌, inl, inr, Bool, true, false, cond, List, [], ◌∷◌, ◌++◌, length, length-append, leb-true, lt-ltb, le-leb, eqb-true}
use native.Mathlib.Decide.{dec_lt}
use lib.ListN.{get_or}
use lib.Dec.{leb, ltb, eqb}
use borrow.Author.Tests.{lt-leb, eqb-false}
use Rattle.print.specs.Decimal.{width_within, decimal_of}
use Rattle.print.proofs.Laying.{number-length}
use Rattle.print.proofs.Parts.{number-most}
use Rattle.rows.specs.declared.row.Row.{Row}
use Rattle.rows.specs.Kinds.{KINDS}
use Rattle.rows.specs.Limits.{PROCESSES, ROWS}
use Rattle.rows.specs.Questions.{first_no}
use Rattle.rows.specs.Refusals.{TEXT_SPACE}
use Rattle.rows.specs.Rows.{rows_in}
use Rattle.rows.specs.Counting.{any_below}
use Rattle.rows.proofs.Slices.{length-rows}
use Rattle.rows.proofs.Below.{each-passes}
use Rattle.trace.specs.Questions.{Outcome, refused, accepted, ask_barriers}
use Rattle.trace.specs.Rows.{kind_words, used_by}
use Rattle.trace.proofs.Barriers.{AskedNo, asked-no_of, asked-accepted}
use Rattle.trace.proofs.Laws.{WellFormed}
use Rattle.writer_line.specs.Lines.{number_field, record_of}
use Rattle.writer_line.proofs.Contents.{record-size}
use Rattle.writer.specs.Answers.{Written, Length, Refused}
use Rattle.writer.specs.Writing.{LINE_MOST, lines_of, header_of, text_of, write_questions, written_questions, ask_rows, text_fits, on_asked, not_written, written, write_trace, written_of}
use Rattle.writer.proofs.Formed.{SoundFrom, sound_from, passes-iff, asked-all}
use Rattle.writer.proofs.Lines.{header-most}
use Rattle.writer.proofs.Questions.{call-legal}

-- The bytes of the header's line.
abbrev pub HEADER_MOST : ℕ
HEADER_MOST = 41

-- A number below 10 has one digit.
one-digit : (k n : ℕ) → n < 10 → width_within (suc k) n ≡ 1
unfolding width_within
one-digit k n h = rw (lt-ltb n 10 h)

-- A number has at most one digit more than its tenth part.
digit_more : (k n : ℕ) → width_within (suc k) n ≤ suc (width_within k (n / 10))
unfolding width_within
digit_more k n = go (ltb n 10)
  where
    go : (b : Bool) → cond b 1 (suc (width_within k (n / 10))) ≤ suc (width_within k (n / 10))
    go true = omega arith
    go false = omega arith

-- A number below 100 has at most two digits.
two_digits : (n : ℕ) → n < 100 → length (decimal_of n) ≤ 2
two_digits n h = omega (arith, number-length n, digit_more 9 n, one-digit 8 (n / 10) (omega arith))

-- A number below 100,000 has at most five digits.
five_digits : (n : ℕ) → n < 100000 → length (decimal_of n) ≤ 5
five_digits n h =
    omega (
      arith,
      number-length n,
      digit_more 9 n,
      digit_more 8 (n / 10),
      digit_more 7 (n / 10 / 10),
      digit_more 6 (n / 10 / 10 / 10),
      one-digit 5 (n / 10 / 10 / 10 / 10) (omega arith),
    )

-- A field has at most the bytes of its number, and none where it is not used.
field-most : (used : Bool) (n most : ℕ) → length (decimal_of n) ≤ most → length (number_field used n) ≤ cond used most 0
field-most true n most h = h
field-most false n most h = omega arith

-- The most bytes of a kind's line: its word, the process, the fields that the kind uses, five commas and a line end.
most_of : ℕ → ℕ
most_of k =
    let used = used_by k in
    2 + length (get_or kind_words k []) + cond used.file 2 0 + cond used.range 10 0 + cond used.range 10 0 + cond used.message 5 0 + 7

-- No kind's line has more than LINE-MOST.
kinds-most : (k : ℕ) → k < KINDS → most_of k ≤ LINE_MOST
unfolding any_below most_of used_by
kinds-most k h = leb-true (most_of k) LINE_MOST (each-passes KINDS (λ i. leb (most_of i) LINE_MOST) refl k h)

-- The parts of a line together: the fields that a kind does not use have no byte.
parts_most : (k p f o l m : ℕ) → k < KINDS → length (decimal_of p) ≤ 2 → length (decimal_of f) ≤ 2 → length (decimal_of m) ≤ 5 →
    length (decimal_of p) + length (get_or kind_words k []) + length (number_field (used_by k).file f) + length (number_field (used_by k).range o)
    + length (number_field (used_by k).range l) + length (number_field (used_by k).message m) + 7
    ≤ LINE_MOST
unfolding most_of
parts_most k p f o l m h p2 f2 m5 =
    let used = used_by k in
    omega (
      arith,
      kinds-most k h,
      field-most used.file f 2 f2,
      field-most used.range o 10 (number-most o),
      field-most used.range l 10 (number-most l),
      field-most used.message m 5 m5,
    )

-- The line of a well-formed row has at most 36 bytes.
line-most : (P : ℕ) (r : Row) → P ≤ PROCESSES → WellFormed P r → length (record_of r) ≤ LINE_MOST
line-most P r few w =
    let process = two_digits r.process (omega (arith, w.process)) in
    let file = two_digits r.file (omega (arith, w.file)) in
    let message = five_digits r.message (omega (arith, w.message)) in
    let parts = parts_most r.kind r.process r.file r.offset r.length r.message w.kind process file message in
    omega (arith, record-size r, parts)

-- The lines of rows that are sound behind the rows before have at most 36 bytes each.
sound_most : (P : ℕ) (earlier rows : List Row) → P ≤ PROCESSES → SoundFrom P earlier rows → length (lines_of rows) ≤ LINE_MOST * length rows
unfolding lines_of
sound_most P earlier [] few s = omega arith
sound_most P earlier (r ∷ rest) few s =
    omega (
      arith,
      sound_most P (earlier ++ (r ∷ [])) rest few s.2,
      line-most P r few s.0,
      length-append (record_of r) (lines_of rest),
    )

-- The lines of rows that pass have at most 36 bytes each.
pub lines_few : (P : ℕ) (rows : List Row) → P ≤ PROCESSES → ask_rows P [] rows ≡ accepted rows → length (lines_of rows) ≤ LINE_MOST * length rows
lines_few P rows few e = sound_most P [] rows few (sound_from ((passes-iff P rows).0 e))

-- The text of rows that pass has at most 41 bytes and 36 for each row.
pub text-most : (P header : ℕ) (rows : List Row) → P ≤ PROCESSES → ask_rows P [] rows ≡ accepted rows →
    length (text_of header rows) ≤ HEADER_MOST + LINE_MOST * length rows
unfolding text_of
text-most P header rows few e =
    omega (
      arith,
      header-most header,
      lines_few P rows few e,
      length-append (header_of header) (lines_of rows),
    )

-- ---- Whether a text fits

module _ (outLength place header : ℕ) (rows : List Row) where
  -- The text's length is that of the header and that of the lines.
  pub text-size : length (text_of header rows) ≡ length (header_of header) + length (lines_of rows)
  unfolding text_of
  text-size = length-append (header_of header) (lines_of rows)

  module _ (h : place ≤ outLength) where
    -- A text fits where there is room for as many of the longest lines and for the header.
    pub fits-roomy : (n : ℕ) → length (lines_of rows) ≤ LINE_MOST * n → HEADER_MOST + LINE_MOST * n ≤ outLength - place →
        true ≡ text_fits outLength place (text_of header rows)
    fits-roomy n l g =
        let fit : place + length (text_of header rows) ≤ outLength = omega (arith, text-size, header-most header) in
        sym (le-leb (place + length (text_of header rows)) outLength fit)

    -- The lengths of header and lines together say whether the text fits.
    pub fits-measured : {head lines : ℕ} → head ≡ length (header_of header) → lines ≡ length (lines_of rows) →
        leb (head + lines) (outLength - place) ≡ text_fits outLength place (text_of header rows)
    fits-measured {head} {lines} e f = go (dec_lt (outLength - place) (head + lines))
      where
        go : Dec (outLength - place < head + lines) → leb (head + lines) (outLength - place) ≡ text_fits outLength place (text_of header rows)
        go (yes u) =
            let over : outLength < place + length (text_of header rows) = omega (arith, text-size, e, f, u) in
            lt-leb (head + lines) (outLength - place) u ∙ sym (lt-leb (place + length (text_of header rows)) outLength over)
        go (no u) =
            let l : head + lines ≤ outLength - place = omega (arith, u) in
            let fit : place + length (text_of header rows) ≤ outLength = omega (arith, text-size, e, f, l) in
            le-leb (head + lines) (outLength - place) l ∙ sym (le-leb (place + length (text_of header rows)) outLength fit)

-- ---- What a call can answer

-- The bytes of the longest text.
abbrev pub TEXT_MOST : ℕ
TEXT_MOST = 147497

-- A text has at most 147,497 bytes, a refusal's number is not 0, and its place is at most 4,096.
abbrev pub Small : Written → Type 0
Small (Length size) = size ≤ TEXT_MOST
Small (Refused number place) = (0 < number) × (place ≤ ROWS)

-- The refusal of a row has a number, and its place is the number of one of the rows.
asked-small : (P : ℕ) (earlier rest : List Row) {number row : ℕ} → ask_rows P earlier rest ≡ refused number row →
    (0 < number) × (row ≤ length earlier + length rest)
unfolding ask_rows
asked-small P earlier [] e = let z : ◌≡◌ {A = ℕ} 0 1 = cc in absurd (omega arith)
asked-small P earlier (r ∷ rest) {number} {row} e = go (eqb first 0) refl e (λ q. asked-small P (earlier ++ (r ∷ [])) rest q)
  where
    first : ℕ
    first = first_no (written_questions P earlier r)

    behind : Outcome
    behind = ask_rows P (earlier ++ (r ∷ [])) rest

    go : (b : Bool) → eqb first 0 ≡ b → cond b behind (refused first (length earlier + 1)) ≡ refused number row →
        (behind ≡ refused number row → (0 < number) × (row ≤ length (earlier ++ (r ∷ [])) + length rest)) →
        (0 < number) × (row ≤ length earlier + length (r ∷ rest))
    go true q d ih = let n = ih d in (n.0, omega (arith, n.1, length-append earlier (r ∷ [])))
    go false q d ih =
        let n : first ≡ number = cc in
        let p : length earlier + 1 ≡ row = cc in
        let z = eqb-false first 0 q in
        (omega (arith, n, z), omega (arith, p))

-- The answer of every call is small.
pub written_small : (xs : List ℕ) (n header P outLength place : ℕ) → Small (written_of (write_trace xs n header P outLength place))
unfolding write_trace
written_small xs n header P outLength place = go (eqb first 0) refl
  where
    first : ℕ
    first = first_no (write_questions n header P (length xs))

    rows : List Row
    rows = rows_in n xs

    fitted : (b : Bool) (out : List Row) → length (text_of header out) ≤ TEXT_MOST →
        Small (written_of (cond b (written (text_of header out)) (not_written TEXT_SPACE 0)))
    fitted true out h = h
    fitted false out h = (omega arith, omega arith)

    no : n ≤ ROWS → {number row : ℕ} → (ask_rows P [] rows ≡ refused number row) ⊎ AskedNo (ask_rows P [] rows) number row → (0 < number) × (row ≤ ROWS)
    no h (inl e) = let s = asked-small P [] rows e in (s.0, omega (arith, s.1, length-rows n xs))
    no h (inr k) =
        let same = asked-all P rows k.rows k.passed in
        (omega (arith, k.is_number), omega (arith, k.few, ap length same, length-rows n xs))

    asked : n ≤ ROWS → P ≤ PROCESSES → (o : Outcome) → ask_barriers (ask_rows P [] rows) ≡ o → Small (written_of (on_asked header outLength place o))
    asked h few (refused number row) e = no h (asked-no_of (ask_rows P [] rows) e)
    asked h few (accepted out) d =
        let e = (asked-accepted (ask_rows P [] rows) d).0 in
        let same = asked-all P rows out e in
        let t = text-most P header out few (subst (λ (l : List Row). ask_rows P [] l ≡ accepted out) (sym same) e) in
        fitted (text_fits outLength place (text_of header out)) out (omega (arith, t, ap length same, length-rows n xs))

    go : (b : Bool) → eqb first 0 ≡ b → Small (written_of (cond b (on_asked header outLength place (ask_barriers (ask_rows P [] rows))) (not_written first 0)))
    go true q = let l = call-legal n header P (length xs) (eqb-true first 0 q) in asked l.0 l.2 (ask_barriers (ask_rows P [] rows)) refl
    go false q = let z = eqb-false first 0 q in (omega (arith, z), omega arith)
