-- A row passes the writer's questions exactly where it is well formed, and rows pass exactly where they are sound.
use Rattle.std.proofs.Common.{ℕ, ◌+◌, ◌≤◌, ◌<◌, arith, ◌≡◌, refl, sym, ap, ◌∙◌, ◌↔◌, Bool, true, false, cond, not, List, [], ◌∷◌, ◌++◌, append-nil, length, lt-ltb, ltb-true, le-leb, leb-true, eq-eqb, eqb-true}
use mathlib.Core.Bool.{false≢true}
use lib.Seq.{append_snoc}
use lib.Dec.{ltb, eqb}
use Rattle.csv_records.specs.Reading.{records}
use Rattle.csv_content.specs.Content.{is_nil}
use Rattle.messages.specs.Questions.{message_questions}
use Rattle.print.specs.Decimal.{decimal_of}
use Rattle.rows.specs.declared.row.Row.{Row}
use Rattle.rows.specs.Kinds.{KINDS}
use Rattle.rows.specs.Limits.{PROCESSES, FILES, MESSAGES, OFFSET_MAX}
use Rattle.rows.specs.Questions.{first_no}
use Rattle.rows.proofs.Asking.{From, AllYes, all_yes, none-appended, rest-decides}
use Rattle.rows.proofs.Bools.{and_out}
use Rattle.trace_numbers.specs.declared.Used.{Used}
use Rattle.trace_numbers.specs.Numbers.{starts_plain, is_plain, value_from, value, number_if, ranged_as, OFFSETS}
use Rattle.trace_fields.specs.Rows.{used_by, row_of}
use Rattle.trace_fields.specs.Questions.{kind_known, as_used, filled_as_used, numbers_in_range, end_in_range, field_questions}
use Rattle.trace_fields.specs.Reads.{fills_as}
use Rattle.trace.specs.Questions.{Outcome, refused, accepted, check_trace}
use Rattle.trace.proofs.Laws.{Unless, WellFormed, Sound, none, next, accepted-passed, accepted-sound}
use Rattle.writer_line.specs.Lines.{number_field, contents_of}
use Rattle.writer_line.proofs.Contents.{kind-back}
use Rattle.writer_line.proofs.Digits.{value-back, plain_back}
use Rattle.writer.specs.Writing.{zero_unless, zero_but, below_if, below_of, number_questions, written_questions, ask_rows}

-- ---- The questions of a row's numbers

-- The questions 8 to 11 have numbers.
pub numbered : (P : ℕ) (r : Row) → From 1 (number_questions P r)
unfolding number_questions
numbered P r = omega arith

-- A number that passes the questions 9 and 10 is in its range, and 0 where the kind does not use it.
field-formed : (used : Bool) (below n : ℕ) → 0 < below → zero_unless used n ≡ true → below_if used below n ≡ true → (n < below) × Unless used n
field-formed true below n h z b = (ltb-true n below b, tt)
field-formed false below n h z b = let e = eqb-true n 0 z in (omega arith, e)

-- A number in its range that is 0 where the kind does not use it passes the questions 9 and 10.
field-numbers : (used : Bool) (below n : ℕ) → n < below → Unless used n → (zero_unless used n ≡ true) × (below_if used below n ≡ true)
field-numbers true below n h z = (refl, lt-ltb n below h)
field-numbers false below n h z = (eq-eqb n 0 z, refl)

-- A row whose questions 8 to 11 are all answered Yes is well formed.
yes-formed : (P : ℕ) (r : Row) → AllYes (number_questions P r) → WellFormed P r
unfolding number_questions zero_but below_of
yes-formed P r q =
    let u = used_by r.kind in
    let files : 0 < FILES = omega arith in
    let offsets : 0 < OFFSETS = omega arith in
    let messages : 0 < MESSAGES = omega arith in
    let z1 = and_out _ _ q.1.0 in
    let z2 = and_out _ _ z1.1 in
    let z3 = and_out _ _ z2.1 in
    let b0 = and_out _ _ q.1.1.0 in
    let b1 = and_out _ _ b0.1 in
    let b2 = and_out _ _ b1.1 in
    let b3 = and_out _ _ b2.1 in
    let file = field-formed u.file FILES r.file files z1.0 b1.0 in
    let offset = field-formed u.range OFFSETS r.offset offsets z2.0 b2.0 in
    let size = field-formed u.range OFFSETS r.length offsets z3.0 b3.0 in
    let message = field-formed u.message MESSAGES r.message messages z3.1 b3.1 in
    record {
      process = ltb-true _ _ b0.0;
      kind = ltb-true _ _ q.0;
      file = file.0;
      end = leb-true _ _ q.1.1.1.0;
      message = message.0;
      no_file = file.1;
      no_offset = offset.1;
      no_length = size.1;
      no_message = message.1;
    }

-- A row whose numbers pass the questions 8 to 11 is well formed.
pub numbers-formed : (P : ℕ) (r : Row) → first_no (number_questions P r) ≡ 0 → WellFormed P r
unfolding number_questions
numbers-formed P r e = yes-formed P r (all_yes (number_questions P r) (omega arith) e)

-- The numbers of a well-formed row pass the questions 8 to 11.
pub formed_numbers : (P : ℕ) (r : Row) → WellFormed P r → first_no (number_questions P r) ≡ 0
unfolding number_questions zero_but below_of first_no
formed_numbers P r w =
    let u = used_by r.kind in
    let h : r.offset + r.length ≤ OFFSET_MAX = w.end in
    let file = field-numbers u.file FILES r.file w.file w.no_file in
    let offset = field-numbers u.range OFFSETS r.offset (omega arith) w.no_offset in
    let size = field-numbers u.range OFFSETS r.length (omega arith) w.no_length in
    let message = field-numbers u.message MESSAGES r.message w.message w.no_message in
    rw (
      lt-ltb r.kind KINDS w.kind,
      file.0,
      offset.0,
      size.0,
      message.0,
      lt-ltb r.process P w.process,
      file.1,
      offset.1,
      size.1,
      message.1,
      le-leb (r.offset + r.length) OFFSET_MAX h,
    )

-- ---- The fields of a row read back

-- A number's field is read back.
field_back : (used : Bool) (n : ℕ) → n < OFFSETS → Unless used n → value (number_field used n) ≡ n
unfolding value_from
field_back true n h z = value-back n h
field_back false n h z = sym z

-- A plain number has a byte.
plain-filled : (content : List ℕ) → is_plain content ≡ true → not (is_nil content) ≡ true
unfolding starts_plain
plain-filled [] e = absurd (false≢true e)
plain-filled (b ∷ t) e = refl

-- A number's field is filled where it is used, and empty where not.
field-filled : (used : Bool) (n : ℕ) → n < OFFSETS → as_used used (number_field used n) ≡ true
field-filled true n h = plain-filled (decimal_of n) (plain_back n h)
field-filled false n h = refl

-- A number's field is a plain number in its range where it is used.
field-ranged : (used : Bool) (below n : ℕ) → n < OFFSETS → n < below → number_if used below (number_field used n) ≡ true
field-ranged true below n h l = rw (plain_back n h, value-back n h) (lt-ltb n below l)
field-ranged false below n h l = refl

module _ (P : ℕ) (r : Row) (few : P ≤ PROCESSES) (w : WellFormed P r) where
  -- The fields that the row's kind uses.
  abbrev u : Used
  u = used_by r.kind

  -- The process is below 2^32.
  process-small : r.process < OFFSETS
  process-small = omega (arith, w.process)

  -- The offset is below 2^32.
  offset_small : r.offset < OFFSETS
  offset_small = omega (arith, w.end)

  -- The length is below 2^32.
  length-small : r.length < OFFSETS
  length-small = omega (arith, w.end)

  -- The file is below 2^32.
  file-small : r.file < OFFSETS
  file-small = omega (arith, w.file)

  -- The message is below 2^32.
  message-small : r.message < OFFSETS
  message-small = omega (arith, w.message)

  -- The fields of a well-formed row are read back as the row.
  pub contents_back : row_of (contents_of r) ≡ r
  unfolding row_of contents_of
  contents_back =
      λ i. record {
        process = value-back r.process process-small i;
        kind = kind-back r.kind w.kind i;
        file = field_back u.file r.file file-small w.no_file i;
        offset = field_back u.range r.offset offset_small w.no_offset i;
        length = field_back u.range r.length length-small w.no_length i;
        message = field_back u.message r.message message-small w.no_message i;
      }

  -- The kind's word is known.
  word-known : kind_known (contents_of r) ≡ true
  unfolding contents_of
  word-known = ap (λ (k : ℕ). ltb k KINDS) (kind-back r.kind w.kind) ∙ lt-ltb r.kind KINDS w.kind

  -- The used fields are filled and the others empty.
  fields-filled : filled_as_used (contents_of r) ≡ true
  unfolding filled_as_used fills_as contents_of
  fields-filled =
      ap (λ (k : ℕ). fills_as (used_by k) (contents_of r)) (kind-back r.kind w.kind)
      ∙ rw (
        field-filled true r.process process-small,
        field-filled u.file r.file file-small,
        field-filled u.range r.offset offset_small,
        field-filled u.range r.length length-small,
        field-filled u.message r.message message-small,
      )

  -- Each used field is a plain number in its range.
  fields-ranged : numbers_in_range P (contents_of r) ≡ true
  unfolding numbers_in_range ranged_as contents_of
  fields-ranged =
      ap (λ (k : ℕ). ranged_as (used_by k) P (contents_of r)) (kind-back r.kind w.kind)
      ∙ rw (
        field-ranged true P r.process process-small w.process,
        field-ranged u.file FILES r.file file-small w.file,
        field-ranged u.range OFFSETS r.offset offset_small offset_small,
        field-ranged u.range OFFSETS r.length length-small length-small,
        field-ranged u.message MESSAGES r.message message-small w.message,
      )

  -- The range's end is in its range.
  end_back : end_in_range (row_of (contents_of r)) ≡ true
  end_back = ap (λ (x : Row). end_in_range x) contents_back ∙ le-leb (r.offset + r.length) OFFSET_MAX w.end

  -- The fields of a well-formed row pass the reader's questions 8 to 11.
  pub questions_back : first_no (field_questions P (contents_of r)) ≡ 0
  unfolding first_no field_questions
  questions_back = rw (word-known, fields-filled, fields-ranged, end_back)

-- ---- Rows one behind the other

-- Rows behind the rows before: each is well formed, and its message is in order behind all rows before it.
abbrev pub SoundFrom : ℕ → List Row → List Row → Type 0
SoundFrom P earlier [] = Unit {0}
SoundFrom P earlier (r ∷ rest) = WellFormed P r × (first_no (message_questions earlier r) ≡ 0) × SoundFrom P (earlier ++ (r ∷ [])) rest

-- One more row behind sound ones.
from_snoc : (P : ℕ) (earlier rows : List Row) (r : Row) → SoundFrom P earlier rows → WellFormed P r →
    first_no (message_questions (earlier ++ rows) r) ≡ 0 → SoundFrom P earlier (rows ++ (r ∷ []))
from_snoc P earlier [] r s w m = (w, rw append-nil at m, tt)
from_snoc P earlier (q ∷ rows) r s w m =
    (s.0, s.1, from_snoc P (earlier ++ (q ∷ [])) rows r s.2 w (rw (append_snoc earlier q rows) m))

-- Sound rows are sound one behind the other.
pub sound_from : {P : ℕ} {rows : List Row} → Sound P rows → SoundFrom P [] rows
sound_from none = tt
sound_from {P} (next {rows} {r} s w m) = from_snoc P [] rows r (sound_from s) w m

-- Rows that are sound behind sound ones are sound together with them.
from_sound : (P : ℕ) (earlier rest : List Row) → Sound P earlier → SoundFrom P earlier rest → Sound P (earlier ++ rest)
from_sound P earlier [] s f = rw append-nil s
from_sound P earlier (r ∷ rest) s f =
    rw (append_snoc earlier r rest) at (from_sound P (earlier ++ (r ∷ [])) rest (next s f.0 f.1) f.2)

-- ---- The rows that pass

-- A row that passes its questions is well formed, and its message is in order.
row-passed : (P : ℕ) (earlier : List Row) (r : Row) → first_no (written_questions P earlier r) ≡ 0 →
    WellFormed P r × (first_no (message_questions earlier r) ≡ 0)
unfolding written_questions number_questions
row-passed P earlier r e =
    let a = none-appended (number_questions P r) (message_questions earlier r) (omega arith) e in
    (yes-formed P r a.0, a.1)

-- A well-formed row whose message is in order passes its questions.
row-passes : (P : ℕ) (earlier : List Row) (r : Row) → WellFormed P r → first_no (message_questions earlier r) ≡ 0 →
    first_no (written_questions P earlier r) ≡ 0
unfolding written_questions
row-passes P earlier r w m =
    rest-decides (number_questions P r) (message_questions earlier r) (numbered P r) (formed_numbers P r w) ∙ m

-- Rows that are sound behind the rows before pass.
asked-from : (P : ℕ) (earlier rest : List Row) → SoundFrom P earlier rest → ask_rows P earlier rest ≡ accepted (earlier ++ rest)
unfolding ask_rows
asked-from P earlier [] f = ap accepted (sym (append-nil earlier))
asked-from P earlier (r ∷ rest) f =
    rw (row-passes P earlier r f.0 f.1)
    (asked-from P (earlier ++ (r ∷ [])) rest f.2 ∙ ap accepted (append_snoc earlier r rest))

-- Rows that pass behind the rows before are sound there, and all of them are the outcome's rows.
asked-to : (P : ℕ) (earlier rest : List Row) {out : List Row} → ask_rows P earlier rest ≡ accepted out →
    (out ≡ earlier ++ rest) × SoundFrom P earlier rest
unfolding ask_rows
asked-to P earlier [] {out} e = let same : out ≡ earlier = cc in (same ∙ sym (append-nil earlier), tt)
asked-to P earlier (r ∷ rest) {out} e = go (eqb first 0) refl e (λ q. asked-to P (earlier ++ (r ∷ [])) rest q)
  where
    first : ℕ
    first = first_no (written_questions P earlier r)

    behind : Outcome
    behind = ask_rows P (earlier ++ (r ∷ [])) rest

    go : (b : Bool) → eqb first 0 ≡ b → cond b behind (refused first (length earlier + 1)) ≡ accepted out →
        (behind ≡ accepted out → (out ≡ (earlier ++ (r ∷ [])) ++ rest) × SoundFrom P (earlier ++ (r ∷ [])) rest) →
        (out ≡ earlier ++ (r ∷ rest)) × SoundFrom P earlier (r ∷ rest)
    go true q d ih =
        let p = row-passed P earlier r (eqb-true first 0 q) in
        let n = ih d in
        (n.0 ∙ append_snoc earlier r rest, (p.0, p.1, n.1))
    go false q d ih = let z : ◌≡◌ {A = ℕ} 0 1 = cc in absurd (omega arith)

-- Rows pass, and all of them are the outcome's rows, exactly where they are sound.
pub passes-iff : (P : ℕ) (rows : List Row) → (ask_rows P [] rows ≡ accepted rows) ↔ Sound P rows
passes-iff P rows = (λ e. from_sound P [] rows none (asked-to P [] rows e).1, λ s. asked-from P [] rows (sound_from s))

-- The rows of an outcome that accepts are all rows that were asked.
pub asked-all : (P : ℕ) (rows out : List Row) → ask_rows P [] rows ≡ accepted out → out ≡ rows
asked-all P rows out e = (asked-to P [] rows e).0

-- The rows of every accepted trace pass the writer's questions.
pub accepted-passes : (text : List ℕ) (header model R P limit a b : ℕ) (rows : List Row) →
    check_trace text header model R P limit a b ≡ accepted rows → ask_rows P [] rows ≡ accepted rows
accepted-passes text header model R P limit a b rows e =
    let read = (accepted-passed text header model R P limit a b rows e).1 in
    (passes-iff P rows).1 (accepted-sound header R P (records text limit) rows read).1
