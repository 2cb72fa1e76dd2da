-- What stands next in a file, and what the turn is, case by case.
use Rattle.std.proofs.Common.{ℕ, Err, ◌≡◌, refl, ap, ◌∙◌, Bool, true, false, List, length, ne_eqb}
use Rattle.csv_field.specs.declared.Span.{Span}
use Rattle.csv_records.specs.declared.Unread.{Unread}
use Rattle.csv_records.specs.declared.Unread.TheVariants as unread
use Rattle.csv_records.specs.Reading.{told_reading, Finding, nothing, malformed, past-limit, found, read_at, Reading, End, Malformed, Limit, Record, reading_of, whole_record}
use Rattle.trace_numbers.specs.Numbers.{fields_of}
use Rattle.trace_fields.specs.Reads.{judged_fields}
use Rattle.join_meaning.specs.Files.{behind, rows_start}
use Rattle.join.specs.Choosing.{no_next, next_row, next_found, next_in, Next, Turn, Over, Stuck, Take, FIRST, SECOND, ready_by, choice_in, turn_by}

-- ---- What stands next

module _ (P : ℕ) (text : List ℕ) (at : ℕ) where
  -- Where no record is found, nothing stands next.
  none-found : (f : Finding) {x : Reading} → x ≡ reading_of f → (x.status ≡ Record → ⊥) → no_next ≡ next_found P text at f
  unfolding next_found reading_of
  none-found nothing e n = refl
  none-found malformed e n = refl
  none-found past-limit e n = refl
  none-found (found spans end next) e n = absurd (n (ap (λ (r : Reading). r.status) e))

  -- Where a record is found, its fields decide.
  record-found : (f : Finding) {count end next : ℕ} {spans : List Span} → whole_record count spans end next ≡ reading_of f →
      next_row at end next (judged_fields P (fields_of text spans)) ≡ next_found P text at f
  unfolding next_found reading_of
  record-found nothing e = let z : Record ≡ End = ap (λ (r : Reading). r.status) e in absurd cc
  record-found malformed e = let z : Record ≡ Malformed = ap (λ (r : Reading). r.status) e in absurd cc
  record-found past-limit e = let z : Record ≡ Limit = ap (λ (r : Reading). r.status) e in absurd cc
  record-found (found spans end next) e = λ i. next_row at (e i).end (e i).next (judged_fields P (fields_of text (e i).spans))

  -- Nothing stands next at a place where no record is read.
  pub next-none : {x : Reading} → x ≡ reading_of (read_at text at (length text)) → (x.status ≡ Record → ⊥) → no_next ≡ next_in P text at
  unfolding next_in
  next-none e n = none-found (read_at text at (length text)) e n

  -- Nothing stands next at a place where no record can be read.
  pub next-unread : (u : Unread) → told_reading (Err u) ≡ reading_of (read_at text at (length text)) → no_next ≡ next_in P text at
  next-unread unread.Malformed e = next-none e (λ z. cc)
  next-unread unread.Limit e = next-none e (λ z. cc)

  -- What stands next at a place where a record is read.
  pub next-record : {count end next : ℕ} {spans : List Span} → whole_record count spans end next ≡ reading_of (read_at text at (length text)) →
      next_row at end next (judged_fields P (fields_of text spans)) ≡ next_in P text at
  unfolding next_in
  next-record e = record-found (read_at text at (length text)) e

-- Behind a header the first row may start where the record behind the header starts.
pub start-behind : (header : ℕ) (text : List ℕ) → (header ≡ 0 → ⊥) → {x : Reading} → x ≡ reading_of (read_at text 0 (length text)) →
    x.next ≡ rows_start header text
unfolding rows_start reading_of
start-behind header text h e = rw (ne_eqb header 0 h) (ap (λ (x : Reading). x.next) e ∙ go (read_at text 0 (length text)))
  where
    go : (f : Finding) → (reading_of f).next ≡ behind f
    go nothing = refl
    go malformed = refl
    go past-limit = refl
    go (found spans end next) = refl

-- Behind a header that cannot be read it is 0.
pub start-unread : (header : ℕ) (text : List ℕ) → (header ≡ 0 → ⊥) → (u : Unread) → told_reading (Err u) ≡ reading_of (read_at text 0 (length text)) →
    0 ≡ rows_start header text
start-unread header text h unread.Malformed e = start-behind header text h e
start-unread header text h unread.Limit e = start-behind header text h e

-- ---- Which record comes next

module _ (table stands arrivals : List ℕ) (processes : ℕ) (a b : Next) where
  -- Whether the first file's record is ready, and the second's.
  abbrev ready : Next → Bool
  ready x = ready_by table stands arrivals processes x

  -- The turn.
  abbrev turn : Turn
  turn = turn_by table stands arrivals processes a b

  -- The first file's record is taken where it is ready.
  pub turn-first : ready a ≡ true → Take (choice_in FIRST a) ≡ turn
  unfolding turn_by
  turn-first p = rw p

  -- The second file's record is taken where the first's is not ready and the second's is.
  pub turn-second : ready a ≡ false → ready b ≡ true → Take (choice_in SECOND b) ≡ turn
  unfolding turn_by
  turn-second p q = rw (p, q)

  module _ (p : ready a ≡ false) (q : ready b ≡ false) where
    -- The join is stuck where the first file has a row that waits.
    pub stuck-first : a.some ≡ true → Stuck ≡ turn
    unfolding turn_by
    stuck-first s = rw (p, q, s)

    -- The join is stuck where the second file has a row that waits.
    pub stuck-second : a.some ≡ false → b.some ≡ true → Stuck ≡ turn
    unfolding turn_by
    stuck-second s t = rw (p, q, s, t)

    -- The join is over where both files are at their end.
    pub turn-over : a.some ≡ false → b.some ≡ false → Over ≡ turn
    unfolding turn_by
    turn-over s t = rw (p, q, s, t)
