-- What a caller learns from the answer of a reading.
use Rattle.std.proofs.Common.{ℕ, ◌≡◌, refl, ap, List, length, replicate, take_at, Option, Some, None, Result, Ok, Err}
use Rattle.csv_field.specs.FieldReading.{no_span}
use Rattle.csv_records.specs.Reading.{Finding, nothing, malformed, past-limit, found, Reading, told_reading, reading_of, first_six}
use Rattle.csv_field.specs.declared.Span.{Span}
use Rattle.csv_records.specs.declared.Record.{Record}
use Rattle.csv_records.specs.declared.Unread.{Unread}
use Rattle.csv_records.specs.declared.Unread.TheVariants.{Malformed, Limit}

-- the finding is a record, and the answer has its numbers
pub record Told (f : Finding) (r : Record) : Type 0 where
  pub spans : List Span
  pub end : ℕ
  pub next : ℕ
  pub is_found : f ≡ found spans end next
  pub count : r.count ≡ length spans
  pub kept : r.spans ≡ first_six spans
  pub place : r.next ≡ next

-- what an answer tells of the finding
abbrev pub Tells : Finding → Result (Option Record) Unread → Type 0
Tells f (Ok None) = f ≡ nothing
Tells f (Ok (Some r)) = Told f r
Tells f (Err Malformed) = f ≡ malformed
Tells f (Err Limit) = f ≡ past-limit

-- the answer tells the finding
pub tells : (f : Finding) (answer : Result (Option Record) Unread) → told_reading answer ≡ reading_of f → Tells f answer
unfolding reading_of
tells nothing (Ok None) e = refl
tells nothing (Ok (Some r)) e = cc (ap (λ (x : Reading). x.status) e)
tells nothing (Err Malformed) e = cc (ap (λ (x : Reading). x.status) e)
tells nothing (Err Limit) e = cc (ap (λ (x : Reading). x.status) e)
tells malformed (Ok None) e = cc (ap (λ (x : Reading). x.status) e)
tells malformed (Ok (Some r)) e = cc (ap (λ (x : Reading). x.status) e)
tells malformed (Err Malformed) e = refl
tells malformed (Err Limit) e = cc (ap (λ (x : Reading). x.status) e)
tells past-limit (Ok None) e = cc (ap (λ (x : Reading). x.status) e)
tells past-limit (Ok (Some r)) e = cc (ap (λ (x : Reading). x.status) e)
tells past-limit (Err Malformed) e = cc (ap (λ (x : Reading). x.status) e)
tells past-limit (Err Limit) e = refl
tells (found spans end next) (Ok None) e = cc (ap (λ (x : Reading). x.status) e)
tells (found spans end next) (Ok (Some r)) e =
    record {
      spans = spans;
      end = end;
      next = next;
      is_found = refl;
      count = ap (λ (x : Reading). x.count) e;
      kept = ap (λ (x : Reading). x.spans) e;
      place = ap (λ (x : Reading). x.next) e;
    }
tells (found spans end next) (Err Malformed) e = cc (ap (λ (x : Reading). x.status) e)
tells (found spans end next) (Err Limit) e = cc (ap (λ (x : Reading). x.status) e)

-- a reading of six fields keeps all their spans
pub all-six : (spans : List Span) → length spans ≡ 6 → first_six spans ≡ spans
all-six spans h = take_at spans (replicate 6 no_span) 6 h
