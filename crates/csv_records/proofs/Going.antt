-- The loop of read_fields: what holds after some fields, and what each answer of field_at adds.
use Rattle.std.proofs.Common.{ℕ, zero, suc, ◌+◌, ◌-◌, ◌≤◌, ◌<◌, arith, ◌≡◌, refl, sym, ap, ◌∙◌, ◌⊎◌, inl, inr, Bool, List, [], ◌∷◌, ◌++◌, length, take, replicate, length-append, length-take}
use lib.ListN.{set}
use lib.Seq.{set_out}
use Rattle.csv_field.specs.FieldReading.{field_at, no_span}
use Rattle.csv_records.specs.Reading.{Finding, malformed, past-limit, found, prepend, on_stop, fields_from, record_in, first_six, reading_of, without}
use Rattle.csv_field.specs.declared.Span.{Span}
use Rattle.csv_records.specs.Reading.{Malformed, Limit, Record}
use Rattle.csv_field.specs.declared.ScannedField.{ScannedField}
use Rattle.csv_field.specs.declared.Stop.{Stop}
use Rattle.csv_field.specs.declared.Stop.TheVariants.{Comma, LineEnd, TextEnd, Bad, Cut}
use Rattle.csv_field.proofs.Places.{comma-place, line-place}

-- a finding with several fields in front
unfoldable pub prepend_all : List Span → Finding → Finding
prepend_all [] r = r
prepend_all (x ∷ l) r = prepend x (prepend_all l r)

-- one field behind several is the last of them
prepend-snoc : (l : List Span) (x : Span) (r : Finding) → prepend_all l (prepend x r) ≡ prepend_all (l ++ (x ∷ [])) r
unfolding prepend_all
prepend-snoc [] x r = refl
prepend-snoc (y ∷ l) x r = ap (prepend y) (prepend-snoc l x r)

-- several fields in front of a record
prepend-found : (l m : List Span) (end next : ℕ) → prepend_all l (found m end next) ≡ found (l ++ m) end next
unfolding prepend_all prepend
prepend-found [] m end next = refl
prepend-found (y ∷ l) m end next = ap (prepend y) (prepend-found l m end next)

-- several fields in front of a malformed record
prepend-malformed : (l : List Span) → prepend_all l malformed ≡ malformed
unfolding prepend_all prepend
prepend-malformed [] = refl
prepend-malformed (y ∷ l) = ap (prepend y) (prepend-malformed l)

-- several fields in front of the limit
prepend-limit : (l : List Span) → prepend_all l past-limit ≡ past-limit
unfolding prepend_all prepend
prepend-limit [] = refl
prepend-limit (y ∷ l) = ap (prepend y) (prepend-limit l)

-- the first n of any n copies or more are the same
take-copies : (n k m : ℕ) (z : Span) → n ≤ k → n ≤ m → take n (replicate k z) ≡ take n (replicate m z)
take-copies zero k m z h g = refl
take-copies (suc n) zero m z h g = absurd (omega arith)
take-copies (suc n) (suc k) zero z h g = absurd (omega arith)
take-copies (suc n) (suc k) (suc m) z h g =
    let h' : n ≤ k = omega arith in
    let g' : n ≤ m = omega arith in
    ap (λ (l : List Span). z ∷ l) (take-copies n k m z h' g')

-- a store at the length of l puts one more behind l
set_next : (n k : ℕ) (l : List Span) (x z : Span) → n ≤ k →
    set (take n (l ++ replicate k z)) (length l) x ≡ take n ((l ++ (x ∷ [])) ++ replicate k z)
set_next zero k [] x z h = refl
set_next (suc n) zero [] x z h = absurd (omega arith)
set_next (suc n) (suc k) [] x z h =
    let g : n ≤ k = omega arith in
    let g' : n ≤ suc k = omega arith in
    ap (λ (l : List Span). x ∷ l) (take-copies n k (suc k) z g g')
set_next zero k (y ∷ l) x z h = refl
set_next (suc n) k (y ∷ l) x z h =
    let g : n ≤ k = omega arith in
    ap (λ (m : List Span). y ∷ m) (set_next n k l x z g)

-- first_six has six spans
six : (l : List Span) → length (first_six l) ≡ 6
six l = length-take 6 (l ++ replicate 6 no_span) ∙ omega (arith, length-append l (replicate 6 no_span))

-- The code has read the fields `done` up to place i: the record has those fields and the fields from i on, and `spans` keeps the first six.
pub record Going (s : List ℕ) (cut : Bool) (at : ℕ) (spans : List Span) (count i : ℕ) : Type 0 where
  pub done : List Span
  pub left : ℕ
  pub whole : record_in s cut at ≡ prepend_all done (fields_from (suc left) s cut i)
  pub enough : length s ≤ i + left
  pub kept : spans ≡ first_six done
  pub many : count ≡ length done
  pub below : count ≤ i
  pub few : count ≤ length s

-- before the first field
pub start : (s : List ℕ) (cut : Bool) (at : ℕ) → Going s cut at (first_six []) 0 at
unfolding prepend_all
start s cut at = record { done = []; left = length s; whole = refl; enough = omega arith; kept = refl; many = refl; below = omega arith; few = omega arith }

module _ {s : List ℕ} {cut : Bool} {at : ℕ} {spans : List Span} {count i : ℕ} (g : Going s cut at spans count i) where
  -- the kept spans after a field: the code stores a span up to the sixth and leaves out any later one
  pub stored : {after : List Span} (x : Span) → ((count < 6) × (after ≡ set spans count x)) ⊎ ((6 ≤ count) × (after ≡ spans)) →
      after ≡ first_six (g.done ++ (x ∷ []))
  stored x (inl e) = e.1 ∙ (λ k. set (g.kept k) (g.many k) x) ∙ set_next 6 6 g.done x no_span (omega arith)
  stored x (inr e) =
      let out : length (first_six g.done) ≤ length g.done = omega (arith, six g.done, g.many, e.0) in
      e.1 ∙ g.kept ∙ sym (set_out (first_six g.done) (length g.done) x out) ∙ set_next 6 6 g.done x no_span (omega arith)

  -- the field at i
  module _ {field : ScannedField} (f : field ≡ field_at s cut i) where
    -- the record, by what follows the field
    step : {st : Stop} → field.stop ≡ st →
        record_in s cut at ≡ prepend_all g.done (on_stop st field.span field.end (λ p. fields_from g.left s cut p))
    unfolding fields_from
    step e =
        let on : ScannedField → Stop → Finding = λ c st. prepend_all g.done (on_stop st c.span c.end (λ p. fields_from g.left s cut p)) in
        g.whole ∙ (λ j. on (sym f j) (sym f j).stop) ∙ ap (on field) e

    -- a field before a comma ends within the text
    pub comma-in : field.stop ≡ Comma → (i ≤ field.end) × (field.end < length s)
    comma-in e = let c = comma-place s cut i (ap (λ (x : ScannedField). x.stop) (sym f) ∙ e) in let q = ap (λ (x : ScannedField). x.end) f in omega arith

    -- a field before CR LF ends two bytes before the text does, or earlier
    pub line-in : field.stop ≡ LineEnd → field.end + 2 ≤ length s
    line-in e = let c = line-place s cut i (ap (λ (x : ScannedField). x.stop) (sym f) ∙ e) in let q = ap (λ (x : ScannedField). x.end) f in omega arith

    module _ {after : List Span} (k : after ≡ first_six (g.done ++ (field.span ∷ []))) where
      -- the number of fields with this one
      many : count + 1 ≡ length (g.done ++ (field.span ∷ []))
      many = omega (arith, g.many, length-append g.done (field.span ∷ []))

      -- behind a comma the loop goes on with the next field
      pub next : field.stop ≡ Comma → Going s cut at after (count + 1) (field.end + 1)
      unfolding on_stop
      next e =
          let c = comma-in e in
          let l = g.done ++ (field.span ∷ []) in
          let p = field.end + 1 in
          let one : g.left ≡ suc (g.left - 1) = omega (arith, c.0, c.1, g.enough) in
          record {
            done = l;
            left = g.left - 1;
            whole = step e ∙ prepend-snoc g.done field.span (fields_from g.left s cut p) ∙ ap (λ (n : ℕ). prepend_all l (fields_from n s cut p)) one;
            enough = omega (arith, c.0, c.1, g.enough);
            kept = k;
            many = many;
            below = omega (arith, g.below, c.0);
            few = omega (arith, g.below, c.0, c.1);
          }

      -- the reading at the record's last field
      last : {to : ℕ} → record_in s cut at ≡ prepend_all g.done (found (field.span ∷ []) field.end to) →
          record { status = Record; count = count + 1; spans = after; end = field.end; next = to } ≡ reading_of (record_in s cut at)
      unfolding reading_of
      last {to} w =
          (λ j. record { status = Record; count = many j; spans = k j; end = field.end; next = to })
          ∙ sym (ap reading_of (w ∙ prepend-found g.done (field.span ∷ []) field.end to))

      -- CR LF ends the record
      pub last_line : field.stop ≡ LineEnd →
          record { status = Record; count = count + 1; spans = after; end = field.end; next = field.end + 2 } ≡ reading_of (record_in s cut at)
      unfolding on_stop
      last_line e = last (step e)

      -- the end of the text ends the record
      pub last-text : field.stop ≡ TextEnd →
          record { status = Record; count = count + 1; spans = after; end = field.end; next = field.end } ≡ reading_of (record_in s cut at)
      unfolding on_stop
      last-text e = last (step e)

    -- a byte that may not follow a field makes the record malformed
    pub bad : field.stop ≡ Bad → without Malformed ≡ reading_of (record_in s cut at)
    unfolding on_stop reading_of
    bad e = sym (ap reading_of (step e ∙ prepend-malformed g.done))

    -- a field that the limit cuts off leaves the record undecided
    pub over : field.stop ≡ Cut → without Limit ≡ reading_of (record_in s cut at)
    unfolding on_stop reading_of
    over e = sym (ap reading_of (step e ∙ prepend-limit g.done))
