-- Where records end: within the text, and after their start.
use Rattle.std.proofs.Common.{ℕ, suc, zero, ◌+◌, ◌≤◌, ◌<◌, arith, ◌≡◌, refl, ◌∙◌, Bool, true, false, cond, List, length, take, drop, length-take, drop_of_length-le, ltb-true, ltb-false}
use native.Mathlib.Decide.{dec_le}
use lib.Dec.{ltb}
use Rattle.csv_field.specs.FieldReading.{text_length, stop_of, field_at}
use Rattle.csv_records.specs.Reading.{prepend, on_stop, fields_from, record_in, read_at, Finding, nothing, malformed, past-limit, found}
use Rattle.csv_field.specs.declared.Span.{Span}
use Rattle.csv_field.specs.declared.ScannedField.{ScannedField}
use Rattle.csv_field.specs.declared.Stop.{Stop}
use Rattle.csv_field.specs.declared.Stop.TheVariants.{Comma, LineEnd, TextEnd, Bad, Cut}
use Rattle.csv_field.proofs.Places.{past_end, comma-place, line-place, text-place}

-- a reader that starts at or past the end of a cut text meets the limit
pub fields-past : (k : ℕ) (s : List ℕ) (at : ℕ) → length s ≤ at → fields_from (suc k) s true at ≡ past-limit
unfolding fields_from on_stop stop_of
fields-past k s at h =
    let l : length s ≤ at + text_length (drop at s) = omega arith in
    rw (past_end s true at h, drop_of_length-le s l)

-- a record found with a field in front is a record found behind the field
pub prepend-found : (span : Span) (r : Finding) (spans : List Span) (end next : ℕ) → prepend span r ≡ found spans end next →
    (rest : List Span) × (r ≡ found rest end next)
unfolding prepend
prepend-found span nothing spans end next e = let z : ◌≡◌ {A = ℕ} 0 1 = cc in absurd (omega arith)
prepend-found span malformed spans end next e = let z : ◌≡◌ {A = ℕ} 0 1 = cc in absurd (omega arith)
prepend-found span past-limit spans end next e = let z : ◌≡◌ {A = ℕ} 0 1 = cc in absurd (omega arith)
prepend-found span (found rest e n) spans end next q = (rest, cc)

-- Where the fields of a record end: after the start and within the text. Only at the end of a text that is not cut a record may have no byte.
abbrev Ends : List ℕ → Bool → ℕ → ℕ → ℕ → Type 0
Ends s cut at end next = (at ≤ end) × (end ≤ next) × (next ≤ length s) × ((cut ≡ false → at < length s) → at < next)

-- the fields from a place on end as Ends says
fields-places : (k : ℕ) (s : List ℕ) (cut : Bool) (at : ℕ) (spans : List Span) (end next : ℕ) → at ≤ length s →
    fields_from k s cut at ≡ found spans end next → Ends s cut at end next
unfolding fields_from on_stop
fields-places zero s cut at spans end next h e = let z : ◌≡◌ {A = ℕ} 0 1 = cc in absurd (omega arith)
fields-places (suc k) s cut at spans end next h e = go (field_at s cut at).stop refl e
    (λ rest l. fields-places k s cut ((field_at s cut at).end + 1) rest end next l)
  where
    c : ScannedField
    c = field_at s cut at

    go : (x : Stop) → c.stop ≡ x → on_stop x c.span c.end (λ p. fields_from k s cut p) ≡ found spans end next →
        ((rest : List Span) → c.end + 1 ≤ length s → fields_from k s cut (c.end + 1) ≡ found rest end next → Ends s cut (c.end + 1) end next) →
        Ends s cut at end next
    go Comma f q ih =
        let i = comma-place s cut at f in
        let b = prepend-found c.span (fields_from k s cut (c.end + 1)) spans end next q in
        let r = ih b.0 (omega arith) b.1 in
        (omega arith, r.1, r.2, λ l. omega arith)
    go LineEnd f q ih =
        let i = line-place s cut at f in
        let j : c.end ≡ end = cc in
        let m : c.end + 2 ≡ next = cc in
        (omega arith, omega arith, omega arith, λ l. omega arith)
    go TextEnd f q ih =
        let i = text-place s cut at h f in
        let j : c.end ≡ end = cc in
        let m : c.end ≡ next = cc in
        (omega arith, omega arith, omega arith, λ l. omega (arith, l i.2))
    go Bad f q ih = let z : ◌≡◌ {A = ℕ} 0 1 = cc in absurd (omega arith)
    go Cut f q ih = let z : ◌≡◌ {A = ℕ} 0 1 = cc in absurd (omega arith)

-- a record has at least one byte and ends within the text, and within the limit where the text is longer
pub found-places : (text : List ℕ) (at limit : ℕ) (spans : List Span) (end next : ℕ) →
    read_at text at limit ≡ found spans end next → (at ≤ end) × (end ≤ next) × (at < next) × (next ≤ length text) × (limit < length text → next ≤ limit)
unfolding read_at
found-places text at limit spans end next e = go (ltb at (length text)) (ltb limit (length text)) refl refl e
  where
    p : List ℕ
    p = take limit text

    Placed : Type 0
    Placed = (at ≤ end) × (end ≤ next) × (at < next) × (next ≤ length text) × (limit < length text → next ≤ limit)

    within : (y : Bool) → at < length text → (y ≡ false → length text ≤ limit) → record_in p y at ≡ found spans end next → Dec (at ≤ length p) → Placed
    within y i j q (yes h) =
        let r = fields-places (suc (length p)) p y at spans end next h q in
        let m = length-take limit text in
        (r.0, r.1, r.3 (λ f. omega (arith, j f)), omega arith, λ l. omega arith)
    within true i j q (no h) =
        let m = fields-past (length p) p at (omega arith) in
        let z : ◌≡◌ {A = ℕ} 0 1 = cc in absurd (omega arith)
    within false i j q (no h) = absurd (omega (arith, j refl, length-take limit text))

    go : (x y : Bool) → ltb at (length text) ≡ x → ltb limit (length text) ≡ y → cond x (record_in p y at) nothing ≡ found spans end next → Placed
    go true y f g q = within y (ltb-true at (length text) f) (λ n. ltb-false limit (length text) (g ∙ n)) q (dec_le at (length p))
    go false y f g q = let z : ◌≡◌ {A = ℕ} 0 1 = cc in absurd (omega arith)
