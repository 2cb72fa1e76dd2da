-- A reader with a limit needs no more bytes than one more than the limit: the bytes behind those change no record.
use Rattle.std.proofs.Common.{ℕ, suc, zero, ◌+◌, ◌≤◌, ◌<◌, arith, ◌≡◌, refl, sym, ap, subst, ◌∙◌, Bool, true, List, [], ◌∷◌, map, length, take, length-take-le, take-take, take_all}
use native.Mathlib.Decide.{dec_lt}
use Rattle.csv_field.specs.FieldReading.{field_at}
use Rattle.csv_content.specs.Content.{content_of}
use Rattle.csv_records.specs.Reading.{prepend, on_stop, fields_from, record_in, read_at, on_found, records_from, records, Records, Finding, nothing, malformed, past-limit, found}
use Rattle.csv_field.specs.declared.Span.{Span}
use Rattle.csv_field.specs.declared.ScannedField.{ScannedField}
use Rattle.csv_field.specs.declared.Stop.{Stop}
use Rattle.csv_field.specs.declared.Stop.TheVariants.{Comma, LineEnd, TextEnd, Bad, Cut}
use Rattle.csv_field.proofs.Places.{comma-place, span_in}
use Rattle.csv_content.proofs.Contents.{content-cut}
use Rattle.csv_records.proofs.Places.{prepend-found, found-places}
use Rattle.csv_records.proofs.Limit.{read-cut, records-enough}

-- every span ends at or before a place
abbrev Inside : ℕ → List Span → Type 0
Inside n [] = Unit {0}
Inside n (s ∷ ss) = (s.start + s.len ≤ n) × Inside n ss

-- the spans of a record end within the bytes
fields-inside : (k : ℕ) (s : List ℕ) (cut : Bool) (at : ℕ) (spans : List Span) (end next : ℕ) → at ≤ length s →
    fields_from k s cut at ≡ found spans end next → Inside (length s) spans
unfolding fields_from on_stop prepend
fields-inside zero s cut at spans end next h e = let z : ◌≡◌ {A = ℕ} 0 1 = cc in absurd (omega arith)
fields-inside (suc k) s cut at spans end next h e = go (field_at s cut at).stop refl e (λ rest l. fields-inside k s cut ((field_at s cut at).end + 1) rest end next l)
  where
    c : ScannedField
    c = field_at s cut at

    alone : (c.span ∷ []) ≡ spans → Inside (length s) spans
    alone q = subst (Inside (length s)) q (span_in s cut at h, tt)

    go : (x : Stop) → c.stop ≡ x → on_stop x c.span c.end (λ p. fields_from k s cut p) ≡ found spans end next →
        ((rest : List Span) → c.end + 1 ≤ length s → fields_from k s cut (c.end + 1) ≡ found rest end next → Inside (length s) rest) →
        Inside (length s) spans
    go Comma f q ih =
        let i = comma-place s cut at f in
        let b = prepend-found c.span (fields_from k s cut (c.end + 1)) spans end next q in
        let one : found (c.span ∷ b.0) end next ≡ found spans end next = subst (λ r. prepend c.span r ≡ found spans end next) b.1 q in
        let front : c.span ∷ b.0 ≡ spans = cc in
        subst (Inside (length s)) front (span_in s cut at h, ih b.0 (omega arith) b.1)
    go LineEnd f q ih = alone cc
    go TextEnd f q ih = alone cc
    go Bad f q ih = let z : ◌≡◌ {A = ℕ} 0 1 = cc in absurd (omega arith)
    go Cut f q ih = let z : ◌≡◌ {A = ℕ} 0 1 = cc in absurd (omega arith)

-- bytes behind spans change nothing of their contents
contents_cut : (text : List ℕ) (m n : ℕ) (spans : List Span) → n ≤ m → Inside n spans → map (content_of (take m text)) spans ≡ map (content_of text) spans
contents_cut text m n [] h i = refl
contents_cut text m n (s ∷ ss) h i =
    λ j. content-cut text m s (omega (arith, i.0)) j ∷ contents_cut text m n ss h i.1 j

module _ (text : List ℕ) (limit m : ℕ) (low : limit < m) (high : m < length text) where
  -- the part's length
  length_cut : length (take m text) ≡ m
  length_cut = length-take-le m text (omega arith)

  -- a reader finds one record at a place up to the limit, in the text and in its part
  read_same : (at : ℕ) → at ≤ limit → read_at (take m text) at limit ≡ read_at text at limit
  read_same at h =
      read-cut (take m text) at limit (omega (arith, length_cut)) (omega (arith, length_cut))
      ∙ ap (λ s. record_in s true at) (take-take limit m text (omega arith))
      ∙ sym (read-cut text at limit (omega arith) (omega arith))

  -- the records from a finding on are those in the text, where the records behind are
  found-cut : (r : Finding) (at : ℕ) → at ≤ limit → read_at text at limit ≡ r → (f g : ℕ → Records) →
      ((next : ℕ) → next ≤ limit → f next ≡ g next) → on_found (take m text) r f ≡ on_found text r g
  unfolding on_found
  found-cut nothing at h e f g q = refl
  found-cut malformed at h e f g q = refl
  found-cut past-limit at h e f g q = refl
  found-cut (found spans end next) at h e f g q =
      let p = found-places text at limit spans end next e in
      let l = length-take-le limit text (omega arith) in
      let i = fields-inside _ (take limit text) true at spans end next (omega (arith, l)) (sym (read-cut text at limit (omega arith) (omega arith)) ∙ e) in
      let same = contents_cut text m (length (take limit text)) spans (omega (arith, l)) i in
      let rest = q next (p.4 (omega arith)) in
      λ j. record { rows = same j ∷ (rest j).rows; ending = (rest j).ending }

  -- the records from a place up to the limit are those in the text
  records-same : (k at : ℕ) → at ≤ limit → records_from k (take m text) limit at ≡ records_from k text limit at
  unfolding records_from
  records-same zero at h = refl
  records-same (suc k) at h =
      ap (λ r. on_found (take m text) r (λ p. records_from k (take m text) limit p)) (read_same at h)
      ∙ found-cut (read_at text at limit) at h refl _ _ (λ next l. records-same k next l)

-- A reader with a limit finds the same records in every part of the text from its start that has more bytes than the limit.
pub records-cut : (text : List ℕ) (limit m : ℕ) → limit < m → records (take m text) limit ≡ records text limit
unfolding records
records-cut text limit m low = go (dec_lt m (length text))
  where
    go : Dec (m < length text) → records_from (suc (length (take m text))) (take m text) limit 0 ≡ records_from (suc (length text)) text limit 0
    go (yes high) =
        let l = length_cut text limit m low high in
        records-enough (suc (length (take m text))) (suc (length text)) (take m text) limit 0 (omega arith) (omega (arith, l))
        ∙ records-same text limit m low high (suc (length text)) 0 (omega arith)
    go (no h) = ap (λ s. records_from (suc (length s)) s limit 0) (take_all m text (omega arith))
