-- What a byte limit changes, and why a reader that reads record after record ends.
use Rattle.std.proofs.Common.{ℕ, suc, zero, ◌+◌, ◌≤◌, ◌<◌, arith, ◌≡◌, refl, sym, ap, ◌∙◌, Bool, true, false, List, [], ◌∷◌, ◌++◌, ◌⊎◌, inl, inr, length, take, drop, length-take, length-append, take-append-drop, take_all, lt-ltb, le-ltb}
use native.Mathlib.Decide.{dec_le, dec_lt}
use Rattle.csv_field.specs.FieldReading.{field_at}
use Rattle.csv_records.specs.Reading.{prepend, on_stop, fields_from, record_in, read_at, Records, on_found, records_from, Finding, nothing, malformed, past-limit, found}
use Rattle.csv_field.specs.declared.Span.{Span}
use Rattle.csv_field.specs.declared.ScannedField.{ScannedField}
use Rattle.csv_field.specs.declared.Stop.{Stop}
use Rattle.csv_field.specs.declared.Stop.TheVariants.{Comma, LineEnd, TextEnd, Bad, Cut}
use Rattle.csv_field.proofs.Places.{comma-place, whole-place}
use Rattle.csv_field.proofs.MoreBytes.{field-more, field_cut}
use Rattle.csv_records.proofs.Places.{fields-past, found-places}

-- ---- The bytes that a reader looks at

-- at the end of the text a reader finds nothing
pub read_past : (text : List ℕ) (at limit : ℕ) → length text ≤ at → read_at text at limit ≡ nothing
unfolding read_at
read_past text at limit h = rw (le-ltb at (length text) h)

-- of a text that is longer than the limit, a reader looks at the bytes before the limit
pub read-cut : (text : List ℕ) (at limit : ℕ) → at < length text → limit < length text → read_at text at limit ≡ record_in (take limit text) true at
unfolding read_at
read-cut text at limit h g = rw (lt-ltb at (length text) h, lt-ltb limit (length text) g)

-- of any other text, a reader looks at all bytes
pub read_whole : (text : List ℕ) (at limit : ℕ) → at < length text → length text ≤ limit → read_at text at limit ≡ record_in text false at
unfolding read_at
read_whole text at limit h g = rw (lt-ltb at (length text) h, le-ltb limit (length text) g, take_all limit text g)

-- ---- The fields of a record

-- what a reader finds behind a field depends on `rest` only where a comma follows the field
on_same : (x : Stop) (span : Span) (end : ℕ) (f g : ℕ → Finding) → (x ≡ Comma → f (end + 1) ≡ g (end + 1)) → on_stop x span end f ≡ on_stop x span end g
unfolding on_stop
on_same Comma span end f g h = ap (prepend span) (h refl)
on_same LineEnd span end f g h = refl
on_same TextEnd span end f g h = refl
on_same Bad span end f g h = refl
on_same Cut span end f g h = refl

-- a record is past the limit because the limit cuts off the field, or because the fields behind a comma are past the limit
on-past : (x : Stop) (span : Span) (end : ℕ) (f : ℕ → Finding) → on_stop x span end f ≡ past-limit →
    (x ≡ Cut) ⊎ ((x ≡ Comma) × (f (end + 1) ≡ past-limit))
unfolding on_stop prepend
on-past Comma span end f e = inr (refl, go (f (end + 1)) e)
  where
    go : (r : Finding) → prepend span r ≡ past-limit → r ≡ past-limit
    go nothing q = q
    go malformed q = q
    go past-limit q = q
    go (found s i j) q = let z : ◌≡◌ {A = ℕ} 0 1 = cc in absurd (omega arith)
on-past LineEnd span end f e = let z : ◌≡◌ {A = ℕ} 0 1 = cc in absurd (omega arith)
on-past TextEnd span end f e = let z : ◌≡◌ {A = ℕ} 0 1 = cc in absurd (omega arith)
on-past Bad span end f e = let z : ◌≡◌ {A = ℕ} 0 1 = cc in absurd (omega arith)
on-past Cut span end f e = inl refl

-- a bound larger than the bytes' number changes no record: each field but the last takes a byte
fields-enough : (k m : ℕ) (s : List ℕ) (cut : Bool) (at : ℕ) → at ≤ length s → length s < at + k → length s < at + m →
    fields_from k s cut at ≡ fields_from m s cut at
unfolding fields_from
fields-enough zero m s cut at h i j = absurd (omega arith)
fields-enough (suc k) zero s cut at h i j = absurd (omega arith)
fields-enough (suc k) (suc m) s cut at h i j =
    on_same _ _ _ _ _ (λ f. let c = comma-place s cut at f in fields-enough k m s cut _ (omega arith) (omega arith) (omega arith))

-- a record of a text that is not cut meets no limit
fields-whole : (k : ℕ) (s : List ℕ) (at : ℕ) → fields_from k s false at ≡ past-limit → ⊥
unfolding fields_from
fields-whole zero s at e = let z : ◌≡◌ {A = ℕ} 0 1 = cc in absurd (omega arith)
fields-whole (suc k) s at e = go (on-past _ _ _ _ e) (fields-whole k s ((field_at s false at).end + 1))
  where
    c : ScannedField
    c = field_at s false at

    go : (c.stop ≡ Cut) ⊎ ((c.stop ≡ Comma) × (fields_from k s false (c.end + 1) ≡ past-limit)) →
        (fields_from k s false (c.end + 1) ≡ past-limit → ⊥) → ⊥
    go (inl q) ih = whole-place s at q
    go (inr q) ih = ih q.1

-- a record that meets no limit stays as it is whatever bytes come after
fields-more : (k : ℕ) (p u : List ℕ) (c : Bool) (at : ℕ) → (fields_from k p true at ≡ past-limit → ⊥) →
    fields_from k (p ++ u) c at ≡ fields_from k p true at
unfolding fields_from on_stop prepend
fields-more zero p u c at h = refl
fields-more (suc k) p u c at h =
    let d = field_at p true at in
    rw (field-more p u c at (λ f. h (rw f)))
    (on_same d.stop d.span d.end _ _ (λ f. fields-more k p u c (d.end + 1) (λ q. h (rw (f, q)))))

-- some bytes behind p end the record at a place, and others make it malformed
abbrev Undecided : ℕ → List ℕ → ℕ → Type 0
Undecided k p at =
    ((u : List ℕ) × (length u ≡ 3) × (spans : List Span) × (end : ℕ) × (next : ℕ) × (fields_from k (p ++ u) false at ≡ found spans end next))
    × (fields_from k (p ++ (0 ∷ [])) false at ≡ malformed)

-- a record that meets the limit is Undecided
fields-cut : (k : ℕ) (p : List ℕ) (at : ℕ) → at ≤ length p → fields_from k p true at ≡ past-limit → Undecided k p at
unfolding fields_from on_stop prepend
fields-cut zero p at h e = let z : ◌≡◌ {A = ℕ} 0 1 = cc in absurd (omega arith)
fields-cut (suc k) p at h e = go (on-past _ _ _ _ e) (fields-cut k p ((field_at p true at).end + 1))
  where
    c : ScannedField
    c = field_at p true at

    comma-more : c.stop ≡ Comma → (u : List ℕ) → field_at (p ++ u) false at ≡ c
    comma-more q u = field-more p u false at (λ f. let z : ◌≡◌ {A = ℕ} 0 1 = cc in absurd (omega arith))

    go : (c.stop ≡ Cut) ⊎ ((c.stop ≡ Comma) × (fields_from k p true (c.end + 1) ≡ past-limit)) →
        (c.end + 1 ≤ length p → fields_from k p true (c.end + 1) ≡ past-limit → Undecided k p (c.end + 1)) → Undecided (suc k) p at
    go (inl q) ih =
        let r = field_cut p at h q in
        let d = field_at (p ++ r.0.0) false at in
        ((r.0.0, r.0.1, d.span ∷ [], d.end, d.end + 2, rw r.0.2), rw r.1)
    go (inr q) ih =
        let i = comma-place p true at q.0 in
        let r = ih (omega arith) q.1 in (
          (r.0.0, r.0.1, c.span ∷ r.0.2, r.0.3, r.0.4, rw (comma-more q.0 r.0.0, q.0, r.0.5)),
          rw (comma-more q.0 (0 ∷ []), q.0, r.1),
        )

-- ---- The limit

-- only a text longer than the limit meets the limit
pub limit-cut : (text : List ℕ) (at limit : ℕ) → read_at text at limit ≡ past-limit → (limit < length text) × (at < length text)
limit-cut text at limit e = go (dec_lt limit (length text)) (dec_lt at (length text))
  where
    go : Dec (limit < length text) → Dec (at < length text) → (limit < length text) × (at < length text)
    go (yes i) (yes j) = (i, j)
    go (no i) (yes j) = absurd (fields-whole _ text at (sym (read_whole text at limit j (omega arith)) ∙ e))
    go i (no j) = let q = read_past text at limit (omega arith) in let z : ◌≡◌ {A = ℕ} 0 1 = cc in absurd (omega arith)

-- a reader that does not meet the limit finds what a reader without a limit finds
pub limit-same : (text : List ℕ) (at limit : ℕ) → (read_at text at limit ≡ past-limit → ⊥) → read_at text at limit ≡ read_at text at (length text)
limit-same text at limit h = go (dec_lt limit (length text)) (dec_lt at (length text))
  where
    p : List ℕ
    p = take limit text

    cut : limit < length text → at < length text → Dec (at ≤ length p) → read_at text at limit ≡ record_in text false at
    cut i j (yes l) =
        let q = read-cut text at limit j i in
        let m = fields-enough (suc (length p)) (suc (length text)) p true at l (omega arith) (omega (arith, length-take limit text)) in
        let r = fields-more (suc (length text)) p (drop limit text) false at (λ e. h (q ∙ m ∙ e)) in
        q ∙ m ∙ sym (rw (take-append-drop limit text) at r)
    cut i j (no l) = absurd (h (read-cut text at limit j i ∙ fields-past (length p) p at (omega arith)))

    go : Dec (limit < length text) → Dec (at < length text) → read_at text at limit ≡ read_at text at (length text)
    go (yes i) (yes j) = cut i j (dec_le at (length p)) ∙ sym (read_whole text at (length text) j (omega arith))
    go (no i) (yes j) = read_whole text at limit j (omega arith) ∙ sym (read_whole text at (length text) j (omega arith))
    go i (no j) = read_past text at limit (omega arith) ∙ sym (read_past text at (length text) (omega arith))

-- a bound larger than the bytes' number reads the record of p with u behind it
read_more : (k : ℕ) (p u : List ℕ) (at : ℕ) → at ≤ length p → 0 < length u → length p + length u < k →
    read_at (p ++ u) at (length (p ++ u)) ≡ fields_from k (p ++ u) false at
read_more k p u at h i j =
    let n = length-append p u in
    read_whole (p ++ u) at (length (p ++ u)) (omega arith) (omega arith) ∙
    fields-enough (suc (length (p ++ u))) k (p ++ u) false at (omega arith) (omega arith) (omega arith)

-- Where a reader meets the limit, the bytes before the limit decide nothing: some texts that go on from them have a record there, and
-- others a malformed one.
pub limit-undecided : (text : List ℕ) (at limit : ℕ) → at ≤ limit → read_at text at limit ≡ past-limit →
    ((more : List ℕ) × (spans : List Span) × (end : ℕ) × (next : ℕ) × (read_at (take limit text ++ more) at (length (take limit text ++ more)) ≡ found spans end next))
    × ((more : List ℕ) × (read_at (take limit text ++ more) at (length (take limit text ++ more)) ≡ malformed))
limit-undecided text at limit h e = go (fields-cut k p at i (fields-enough k _ p true at i (omega arith) (omega arith) ∙ m))
  where
    p : List ℕ
    p = take limit text

    k : ℕ
    k = suc (length p + 3)

    c : (limit < length text) × (at < length text)
    c = limit-cut text at limit e

    i : at ≤ length p
    i = omega (arith, c, length-take limit text)

    m : record_in p true at ≡ past-limit
    m = sym (read-cut text at limit c.1 c.0) ∙ e

    go : Undecided k p at →
        ((more : List ℕ) × (spans : List Span) × (end : ℕ) × (next : ℕ) × (read_at (p ++ more) at (length (p ++ more)) ≡ found spans end next))
        × ((more : List ℕ) × (read_at (p ++ more) at (length (p ++ more)) ≡ malformed))
    go r =
        let l = r.0.1 in (
          (r.0.0, r.0.2, r.0.3, r.0.4, read_more k p r.0.0 at i (omega arith) (omega arith) ∙ r.0.5),
          (0 ∷ [], read_more k p (0 ∷ []) at i (omega arith) (omega arith) ∙ r.1),
        )

-- ---- Record after record

-- the records from a finding on depend on `rest` only at the place of the next record
found-same : (text : List ℕ) (r : Finding) (f g : ℕ → Records) → ((spans : List Span) (end next : ℕ) → r ≡ found spans end next → f next ≡ g next) →
    on_found text r f ≡ on_found text r g
unfolding on_found
found-same text nothing f g h = refl
found-same text malformed f g h = refl
found-same text past-limit f g h = refl
found-same text (found spans end next) f g h = rw (h spans end next refl)

-- a bound larger than the bytes' number changes no records
pub records-enough : (k m : ℕ) (text : List ℕ) (limit at : ℕ) → length text < at + k → length text < at + m →
    records_from k text limit at ≡ records_from m text limit at
unfolding records_from on_found
records-enough zero zero text limit at h g = refl
records-enough zero (suc m) text limit at h g = rw (read_past text at limit (omega arith))
records-enough (suc k) zero text limit at h g = rw (read_past text at limit (omega arith))
records-enough (suc k) (suc m) text limit at h g = found-same text (read_at text at limit) _ _
    (λ spans end next e. let p = found-places text at limit spans end next e in records-enough k m text limit next (omega arith) (omega arith))

-- the records from a place on are the record there and those after it
pub records-next : (text : List ℕ) (limit at : ℕ) →
    records_from (suc (length text)) text limit at ≡ on_found text (read_at text at limit) (λ p. records_from (suc (length text)) text limit p)
unfolding records_from
records-next text limit at = found-same text (read_at text at limit) _ _
    (λ spans end next e. let p = found-places text at limit spans end next e in
    records-enough (length text) (suc (length text)) text limit next (omega arith) (omega arith))

-- where a reader begins, and up to where it may look
pub ruleset places_read = (read_past, read-cut, read_whole)
