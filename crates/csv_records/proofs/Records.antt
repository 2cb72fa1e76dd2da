-- The reader finds a record exactly where the grammar derives one before CR LF or the end of the text, and with the same fields.
use Rattle.std.proofs.Common.{ℕ, suc, zero, ◌+◌, ◌<◌, arith, ◌≡◌, refl, sym, ap, ◌∙◌, Bool, false, List, [], ◌∷◌, ◌++◌, map, append_assoc, length, drop, length-append}
use Rattle.csv_field.specs.FieldGrammar.{COMMA, CRLF, Field}
use Rattle.csv_records.specs.Grammar.{Record}
use Rattle.csv_field.specs.FieldReading.{after_cr, stop_of, field_at}
use Rattle.csv_content.specs.Content.{content_of}
use Rattle.csv_records.specs.Reading.{Finding, nothing, malformed, past-limit, found, prepend, on_stop, fields_from}
use Rattle.csv_field.specs.declared.Span.{Span}
use Rattle.csv_field.specs.declared.ScannedField.{ScannedField}
use Rattle.csv_field.specs.declared.Stop.{Stop}
use Rattle.csv_field.specs.declared.Stop.TheVariants.{Comma, LineEnd, TextEnd, Bad, Cut}
use Rattle.csv_field.proofs.Runs.{Ends}
use Rattle.csv_field.proofs.Places.{whole-place}
use Rattle.csv_content.proofs.Fields.{behind, Fair, Taken, field-taken, Follow, follow, Stands, field-stands}
use Rattle.csv_records.proofs.Places.{prepend-found}

-- what stands after a record
pub data Halt (cut : Bool) : List ℕ → Type 0 where
  line : {rest : List ℕ} → Halt cut (CRLF rest)
  whole : cut ≡ false → Halt cut []

-- the place of the next record, from a record's end
abbrev pub after : {cut : Bool} {u : List ℕ} → Halt cut u → ℕ → ℕ
after line end = end + 2
after (whole e) end = end

-- what stands after a record may stand after a field
halt-ends : {cut : Bool} {u : List ℕ} → Halt cut u → Ends u
halt-ends line = Ends.cr
halt-ends (whole e) = Ends.nil

-- the reader ends a record there
halts : {cut : Bool} {u : List ℕ} (h : Halt cut u) (span : Span) (end : ℕ) (rest : ℕ → Finding) →
    on_stop (stop_of cut u) span end rest ≡ found (span ∷ []) end (after h end)
unfolding stop_of after_cr on_stop
halts line span end rest = refl
halts (whole e) span end rest = rw e

-- The finding is a record with these contents of its fields. The text goes on with v past the bytes that the reader may look at.
abbrev pub Finds : List ℕ → List ℕ → Finding → ℕ → ℕ → List (List ℕ) → Type 0
Finds s v f end next cs = (spans : List Span) × (f ≡ found spans end next) × (map (content_of (s ++ v)) spans ≡ cs)

module _ (s v : List ℕ) (cut : Bool) where
  -- a field and a comma in front of a record that the reader finds
  one_more_lem : {w c u : List ℕ} {cs : List (List ℕ)} {end next : ℕ} (k at : ℕ) → Taken s v cut at w c (COMMA ∷ u) →
      Finds s v (fields_from k s cut (at + length w + 1)) end next cs → Finds s v (fields_from (suc k) s cut at) end next (c ∷ cs)
  unfolding fields_from stop_of on_stop prepend
  one_more_lem k at t r = ((field_at s cut at).span ∷ r.0, rw (t.stop, t.end, r.1), λ i. t.content i ∷ r.2 i)

  -- the reader finds a record of the grammar before what stands after a record
  pub record_found : {w u : List ℕ} {cs : List (List ℕ)} → Record w cs → (k at : ℕ) → drop at s ≡ w ++ u → (h : Halt cut u) → length w < k →
      Finds s v (fields_from k s cut at) (at + length w) (after h (at + length w)) cs
  unfolding fields_from
  record_found r zero at split h fuel = absurd (omega arith)
  record_found (Record.one d) (suc k) at split h fuel =
      let t : Taken s v cut at _ _ _ = field-taken v d split (halt-ends h) in
      ((field_at s cut at).span ∷ [], rw (t.stop, t.end) (halts h _ _ _), ap (λ (c : List ℕ). c ∷ []) t.content)
  record_found {u = u'} (Record.more {t} {u} d r) (suc k) at split h fuel =
      let seam : drop at s ≡ t ++ (COMMA ∷ (u ++ u')) = split ∙ append_assoc t (COMMA ∷ u) u' in
      let next : drop (at + length t + 1) s ≡ u ++ u' = behind (COMMA ∷ []) (u ++ u') s (at + length t) (behind t _ s at seam) in
      let size : length (t ++ (COMMA ∷ u)) ≡ length t + suc (length u) = length-append t (COMMA ∷ u) in
      let m : at + length t + 1 + length u ≡ at + length (t ++ (COMMA ∷ u)) = omega arith in
      rw m at (one_more_lem k at (field-taken v d seam Ends.comma) (record_found r k (at + length t + 1) next h (omega arith)))

-- a record of the grammar from a place on, before what stands after a record
pub record Derived (s : List ℕ) (cut : Bool) (at : ℕ) : Type 0 where
  pub own : List ℕ
  pub fields : List (List ℕ)
  pub rest : List ℕ
  pub split : drop at s ≡ own ++ rest
  pub derives : Record own fields
  pub halt : Halt cut rest

module _ (s : List ℕ) (cut : Bool) where
  -- a field before what stands after a record is a record
  last : {w c u : List ℕ} (at : ℕ) → drop at s ≡ w ++ u → Field w c → Halt cut u → Derived s cut at
  last {w} {c} {u} at h d e = record { own = w; fields = c ∷ []; rest = u; split = h; derives = Record.one d; halt = e }

  -- a field, a comma and a record are a record
  more : {w c u : List ℕ} (at : ℕ) → drop at s ≡ w ++ u → Field w c → Follow cut u Comma → Derived s cut (at + length w + 1) → Derived s cut at
  more {w} {c} at h d (Follow.comma {u}) x =
      record {
        own = w ++ (COMMA ∷ x.own);
        fields = c ∷ x.fields;
        rest = x.rest;
        split = h ∙ ap (λ (l : List ℕ). w ++ (COMMA ∷ l)) (sym seam ∙ x.split) ∙ sym (append_assoc w (COMMA ∷ x.own) x.rest);
        derives = Record.more d x.derives;
        halt = x.halt;
      }
    where
      seam : drop (at + length w + 1) s ≡ u
      seam = behind (COMMA ∷ []) u s (at + length w) (behind w (COMMA ∷ u) s at h)

  -- the grammar derives every record that the reader finds
  pub found-derived : (k at : ℕ) (spans : List Span) (end next : ℕ) → fields_from k s cut at ≡ found spans end next → Derived s cut at
  unfolding fields_from on_stop
  found-derived zero at spans end next e = let z : ◌≡◌ {A = ℕ} 0 1 = cc in absurd (omega arith)
  found-derived (suc k) at spans end next e = go (field_at s cut at).stop refl e (λ p l r. found-derived k p l end next r)
    where
      stands : (stop : Stop) → Fair stop → (field_at s cut at).stop ≡ stop → (x : Stands s [] cut at) × (Follow cut x.rest stop)
      stands stop f q =
          let x = field-stands s [] cut at (rw q f) in
          (x, rw (sym x.as_read.stop ∙ q) at (follow cut x.rest))

      final : {u : List ℕ} → Follow cut u LineEnd → Halt cut u
      final Follow.line = line

      entire : {u : List ℕ} → Follow cut u TextEnd → Halt cut u
      entire (Follow.whole e) = whole e

      go : (stop : Stop) → (field_at s cut at).stop ≡ stop →
          on_stop stop (field_at s cut at).span (field_at s cut at).end (λ p. fields_from k s cut p) ≡ found spans end next →
          ((p : ℕ) (l : List Span) → fields_from k s cut p ≡ found l end next → Derived s cut p) → Derived s cut at
      go Comma q e f =
          let x = stands Comma tt q in
          let r = prepend-found _ _ spans end next e in
          more at x.0.split x.0.field x.1 (rw x.0.as_read.end at (f ((field_at s cut at).end + 1) r.0 r.1))
      go LineEnd q e f = let x = stands LineEnd tt q in last at x.0.split x.0.field (final x.1)
      go TextEnd q e f = let x = stands TextEnd tt q in last at x.0.split x.0.field (entire x.1)
      go Bad q e f = let z : ◌≡◌ {A = ℕ} 0 1 = cc in absurd (omega arith)
      go Cut q e f = let z : ◌≡◌ {A = ℕ} 0 1 = cc in absurd (omega arith)

-- a finding where the reader may look at the whole text
abbrev pub Settled : Finding → Type 0
Settled nothing = ⊥
Settled malformed = Unit {0}
Settled past-limit = ⊥
Settled (found spans end next) = Unit {0}

-- a settled finding with one more field in front is settled
settled-prepend : (span : Span) (f : Finding) → Settled f → Settled (prepend span f)
unfolding prepend
settled-prepend span nothing h = h
settled-prepend span malformed h = h
settled-prepend span past-limit h = h
settled-prepend span (found spans end next) h = h

-- in a text that is not cut, no record meets the limit
pub settled : (s : List ℕ) (k at : ℕ) → Settled (fields_from k s false at)
unfolding fields_from on_stop
settled s zero at = tt
settled s (suc k) at = go (field_at s false at).stop refl (settled s k ((field_at s false at).end + 1))
  where
    c : ScannedField
    c = field_at s false at

    go : (stop : Stop) → c.stop ≡ stop → Settled (fields_from k s false (c.end + 1)) →
        Settled (on_stop stop c.span c.end (λ p. fields_from k s false p))
    go Comma e r = settled-prepend c.span _ r
    go LineEnd e r = tt
    go TextEnd e r = tt
    go Bad e r = tt
    go Cut e r = absurd (whole-place s at e)
