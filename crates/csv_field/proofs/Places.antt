-- Where a field ends: within the text, and after its start.
use Rattle.std.proofs.Common.{ℕ, suc, zero, ◌+◌, ◌-◌, ◌≤◌, ◌<◌, arith, ◌≡◌, refl, ap, subst, ◌∙◌, Bool, true, false, cond, List, [], ◌∷◌, ◌++◌, append-nil, ◌⊎◌, inl, inr, length, drop, length-drop, eqb-true}
use native.Mathlib.Decide.{dec_le}
use lib.ListN.{get_or, get_or-eq_default}
use lib.Seq.{drop-append-le}
use lib.Dec.{eqb}
use Rattle.csv_field.specs.FieldGrammar.{COMMA, DQUOTE, CR, LF}
use Rattle.csv_field.specs.FieldReading.{is_text, is_quoted, text_length, quotes, after_quote, after_cr, stop_of, scanned_field, no_span, bare_at, quoted_to, field_at}
use Rattle.csv_field.specs.declared.Span.{Span}
use Rattle.csv_field.specs.declared.ScannedField.{ScannedField}
use Rattle.csv_field.specs.declared.Quotes.{Quotes}
use Rattle.csv_field.specs.declared.Quotes.TheVariants.{Unclosed, Broken, Closed}
use Rattle.csv_field.specs.declared.Stop.{Stop}
use Rattle.csv_field.specs.declared.Stop.TheVariants.{Comma, LineEnd, TextEnd, Bad, Cut}

-- What stands where a field ends, by what the reader takes it for. No more bytes mend what is malformed there, but for a CR at the end of
-- a text that is not cut.
pub data Stops : Bool → List ℕ → Stop → Type 0 where
  comma : {cut : Bool} {t : List ℕ} → Stops cut (COMMA ∷ t) Comma
  line : {cut : Bool} {t : List ℕ} → Stops cut (CR ∷ (LF ∷ t)) LineEnd
  text-end : Stops false [] TextEnd
  lone : Stops false (CR ∷ []) Bad
  cut_end : Stops true [] Cut
  cut_cr : Stops true (CR ∷ []) Cut
  bad : {cut : Bool} (t : List ℕ) → ((u : List ℕ) (c : Bool) → stop_of c (t ++ u) ≡ Bad) → Stops cut t Bad

-- what after_cr answers, by the bytes behind the CR
stops-cr : (cut : Bool) (t : List ℕ) → Stops cut (CR ∷ t) (after_cr cut t)
unfolding after_cr stop_of
stops-cr true [] = cut_cr
stops-cr false [] = lone
stops-cr cut (b ∷ t) = go (eqb b LF) refl
  where
    go : (x : Bool) → eqb b LF ≡ x → Stops cut (CR ∷ (b ∷ t)) (cond x LineEnd Bad)
    go true e = rw (eqb-true b LF e) line
    go false e = bad (CR ∷ (b ∷ t)) (λ u c. rw e)

-- what stop_of answers, by the bytes
pub stops : (cut : Bool) (t : List ℕ) → Stops cut t (stop_of cut t)
unfolding stop_of
stops true [] = cut_end
stops false [] = text-end
stops cut (b ∷ t) = go (eqb b COMMA) (eqb b CR) refl refl
  where
    go : (x y : Bool) → eqb b COMMA ≡ x → eqb b CR ≡ y → Stops cut (b ∷ t) (cond x Comma (cond y (after_cr cut t) Bad))
    go true y e f = rw (eqb-true b COMMA e) comma
    go false true e f = rw (eqb-true b CR f) (stops-cr cut t)
    go false false e f = bad (b ∷ t) (λ u c. rw (e, f))

-- bytes that continue neither a field without quotes nor a field whose closing quote stands before them
abbrev pub Plain : List ℕ → Type 0
Plain u = (text_length u ≡ 0) × (eqb (get_or u 0 0) DQUOTE ≡ false)

-- more bytes, u, change text_length only where TEXTDATA reaches the end of w
run_more : (w u : List ℕ) → (length w ≤ text_length w → text_length u ≡ 0) → text_length (w ++ u) ≡ text_length w
unfolding text_length
run_more [] u h = h (omega arith)
run_more (b ∷ t) u h = go (is_text b) h (run_more t u)
  where
    go : (x : Bool) → (suc (length t) ≤ cond x (suc (text_length t)) 0 → text_length u ≡ 0) → ((length t ≤ text_length t → text_length u ≡ 0) → text_length (t ++ u) ≡ text_length t) →
        cond x (suc (text_length (t ++ u))) 0 ≡ cond x (suc (text_length t)) 0
    go true g more = ap suc (more (λ l. g (omega arith)))
    go false g more = refl

-- text_length counts no more bytes than there are
pub run_in : (w : List ℕ) → text_length w ≤ length w
unfolding text_length
run_in [] = omega arith
run_in (b ∷ t) = go (is_text b) (run_in t)
  where
    go : (x : Bool) → text_length t ≤ length t → cond x (suc (text_length t)) 0 ≤ suc (length t)
    go true h = omega arith
    go false h = omega arith

-- How more bytes, u, change what stands after an opening quote: the third argument without u, the last with u. u begins at place k.
abbrev Goes : List ℕ → ℕ → Quotes → Quotes → Type 0
Goes u k Unclosed q = (d : Bool) × (q ≡ quotes k d u)
Goes u k Broken q = q ≡ Broken
Goes u k (Closed m e) q = (m < k) × ((q ≡ Closed m e) ⊎ ((k ≡ suc m) × (q ≡ after_quote m e u)))

-- where more bytes change both of two so, more bytes change the one that a test picks so
goes_cond : (u : List ℕ) (k : ℕ) (x : Bool) (r q r' q' : Quotes) → Goes u k r q → Goes u k r' q' → Goes u k (cond x r r') (cond x q q')
goes_cond u k true r q r' q' g h = g
goes_cond u k false r q r' q' g h = h

-- more bytes change what stands after an opening quote, and after a quote within, as Goes says
mutual
  unfolding quotes after_quote

  quotes-more : (w u : List ℕ) (n : ℕ) (d : Bool) (k : ℕ) → k ≡ n + length w → Goes u k (quotes n d w) (quotes n d (w ++ u))
  quotes-more [] u n d k h = let e : n ≡ k = omega arith in (d, rw e)
  quotes-more (b ∷ t) u n d k h =
      goes_cond u k (eqb b DQUOTE) (after_quote n d t) (after_quote n d (t ++ u)) _ _ (after_more t u n d k (omega arith))
      (goes_cond u k (is_quoted b) (quotes (suc n) d t) (quotes (suc n) d (t ++ u)) Broken Broken (quotes-more t u (suc n) d k (omega arith)) refl)

  after_more : (w u : List ℕ) (n : ℕ) (d : Bool) (k : ℕ) → k ≡ suc n + length w → Goes u k (after_quote n d w) (after_quote n d (w ++ u))
  after_more [] u n d k h = (omega arith, inr (omega arith, refl))
  after_more (b ∷ t) u n d k h =
      goes_cond u k (eqb b DQUOTE) (quotes (suc (suc n)) true t) (quotes (suc (suc n)) true (t ++ u)) (Closed n d) (Closed n d)
      (quotes-more t u (suc (suc n)) true k (omega arith)) (omega arith, inl refl)

-- a closing quote stands within the bytes
pub closed_in : (w : List ℕ) (n : ℕ) (d : Bool) → quotes 0 false w ≡ Closed n d → n < length w
closed_in w n d e = let g = subst (λ q. Goes [] (length w) q (quotes 0 false (w ++ []))) e (quotes-more w [] 0 false (length w) (omega arith)) in g.0

-- more bytes, u, put a quote only at the end of p
quote_more : (p u : List ℕ) (at : ℕ) → at ≤ length p → (length p ≤ at → eqb (get_or u 0 0) DQUOTE ≡ false) →
    eqb (get_or (p ++ u) at 0) DQUOTE ≡ eqb (get_or p at 0) DQUOTE
quote_more [] u zero h g = g (omega arith)
quote_more [] u (suc at) h g = absurd (omega arith)
quote_more (b ∷ p) u zero h g = refl
quote_more (b ∷ p) u (suc at) h g = quote_more p u at (omega arith) (λ l. g (omega arith))

-- a quote stands within the text
pub quote_in : (p : List ℕ) (at : ℕ) → eqb (get_or p at 0) DQUOTE ≡ true → at < length p
quote_in [] at e = let z : ◌≡◌ {A = ℕ} 0 1 = cc in absurd (omega arith)
quote_in (b ∷ p) zero e = omega arith
quote_in (b ∷ p) (suc at) e = let h : at < length p = quote_in p at e in omega arith

-- a closing quote before a byte that is no quote stays the closing quote
plain-after : (m : ℕ) (d : Bool) (u : List ℕ) → Plain u → after_quote m d u ≡ Closed m d
unfolding quotes after_quote
plain-after m d [] h = refl
plain-after m d (b ∷ t) h = rw h.1

-- A field of p, and what more bytes make of the field: the field ends at a place, and stays as it is unless the end of p ends the field;
-- the field is broken; or the closing quote is not in p.
pub data View (p : List ℕ) (at : ℕ) : Type 0 where
  ends : (span : Span) (end : ℕ) → at ≤ end → end ≤ length p →
      ((u : List ℕ) (c : Bool) → (length p ≤ end → Plain u) → field_at (p ++ u) c at ≡ scanned_field (p ++ u) c span end) → View p at
  broken : ((u : List ℕ) (c : Bool) → field_at (p ++ u) c at ≡ record { span = no_span; end = 0; stop = Bad }) → View p at
  unclosed : at < length p →
      ((u : List ℕ) (c : Bool) → (d : Bool) × (field_at (p ++ u) c at ≡ quoted_to (p ++ u) c (at + 1) (quotes (length p - (at + 1)) d u))) → View p at

-- more bytes, u, change text_length from a place of p on only where TEXTDATA reaches the end of p
run_at_lem : (p u : List ℕ) (at : ℕ) → at ≤ length p → (length p ≤ at + text_length (drop at p) → text_length u ≡ 0) → text_length (drop at (p ++ u)) ≡ text_length (drop at p)
run_at_lem p u at h g = rw (drop-append-le at p u h) (run_more (drop at p) u (λ l. g (omega (arith, length-drop at p))))

-- a field without quotes ends where the TEXTDATA ends
view-bare : (p : List ℕ) (at : ℕ) → at ≤ length p → eqb (get_or p at 0) DQUOTE ≡ false → View p at
unfolding field_at
view-bare p at h e =
    ends (record { start = at; len = text_length (drop at p); doubled = false }) (at + text_length (drop at p)) (omega arith)
    (omega (arith, run_in (drop at p), length-drop at p))
    (λ u c g. rw (quote_more p u at h (λ l. (g (omega arith)).1), e, run_at_lem p u at h (λ l. (g l).0)))

-- a field in quotes, by what stands after the opening quote
view-quoted : (p : List ℕ) (at : ℕ) → at < length p → eqb (get_or p at 0) DQUOTE ≡ true → View p at
unfolding field_at quoted_to
view-quoted p at h e = go (quotes 0 false w) (λ u. quotes-more w u 0 false (length p - (at + 1)) (omega (arith, length-drop (at + 1) p)))
  where
    w : List ℕ
    w = drop (at + 1) p

    is : (u : List ℕ) (c : Bool) → field_at (p ++ u) c at ≡ quoted_to (p ++ u) c (at + 1) (quotes 0 false (w ++ u))
    is u c = rw (quote_more p u at (omega arith) (λ l. absurd (omega arith)), e, drop-append-le (at + 1) p u (omega arith))

    go : (r : Quotes) → ((u : List ℕ) → Goes u (length p - (at + 1)) r (quotes 0 false (w ++ u))) → View p at
    go Unclosed g = unclosed h (λ u c. ((g u).0, is u c ∙ ap (quoted_to (p ++ u) c (at + 1)) (g u).1))
    go Broken g = broken (λ u c. is u c ∙ ap (quoted_to (p ++ u) c (at + 1)) (g u))
    go (Closed m d) g =
        ends (record { start = at + 1; len = m; doubled = d }) (at + 1 + m + 1) (omega arith) (let l = (g []).0 in omega arith)
        (λ u c f. is u c ∙ ap (quoted_to (p ++ u) c (at + 1)) (shut u f (g u).1))
      where
        shut : (u : List ℕ) → (length p ≤ at + 1 + m + 1 → Plain u) →
            (quotes 0 false (w ++ u) ≡ Closed m d) ⊎ ((length p - (at + 1) ≡ suc m) × (quotes 0 false (w ++ u) ≡ after_quote m d u)) →
            quotes 0 false (w ++ u) ≡ Closed m d
        shut u f (inl q) = q
        shut u f (inr q) = q.1 ∙ plain-after m d u (f (let l = q.0 in omega arith))

-- every field of a text has a View
pub view : (p : List ℕ) (at : ℕ) → at ≤ length p → View p at
view p at h = go (eqb (get_or p at 0) DQUOTE) refl
  where
    go : (x : Bool) → eqb (get_or p at 0) DQUOTE ≡ x → View p at
    go true e = view-quoted p at (quote_in p at e) e
    go false e = view-bare p at h e

-- past the end of the text stands an empty field
pub past_end : (s : List ℕ) (cut : Bool) (at : ℕ) → length s ≤ at → field_at s cut at ≡ bare_at s cut at
unfolding field_at
past_end s cut at h = rw (get_or-eq_default s 0 h)

-- The answers that tell where a field ends. A malformed field has no end, nor has a field in which a cut text ends.
abbrev On : Bool → Stop → Type 0
On cut Comma = Unit {0}
On cut LineEnd = Unit {0}
On cut TextEnd = Unit {0}
On cut Bad = ⊥
On true Cut = ⊥
On false Cut = Unit {0}

-- a field with such an answer ends after its start, within the text, before what follows the field
place : (s : List ℕ) (cut : Bool) (at : ℕ) (x : Stop) → On cut x → (field_at s cut at).stop ≡ x →
    (at ≤ (field_at s cut at).end) × (at ≤ length s → (field_at s cut at).end ≤ length s) × Stops cut (drop (field_at s cut at).end s) x
unfolding quoted_to quotes text_length
place s cut at x on e = go (dec_le at (length s))
  where
    Placed : ScannedField → Type 0
    Placed c = (at ≤ c.end) × (at ≤ length s → c.end ≤ length s) × Stops cut (drop c.end s) x

    by : (span : Span) (end : ℕ) → at ≤ end → (at ≤ length s → end ≤ length s) → field_at s cut at ≡ scanned_field s cut span end → Placed (field_at s cut at)
    by span end i j q = rw q (i, j, rw (rw q at e) at (stops cut (drop end s)))

    quits : (c : Bool) → On c x → cond c Cut Bad ≡ x → ⊥
    quits true o q = rw (← q) at o
    quits false o q = rw (← q) at o

    viewed : View s at → Placed (field_at s cut at)
    viewed (ends span end i j f) = by span end i (λ l. j) (rw append-nil at (f [] cut (λ l. (refl, refl))))
    viewed (broken f) = let q : Bad ≡ x = rw (rw append-nil at (f [] cut)) at e in absurd (rw (← q) at on)
    viewed (unclosed l f) = absurd (quits cut on (rw (rw append-nil at (f [] cut).1) at e))

    go : Dec (at ≤ length s) → Placed (field_at s cut at)
    go (yes h) = viewed (view s at h)
    go (no h) = by _ (at + text_length (drop at s)) (omega arith) (λ l. absurd (h l)) (past_end s cut at (omega arith))

-- a comma takes a byte
comma-in : {cut : Bool} {t : List ℕ} → Stops cut t Comma → 0 < length t
comma-in comma = omega arith

-- CR LF takes two bytes
line-in : {cut : Bool} {t : List ℕ} → Stops cut t LineEnd → 2 ≤ length t
line-in line = omega arith

-- the end of the text takes no byte, and no text is cut there
text_in : {cut : Bool} {t : List ℕ} → Stops cut t TextEnd → (length t ≡ 0) × (cut ≡ false)
text_in text-end = (refl, refl)

-- nothing is cut off in a text that is not cut
whole_in : {t : List ℕ} → Stops false t Cut → ⊥
whole_in d = elim d [ ]

-- a field that a comma follows ends before the text does
pub comma-place : (s : List ℕ) (cut : Bool) (at : ℕ) → (field_at s cut at).stop ≡ Comma →
    (at ≤ (field_at s cut at).end) × ((field_at s cut at).end < length s)
comma-place s cut at e =
    let p = place s cut at Comma tt e in
    (p.0, omega (arith, comma-in p.2, length-drop (field_at s cut at).end s))

-- a field that CR LF follows ends two bytes before the text does, or earlier
pub line-place : (s : List ℕ) (cut : Bool) (at : ℕ) → (field_at s cut at).stop ≡ LineEnd →
    (at ≤ (field_at s cut at).end) × ((field_at s cut at).end + 2 ≤ length s)
line-place s cut at e =
    let p = place s cut at LineEnd tt e in
    (p.0, omega (arith, line-in p.2, length-drop (field_at s cut at).end s))

-- a field that the end of the text follows ends there, and no text was cut
pub text-place : (s : List ℕ) (cut : Bool) (at : ℕ) → at ≤ length s → (field_at s cut at).stop ≡ TextEnd →
    (at ≤ (field_at s cut at).end) × ((field_at s cut at).end ≡ length s) × (cut ≡ false)
text-place s cut at h e =
    let p = place s cut at TextEnd tt e in
    let q = text_in p.2 in
    (p.0, omega (arith, p.1 h, length-drop (field_at s cut at).end s), q.1)

-- in a text that is not cut, no field is cut off
pub whole-place : (s : List ℕ) (at : ℕ) → (field_at s false at).stop ≡ Cut → ⊥
whole-place s at e = whole_in (place s false at Cut tt e).2

-- a field's span ends within the bytes
pub span_in : (s : List ℕ) (cut : Bool) (at : ℕ) → at ≤ length s → (field_at s cut at).span.start + (field_at s cut at).span.len ≤ length s
unfolding field_at quoted_to
span_in s cut at h = go (eqb (get_or s at 0) DQUOTE) refl
  where
    w : List ℕ
    w = drop (at + 1) s

    shut : (q : Quotes) → quotes 0 false w ≡ q → at < length s → (quoted_to s cut (at + 1) q).span.start + (quoted_to s cut (at + 1) q).span.len ≤ length s
    shut Unclosed e l = omega arith
    shut Broken e l = omega arith
    shut (Closed n d) e l = omega (arith, closed_in w n d e, length-drop (at + 1) s)

    go : (x : Bool) → eqb (get_or s at 0) DQUOTE ≡ x →
        (cond x (quoted_to s cut (at + 1) (quotes 0 false w)) (bare_at s cut at)).span.start
        + (cond x (quoted_to s cut (at + 1) (quotes 0 false w)) (bare_at s cut at)).span.len ≤ length s
    go true e = shut (quotes 0 false w) refl (quote_in s at e)
    go false e = omega (arith, run_in (drop at s), length-drop at s)
