-- What more bytes behind a text change in a field.
use Rattle.std.proofs.Common.{ℕ, ◌+◌, ◌-◌, ◌≤◌, arith, ◌≡◌, refl, sym, ◌∙◌, Bool, true, false, List, [], ◌∷◌, ◌++◌, append-nil, length, drop, drop_of_length-le}
use native.Mathlib.Decide.{dec_le}
use lib.Seq.{drop-append-le, drop-append-add}
use Rattle.csv_field.specs.FieldGrammar.{DQUOTE, CR, LF}
use Rattle.csv_field.specs.FieldReading.{is_text, is_quoted, text_length, quotes, after_cr, stop_of, scanned_field, quoted_to, field_at}
use Rattle.csv_field.specs.declared.Stop.{Stop}
use Rattle.csv_field.specs.declared.Stop.TheVariants.{LineEnd, Bad, Cut}
use Rattle.csv_field.proofs.Places.{Stops, comma, line, cut_end, cut_cr, bad, stops, Plain, View, ends, broken, unclosed, view, past_end}

-- what follows a field stays what it is whatever bytes come after, unless the limit cut it off
stop-more : {t : List ℕ} {x : Stop} → Stops true t x → (x ≡ Cut → ⊥) → (u : List ℕ) (c : Bool) → stop_of c (t ++ u) ≡ x
unfolding stop_of after_cr
stop-more comma h u c = refl
stop-more line h u c = refl
stop-more cut_end h u c = absurd (h refl)
stop-more cut_cr h u c = absurd (h refl)
stop-more (bad t f) h u c = f u c

-- Where the limit cuts off what follows a field, some bytes behind the text end the record, and others make it malformed.
stop-cut : {t : List ℕ} → Stops true t Cut →
    ((u : List ℕ) × (length u ≡ 3) × Plain u × (stop_of false (t ++ u) ≡ LineEnd)) × (stop_of false (t ++ (0 ∷ [])) ≡ Bad)
unfolding stop_of after_cr text_length is_text
stop-cut cut_end = ((CR ∷ (LF ∷ (0 ∷ [])), refl, (refl, refl), refl), refl)
stop-cut cut_cr = ((LF ∷ (0 ∷ (0 ∷ [])), refl, (refl, refl), refl), refl)

-- a field that is not cut off stays what it is, whatever bytes come after
pub field-more : (p u : List ℕ) (c : Bool) (at : ℕ) → ((field_at p true at).stop ≡ Cut → ⊥) → field_at (p ++ u) c at ≡ field_at p true at
unfolding stop_of quotes quoted_to text_length
field-more p u c at h = go (dec_le at (length p))
  where
    none : (n : ℕ) → length p ≤ n → stop_of true (drop n p) ≡ Cut
    none n l = rw (drop_of_length-le p l)

    viewed : View p at → field_at (p ++ u) c at ≡ field_at p true at
    viewed (ends span end i j f) =
        let q : field_at p true at ≡ scanned_field p true span end = rw append-nil at (f [] true (λ l. (refl, refl))) in
        let d : stop_of c (drop end p ++ u) ≡ stop_of true (drop end p) = stop-more (stops true (drop end p)) (λ e. h (rw q e)) u c in
        f u c (λ l. absurd (h (rw q (none end l)))) ∙ rw (q, drop-append-le end p u j, d)
    viewed (broken f) = f u c ∙ sym (rw append-nil at (f [] true))
    viewed (unclosed l f) = absurd (h (rw (rw append-nil at (f [] true).1)))

    go : Dec (at ≤ length p) → field_at (p ++ u) c at ≡ field_at p true at
    go (yes l) = viewed (view p at l)
    go (no l) = absurd (h (rw (past_end p true at (omega arith)) (none (at + text_length (drop at p)) (omega arith))))

-- Where the limit cuts off a field, some bytes behind the text end the record, and others make it malformed.
pub field_cut : (p : List ℕ) (at : ℕ) → at ≤ length p → (field_at p true at).stop ≡ Cut →
    ((u : List ℕ) × (length u ≡ 3) × ((field_at (p ++ u) false at).stop ≡ LineEnd)) × ((field_at (p ++ (0 ∷ [])) false at).stop ≡ Bad)
unfolding stop_of after_cr quotes quoted_to text_length is_text is_quoted
field_cut p at h e = go (view p at h)
  where
    go : View p at →
        ((u : List ℕ) × (length u ≡ 3) × ((field_at (p ++ u) false at).stop ≡ LineEnd)) × ((field_at (p ++ (0 ∷ [])) false at).stop ≡ Bad)
    go (ends span end i j f) =
        let q : field_at p true at ≡ scanned_field p true span end = rw append-nil at (f [] true (λ l. (refl, refl))) in
        let r = stop-cut (rw (rw q at e) at (stops true (drop end p))) in (
          (r.0.0, r.0.1, rw (f r.0.0 false (λ l. r.0.2), drop-append-le end p r.0.0 j) r.0.3),
          rw (f (0 ∷ []) false (λ l. (refl, refl)), drop-append-le end p (0 ∷ []) j) r.1,
        )
    go (broken f) = let q : Bad ≡ Cut = rw (rw append-nil at (f [] true)) at e in let z : ◌≡◌ {A = ℕ} 0 1 = cc in absurd (omega arith)
    go (unclosed l f) =
        let n : at + 1 + (length p - (at + 1)) + 1 ≡ length p + 1 = omega arith in
        let u : List ℕ = DQUOTE ∷ (CR ∷ (LF ∷ [])) in
        ((u, refl, rw ((f u false).1, n, drop-append-add p u 1)), rw (f (0 ∷ []) false).1)
