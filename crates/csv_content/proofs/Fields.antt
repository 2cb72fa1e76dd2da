-- The reader finds a field exactly where the grammar derives one before a comma, a CR or the end of the text, and with the same content.
use Rattle.std.proofs.Common.{ℕ, suc, zero, ◌+◌, add-zero, add-one, arith, ◌≡◌, refl, sym, ap, ◌∙◌, Bool, true, false, cond, List, [], ◌∷◌, ◌++◌, append_assoc, length, take, drop, length-append, take-append-drop, drop-drop, get_or-drop, eqb-true}
use lib.ListN.{get_or}
use lib.Seq.{take-append_seam, drop-append_seam, append_snoc}
use lib.Dec.{eqb}
use Rattle.csv_field.specs.FieldGrammar.{COMMA, DQUOTE, CRLF, NonEscaped, Field, escaped, non_escaped}
use Rattle.csv_field.specs.FieldReading.{text_length, quotes, stop_of, scanned_field, bare_at, quoted_to, quoted_at, field_at}
use Rattle.csv_content.specs.Content.{content_of}
use Rattle.csv_field.specs.declared.Span.{Span}
use Rattle.csv_field.specs.declared.Quotes.{Quotes}
use Rattle.csv_field.specs.declared.Quotes.TheVariants.{Unclosed, Broken, Closed}
use Rattle.csv_field.specs.declared.Stop.{Stop}
use Rattle.csv_field.specs.declared.Stop.TheVariants.{Comma, LineEnd, TextEnd, Bad, Cut}
use Rattle.csv_field.proofs.Bytes.{text-unquote}
use Rattle.csv_field.proofs.Places.{Stops, stops}
use Rattle.csv_field.proofs.Runs.{Ends, run_text, text-run, Unquoted, closed-quoted, twice, quoted-closed}
use Rattle.csv_content.proofs.Undoubling.{quoted-content}

-- ---- Lists from a place on

-- the first byte from a place on
front : {t : List ℕ} (s : List ℕ) (at : ℕ) → drop at s ≡ t → get_or s at 0 ≡ get_or t 0 0
front s at h = rw (add-zero, h) at (sym (get_or-drop at s 0 0))

-- the bytes behind a part
pub behind : (w u s : List ℕ) (at : ℕ) → drop at s ≡ w ++ u → drop (at + length w) s ≡ u
behind w u s at h = sym (drop-drop (length w) at s) ∙ ap (drop (length w)) h ∙ drop-append_seam w u

-- a part of s is a part of s with more bytes, v, behind it
part : (w u s v : List ℕ) (at : ℕ) → drop at s ≡ w ++ u → take (length w) (drop at (s ++ v)) ≡ w
part w u s v zero h = rw (h, append_assoc) (take-append_seam w (u ++ v))
part [] u [] v (suc at) h = refl
part (b ∷ w) u [] v (suc at) h = let z : ◌≡◌ {A = ℕ} 0 1 = cc in absurd (omega arith)
part w u (b ∷ s) v (suc at) h = part w u s v at h

-- the bytes from a quote on are the quote and the bytes after it
quote_first : (s : List ℕ) (at : ℕ) → get_or s at 0 ≡ DQUOTE → drop at s ≡ DQUOTE ∷ drop (at + 1) s
quote_first s at h = rw add-one (go s at h)
  where
    go : (s : List ℕ) (at : ℕ) → get_or s at 0 ≡ DQUOTE → drop at s ≡ DQUOTE ∷ drop (suc at) s
    go [] at h = absurd (omega arith)
    go (b ∷ s) zero h = ap (λ (x : ℕ). x ∷ s) h
    go (b ∷ s) (suc at) h = go s at h

-- ---- The reader finds what the grammar derives

-- What the reader finds where a field w of content c stands before u. The text goes on with v past the bytes that the reader may look at.
pub record Taken (s v : List ℕ) (cut : Bool) (at : ℕ) (w c u : List ℕ) : Type 0 where
  pub content : content_of (s ++ v) (field_at s cut at).span ≡ c
  pub end : (field_at s cut at).end ≡ at + length w
  pub stop : (field_at s cut at).stop ≡ stop_of cut u

-- a field without quotes does not begin with one
bare : {w u : List ℕ} → NonEscaped w → Ends u → eqb (get_or (w ++ u) 0 0) DQUOTE ≡ false
bare NonEscaped.none Ends.nil = refl
bare NonEscaped.none Ends.comma = refl
bare NonEscaped.none Ends.cr = refl
bare (NonEscaped.text t n) e = text-unquote t

module _ {s : List ℕ} {cut : Bool} {at : ℕ} (v : List ℕ) where
  -- a field found with this span and end is Taken
  taken : {w c u : List ℕ} (span : Span) (end : ℕ) → field_at s cut at ≡ scanned_field s cut span end → end ≡ at + length w → drop at s ≡ w ++ u →
      content_of (s ++ v) span ≡ c → Taken s v cut at w c u
  taken {w} {c} {u} span end e p h q = record { content = rw e q; end = rw e p; stop = rw (e, p) (ap (stop_of cut) (behind w u s at h)) }

  -- the reader finds a field of the grammar before what may follow a field
  pub field-taken : {w c u : List ℕ} → Field w c → drop at s ≡ w ++ u → Ends u → Taken s v cut at w c u
  unfolding field_at quoted_to content_of
  field-taken (non_escaped {t} n) h e =
      taken (record { start = at; len = length t; doubled = false }) (at + length t)
      (rw (front s at h, bare n e, h, text-run n e))
      refl
      h
      (part t _ s v at h)
  field-taken {u} (escaped {t} {c} q) h e =
      taken (record { start = at + 1; len = length t; doubled = twice q false }) (at + 1 + length t + 1)
      (rw (front s at h, inner, quoted-closed q 0 false (length t) (omega arith) e))
      (omega (arith, length-append t (DQUOTE ∷ [])))
      h
      (rw (part t (DQUOTE ∷ u) s v (at + 1) inner) (quoted-content q))
    where
      inner : drop (at + 1) s ≡ t ++ (DQUOTE ∷ u)
      inner = behind (DQUOTE ∷ []) (t ++ (DQUOTE ∷ []) ++ u) s at h ∙ append_snoc t DQUOTE u

-- ---- The grammar derives what the reader finds

-- the answers after which a record goes on or ends
abbrev pub Fair : Stop → Type 0
Fair Comma = Unit {0}
Fair LineEnd = Unit {0}
Fair TextEnd = Unit {0}
Fair Bad = ⊥
Fair Cut = ⊥

-- the bytes for which the reader answers so
pub data Follow (cut : Bool) : List ℕ → Stop → Type 0 where
  comma : {u : List ℕ} → Follow cut (COMMA ∷ u) Comma
  line : {u : List ℕ} → Follow cut (CRLF u) LineEnd
  whole : cut ≡ false → Follow cut [] TextEnd
  bad : {u : List ℕ} → Follow cut u Bad
  past : {u : List ℕ} → cut ≡ true → Follow cut u Cut

-- the bytes are those for which stop_of answers so
pub follow : (cut : Bool) (u : List ℕ) → Follow cut u (stop_of cut u)
follow cut u = told (stops cut u)
  where
    told : {c : Bool} {t : List ℕ} {stop : Stop} → Stops c t stop → Follow c t stop
    told Stops.comma = comma
    told Stops.line = line
    told Stops.text-end = whole refl
    told Stops.lone = bad
    told Stops.cut_end = past refl
    told Stops.cut_cr = past refl
    told (Stops.bad t h) = bad

-- what stands behind a fair field may follow a field of the grammar
ends : {cut : Bool} {u : List ℕ} {stop : Stop} → Follow cut u stop → Fair stop → Ends u
ends comma f = Ends.comma
ends line f = Ends.cr
ends (whole e) f = Ends.nil
ends bad f = absurd f
ends (past e) f = absurd f

-- a field of the grammar from a place on, before what may follow a field, and as the reader finds it
pub record Stands (s v : List ℕ) (cut : Bool) (at : ℕ) : Type 0 where
  pub own : List ℕ
  pub content : List ℕ
  pub rest : List ℕ
  pub split : drop at s ≡ own ++ rest
  pub field : Field own content
  pub as_read : Taken s v cut at own content rest

module _ (s v : List ℕ) (cut : Bool) (at : ℕ) where
  -- a field of the grammar before a fair answer
  stands : {w c : List ℕ} (u : List ℕ) → Field w c → drop at s ≡ w ++ u → Fair (stop_of cut u) → Stands s v cut at
  stands {w} {c} u d h f = record { own = w; content = c; rest = u; split = h; field = d; as_read = field-taken v d h (ends (follow cut u) f) }

  -- a field in quotes, by what stands between the quotes
  closed : (n : ℕ) → Unquoted 0 n (drop (at + 1) s) → drop at s ≡ DQUOTE ∷ drop (at + 1) s → Fair (stop_of cut (drop (at + 1 + n + 1) s)) →
      Stands s v cut at
  closed n q h f = stands q.rest (escaped q.quoted) split (rw same at f)
    where
      w : List ℕ
      w = DQUOTE ∷ (q.own ++ (DQUOTE ∷ []))

      split : drop at s ≡ w ++ q.rest
      split = h ∙ ap (λ (l : List ℕ). DQUOTE ∷ l) (q.split ∙ sym (append_snoc q.own DQUOTE q.rest))

      same : drop (at + 1 + n + 1) s ≡ q.rest
      same =
          let e : at + 1 + n + 1 ≡ at + length w = omega (arith, length-append q.own (DQUOTE ∷ [])) in
          ap (λ (k : ℕ). drop k s) e ∙ behind w q.rest s at split

  -- the grammar derives every fair field that the reader finds
  pub field-stands : Fair (field_at s cut at).stop → Stands s v cut at
  unfolding field_at quoted_to
  field-stands f = go (eqb (get_or s at 0) DQUOTE) refl f
    where
      n : ℕ
      n = text_length (drop at s)

      unclosed : (x : Bool) → Fair (cond x Cut Bad) → Stands s v cut at
      unclosed true f = absurd f
      unclosed false f = absurd f

      bytes : (q : Quotes) → quotes 0 false (drop (at + 1) s) ≡ q → drop at s ≡ DQUOTE ∷ drop (at + 1) s →
          Fair (quoted_to s cut (at + 1) q).stop → Stands s v cut at
      bytes Unclosed e h f = unclosed cut f
      bytes Broken e h f = absurd f
      bytes (Closed n d) e h f = closed n (closed-quoted (drop (at + 1) s) 0 false n d e) h f

      go : (x : Bool) → eqb (get_or s at 0) DQUOTE ≡ x → Fair (cond x (quoted_at s cut (at + 1)) (bare_at s cut at)).stop → Stands s v cut at
      go true p f = bytes (quotes 0 false (drop (at + 1) s)) refl (quote_first s at (eqb-true (get_or s at 0) DQUOTE p)) f
      go false p f =
          stands (drop n (drop at s)) (non_escaped (run_text (drop at s))) (sym (take-append-drop n (drop at s))) (rw drop-drop f)
