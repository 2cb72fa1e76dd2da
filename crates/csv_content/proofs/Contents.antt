-- The content of a field and its comparison.
use Rattle.std.proofs.Common.{ℕ, zero, suc, ◌+◌, ◌≤◌, ◌<◌, add-one, arith, ◌≡◌, refl, sym, ap, ap₂, ◌∙◌, ◌↔◌, Bool, true, false, cond, ◌&&◌, List, [], ◌∷◌, length, take, drop, drop_of_length-le, drop-cons, take-take, eq-eqb, ne_eqb, eqb-true}
use native.Mathlib.Decide.{dec_lt}
use mathlib.Core.Bool.{false≢true}
use lib.ListN.{get_or}
use lib.Dec.{eqb, eqb-suc-zero}
use lib.Pointwise.{pointwise}
use Rattle.csv_field.specs.FieldGrammar.{DQUOTE}
use Rattle.csv_content.specs.Content.{raw_of, content_of, undouble, same_bytes, is_nil}
use Rattle.csv_field.specs.declared.Span.{Span}

-- undoubling leaves a byte of every text that has one
nil-either : (d : Bool) (r : List ℕ) → eqb (length r) 0 ≡ is_nil (cond d (undouble false r) r)
unfolding undouble
nil-either true [] = refl
nil-either false [] = refl
nil-either false (b ∷ t) = eqb-suc-zero (length t)
nil-either true (b ∷ t) = eqb-suc-zero (length t) ∙ go (eqb b DQUOTE)
  where
    go : (x : Bool) → false ≡ is_nil (cond x (b ∷ undouble true t) (b ∷ undouble false t))
    go true = refl
    go false = refl

-- a content is empty exactly where its span covers no byte
pub nil-content : (text : List ℕ) (span : Span) (r : List ℕ) → r ≡ raw_of text span → eqb (length r) 0 ≡ is_nil (content_of text span)
unfolding content_of
nil-content text span r e = nil-either span.doubled r ∙ ap (λ (x : List ℕ). is_nil (cond span.doubled (undouble false x) x)) e

module _ (text : List ℕ) (span : Span) (r : List ℕ) (e : r ≡ raw_of text span) where
  -- the content of a span that holds two quotes side by side
  pub content-doubled : span.doubled ≡ true → undouble false r ≡ content_of text span
  unfolding content_of
  content-doubled d = rw d (ap (undouble false) e)

  -- the content of any other span
  pub content-plain : span.doubled ≡ false → r ≡ content_of text span
  unfolding content_of
  content-plain d = rw d e

-- byte strings that pass the test are equal
same-to : (a b : List ℕ) → same_bytes a b ≡ true → a ≡ b
unfolding same_bytes
same-to [] [] e = refl
same-to [] (b ∷ t) e = absurd (false≢true e)
same-to (a ∷ s) [] e = absurd (false≢true e)
same-to (a ∷ s) (b ∷ t) e = go (same-to s t) (eqb a b) refl e
  where
    go : (same_bytes s t ≡ true → s ≡ t) → (x : Bool) → eqb a b ≡ x → x && same_bytes s t ≡ true → a ∷ s ≡ b ∷ t
    go rest true q f = ap₂ {C = List ℕ} (λ x y. x ∷ y) (eqb-true a b q) (rest f)
    go rest false q f = absurd (false≢true f)

-- a byte string passes the test with itself
same_self : (a : List ℕ) → same_bytes a a ≡ true
unfolding same_bytes
same_self [] = refl
same_self (a ∷ s) = rw (eq-eqb a a refl) (same_self s)

-- the test of two byte strings is their equality
pub same-iff : (a b : List ℕ) → (same_bytes a b ≡ true) ↔ (a ≡ b)
same-iff a b = (same-to a b, λ e. ap (same_bytes a) (sym e) ∙ same_self a)

-- the library's test of two byte strings is the same test
pub pointwise-same : (a b : List ℕ) → pointwise eqb a b ≡ same_bytes a b
unfolding same_bytes
pointwise-same [] [] = refl
pointwise-same [] (b ∷ t) = refl
pointwise-same (a ∷ s) [] = refl
pointwise-same (a ∷ s) (b ∷ t) = ap (λ (x : Bool). eqb a b && x) (pointwise-same s t)

module _ (b : List ℕ) (j : ℕ) (x : ℕ) (s : List ℕ) where
  -- one byte of a comparison: the other string has ended
  pub same-short : length b ≤ j → same_bytes (x ∷ s) (drop j b) ≡ false
  unfolding same_bytes
  same-short h = rw (drop_of_length-le b h)

  -- one byte of a comparison: the bytes are the same
  pub same-cons : j < length b → x ≡ get_or b j 0 → same_bytes (x ∷ s) (drop j b) ≡ same_bytes s (drop (j + 1) b)
  unfolding same_bytes
  same-cons h e = rw (add-one, drop-cons b j 0 h, eq-eqb x (get_or b j 0) e)

  -- one byte of a comparison: the bytes differ
  pub same-differ : j < length b → (x ≡ get_or b j 0 → ⊥) → same_bytes (x ∷ s) (drop j b) ≡ false
  unfolding same_bytes
  same-differ h e = rw (drop-cons b j 0 h, ne_eqb x (get_or b j 0) e)

-- no byte is left of the first string
pub same-nothing : (b : List ℕ) (j : ℕ) → j ≤ length b → same_bytes [] (drop j b) ≡ eqb j (length b)
unfolding same_bytes
same-nothing b j h = go (dec_lt j (length b))
  where
    go : Dec (j < length b) → same_bytes [] (drop j b) ≡ eqb j (length b)
    go (yes l) = rw (drop-cons b j 0 l) (sym (ne_eqb j (length b) (λ e. omega arith)))
    go (no l) = let m : length b ≤ j = omega arith in rw (drop_of_length-le b m) (sym (eq-eqb j (length b) (omega arith)))

module _ (a : List ℕ) (i : ℕ) (kept : Bool) where
  -- undouble leaves out the second of two quotes
  pub undouble-skip : i < length a → eqb (get_or a i 0) DQUOTE && kept ≡ true → undouble kept (drop i a) ≡ undouble false (drop (i + 1) a)
  unfolding undouble
  undouble-skip h e = rw (add-one, drop-cons a i 0 h) (go (eqb (get_or a i 0) DQUOTE) kept e)
    where
      go : (x k : Bool) → x && k ≡ true →
          cond x (cond k (undouble false (drop (suc i) a)) (get_or a i 0 ∷ undouble true (drop (suc i) a))) (get_or a i 0 ∷ undouble false (drop (suc i) a))
          ≡ undouble false (drop (suc i) a)
      go true true q = refl
      go true false q = absurd (false≢true q)
      go false k q = absurd (false≢true q)

  -- undouble keeps any other byte
  pub undouble-keep : i < length a → eqb (get_or a i 0) DQUOTE && kept ≡ false →
      undouble kept (drop i a) ≡ get_or a i 0 ∷ undouble (eqb (get_or a i 0) DQUOTE) (drop (i + 1) a)
  unfolding undouble
  undouble-keep h e = rw (add-one, drop-cons a i 0 h) (go (eqb (get_or a i 0) DQUOTE) kept e)
    where
      go : (x k : Bool) → x && k ≡ false →
          cond x (cond k (undouble false (drop (suc i) a)) (get_or a i 0 ∷ undouble true (drop (suc i) a))) (get_or a i 0 ∷ undouble false (drop (suc i) a))
          ≡ get_or a i 0 ∷ undouble x (drop (suc i) a)
      go true true q = absurd (false≢true (sym q))
      go true false q = refl
      go false k q = refl

-- undouble of no byte
pub undouble-end : (a : List ℕ) (i : ℕ) (kept : Bool) → length a ≤ i → undouble kept (drop i a) ≡ []
unfolding undouble
undouble-end a i kept h = rw (drop_of_length-le a h)

-- a part that ends within the first m bytes is a part of those
part_cut : (text : List ℕ) (start len m : ℕ) → start + len ≤ m → take len (drop start (take m text)) ≡ take len (drop start text)
part_cut text zero len m h = take-take len m text (omega arith)
part_cut [] (suc start) len zero h = refl
part_cut [] (suc start) len (suc m) h = refl
part_cut (b ∷ t) (suc start) len zero h = absurd (omega arith)
part_cut (b ∷ t) (suc start) len (suc m) h = part_cut t start len m (omega arith)

-- bytes behind a span change nothing of its content
pub content-cut : (text : List ℕ) (m : ℕ) (span : Span) → span.start + span.len ≤ m → content_of (take m text) span ≡ content_of text span
unfolding content_of
content-cut text m span h = ap (λ raw. cond span.doubled (undouble false raw) raw) (part_cut text span.start span.len m h)

-- the content of a field and its comparison, for a search
pub ruleset contents = (nil-content, content-doubled, content-plain, pointwise-same)
