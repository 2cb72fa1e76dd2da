-- A field's content by its span, and its comparison.
use Rattle.std.specs.Prelude.{ℕ, Bool, true, false, cond, ◌&&◌, List, [], ◌∷◌, take, drop, eqb}
use Rattle.csv_field.specs.FieldGrammar.{DQUOTE}
use Rattle.csv_field.specs.declared.Span.{Span}

-- The bytes without the second of each two quotes side by side. `kept` says that the byte before is a quote and belongs to the content.
unfoldable pub undouble : Bool → List ℕ → List ℕ
undouble kept [] = []
undouble kept (b ∷ t) = cond (eqb b DQUOTE) (cond kept (undouble false t) (b ∷ undouble true t)) (b ∷ undouble false t)

-- the bytes that a span covers, as far as the text has them
abbrev pub raw_of : List ℕ → Span → List ℕ
raw_of text span = take span.len (drop span.start text)

-- a field's content
unfoldable pub content_of : List ℕ → Span → List ℕ
content_of text span = cond span.doubled (undouble false (raw_of text span)) (raw_of text span)

-- two byte strings are the same
unfoldable pub same_bytes : List ℕ → List ℕ → Bool
same_bytes [] [] = true
same_bytes [] (b ∷ t) = false
same_bytes (a ∷ s) [] = false
same_bytes (a ∷ s) (b ∷ t) = eqb a b && same_bytes s t

-- no byte
abbrev pub is_nil : List ℕ → Bool
is_nil [] = true
is_nil (b ∷ t) = false
