-- RFC 4180, section 2, from records on: the rules of a field stand in csv_field/specs/FieldGrammar.antt.
use Rattle.std.specs.Prelude.{ℕ, ◌≡◌, List, [], ◌∷◌, ◌++◌}
use Rattle.csv_field.specs.FieldGrammar.{COMMA, CRLF, Field}

-- record = field *(COMMA field)
pub data Record : List ℕ → List (List ℕ) → Type 0 where
  one : {t c : List ℕ} → Field t c → Record t (c ∷ [])
  more : {t c u : List ℕ} {cs : List (List ℕ)} → Field t c → Record u cs → Record (t ++ (COMMA ∷ u)) (c ∷ cs)

-- A record at the front of a text: the record's own bytes, its fields, and the rest of the text. CR LF ends a record; the last record may
-- lack CR LF and then has at least one byte, so that the end of the text starts no further record.
pub data Line (text own : List ℕ) (fields : List (List ℕ)) (rest : List ℕ) : Type 0 where
  ended : text ≡ own ++ CRLF rest → Record own fields → Line text own fields rest
  last : text ≡ own → rest ≡ [] → (own ≡ [] → ⊥) → Record own fields → Line text own fields rest

-- The whole text. Zero bytes have no record.
pub data Text : List ℕ → List (List (List ℕ)) → Type 0 where
  none : Text [] []
  more : {text own rest : List ℕ} {fields : List (List ℕ)} {records : List (List (List ℕ))} →
      Line text own fields rest → Text rest records → Text text (fields ∷ records)
