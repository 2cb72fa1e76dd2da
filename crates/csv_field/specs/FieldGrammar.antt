-- RFC 4180, section 2: the ABNF rule by rule, each rule a data type of the text that it derives and the content that the text stands for,
-- each alternative a constructor. A byte is a number, a text a list of bytes.
use Rattle.std.specs.Prelude.{ℕ, ◌≤◌, List, [], ◌∷◌, ◌++◌}

-- COMMA = %x2C
abbrev pub COMMA : ℕ
COMMA = 0x2C

-- DQUOTE = %x22
abbrev pub DQUOTE : ℕ
DQUOTE = 0x22

-- CR = %x0D
abbrev pub CR : ℕ
CR = 0x0D

-- LF = %x0A
abbrev pub LF : ℕ
LF = 0x0A

-- CRLF = CR LF, followed by the rest of a text
abbrev pub CRLF : List ℕ → List ℕ
CRLF rest = CR ∷ (LF ∷ rest)

-- TEXTDATA = %x20-21 / %x23-2B / %x2D-7E
pub data TextData (b : ℕ) : Type 0 where
  x20_21 : 0x20 ≤ b → b ≤ 0x21 → TextData b
  x23_2b : 0x23 ≤ b → b ≤ 0x2B → TextData b
  x2d_7e : 0x2D ≤ b → b ≤ 0x7E → TextData b

-- non-escaped = *TEXTDATA; its content is the text itself
pub data NonEscaped : List ℕ → Type 0 where
  none : NonEscaped []
  text : {b : ℕ} {t : List ℕ} → TextData b → NonEscaped t → NonEscaped (b ∷ t)

-- *(TEXTDATA / COMMA / CR / LF / 2DQUOTE): what stands between the quotes, and its content, in which each two quotes are one
pub data Quoted : List ℕ → List ℕ → Type 0 where
  none : Quoted [] []
  text : {b : ℕ} {t c : List ℕ} → TextData b → Quoted t c → Quoted (b ∷ t) (b ∷ c)
  comma : {t c : List ℕ} → Quoted t c → Quoted (COMMA ∷ t) (COMMA ∷ c)
  cr : {t c : List ℕ} → Quoted t c → Quoted (CR ∷ t) (CR ∷ c)
  lf : {t c : List ℕ} → Quoted t c → Quoted (LF ∷ t) (LF ∷ c)
  two_dquotes : {t c : List ℕ} → Quoted t c → Quoted (DQUOTE ∷ (DQUOTE ∷ t)) (DQUOTE ∷ c)

-- field = (escaped / non-escaped); escaped = DQUOTE *(TEXTDATA / COMMA / CR / LF / 2DQUOTE) DQUOTE
pub data Field : List ℕ → List ℕ → Type 0 where
  escaped : {t c : List ℕ} → Quoted t c → Field (DQUOTE ∷ (t ++ (DQUOTE ∷ []))) c
  non_escaped : {t : List ℕ} → NonEscaped t → Field t t
