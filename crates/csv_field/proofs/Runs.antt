-- TEXTDATA at the front of a text, and what stands between quotes: the reader finds what the grammar derives.
use Rattle.std.proofs.Common.{ℕ, suc, ◌+◌, ◌<◌, arith, ◌≡◌, refl, ap, ◌∙◌, ◌⊎◌, inl, inr, Bool, true, false, cond, ◌||◌, List, [], ◌∷◌, ◌++◌, length, take, length-append, eqb-true}
use lib.Dec.{eqb}
use Rattle.csv_field.specs.FieldGrammar.{COMMA, DQUOTE, CR, LF, TextData, NonEscaped, Quoted}
use Rattle.csv_field.specs.FieldReading.{is_text, is_quoted, text_length, quotes, after_quote}
use Rattle.csv_field.specs.declared.Quotes.TheVariants.{Broken, Closed}
use Rattle.csv_field.proofs.Bytes.{or_cases, text-iff, text-unquote}

-- what may follow a field: the end of the text, a comma, CR
pub data Ends : List ℕ → Type 0 where
  nil : Ends []
  comma : {u : List ℕ} → Ends (COMMA ∷ u)
  cr : {u : List ℕ} → Ends (CR ∷ u)

-- the bytes that text_length counts are TEXTDATA
pub run_text : (t : List ℕ) → NonEscaped (take (text_length t) t)
unfolding text_length
run_text [] = NonEscaped.none
run_text (b ∷ t) = go (is_text b) refl (run_text t)
  where
    go : (x : Bool) → is_text b ≡ x → NonEscaped (take (text_length t) t) → NonEscaped (take (cond x (suc (text_length t)) 0) (b ∷ t))
    go true e r = NonEscaped.text ((text-iff b).0 e) r
    go false e r = NonEscaped.none

-- text_length counts the TEXTDATA before what may follow a field
pub text-run : {w u : List ℕ} → NonEscaped w → Ends u → text_length (w ++ u) ≡ length w
unfolding text_length is_text
text-run NonEscaped.none nil = refl
text-run NonEscaped.none comma = refl
text-run NonEscaped.none cr = refl
text-run (NonEscaped.text {b} h n) e = rw ((text-iff b).1 h) (ap suc (text-run n e))

-- the grammar has a rule for each byte that may stand between quotes
quoted-byte : {b : ℕ} {t c : List ℕ} → is_quoted b ≡ true → Quoted t c → Quoted (b ∷ t) (b ∷ c)
unfolding is_quoted
quoted-byte {b} {t} {c} e q = last (or_cases _ (eqb b LF) e)
  where
    first : (is_text b ≡ true) ⊎ (eqb b COMMA ≡ true) → Quoted (b ∷ t) (b ∷ c)
    first (inl e) = Quoted.text ((text-iff b).0 e) q
    first (inr e) = rw (eqb-true b COMMA e) (Quoted.comma q)

    next : (is_text b || eqb b COMMA ≡ true) ⊎ (eqb b CR ≡ true) → Quoted (b ∷ t) (b ∷ c)
    next (inl e) = first (or_cases (is_text b) (eqb b COMMA) e)
    next (inr e) = rw (eqb-true b CR e) (Quoted.cr q)

    last : (is_text b || eqb b COMMA || eqb b CR ≡ true) ⊎ (eqb b LF ≡ true) → Quoted (b ∷ t) (b ∷ c)
    last (inl e) = next (or_cases _ (eqb b CR) e)
    last (inr e) = rw (eqb-true b LF e) (Quoted.lf q)

-- TEXTDATA may stand between quotes
text-quoted : {b : ℕ} → TextData b → is_quoted b ≡ true
unfolding is_quoted
text-quoted {b} h = rw ((text-iff b).1 h)

-- Bytes that begin with what stands between quotes and the closing quote. m counts the bytes between the quotes and n bytes before them.
pub record Unquoted (n m : ℕ) (t : List ℕ) : Type 0 where
  pub own : List ℕ
  pub content : List ℕ
  pub rest : List ℕ
  pub split : t ≡ own ++ (DQUOTE ∷ rest)
  pub quoted : Quoted own content
  pub size : m ≡ n + length own

-- a quote closes at once
now : (n m : ℕ) (d e : Bool) (t : List ℕ) → Closed n d ≡ Closed m e → Unquoted n m (DQUOTE ∷ t)
now n m d e t q =
    let z : n ≡ m = cc in
    record { own = []; content = []; rest = t; split = refl; quoted = Quoted.none; size = omega arith }

-- one byte more between the quotes
one_more_lem : (n m b : ℕ) (t : List ℕ) → is_quoted b ≡ true → Unquoted (suc n) m t → Unquoted n m (b ∷ t)
one_more_lem n m b t h u =
    record {
      own = b ∷ u.own;
      content = b ∷ u.content;
      rest = u.rest;
      split = ap (λ (l : List ℕ). b ∷ l) u.split;
      quoted = quoted-byte h u.quoted;
      size = omega arith;
    }

-- two quotes side by side more between the quotes
two-more : (n m : ℕ) (t : List ℕ) → Unquoted (suc (suc n)) m t → Unquoted n m (DQUOTE ∷ (DQUOTE ∷ t))
two-more n m t u =
    record {
      own = DQUOTE ∷ (DQUOTE ∷ u.own);
      content = DQUOTE ∷ u.content;
      rest = u.rest;
      split = ap (λ (l : List ℕ). DQUOTE ∷ (DQUOTE ∷ l)) u.split;
      quoted = Quoted.two_dquotes u.quoted;
      size = omega arith;
    }

-- Where the reader finds a closing quote, the grammar derives the bytes before it: after an opening quote, and after a quote within.
mutual
  unfolding quotes after_quote

  pub closed-quoted : (t : List ℕ) (n : ℕ) (d : Bool) (m : ℕ) (e : Bool) → quotes n d t ≡ Closed m e → Unquoted n m t
  closed-quoted [] n d m e q = let z : ◌≡◌ {A = ℕ} 0 1 = cc in absurd (omega arith)
  closed-quoted (b ∷ t) n d m e q = go (eqb b DQUOTE) refl (is_quoted b) refl q (λ r. after-quoted t n d m e r) (λ r. closed-quoted t (suc n) d m e r)
    where
      go : (x : Bool) → eqb b DQUOTE ≡ x → (y : Bool) → is_quoted b ≡ y →
          cond x (after_quote n d t) (cond y (quotes (suc n) d t) Broken) ≡ Closed m e →
          (after_quote n d t ≡ Closed m e → Unquoted n m (DQUOTE ∷ t)) → (quotes (suc n) d t ≡ Closed m e → Unquoted (suc n) m t) → Unquoted n m (b ∷ t)
      go true p y h q a f = rw (eqb-true b DQUOTE p) (a q)
      go false p true h q a f = one_more_lem n m b t h (f q)
      go false p false h q a f = let z : ◌≡◌ {A = ℕ} 0 1 = cc in absurd (omega arith)

  after-quoted : (t : List ℕ) (n : ℕ) (d : Bool) (m : ℕ) (e : Bool) → after_quote n d t ≡ Closed m e → Unquoted n m (DQUOTE ∷ t)
  after-quoted [] n d m e q = now n m d e [] q
  after-quoted (b ∷ t) n d m e q = go (eqb b DQUOTE) refl q (λ r. closed-quoted t (suc (suc n)) true m e r)
    where
      go : (x : Bool) → eqb b DQUOTE ≡ x → cond x (quotes (suc (suc n)) true t) (Closed n d) ≡ Closed m e →
          (quotes (suc (suc n)) true t ≡ Closed m e → Unquoted (suc (suc n)) m t) → Unquoted n m (DQUOTE ∷ (b ∷ t))
      go true p q f = rw (eqb-true b DQUOTE p) (two-more n m t (f q))
      go false p q f = now n m d e (b ∷ t) q

-- whether two quotes stand side by side; d is the answer for the bytes before
unfoldable pub twice : {w c : List ℕ} → Quoted w c → Bool → Bool
twice Quoted.none d = d
twice (Quoted.text h q) d = twice q d
twice (Quoted.comma q) d = twice q d
twice (Quoted.cr q) d = twice q d
twice (Quoted.lf q) d = twice q d
twice (Quoted.two_dquotes q) d = twice q true

-- the quote before what may follow a field is the closing one
closes : {u : List ℕ} (n : ℕ) (d : Bool) → Ends u → after_quote n d u ≡ Closed n d
unfolding after_quote
closes n d nil = refl
closes n d comma = refl
closes n d cr = refl

-- the reader finds the closing quote behind what the grammar puts between quotes
pub quoted-closed : {w c u : List ℕ} (q : Quoted w c) (n : ℕ) (d : Bool) (m : ℕ) → m ≡ n + length w → Ends u →
    quotes n d (w ++ (DQUOTE ∷ u)) ≡ Closed m (twice q d)
unfolding quotes after_quote is_quoted is_text twice
quoted-closed Quoted.none n d m h e = let z : n ≡ m = omega arith in closes n d e ∙ ap (λ (k : ℕ). Closed k d) z
quoted-closed (Quoted.text t q) n d m h e = rw (text-unquote t, text-quoted t) (quoted-closed q (suc n) d m (omega arith) e)
quoted-closed (Quoted.comma q) n d m h e = quoted-closed q (suc n) d m (omega arith) e
quoted-closed (Quoted.cr q) n d m h e = quoted-closed q (suc n) d m (omega arith) e
quoted-closed (Quoted.lf q) n d m h e = quoted-closed q (suc n) d m (omega arith) e
quoted-closed (Quoted.two_dquotes q) n d m h e = quoted-closed q (suc (suc n)) true m (omega arith) e

-- the closing quote stands within the bytes
pub closed_in : (t : List ℕ) (n : ℕ) (d : Bool) (m : ℕ) (e : Bool) → quotes n d t ≡ Closed m e → m < n + length t
closed_in t n d m e q =
    let u = closed-quoted t n d m e q in
    omega (arith, u.size, ap length u.split, length-append u.own (DQUOTE ∷ u.rest))
