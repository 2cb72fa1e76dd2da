-- The content of what stands between quotes.
use Rattle.std.proofs.Common.{ℕ, arith, ◌≡◌, refl, ap, Bool, true, false, cond, List, ◌∷◌}
use Rattle.csv_field.specs.FieldGrammar.{COMMA, DQUOTE, CR, LF, Quoted}
use Rattle.csv_content.specs.Content.{undouble}
use Rattle.csv_field.proofs.Bytes.{text-unquote}
use Rattle.csv_field.proofs.Runs.{twice}

-- of two quotes side by side, undouble keeps one
undoubled : {w c : List ℕ} → Quoted w c → undouble false w ≡ c
unfolding undouble
undoubled Quoted.none = refl
undoubled (Quoted.text {b} t q) = rw (text-unquote t) (ap (λ (l : List ℕ). b ∷ l) (undoubled q))
undoubled (Quoted.comma q) = ap (λ (l : List ℕ). COMMA ∷ l) (undoubled q)
undoubled (Quoted.cr q) = ap (λ (l : List ℕ). CR ∷ l) (undoubled q)
undoubled (Quoted.lf q) = ap (λ (l : List ℕ). LF ∷ l) (undoubled q)
undoubled (Quoted.two_dquotes q) = ap (λ (l : List ℕ). DQUOTE ∷ l) (undoubled q)

-- two quotes in the bytes before stay known
twice-met : {w c : List ℕ} (q : Quoted w c) → twice q true ≡ true
unfolding twice
twice-met Quoted.none = refl
twice-met (Quoted.text t q) = twice-met q
twice-met (Quoted.comma q) = twice-met q
twice-met (Quoted.cr q) = twice-met q
twice-met (Quoted.lf q) = twice-met q
twice-met (Quoted.two_dquotes q) = twice-met q

-- the content of what stands between quotes, by whether two quotes side by side stand there
pub quoted-content : {w c : List ℕ} (q : Quoted w c) → cond (twice q false) (undouble false w) w ≡ c
unfolding twice
quoted-content {w} {c} q = go (twice q false) refl
  where
    plain : {w c : List ℕ} (q : Quoted w c) → twice q false ≡ false → w ≡ c
    plain Quoted.none h = refl
    plain (Quoted.text {b} t q) h = ap (λ (l : List ℕ). b ∷ l) (plain q h)
    plain (Quoted.comma q) h = ap (λ (l : List ℕ). COMMA ∷ l) (plain q h)
    plain (Quoted.cr q) h = ap (λ (l : List ℕ). CR ∷ l) (plain q h)
    plain (Quoted.lf q) h = ap (λ (l : List ℕ). LF ∷ l) (plain q h)
    plain (Quoted.two_dquotes q) h = let z : ◌≡◌ {A = ℕ} 0 1 = cc (twice-met q) in absurd (omega arith)

    go : (x : Bool) → twice q false ≡ x → cond x (undouble false w) w ≡ c
    go true h = undoubled q
    go false h = plain q h
