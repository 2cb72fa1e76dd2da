-- What the first No says of a list of questions.
use Rattle.std.proofs.Common.{ℕ, ◌≤◌, ◌<◌, arith, ◌≡◌, refl, ◌∙◌, Bool, true, false, cond, List, [], ◌∷◌, ◌++◌}
use Rattle.rows.specs.Questions.{Question, first_no}
use Rattle.rows.specs.Refusals.{number_of}
use Rattle.rows.specs.declared.refusal.Refusal.{Refusal}

-- No question has a number below k.
abbrev pub From : ℕ → List Question → Type 0
From k [] = Unit {0}
From k (q ∷ qs) = (k ≤ q.number) × From k qs

-- Every question is answered Yes.
abbrev pub AllYes : List Question → Type 0
AllYes [] = Unit {0}
AllYes (q ∷ qs) = (q.yes ≡ true) × AllYes qs

-- The number of a first No is at least k where no question has a number below k.
pub no_from : (k : ℕ) (qs : List Question) → From k qs → (first_no qs ≡ 0 → ⊥) → k ≤ first_no qs
unfolding first_no
no_from k [] f n = absurd (n refl)
no_from k (q ∷ qs) f n = go (no_from k qs f.1) q.yes n
  where
    go : ((first_no qs ≡ 0 → ⊥) → k ≤ first_no qs) → (b : Bool) → (cond b (first_no qs) q.number ≡ 0 → ⊥) → k ≤ cond b (first_no qs) q.number
    go rest true m = rest m
    go rest false m = f.0

-- Without a No every answer is Yes.
pub all_yes : (qs : List Question) → From 1 qs → first_no qs ≡ 0 → AllYes qs
unfolding first_no
all_yes [] f e = tt
all_yes (q ∷ qs) f e = go (all_yes qs f.1) q.yes refl e
  where
    go : (first_no qs ≡ 0 → AllYes qs) → (b : Bool) → q.yes ≡ b → cond b (first_no qs) q.number ≡ 0 → AllYes (q ∷ qs)
    go rest true y n = (y, rest n)
    go rest false y n = let low : 1 ≤ q.number = f.0 in absurd (omega arith)

-- Without a No among two lists of questions, every answer of the first is Yes, and there is no No in the second.
pub none-appended : (qs rest : List Question) → From 1 qs → first_no (qs ++ rest) ≡ 0 → AllYes qs × (first_no rest ≡ 0)
unfolding first_no
none-appended [] rest f e = (tt, e)
none-appended (q ∷ qs) rest f e = go (none-appended qs rest f.1) q.yes refl e
  where
    go : (first_no (qs ++ rest) ≡ 0 → AllYes qs × (first_no rest ≡ 0)) → (b : Bool) → q.yes ≡ b →
        cond b (first_no (qs ++ rest)) q.number ≡ 0 → AllYes (q ∷ qs) × (first_no rest ≡ 0)
    go ih true y n = let s = ih n in ((y, s.0), s.1)
    go ih false y n = let low : 1 ≤ q.number = f.0 in absurd (omega arith)

-- The first No of two lists of questions is that of the first list, where it has one.
pub first-no : (qs rest : List Question) → (first_no qs ≡ 0 → ⊥) → first_no (qs ++ rest) ≡ first_no qs
unfolding first_no
first-no [] rest h = absurd (h refl)
first-no (q ∷ qs) rest h = go q.yes (first-no qs rest) h
  where
    go : (x : Bool) → ((first_no qs ≡ 0 → ⊥) → first_no (qs ++ rest) ≡ first_no qs) → (cond x (first_no qs) q.number ≡ 0 → ⊥) →
        cond x (first_no (qs ++ rest)) q.number ≡ cond x (first_no qs) q.number
    go true ih g = ih g
    go false ih g = refl

-- Questions that are all answered Yes have no No.
pub none-no : (qs : List Question) → AllYes qs → first_no qs ≡ 0
unfolding first_no
none-no [] y = refl
none-no (q ∷ qs) y = rw y.0 (none-no qs y.1)

-- Questions that are all answered Yes leave the first No to the questions behind them.
pub yes-behind : (qs rest : List Question) → AllYes qs → first_no (qs ++ rest) ≡ first_no rest
unfolding first_no
yes-behind [] rest y = refl
yes-behind (q ∷ qs) rest y = (λ i. cond (y.0 i) (first_no (qs ++ rest)) q.number) ∙ yes-behind qs rest y.1

-- Without a No in the first list of questions, the second decides.
pub rest-decides : (qs rest : List Question) → From 1 qs → first_no qs ≡ 0 → first_no (qs ++ rest) ≡ first_no rest
rest-decides qs rest n h = yes-behind qs rest (all_yes qs n h)

-- Two lists of questions that are all answered Yes are so one after the other.
pub yes-append : (qs rest : List Question) → AllYes qs → AllYes rest → AllYes (qs ++ rest)
yes-append [] rest y z = z
yes-append (q ∷ qs) rest y z = (y.0, yes-append qs rest y.1 z)

-- Answers that are all Yes are so for the first and for the later questions.
pub yes-parts : (qs rest : List Question) → AllYes (qs ++ rest) → AllYes qs × AllYes rest
yes-parts [] rest y = (tt, y)
yes-parts (q ∷ qs) rest y = let b = yes-parts qs rest y.1 in ((y.0, b.0), b.1)

-- Two lists of questions without a number below k are so one after the other.
pub from_append : (k : ℕ) (qs rest : List Question) → From k qs → From k rest → From k (qs ++ rest)
from_append k [] rest m n = n
from_append k (q ∷ qs) rest m n = (m.0, from_append k qs rest m.1 n)

-- Every refusal has a number above 0.
pub number-some : (e : Refusal) → 0 < number_of e
number-some e = grind arith
