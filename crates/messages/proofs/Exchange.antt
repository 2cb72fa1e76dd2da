-- Rows that pass the questions from 12 on pass them still where a row moves before another process's row, if the message that arrives at it, if
-- one does, was sent before both.
use Rattle.std.proofs.Common.{ℕ, ◌≡◌, sym, ◌∙◌, ◌⊎◌, inl, inr, Bool, true, false, List, [], ◌∷◌, ◌++◌}
use mathlib.Core.Bool.{false≢true}
use Rattle.rows.specs.declared.row.Row.{Row}
use Rattle.rows.specs.Kinds.{SEND, RECV, WAIT, ARRIVAL}
use Rattle.rows.proofs.Bools.{or_out}
use Rattle.rows.proofs.Tests.{any_last, any-more, none-snoc, none_more, carries-iff, carries_by-iff, Alike}
use Rattle.messages.specs.Questions.{any, carries, carries_by, sent}
use Rattle.messages.proofs.Asks.{Passes, Orderly, orderly, in_order}

-- The message that arrives at a row, if one does, was sent.
abbrev pub Ready : List Row → Row → Type 0
Ready before r = r.kind ≡ ARRIVAL → sent r.message before ≡ true

-- The message that arrives at a row that passes was sent.
pub passes-ready : (before : List Row) (r : Row) → Passes before r → Ready before r
passes-ready before r e = (orderly before r e).sent-before

-- A message that was sent is sent behind one row more.
pub ready-more : (before : List Row) (x r : Row) → Ready before r → Ready (before ++ (x ∷ [])) r
ready-more before x r w c = any-more _ before x (w c)

-- ---- Other rows before

-- A row that passes behind rows passes behind other rows that pass the same tests.
pub alike-passes : (l n : List Row) (r : Row) → Alike l n → Passes l r → Passes n r
alike-passes l n r a e =
    let p = orderly l r e in
    in_order n r
    record {
      unsent = λ s. sym (a _) ∙ p.unsent s;
      posted_by-other = λ s. sym (a _) ∙ p.posted_by-other s;
      unposted = λ s. sym (a _) ∙ p.unposted s;
      sent_by-other = λ s. sym (a _) ∙ p.sent_by-other s;
      posted-before = λ s. sym (a _) ∙ p.posted-before s;
      sent-before = λ s. sym (a _) ∙ p.sent-before s;
      unwaited = λ s. sym (a _) ∙ p.unwaited s;
    }

-- ---- Two rows exchanged

module _ (before : List Row) (x e : Row) (apart : x.process ≡ e.process → ⊥) (o : Passes before x) (p : Passes (before ++ (x ∷ [])) e)
    (w : Ready before e) where
  -- The first row by the tests.
  first : Orderly before x
  first = orderly before x o

  -- The second row by the tests.
  second : Orderly (before ++ (x ∷ [])) e
  second = orderly (before ++ (x ∷ [])) e p

  -- The second row passes without the first in front of it: the first is another process's, and what arrives at the second was sent before.
  pub passes-earlier : Passes before e
  passes-earlier =
      in_order before e
      record {
        unsent = λ s. (none-snoc _ before x (second.unsent s)).0;
        posted_by-other = λ s. (none-snoc _ before x (second.posted_by-other s)).0;
        unposted = λ s. (none-snoc _ before x (second.unposted s)).0;
        sent_by-other = λ s. (none-snoc _ before x (second.sent_by-other s)).0;
        posted-before = λ s. go (or_out _ _ (sym (any_last own before x) ∙ second.posted-before s));
        sent-before = w;
        unwaited = λ s. (none-snoc _ before x (second.unwaited s)).0;
      }
    where
      own : Row → Bool
      own = carries_by e.process RECV e.message

      go : (any own before ≡ true) ⊎ (own x ≡ true) → any own before ≡ true
      go (inl q) = q
      go (inr q) = absurd (apart ((carries_by-iff e.process RECV e.message x).0 q).1)

  -- The first row passes behind the second: they are of two processes, and both do not send, post or wait for one message.
  pub passes-later : Passes (before ++ (e ∷ [])) x
  passes-later =
      in_order (before ++ (e ∷ [])) x
      record {
        unsent = λ s. none_more _ before e (first.unsent s) (λ q. two SEND s q (λ k. second.unsent k));
        posted_by-other = λ s. none_more _ before e (first.posted_by-other s) (other RECV);
        unposted = λ s. none_more _ before e (first.unposted s) (λ q. two RECV s q (λ k. second.unposted k));
        sent_by-other = λ s. none_more _ before e (first.sent_by-other s) (other SEND);
        posted-before = λ s. any-more _ before e (first.posted-before s);
        sent-before = λ s. any-more _ before e (first.sent-before s);
        unwaited = λ s. none_more _ before e (first.unwaited s) (λ q. two WAIT s q (λ k. second.unwaited k));
      }
    where
      other : (kind : ℕ) → carries_by x.process kind x.message e ≡ true → ⊥
      other kind q = apart (sym ((carries_by-iff x.process kind x.message e).0 q).1)

      two : (kind : ℕ) → x.kind ≡ kind → carries kind x.message e ≡ true →
          (e.kind ≡ kind → any (carries kind e.message) (before ++ (x ∷ [])) ≡ false) → ⊥
      two kind s q f =
          let c = (carries-iff kind x.message e).0 q in
          false≢true (sym (none-snoc (carries kind e.message) before x (f c.0)).1 ∙ (carries-iff kind e.message x).1 (s, sym c.1))
