-- The code answers and leaves what a step does, whether it is refused or not.
use Rattle.std.proofs.Common.{ℕ, ◌≡◌, refl, sym, ◌∙◌, Bool, true, false, cond, List, ◌++◌, eqb-true, ne_eqb}
use lib.Dec.{eqb}
use Rattle.machine_meaning.specs.Steps.{refusing, Step, decided}
use Rattle.extents.specs.Answers.{Answer, Refused}
use Rattle.extents.specs.Entries.{or_refused, or_kept}
use Rattle.machine_state.specs.Answers.{answer_of, Steps}

-- A list that does not change is kept either way.
pub same_kept : (n : ℕ) {ys xs : List ℕ} → ys ≡ xs → xs ≡ or_kept n ys xs
same_kept n {ys} {xs} e = go (eqb n 0)
  where
    go : (b : Bool) → xs ≡ cond b ys xs
    go true = sym e
    go false = refl

-- Keeping a part keeps the part with the rest behind it.
pub kept_append : (n : ℕ) (ys xs rest : List ℕ) → or_kept n ys xs ++ rest ≡ or_kept n (ys ++ rest) (xs ++ rest)
kept_append n ys xs rest = go (eqb n 0)
  where
    go : (b : Bool) → cond b ys xs ++ rest ≡ cond b (ys ++ rest) (xs ++ rest)
    go true = refl
    go false = refl

module _ {k : ℕ} (s : Step) (n : ℕ) (maps out : List ℕ) (e : k ≡ n) where
  -- An entry of the map of pieces answers and leaves what the step does, if both refuse alike.
  pub carried : {answer : Answer} {maps' out' ys : List ℕ} → answer ≡ or_refused n (answer_of s.answer) → maps' ≡ or_kept n ys maps →
      out' ≡ or_kept n s.out out → (n ≡ 0 → ys ≡ s.maps) → Steps (decided k s maps out) answer maps' out'
  carried {answer} {maps'} {out'} {ys} a m o t = rw e (go (eqb n 0) (λ q. t (eqb-true n 0 q)) a m o)
    where
      go : (b : Bool) → (b ≡ true → ys ≡ s.maps) → answer ≡ cond b (answer_of s.answer) (Refused n) → maps' ≡ cond b ys maps →
          out' ≡ cond b s.out out → Steps (cond b s (record { answer = refusing n; maps = maps; out = out })) answer maps' out'
      go true t a m o = record { answered = a; maps_after = m ∙ t refl; out_after = o }
      go false t a m o = record { answered = a; maps_after = m; out_after = o }

  -- A step that is refused changes nothing.
  pub refused : (n ≡ 0 → ⊥) → Steps (decided k s maps out) (Refused n) maps out
  refused z = rw (e, ne_eqb n 0 z) (record { answered = refl; maps_after = refl; out_after = refl })
