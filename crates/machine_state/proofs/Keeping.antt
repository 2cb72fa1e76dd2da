-- What every step preserves: a lawful state stays lawful, the answer slice has room for what is listed, and a refusal changes nothing.
use Rattle.std.proofs.Common.{ℕ, ◌*◌, ◌≤◌, arith, ◌≡◌, refl, Bool, true, List, ◌∷◌, ◌++◌, length, drop, length-append, length-drop, leb-true, eqb-true}
use lib.Dec.{eqb}
use Rattle.rows.specs.Kinds.{READ}
use Rattle.rows.specs.declared.row.Row.{Row}
use Rattle.rows.specs.Questions.{Question, first_no}
use Rattle.extents_meaning.specs.Runs.{Run}
use Rattle.extents_meaning.specs.Maps.{threes}
use Rattle.extents_meaning.proofs.Threes.{length-threes}
use Rattle.machine_meaning.specs.Layers.{of_file}
use Rattle.machine_meaning.specs.Steps.{StepAnswer, refusing, done, listed, Step, room_asked, answered, decided}
use Rattle.machine_meaning.proofs.Points.{picked}
use Rattle.rows.proofs.Asking.{From, AllYes, all_yes, yes-parts, from_append}
use Rattle.machine_state.specs.Answers.{put_to}
use Rattle.machine_state.specs.Files.{Keeps, Preserves}
use Rattle.machine_state.specs.Replays.{refusal_in, count_in}
use Rattle.machine_state.proofs.Questions.{room-named}

module _ (law : List ℕ → Bool) (xs : List ℕ) (r : Row) (pieces : List Run) (ys out : List ℕ) where
  -- A step that is not refused keeps all, if its maps are lawful and its pieces fit.
  answered-keeps : (law xs ≡ true → law ys ≡ true) → 3 * length pieces ≤ length out → Keeps law xs out (answered r pieces ys out)
  answered-keeps k l =
      let n = length-threes pieces in
      let d = length-drop (length (threes pieces)) out in
      let some = eqb r.kind READ in
      record {
        lawful = k;
        room = picked (λ (a : StepAnswer). 3 * count_in a ≤ length out) some (listed (length pieces)) done (λ _. l) (omega arith);
        size = omega (arith, length-append (threes pieces) (drop (length (threes pieces)) out), n, d, l);
        stays = λ no. absurd (no (picked (λ (a : StepAnswer). refusal_in a ≡ 0) some (listed (length pieces)) done (λ _. refl) refl));
      }

  -- A step that asks for the state, then the row's questions, then the room, keeps all, if it leaves lawful maps where every answer is Yes.
  pub decided-keeps : (asked : List Question) (fit : Bool) → From 1 asked → (law xs ≡ true → AllYes asked → fit ≡ true → law ys ≡ true) →
      Keeps law xs out
      (decided (first_no (record { number = 13; yes = law xs } ∷ (asked ++ room_asked fit pieces (length out)))) (answered r pieces ys out) xs out)
  decided-keeps asked fit n k = picked (Keeps law xs out) (eqb (first_no qs) 0) _ _ (λ e. then (all_yes qs named (eqb-true _ _ e))) refused
    where
      qs : List Question
      qs = record { number = 13; yes = law xs } ∷ (asked ++ room_asked fit pieces (length out))

      named : From 1 qs
      named = (omega arith, from_append 1 asked (room_asked fit pieces (length out)) n (room-named fit pieces (length out)))

      refused : Keeps law xs out (record { answer = refusing (first_no qs); maps = xs; out = out })
      refused = record { lawful = λ e. e; room = omega arith; size = refl; stays = λ _. (refl, refl) }

      then : AllYes qs → Keeps law xs out (answered r pieces ys out)
      then y =
          let b = yes-parts asked (room_asked fit pieces (length out)) y.1 in
          answered-keeps (λ e. k e b.0 b.1.0) (leb-true _ _ b.1.1.0)

-- Putting each row to the file that it names, and no other row, preserves what stepping preserves.
pub put-preserves : {law : List ℕ → Bool} {step : List ℕ → Row → ℕ → List ℕ → Step} → Preserves law step → (file : ℕ) →
    Preserves law (put_to step file)
unfolding put_to
put-preserves {law} {step} keeps file =
    record {
      each = λ xs r number out.
          picked (Keeps law xs out) (of_file file r) (step xs r number out) (record { answer = done; maps = xs; out = out })
          (λ _. keeps.each xs r number out) (record { lawful = λ e. e; room = omega arith; size = refl; stays = λ _. (refl, refl) });
    }
