-- What every file keeps, layered or plain: what making asks, that a step asks for lawful maps first, and what a step preserves.
use Rattle.std.specs.Prelude.{ℕ, ◌*◌, ◌≤◌, ◌≡◌, Bool, true, false, cond, List, length, leb, ltb}
use Rattle.rows.specs.Limits.{FILES}
use Rattle.rows.specs.declared.row.Row.{Row}
use Rattle.rows.specs.Questions.{Question, first_no}
use Rattle.machine_meaning.specs.States.{Header}
use Rattle.machine_meaning.specs.Steps.{refusing, Step}
use Rattle.machine_state.specs.Replays.{refusal_in, count_in}

-- Making asks 1 for maps of `size` numbers in the slice, then 2 for the limits, then 10 for the file.
abbrev pub AsksMaking : (Header → ℕ → List Question) → (Header → ℕ) → (Header → Bool) → Type 0
AsksMaking questions size limits =
    (h : Header) (n : ℕ) → first_no (questions h n) ≡ cond (leb (size h) n) (cond (limits h) (cond (ltb h.file FILES) 0 10) 2) 1

-- A step asks 13 for lawful maps first.
abbrev pub AsksState : (Header → List ℕ → Bool) → (Header → List ℕ → Row → ℕ → List ℕ → Step) → Type 0
AsksState lawful step =
    (h : Header) (xs : List ℕ) (r : Row) (number : ℕ) (out : List ℕ) → lawful h xs ≡ false →
    step h xs r number out ≡ record { answer = refusing 13; maps = xs; out = out }

-- One step leaves lawful maps lawful, lists no more pieces than the answer slice has room for, and keeps the answer slice's length. A refusal
-- changes nothing.
pub record Keeps (law : List ℕ → Bool) (xs out : List ℕ) (t : Step) : Type 0 where
  pub lawful : law xs ≡ true → law t.maps ≡ true
  pub room : 3 * count_in t.answer ≤ length out
  pub size : length t.out ≡ length out
  pub stays : (refusal_in t.answer ≡ 0 → ⊥) → (t.maps ≡ xs) × (t.out ≡ out)

-- Every step of a file keeps all of `Keeps`. The replay's loop stands on this record alone.
pub record Preserves (law : List ℕ → Bool) (step : List ℕ → Row → ℕ → List ℕ → Step) : Type 0 where
  pub each : (xs : List ℕ) (r : Row) (number : ℕ) (out : List ℕ) → Keeps law xs out (step xs r number out)
