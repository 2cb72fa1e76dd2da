-- Making of legal numbers over a slice that is long enough is accepted, and the slice then holds the fresh file.
use Rattle.std.proofs.Common.{ℕ, ◌*◌, ◌≤◌, ◌<◌, ◌≡◌, ap, ◌∙◌, ◌&&◌, List, length, le-leb, lt-ltb}
use Rattle.rows.specs.Limits.{MODELS, PROCESSES, FILES}
use Rattle.rows.specs.Questions.{first_no}
use Rattle.machine_meaning.specs.Layers.{fresh, nothing}
use Rattle.machine_meaning.specs.States.{Header, maps_length, layers_to, plain_to}
use Rattle.machine_meaning.specs.Steps.{making_questions, plain_making_questions, made_to}
use Rattle.machine_meaning.proofs.Slices.{fresh-to, fresh-plain}
use Rattle.rows.proofs.Asking.{AllYes, none-no}

module _ (h : Header) (some-process : 1 ≤ h.processes) (few-processes : h.processes ≤ PROCESSES) (is_file : h.file < FILES) where
  -- ---- Machines

  module _ (is_model : h.model < MODELS) (n : ℕ) (room : maps_length h ≤ n) where
    -- Every making question is answered Yes.
    pub making-yes : AllYes (making_questions h n)
    unfolding making_questions
    making-yes = (
      le-leb _ _ room,
      (
        (λ i. lt-ltb _ _ is_model i && (le-leb _ _ some-process i && le-leb _ _ few-processes i)),
        (lt-ltb _ _ is_file, tt),
      ),
    )

    -- Making the layered file is accepted.
    pub making-accepted : first_no (making_questions h n) ≡ 0
    making-accepted = none-no (making_questions h n) making-yes

  -- Making leaves the fresh layered file.
  pub making_fresh : h.model < MODELS → (xs : List ℕ) → maps_length h ≤ length xs →
      made_to (first_no (making_questions h (length xs))) (maps_length h) xs ≡ layers_to h fresh xs
  making_fresh m xs room = ap (λ (refusal : ℕ). made_to refusal (maps_length h) xs) (making-accepted m (length xs) room) ∙ fresh-to h xs

  -- ---- Plain files

  module _ (n : ℕ) (room : 4 * h.space ≤ n) where
    -- Every making question of the plain file is answered Yes.
    pub plain-making-yes : AllYes (plain_making_questions h n)
    unfolding plain_making_questions
    plain-making-yes = (
      le-leb _ _ room,
      ((λ i. le-leb _ _ some-process i && le-leb _ _ few-processes i), (lt-ltb _ _ is_file, tt)),
    )

    -- Making the plain file is accepted.
    pub plain-making-accepted : first_no (plain_making_questions h n) ≡ 0
    plain-making-accepted = none-no (plain_making_questions h n) plain-making-yes

  -- Making leaves the fresh plain file.
  pub plain-making_fresh : (ys : List ℕ) → 4 * h.space ≤ length ys →
      made_to (first_no (plain_making_questions h (length ys))) (4 * h.space) ys ≡ plain_to h nothing ys
  plain-making_fresh ys room = ap (λ (refusal : ℕ). made_to refusal (4 * h.space) ys) (plain-making-accepted (length ys) room) ∙ fresh-plain h ys
