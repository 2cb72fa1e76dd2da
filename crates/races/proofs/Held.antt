-- Rows that a slice holds at its front: they pass the questions of a verdict, and what a verdict and a list answer and leave is that of the rows.
use Rattle.std.proofs.Common.{ℕ, ◌*◌, ◌-◌, ◌≤◌, ◌<◌, arith, ◌≡◌, sym, ap, ◌∙◌, List, ◌++◌, length, replicate, length-append}
use Rattle.rows.specs.Limits.{MODELS, ROWS, PROCESSES}
use Rattle.rows.specs.declared.row.Row.{Row}
use Rattle.rows.specs.Rows.{numbers, rows_in, row_at}
use Rattle.rows.specs.Questions.{first_no}
use Rattle.rows.proofs.Slices.{length-numbers, row-in, rows_back}
use Rattle.happens_before.specs.Order.{counts_of}
use Rattle.happens_before.specs.Filling.{filled_left}
use Rattle.happens_before.proofs.Asking.{all_asked}
use Rattle.races_meaning.specs.Races.{verdict_of}
use Rattle.races.specs.Answers.{Found, judge_questions, verdict_found, found_of}
use Rattle.races_meaning.specs.Lists.{race_pairs}
use Rattle.races.specs.Listing.{Listed, list_questions, listed_of, list_left, room_answer, room_left}
use Rattle.races.proofs.Whole.{same_first, asked-answer, asked-left}

module _ (rows : List Row) (rest : List ℕ) {n : ℕ} {xs : List ℕ} (many : n ≡ length rows) (held : xs ≡ numbers rows ++ rest) where
  -- The first n rows of the slice are the rows.
  pub rows-held : rows_in n xs ≡ rows
  rows-held = (λ i. rows_in (many i) (held i)) ∙ rows_back rows rest

  module _ (P model : ℕ) {L : ℕ} (known : model < MODELS) (few : n ≤ ROWS) (room : n * P ≤ L) (some : 1 ≤ P) (limit : P ≤ PROCESSES)
      (below : (k : ℕ) → k < length rows → (row_at rows k).process < P) where
    -- The rows pass the questions of the verdict.
    pub held-passes : first_no (judge_questions n P model xs L) ≡ 0
    held-passes =
        sym (same_first n P model xs L known)
        ∙ all_asked
        (record {
          rows_have_room = omega (arith, ap length held, length-append (numbers rows) rest, length-numbers rows);
          counts-fit = room;
          few-rows = few;
          some-processes = some;
          few-processes = limit;
          below = λ k h. rw (sym (row-in n k xs h) ∙ ap (λ (l : List Row). row_at l k) rows-held) (below k (omega arith));
        })

    -- The verdict is that of the rows.
    pub held_found : {f : Found} → f ≡ found_of (first_no (judge_questions n P model xs L)) xs n model → f ≡ verdict_found (verdict_of rows model)
    held_found e =
        e ∙ ap (λ (first : ℕ). found_of first xs n model) held-passes ∙ ap (λ (l : List Row). verdict_found (verdict_of l model)) rows-held

    -- The counts are those of the rows.
    pub held-counts : (us : List ℕ) {ws : List ℕ} → ws ≡ filled_left (first_no (judge_questions n P model xs L)) n P xs us →
        ws ≡ counts_of P rows ++ replicate (length us - length rows * P) 0
    held-counts us e =
        e ∙ ap (λ (first : ℕ). filled_left first n P xs us) held-passes
        ∙ (λ i. counts_of P (rows-held i) ++ replicate (length us - many i * P) 0)

    -- The answer of a list is that of the rows.
    pub held-listed : (M : ℕ) {f : Listed} → f ≡ listed_of (first_no (list_questions n P model xs L M)) (race_pairs (rows_in n xs) model) →
        f ≡ room_answer (race_pairs rows model) M
    held-listed M e = e ∙ asked-answer n P model xs L M held-passes ∙ ap (λ (l : List Row). room_answer (race_pairs l model) M) rows-held

    -- The list is left with the races of the rows.
    pub held-list : (list : List ℕ) {after : List ℕ} →
        after ≡ list_left (first_no (list_questions n P model xs L (length list))) (race_pairs (rows_in n xs) model) list →
        after ≡ room_left (race_pairs rows model) list
    held-list list e = e ∙ asked-left n P model xs L list held-passes ∙ ap (λ (l : List Row). room_left (race_pairs l model) list) rows-held
