-- `checker::put_models` meets its contract.
use Rattle.std.proofs.Common.{ℕ, ◌≤◌, ◌≡◌, arith, sym, ap, ◌∙◌, List, [], ◌∷◌, length, take, subst, add-one, take-suc, length-take-le}
use lib.ListN.{get_or}
use Rattle.models.specs.declared.Model.{Model}
use Rattle.models.specs.declared.Model.TheVariants.{Posix, Commit, Session, MpiIo}
use Rattle.models.specs.Models.{model_number}
use Rattle.rows.specs.Rows.{rows_in}
use Rattle.checker.proofs.Verdicts.{passes-other}
use Rattle.checker.proofs.Reports.{Sofar, heading_laid, line_room, line_laid, number-low, lines_laid}
use Rattle.checker.proofs.put_models.Goals as goal

-- The models by their numbers.
abbrev all : List Model
all = Posix ∷ (Commit ∷ (Session ∷ (MpiIo ∷ [])))

-- The first models are as many as their count.
few : (i : ℕ) → i ≤ 3 → length (take i all) ≤ 3
few i h = omega (arith, length-take-le i all (omega arith))

pub loop-model-init : goal.loop-model-init
loop-model-init c = heading_laid c.args.out.now (rows_in c.args.n c.args.rows.now) c.requires.report_room (c.put-at.ensures.answer, c.put-at.ensures.left)

pub put_model-at-requires : goal.put_model-at-requires
put_model-at-requires c =
    let a = c.args in
    let i = c.loop-model.model-index in
    record {
      line_room = line_room _ _ c.loop-model.invariant c.requires.report_room (few i (omega (arith, c.loop-model-test.true)));
      asked =
          passes-other a.n 8 0 (model_number (get_or all i Posix)) a.rows.now (omega arith) (number-low (get_or all i Posix)) c.requires.asked
          c.loop-model.auto.counts;
    }

pub loop-model-preserved : goal.loop-model-preserved
loop-model-preserved c =
    let a = c.args in
    let i = c.loop-model.model-index in
    let within : i ≤ 3 = omega (arith, c.loop-model-test.true) in
    let laid = line_laid _ _ c.loop-model.invariant c.requires.report_room (few i within) (get_or all i Posix) (c.put_model-at.ensures.answer, c.put_model-at.ensures.out_after) in
    subst (λ (ms : List Model). Sofar a.out.now (rows_in a.n a.rows.now) ms c.put_model-at.result c.put_model-at.new.out)
    (sym (ap (λ (k : ℕ). take k all) (add-one i) ∙ take-suc all i Posix c.loop-model-test.true)) laid

pub returns : goal.returns
returns c =
    let a = c.args in
    let end : c.loop-model.model-index ≡ 4 = omega (arith, c.loop-model.auto.model-index-end, c.loop-model-test.false) in
    let laid = subst (λ (k : ℕ). Sofar a.out.now (rows_in a.n a.rows.now) (take k all) c.loop-model.at c.loop-model.out) end c.loop-model.invariant in
    let both = lines_laid _ laid in
    record { answer = both.0; out_after = both.1 }
