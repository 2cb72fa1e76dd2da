-- `races::fill` meets its contract.
use Rattle.std.proofs.Common.{ℕ, not, ap, subst, length}
use Rattle.rows.specs.Refusals.{Asks}
use Rattle.rows.proofs.Bools.{refused, passed}
use Rattle.races.proofs.Whole.{no_model, same_first}
use Rattle.races.proofs.fill.Goals as goal

pub returns-then-not-slices_fit : goal.returns-then-not-slices_fit
returns-then-not-slices_fit c =
    let a = c.args in
    let short = refused c.slices_fit.ensures (ap not c.if-not-slices_fit.true) in
    let first = no_model a.n a.process_limit a.model a.rows.now a.counts.now c.if-model-ge-MODELS.true in
    record { answer = rw (first, short); left = rw (first, short) }

pub returns-then-model-ge-MODELS : goal.returns-then-model-ge-MODELS
returns-then-model-ge-MODELS c =
    let a = c.args in
    let fits = passed c.slices_fit.ensures (ap not c.if-not-slices_fit.false) in
    let first = no_model a.n a.process_limit a.model a.rows.now a.counts.now c.if-model-ge-MODELS.true in
    record { answer = rw (first, fits); left = rw (first, fits) }

pub returns : goal.returns
returns c =
    let a = c.args in
    let same = same_first a.n a.process_limit a.model a.rows.now (length a.counts.now) c.if-model-ge-MODELS.false in
    record { answer = subst (λ (k : ℕ). Asks k c.fill_counts.result) same c.fill_counts.ensures.answer; left = rw same at c.fill_counts.ensures.left }
