-- `ranges::overlap` meets its contract.
use Rattle.std.proofs.Common.{ℕ, ◌-◌, ap, ◌∙◌, cond}
use lib.Dec.{leb}
use Rattle.ranges.proofs.Differences.{told}
use Rattle.ranges.proofs.overlap.Goals as goal

pub returns : goal.returns
returns c =
    ap (λ (q : ℕ). 1 - q) c.at_least.ensures
    ∙ (λ i. 1 - cond (leb (c.smaller-end.ensures i) (c.larger-start.ensures i)) 1 0)
    ∙ told c.args.a c.args.a_length c.args.b c.args.b_length
