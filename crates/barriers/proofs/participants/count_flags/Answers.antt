-- `barriers::participants::count_flags` meets its contract.
use Rattle.std.proofs.Common.{rules, ℕ, ◌≡◌, ap, ◌∙◌, Bool, false, length, get_or}
use Rattle.rows.specs.Limits.{PROCESSES}
use Rattle.rows.specs.Counting.{count_below}
use Rattle.std.specs.List.{count_by}
use Rattle.barriers.proofs.Codes.{counted}
use Rattle.barriers.proofs.participants.count_flags.Goals as goal

pub returns : goal.returns
returns c =
    let some : c.count.result ≡ count_by (λ (flag : Bool). flag) c.args.flags = search rules in
    let size : length c.args.flags ≡ PROCESSES = search rules in
    some ∙ counted c.args.flags ∙ ap (λ (n : ℕ). count_below n (λ p. get_or c.args.flags p false)) size
