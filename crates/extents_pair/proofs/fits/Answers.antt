-- `extents_pair::fits` meets its contract.
use Rattle.std.proofs.Common.{ℕ, ◌-◌, ◌≤◌, arith, ◌≡◌, sym, true, le-leb}
use lib.Dec.{leb}
use Rattle.extents_meaning.specs.Runs.{runs_of}
use Rattle.extents_pair.proofs.fits.Goals as goal

-- A number up to k is within a limit that k is within.
within : {n k limit : ℕ} → n ≤ k → k ≤ limit → true ≡ leb n limit
within {n} {k} {limit} h l = sym (le-leb n limit (omega arith))

pub returns-then-most_runs-pair : goal.returns-then-most_runs-pair
unfolding runs_of
returns-then-most_runs-pair g c =
    let a = c.args in
    within (c.most_runs.ensures a.range.start (a.range.end - a.range.start) a.range.cell) c.if-most_runs-pair.true
