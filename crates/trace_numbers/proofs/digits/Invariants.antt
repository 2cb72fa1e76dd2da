-- `trace_numbers::digits` meets its contract.
use Rattle.trace_numbers.specs.Numbers.{number_below}
use Rattle.trace_numbers.proofs.Numbers.{number_from}
use Rattle.std.proofs.Common.{◌≤◌, ◌<◌, ◌≡◌, drop}
use Rattle.trace_numbers.proofs.digits.Given as goal

-- The number of s is that of the digits that are left, behind the value v of those before, and v is below the bound once a digit is read.
abbrev pub invariant-loop-b : goal.invariant-loop-b
invariant-loop-b l =
    (l.v ≤ l.below) × (0 < l.b-index → l.v < l.below) × (number_below l.below l.s ≡ number_from l.below l.v (drop l.b-index l.s))
