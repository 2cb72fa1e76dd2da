-- `extents_refresh::meets` meets its contract.
use Rattle.std.proofs.Common.{◌<◌, arith, length}
use Rattle.extents_meaning.specs.Maps.{runs}
use Rattle.extents_meaning.proofs.Trips.{lawful-map}
use Rattle.extents_map.proofs.Places.{count-some, count_none}
use Rattle.extents_refresh.proofs.Clearing.{first-apart}
use Rattle.extents_refresh.proofs.meets.Goals as goal
use Rattle.extents_refresh.proofs.meets.Goals.{Else-numbers-i-eq0}

-- there is a run i
here : (c : Else-numbers-i-eq0) → c.args.i < length (runs c.args.map.numbers.now)
here c = count-some c.args.map.numbers.now c.args.map.lawful c.args.i c.if-numbers-i-eq0.false

pub returns-then-i-eq0 : goal.returns-then-i-eq0
returns-then-i-eq0 c _ h = first-apart (runs c.args.map.numbers.now) (lawful-map c.args.map.numbers.now c.args.map.lawful).lawful-runs c.if-i-eq0.true h

pub returns-then-numbers-i : goal.returns-then-numbers-i
returns-then-numbers-i c _ h = absurd (omega (arith, h, c.if-numbers-i.true, (lawful-map c.args.map.numbers.now c.args.map.lawful).fit))

pub returns-then-numbers-i-eq0 : goal.returns-then-numbers-i-eq0
returns-then-numbers-i-eq0 c _ h = absurd (omega (arith, h, count_none c.args.map.numbers.now c.args.map.lawful c.args.i c.if-numbers-i-eq0.true))

pub end_at-requires : goal.end_at-requires
end_at-requires c = omega (arith, here (goal.at.end_at-requires c).Else-numbers-i-eq0)

pub start_at-requires : goal.start_at-requires
start_at-requires c = here (goal.at.start_at-requires c).Else-numbers-i-eq0

pub cell_at-requires : goal.cell_at-requires
cell_at-requires c = omega (arith, here (goal.at.cell_at-requires c).Else-numbers-i-eq0)

pub cell_at-requires-2 : goal.cell_at-requires-2
cell_at-requires-2 c = here (goal.at.cell_at-requires-2 c).Else-numbers-i-eq0
