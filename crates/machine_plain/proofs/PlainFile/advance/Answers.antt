-- `machine_plain::PlainFile::advance` meets its contract.
use Rattle.std.proofs.Common.{arith}
use Rattle.std.proofs.lemmas.Grind.{common_steps}
use Rattle.machine_state.specs.Answers.{header_of}
use Rattle.machine_plain.proofs.Plainly.{map_law, plain_in_lem, map_length, plain-asked, plain-read, plain-write, plain_other}
use Rattle.machine_plain.proofs.PlainFile.advance.Goals as goal

pub returns-in_err-ask_row : goal.returns-in_err-ask_row
returns-in_err-ask_row c =
    let a = c.args in
    let stop =
    plain-asked (header_of a.plain) a.map.now c.requires a.row a.number a.out.now c.in_err-ask_row.field-0.0 c.in_err-ask_row.ensures in
    grind (arith, common_steps)

pub slice_bounds-list_range-end : goal.slice_bounds-list_range-end
slice_bounds-list_range-end c = plain_in_lem (header_of c.args.plain) c.args.map.now c.requires

pub slice_bounds-list_range-end-in-0 : goal.slice_bounds-list_range-end-in-0
slice_bounds-list_range-end-in-0 c = map_length (header_of c.args.plain) c.args.map.now c.requires

pub list_range-requires : goal.list_range-requires
list_range-requires c = map_law (header_of c.args.plain) c.args.map.now c.requires

pub slice_bounds-write-end : goal.slice_bounds-write-end
slice_bounds-write-end c = plain_in_lem (header_of c.args.plain) c.args.map.now c.requires

pub slice_bounds-write-end-in-1 : goal.slice_bounds-write-end-in-1
slice_bounds-write-end-in-1 c = map_length (header_of c.args.plain) c.args.map.now c.requires

pub write-written-requires : goal.write-written-requires
write-written-requires c = map_law (header_of c.args.plain) c.args.map.now c.requires

pub returns-in-0 : goal.returns-in-0
returns-in-0 c =
    let a = c.args in
    let done =
    plain-read (header_of a.plain) a.map.now c.requires a.row a.number a.out.now c.in_ok-ask_row.ensures c.in-0.is
    c.list_range.ensures.answer c.list_range.ensures.left in
    grind (arith, common_steps)

pub returns-in-1 : goal.returns-in-1
returns-in-1 c =
    let a = c.args in
    let done =
    plain-write (header_of a.plain) a.map.now c.requires a.row a.number a.out.now c.in_ok-ask_row.ensures c.in-1.is
    c.write-written.ensures.answer c.write-written.ensures.left in
    grind (arith, common_steps)

pub returns-in_default : goal.returns-in_default
returns-in_default c =
    let a = c.args in
    plain_other (header_of a.plain) a.map.now c.requires a.row a.number a.out.now c.in_ok-ask_row.ensures
    (λ e. omega arith) (λ e. omega arith)
