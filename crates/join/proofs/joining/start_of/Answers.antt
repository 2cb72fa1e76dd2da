-- `join::joining::start_of` meets its contract.
use Rattle.std.proofs.Common.{rules, ◌≡◌, length}
use Rattle.csv_records.specs.Reading.{without, whole_record, End, reading_of, read_at}
use Rattle.join.proofs.Choices.{start-behind, start-unread}
use Rattle.join.proofs.joining.start_of.Goals as goal

pub returns-in-Ok-Some : goal.returns-in-Ok-Some
returns-in-Ok-Some c =
    let a = c.args in
    let r = c.in-Ok-Some.record in
    let read : whole_record r.count r.spans r.end r.next ≡ reading_of (read_at a.text.now 0 (length a.text.now)) = search rules in
    start-behind a.header a.text.now c.if-header-eq0.false read

pub returns-in_default : goal.returns-in_default
returns-in_default c =
    let a = c.args in
    let ended : without End ≡ reading_of (read_at a.text.now 0 (length a.text.now)) = search rules in
    start-behind a.header a.text.now c.if-header-eq0.false ended

pub returns-in_default-2 : goal.returns-in_default-2
returns-in_default-2 c =
    let a = c.args in
    start-unread a.header a.text.now c.if-header-eq0.false c.in_default.field-0 (rw c.in_default.is at c.read_record.ensures)
