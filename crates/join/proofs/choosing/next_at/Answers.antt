-- `join::choosing::next_at` meets its contract.
use Rattle.std.proofs.Common.{rules, ◌≡◌, ap, ◌∙◌, length}
use Rattle.csv_records.specs.Reading.{without, whole_record, End, reading_of, read_at}
use Rattle.join.specs.Choosing.{next_row}
use Rattle.join.proofs.Choices.{next-none, next-unread, next-record}
use Rattle.join.proofs.choosing.next_at.Goals as goal

pub returns-in_default : goal.returns-in_default
returns-in_default c =
    let a = c.args in
    let ended : without End ≡ reading_of (read_at a.text.now a.at (length a.text.now)) = search rules in
    next-none a.process_limit a.text.now a.at ended (λ z. cc)

pub returns-in_default-2 : goal.returns-in_default-2
returns-in_default-2 c =
    let a = c.args in
    next-unread a.process_limit a.text.now a.at c.in_default.field-0 (rw c.in_default.is at c.read_record.ensures)

pub returns-in_default-judge_fields : goal.returns-in_default-judge_fields
unfolding next_row
returns-in_default-judge_fields c =
    let a = c.args in
    let r = c.in-Ok-Some.record in
    let read : whole_record r.count r.spans r.end r.next ≡ reading_of (read_at a.text.now a.at (length a.text.now)) = search rules in
    ap (next_row a.at r.end r.next) c.in_default-judge_fields.ensures ∙ next-record a.process_limit a.text.now a.at read

pub returns : goal.returns
unfolding next_row
returns c =
    let a = c.args in
    let r = c.in-Ok-Some.record in
    let read : whole_record r.count r.spans r.end r.next ≡ reading_of (read_at a.text.now a.at (length a.text.now)) = search rules in
    ap (next_row a.at r.end r.next) c.in-Ok.ensures ∙ next-record a.process_limit a.text.now a.at read
