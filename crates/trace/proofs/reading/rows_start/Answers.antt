-- `trace::reading::rows_start` meets its contract.
use Rattle.std.proofs.Common.{Some, None, Ok, Err, sym, ne_eqb}
use Rattle.csv_records.specs.declared.Unread.TheVariants as unread
use Rattle.csv_records.specs.Reading.{read_at}
use Rattle.csv_records.proofs.Answers.{tells}
use Rattle.trace.proofs.Turns.{headed_first, none-first, malformed-first, limit-first}
use Rattle.trace.proofs.reading.rows_start.Goals as goal

pub returns-then-is_header-clause-asked : goal.returns-then-is_header-clause-asked
returns-then-is_header-clause-asked c =
    let e = rw c.in-Ok-Some.field-0-is at c.in-Ok-Some.ensures in
    let t = tells (read_at c.args.text.now 0 c.args.call.byte_limit) (Ok (Some c.in-Ok-Some.record)) e in
    rw (ne_eqb c.args.call.header 0 c.if-call-eq0.false) (rw c.if-is_header.true at (headed_first _ _ t c.is_header.ensures).0)

pub returns-then-is_header-clause-start : goal.returns-then-is_header-clause-start
returns-then-is_header-clause-start c =
    let e = rw c.in-Ok-Some.field-0-is at c.in-Ok-Some.ensures in
    let t = tells (read_at c.args.text.now 0 c.args.call.byte_limit) (Ok (Some c.in-Ok-Some.record)) e in
    rw (ne_eqb c.args.call.header 0 c.if-call-eq0.false) (sym (headed_first _ _ t c.is_header.ensures).1)

pub returns-else-is_header-clause-asked : goal.returns-else-is_header-clause-asked
returns-else-is_header-clause-asked c =
    let e = rw c.in-Ok-Some.field-0-is at c.in-Ok-Some.ensures in
    let t = tells (read_at c.args.text.now 0 c.args.call.byte_limit) (Ok (Some c.in-Ok-Some.record)) e in
    rw (ne_eqb c.args.call.header 0 c.if-call-eq0.false) (sym (rw c.if-is_header.false at (headed_first _ _ t c.is_header.ensures).0))

pub returns-in-Err-Malformed-clause-asked : goal.returns-in-Err-Malformed-clause-asked
returns-in-Err-Malformed-clause-asked c =
    let e = rw c.in-Err-Malformed.field-0-is at c.in-Err-Malformed.ensures in
    rw (ne_eqb c.args.call.header 0 c.if-call-eq0.false)
    (malformed-first _ (tells (read_at c.args.text.now 0 c.args.call.byte_limit) (Err unread.Malformed) e))

pub returns-in-Ok-None-clause-asked : goal.returns-in-Ok-None-clause-asked
returns-in-Ok-None-clause-asked c =
    let e = rw c.in-Ok-None.field-0-is at c.in-Ok-None.ensures in
    rw (ne_eqb c.args.call.header 0 c.if-call-eq0.false)
    (none-first _ (tells (read_at c.args.text.now 0 c.args.call.byte_limit) (Ok None) e))

pub returns-in-Err-Limit-clause-asked : goal.returns-in-Err-Limit-clause-asked
returns-in-Err-Limit-clause-asked c =
    let e = rw c.in-Err-Limit.field-0-is at c.in-Err-Limit.ensures in
    rw (ne_eqb c.args.call.header 0 c.if-call-eq0.false)
    (limit-first _ (tells (read_at c.args.text.now 0 c.args.call.byte_limit) (Err unread.Limit) e))
