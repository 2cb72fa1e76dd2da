-- `trace_fields::judge_fields` meets its contract.
use Rattle.std.proofs.lemmas.Result.{err_from_is_err_and}
use Rattle.trace_fields.proofs.Judging.{Known, Filled, no_kind, no_filled, no_number, no_end, kept}
use Rattle.rows.proofs.Bools.{refused, passed}
use Rattle.std.proofs.Common.{arith, not, ap}
use Rattle.trace_fields.proofs.judge_fields.Goals as goal
use Rattle.trace_fields.proofs.judge_fields.Goals.{After-used_by-used, Else-not-filled_as_used}

-- the record where its kind is known
abbrev known : (c : After-used_by-used) → Known
known c =
    record {
      limit = c.args.process_limit;
      text = c.args.text.now;
      spans = c.args.spans;
      of = c.in-Some.kind;
      kind = c.number-kind.result;
      used = c.used_by-used.result;
      number-is = c.number-kind.ensures;
      kind-is = c.in-Some.ensures;
      used-is = c.used_by-used.ensures;
    }

-- the record where its fields are filled as used
abbrev filled : (c : Else-not-filled_as_used) → Filled
filled c =
    record {
      of = record {
        limit = c.args.process_limit;
        text = c.args.text.now;
        spans = c.args.spans;
        of = c.in-Some.kind;
        kind = c.number-kind.result;
        used = c.used_by-used.result;
        number-is = c.number-kind.ensures;
        kind-is = c.in-Some.ensures;
        used-is = c.used_by-used.ensures;
      };
      filled = passed c.filled_as_used.ensures (ap not c.if-not-filled_as_used.false);
    }

pub returns-in_default : goal.returns-in_default
returns-in_default c = no_kind _ _ _ c.in_default.ensures

pub returns-then-not-filled_as_used : goal.returns-then-not-filled_as_used
returns-then-not-filled_as_used c = no_filled (known (goal.at.returns-then-not-filled_as_used c).After-used_by-used) (refused c.filled_as_used.ensures (ap not c.if-not-filled_as_used.true))

pub returns-in_err-row : goal.returns-in_err-row
returns-in_err-row c =
    let p = err_from_is_err_and c.from_residual.result c.from_residual.ensures.1 in
    rw (p.1, p.2) (no_number (filled (goal.at.returns-in_err-row c).Else-not-filled_as_used) c.in_err-row.ensures)

pub returns-then-row : goal.returns-then-row
returns-then-row c = no_end (filled (goal.at.returns-then-row c).Else-not-filled_as_used) c.in_ok-row.ensures c.if-row.true

pub returns : goal.returns
returns c = kept (filled (goal.at.returns c).Else-not-filled_as_used) c.in_ok-row.ensures (omega arith) c.if-row.false
