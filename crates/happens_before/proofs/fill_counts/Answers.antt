-- `happens_before::fill_counts` meets its contract.
use Rattle.std.proofs.Common.{ℕ, ◌+◌, ◌*◌, ◌≤◌, ◌≡◌, sym, ap, ◌∙◌, length, add-one, arith}
use Rattle.happens_before.specs.Clock.{with_counts, filled_row}
use Rattle.rows.proofs.Products.{block_before}
use Rattle.happens_before.proofs.Filling.{filled_to, none_filled, all-filled, row-filled, row-empty, cells-small}
use Rattle.happens_before.proofs.Asking.{asked}
use Rattle.happens_before.proofs.fill_counts.Goals as goal

pub new-pass-requires : goal.new-pass-requires
new-pass-requires c =
    let t = asked c.args.n c.args.process_limit c.args.rows.now (length c.args.counts.now) c.in_ok-ask_rows.ensures in
    t.few-processes

pub loop-init : goal.loop-init
loop-init c =
    record {
      at_row = c.new-pass.ensures.first;
      same_rows = c.new-pass.ensures.same_rows;
      same_processes = c.new-pass.ensures.same_processes;
      passed =
          record {
            size = c.fill.ensures.len;
            filled = c.fill.ensures.after (λ y e. e) ∙ none_filled c.args.n c.args.process_limit (length c.args.counts.now) c.args.rows.now;
          };
    }

pub fill_row-requires : goal.fill_row-requires
fill_row-requires c =
    let a = c.args in
    let l = c.loop.invariant in
    let h = c.loop-test.true in
    let s = length a.counts.now in
    let t = asked a.n a.process_limit a.rows.now s c.in_ok-ask_rows.ensures in
    let e = l.passed.filled in
    let before = block_before a.process_limit h in
    let room : c.loop.counter * a.process_limit + a.process_limit ≤ s = omega (arith, before, t.counts-fit) in record {
      row_inside = rw (l.at_row, l.same_rows) (omega (arith, t.rows_have_room, h));
      counts_inside = rw (l.at_row, l.same_processes) (omega (arith, room, l.passed.size));
      process_below = rw (l.at_row, l.same_rows, l.same_processes) (t.below c.loop.counter h);
      zero_row = rw (l.at_row, l.same_processes) (λ p q. rw e (row-empty a.n a.process_limit s a.rows.now c.loop.counter h room p q));
      small_counts =
          rw (l.at_row, l.same_processes)
          (λ k p i q. rw e (cells-small a.n a.process_limit s a.rows.now c.loop.counter h room t.few-rows k p i q));
    }

pub note_row-requires : goal.note_row-requires
note_row-requires c =
    let a = c.args in
    let l = c.loop.invariant in
    let h = c.loop-test.true in
    let t = asked a.n a.process_limit a.rows.now (length a.counts.now) c.in_ok-ask_rows.ensures in record {
      row_inside = rw (l.at_row, l.same_rows) (omega (arith, t.rows_have_room, h));
      few = omega (arith, l.at_row, t.few-rows, h);
      process_below = rw (l.at_row, l.same_rows) (omega (arith, t.few-processes, t.below c.loop.counter h));
    }

pub loop-preserved : goal.loop-preserved
loop-preserved c =
    let a = c.args in
    let l = c.loop.invariant in
    let h = c.loop-test.true in
    let s = length a.counts.now in
    let t = asked a.n a.process_limit a.rows.now s c.in_ok-ask_rows.ensures in
    let before = block_before a.process_limit h in
    let room : c.loop.counter * a.process_limit + a.process_limit ≤ s = omega (arith, before, t.counts-fit) in record {
      at_row = c.note_row.ensures.next ∙ ap (λ (k : ℕ). k + 1) l.at_row;
      same_rows = cc;
      same_processes = c.note_row.ensures.same_processes ∙ l.same_processes;
      passed =
          record {
            size = c.fill_row.auto.counts ∙ l.passed.size;
            filled =
                c.fill_row.ensures
                ∙ (λ i. with_counts (l.same_processes i) (l.passed.filled i) (l.at_row i)
                (filled_row (l.same_processes i) (l.same_rows i) (l.passed.filled i) (l.at_row i)))
                ∙ row-filled a.n a.process_limit s a.rows.now c.loop.counter h room
                ∙ ap (filled_to a.n a.process_limit s a.rows.now) (sym (add-one c.loop.counter));
          };
    }

pub returns-clause-left : goal.returns-clause-left
returns-clause-left c =
    let a = c.args in
    let l = c.loop.invariant in
    let end : c.loop.counter ≡ a.n = omega (arith, c.loop.auto.counter-end, c.loop-test.false) in
    rw c.in_ok-ask_rows.ensures
    (l.passed.filled ∙ ap (filled_to a.n a.process_limit (length a.counts.now) a.rows.now) end
    ∙ all-filled a.n a.process_limit (length a.counts.now) a.rows.now)
