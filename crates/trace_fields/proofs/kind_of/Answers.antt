-- `trace_fields::kind_of` meets its contract.
use Rattle.std.proofs.Common.{◌∙◌, ap}
use Rattle.csv_content.specs.Content.{content_of, same_bytes}
use Rattle.trace_fields.proofs.Words.{next_word, word_here, no_word}
use Rattle.trace_fields.proofs.kind_of.Goals as goal

pub returns-then-is_word : goal.returns-then-is_word
returns-then-is_word c =
    let content = content_of c.args.text.now c.args.span in
    word_here content c.loop-kind.kind-index c.loop-kind-test.true c.loop-kind.invariant
    (c.is_word.ensures ∙ ap (same_bytes content) c.word.ensures) c.if-is_word.true

pub loop-kind-preserved : goal.loop-kind-preserved
loop-kind-preserved c =
    let content = content_of c.args.text.now c.args.span in
    next_word content c.loop-kind.kind-index c.loop-kind-test.true c.loop-kind.invariant
    (c.is_word.ensures ∙ ap (same_bytes content) c.word.ensures) c.if-is_word.false

pub returns : goal.returns
returns c =
    no_word (content_of c.args.text.now c.args.span) c.loop-kind.kind-index c.loop-kind-test.false c.loop-kind.auto.kind-index-end c.loop-kind.invariant
