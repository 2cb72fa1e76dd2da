-- `trace_fields::kind_of` meets its contract.
use Rattle.std.proofs.Common.{◌≡◌, ◌+◌, drop}
use Rattle.csv_content.specs.Content.{content_of}
use Rattle.trace_fields.specs.Rows.{kind_words, word_of, kind_of}
use Rattle.trace_fields.proofs.kind_of.Given as goal

-- The words that are left decide.
abbrev pub invariant-loop-kind : goal.invariant-loop-kind
invariant-loop-kind l =
    kind_of (content_of l.text l.span) ≡ word_of (drop l.kind-index kind_words) (content_of l.text l.span) + l.kind-index
