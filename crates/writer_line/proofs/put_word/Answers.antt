-- `writer_line::put_word` meets its contract.
use Rattle.std.proofs.Common.{[], ap, ◌∙◌, get_or}
use Rattle.print.specs.Puts.{put_in, put_end}
use Rattle.trace_fields.specs.Rows.{kind_words}
use Rattle.writer_line.proofs.Putting.{content-laid}
use Rattle.writer_line.proofs.put_word.Goals as goal

pub returns : goal.returns
returns c =
    let a = c.args in
    let mid = c.put-word in
    let both = content-laid a.out.now a.at (get_or kind_words a.«kind» []) c.requires (mid.ensures.answer, mid.ensures.left) (
      c.put.ensures.answer ∙ ap (put_end mid.new.out mid.result) c.word_of.ensures.word,
      c.put.ensures.left ∙ ap (put_in mid.new.out mid.result) c.word_of.ensures.word,
    ) in
    record { answer = both.0; left = both.1 }
