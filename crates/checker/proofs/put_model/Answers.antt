-- `checker::put_model` meets its contract.
use Rattle.std.proofs.Common.{length}
use Rattle.models.specs.Models.{model_number}
use Rattle.checker.specs.Report.{model_word}
use Rattle.checker.proofs.Reports.{word-most, free-line, race-room, race-line}
use Rattle.checker.proofs.put_model.Goals as goal

pub put_pair-requires : goal.put_pair-requires
put_pair-requires c =
    let a = c.args in
    race-room a.out.now a.at (model_word a.model) a.rows.now a.n (model_number a.model) (length a.counts.now)
    ((c.requires.line_room, word-most a.model), c.requires.asked)
    (rw c.word.ensures at c.put-behind.ensures.answer, rw c.word.ensures at c.put-behind.ensures.left)
    (c.put-words.ensures.answer, c.put-words.ensures.left)

pub returns-in-Ok-None : goal.returns-in-Ok-None
returns-in-Ok-None c =
    let a = c.args in
    let verdict = rw c.in-Ok-None.field-0-is at c.in-Ok-None.ensures.answer in
    let both = free-line a.out.now a.at (model_word a.model) a.rows.now a.n (model_number a.model) (length a.counts.now)
    ((c.requires.line_room, word-most a.model), c.requires.asked)
    (rw c.word.ensures at c.put-behind.ensures.answer, rw c.word.ensures at c.put-behind.ensures.left)
    (rw c.number.ensures at verdict) (c.put.ensures.answer, c.put.ensures.left) in
    record { answer = both.0; out_after = both.1 }

pub returns-in-Ok-Some : goal.returns-in-Ok-Some
returns-in-Ok-Some c =
    let a = c.args in
    let verdict = rw c.in-Ok-Some.field-0-is at c.in-Ok-Some.ensures.answer in
    let both = race-line a.out.now a.at (model_word a.model) a.rows.now a.n (model_number a.model) (length a.counts.now)
    ((c.requires.line_room, word-most a.model), c.requires.asked)
    (rw c.word.ensures at c.put-behind.ensures.answer, rw c.word.ensures at c.put-behind.ensures.left)
    (c.put-words.ensures.answer, c.put-words.ensures.left)
    (rw c.number.ensures at verdict) (c.put_pair.ensures.answer, c.put_pair.ensures.out_after) in
    record { answer = both.0; out_after = both.1 }
