-- `join_reading::read_text` meets its contract.
use Rattle.std.proofs.Common.{length, ◌∙◌}
use Rattle.csv_records.specs.Reading.{records}
use Rattle.join_meaning.specs.Files.{read_file}
use Rattle.join_reading.proofs.Judging.{read_unasked, roomy, cleared-where}
use Rattle.join_reading.proofs.read_text.Goals as goal

pub returns-clause-answer : goal.returns-clause-answer
unfolding read_file
returns-clause-answer c =
    let all = records c.args.text.now (length c.args.text.now) in
    let same = roomy _ c.args.call.header c.args.call.row_limit (length c.args.rows.now) all c.requires.room c.requires.few
    ∙ read_unasked c.args.call.row_limit c.args.call.process_limit _ c.args.call.header all in
    rw (c.requires.whole, same) at c.read_text.ensures.answer

pub returns-clause-held : goal.returns-clause-held
unfolding read_file
returns-clause-held c =
    let all = records c.args.text.now (length c.args.text.now) in
    let same = roomy _ c.args.call.header c.args.call.row_limit (length c.args.rows.now) all c.requires.room c.requires.few
    ∙ read_unasked c.args.call.row_limit c.args.call.process_limit _ c.args.call.header all in
    rw (c.requires.whole, same) at c.read_text.ensures.held

pub returns-clause-cleared : goal.returns-clause-cleared
returns-clause-cleared c =
    cleared-where c.args.call.row_limit c.args.rows.now _ c.read_text.result c.requires.room c.requires.few c.read_text.ensures.answer c.read_text.ensures.left
