-- `machine_plain::is_plain` meets its contract.
use Rattle.std.proofs.Common.{sym, ◌∙◌}
use Rattle.machine_state.specs.Answers.{header_of}
use Rattle.machine_plain.proofs.Plainly.{no_limit, no_file, no_room, one_map}
use Rattle.machine_plain.proofs.is_plain.Goals as goal

pub returns-then-not-is_process_limit : goal.returns-then-not-is_process_limit
returns-then-not-is_process_limit c =
    let a = c.args in
    no_limit (header_of a.plain) a.map.now (sym c.is_process_limit.ensures ∙ c.if-not-is_process_limit.true)

pub returns-then-plain-ge-FILES : goal.returns-then-plain-ge-FILES
returns-then-plain-ge-FILES c =
    let a = c.args in
    no_file (header_of a.plain) a.map.now (sym c.is_process_limit.ensures ∙ c.if-not-is_process_limit.false) c.if-plain-ge-FILES.true

pub returns-then-map-space : goal.returns-then-map-space
returns-then-map-space c =
    let a = c.args in
    no_room (header_of a.plain) a.map.now (sym c.is_process_limit.ensures ∙ c.if-not-is_process_limit.false) c.if-plain-ge-FILES.false c.if-map-space.true

pub returns : goal.returns
returns c =
    let a = c.args in
    c.is_published.ensures ∙ one_map (header_of a.plain) a.map.now (sym c.is_process_limit.ensures ∙ c.if-not-is_process_limit.false) c.if-plain-ge-FILES.false
    c.if-map-space.false
