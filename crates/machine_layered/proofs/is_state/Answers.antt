-- `machine_layered::is_state` meets its contract.
use Rattle.machine_layered.proofs.Laying.{no_model, no_limit, no_file, no-slice, no_first, by_views}
use Rattle.std.proofs.Common.{sym, ◌∙◌}
use Rattle.machine_state.specs.Answers.{header_of}
use Rattle.machine_layered.proofs.is_state.Goals as goal

pub returns-then-machine-ge-MODELS : goal.returns-then-machine-ge-MODELS
returns-then-machine-ge-MODELS c = let a = c.args in no_model (header_of a.machine) a.maps.now c.if-machine-ge-MODELS.true

pub returns-then-not-is_process_limit : goal.returns-then-not-is_process_limit
returns-then-not-is_process_limit c =
    let a = c.args in
    let h = header_of a.machine in
    let xs = a.maps.now in
    no_limit h xs c.if-machine-ge-MODELS.false (sym c.is_process_limit.ensures ∙ c.if-not-is_process_limit.true)

pub returns-then-machine-ge-FILES : goal.returns-then-machine-ge-FILES
returns-then-machine-ge-FILES c =
    let a = c.args in
    let h = header_of a.machine in
    let xs = a.maps.now in
    let limit = sym c.is_process_limit.ensures ∙ c.if-not-is_process_limit.false in
    no_file h xs c.if-machine-ge-MODELS.false limit c.if-machine-ge-FILES.true

pub returns-then-maps-space : goal.returns-then-maps-space
returns-then-maps-space c =
    let a = c.args in
    let h = header_of a.machine in
    let xs = a.maps.now in
    let limit = sym c.is_process_limit.ensures ∙ c.if-not-is_process_limit.false in
    no-slice h xs c.if-machine-ge-MODELS.false limit c.if-machine-ge-FILES.false c.if-maps-space.true

pub returns-then-not-is_published : goal.returns-then-not-is_published
returns-then-not-is_published c =
    let a = c.args in
    let h = header_of a.machine in
    let xs = a.maps.now in
    let limit = sym c.is_process_limit.ensures ∙ c.if-not-is_process_limit.false in
    no_first h xs c.if-machine-ge-MODELS.false limit c.if-machine-ge-FILES.false c.if-maps-space.false (sym c.is_published.ensures ∙ c.if-not-is_published.true)

pub returns : goal.returns
returns c =
    let a = c.args in
    let h = header_of a.machine in
    let xs = a.maps.now in
    let limit = sym c.is_process_limit.ensures ∙ c.if-not-is_process_limit.false in
    c.are_lawful.ensures
    ∙ by_views h xs c.if-machine-ge-MODELS.false limit c.if-machine-ge-FILES.false c.if-maps-space.false (sym c.is_published.ensures ∙ c.if-not-is_published.false)
