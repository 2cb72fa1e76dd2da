-- What the layered file asks when it is made and stepped.
use Rattle.std.specs.Prelude.{refl, Bool, ◌&&◌, ltb}
use Rattle.rows.specs.Limits.{MODELS}
use Rattle.rows.specs.Questions.{first_no, is_process_limit}
use Rattle.machine_meaning.specs.States.{Header, maps_length, lawful_state}
use Rattle.machine_meaning.specs.Steps.{making_questions, step_of}
use Rattle.machine_state.specs.Files.{AsksMaking, AsksState}

-- The model is one of the models, and the process limit one of the process limits.
abbrev pub has_limits : Header → Bool
has_limits h = ltb h.model MODELS && is_process_limit h.processes

-- Making asks for space for every map, then for the limits, then for the file.
pub asks-making : AsksMaking making_questions maps_length has_limits
unfolding making_questions first_no
asks-making h n = refl

-- A step of an unlawful state is refused by question 13.
pub asks-state : AsksState lawful_state step_of
unfolding step_of first_no
asks-state h xs r number out e = rw e
