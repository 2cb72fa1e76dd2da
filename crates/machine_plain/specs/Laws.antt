-- What the plain file asks when it is made and stepped.
use Rattle.std.specs.Prelude.{ℕ, ◌*◌, Bool, refl}
use Rattle.rows.specs.Questions.{first_no, is_process_limit}
use Rattle.machine_meaning.specs.States.{Header, lawful_plain}
use Rattle.machine_meaning.specs.Steps.{plain_making_questions, plain_step_of}
use Rattle.machine_state.specs.Files.{AsksMaking, AsksState}

-- How many numbers the map takes.
abbrev pub map_numbers : Header → ℕ
map_numbers h = 4 * h.space

-- The process limit is one of the process limits.
abbrev pub has_limits : Header → Bool
has_limits h = is_process_limit h.processes

-- Making asks for space for the map, then for the limit, then for the file.
pub asks-making : AsksMaking plain_making_questions map_numbers has_limits
unfolding plain_making_questions first_no
asks-making h n = refl

-- A step of an unlawful plain file is refused by question 13.
pub asks-state : AsksState lawful_plain plain_step_of
unfolding plain_step_of first_no
asks-state h xs r number out e = rw e
