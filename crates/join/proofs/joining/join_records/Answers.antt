-- `join::joining::join_records` meets its contract.
use Rattle.std.proofs.Common.{rules, arith, Bool, ◌≡◌, refl, ap, ◌∙◌}
use Rattle.std.proofs.lemmas.Result.{err_from_is_err_and}
use Rattle.rows.specs.Questions.{first_no}
use denote.Enum.Bare.{sameb}
use lib.Dec.{eqb}
use Rattle.barriers.specs.Tables.{noted_stand, noted_arrival}
use Rattle.join.specs.contracts.choosing.File.{the_type}
use Rattle.join.specs.declared.choosing.File.{File}
use Rattle.join.specs.declared.choosing.File.TheVariants.{First, Second}
use Rattle.join.specs.Answers.{told_choice, told_next, file_number}
use Rattle.join.specs.Choosing.{FIRST, SECOND, Take, Over, next_in, turn_by, stepped}
use Rattle.join.specs.Taking.{table_takes, table_taken}
use Rattle.join.proofs.Going.{begin, fits_kept, refusal, over, stuck, row-no, room, goes_on_lem}
use Rattle.join.proofs.joining.join_records.Goals as goal

-- The first file's number tells that a file is the first, and the second's that it is the second.
is_first : (f : File) → sameb the_type f First ≡ eqb (file_number f) FIRST
is_first First = refl
is_first Second = refl

is_second : (f : File) → sameb the_type f Second ≡ eqb (file_number f) SECOND
is_second First = refl
is_second Second = refl

pub loop-choice-init : goal.loop-choice-init
loop-choice-init c =
    let a = c.args in
    let t = c.new-tables.ensures in (
      rw (t.messages, t.stands, t.arrivals, t.processes)
          (begin a.call.row_limit a.call.process_limit a.call.first_header a.call.second_header a.first.now a.second.now a.rows.now a.parts.now
          c.requires.first_read c.requires.second_read c.requires.fits.few-processes c.requires.told_processes
          (c.next_at-a.ensures ∙ ap (next_in a.call.process_limit a.first.now) c.start_of.ensures)
          (c.next_at-b.ensures ∙ ap (next_in a.call.process_limit a.second.now) c.start_of-2.ensures)),
      refl,
      refl,
    )

pub returns-in_err-choice : goal.returns-in_err-choice
returns-in_err-choice c =
    let a = c.args in
    let l = c.loop-choice in
    let p = err_from_is_err_and c.from_residual.result c.from_residual.ensures.1 in
    let both = refusal a.rows.now l.rows a.parts.now l.parts (stuck l.invariant.0 c.requires.fits.few-processes c.in_err-choice.ensures.turn refl) in
    record { answer = rw (p.1, p.2, c.in_err-choice.ensures.stuck) both.0; held = both.1 }

pub take-requires : goal.take-requires
take-requires c = omega (arith, c.loop-choice.invariant.0.few, c.requires.fits.few-rows)

pub returns-in_err-take : goal.returns-in_err-take
returns-in_err-take c =
    let l = c.loop-choice in
    let t = l.tables in
    let turn : Take (told_choice c.in-Some.choice) ≡ turn_by t.messages.entries t.barriers.stands t.barriers.arrivals t.barriers.processes (told_next l.a) (told_next l.b) = search rules in
    let e = c.in_err-take.field-0.0 in
    let p = err_from_is_err_and c.from_residual-in_err-take.result c.from_residual-in_err-take.ensures.1 in
    let both = row-no l.invariant.0 c.requires.fits.few-processes turn refl (rw c.number-file.ensures at c.hand_over-part.ensures) c.row_of-row.ensures (refl, refl) e.refusal
    c.in_err-take.ensures.answer.0 in
    record { answer = rw (p.1, p.2, c.in_err-take.ensures.answer.1) both.0; held = both.1 }

pub loop-choice-smaller : goal.loop-choice-smaller
loop-choice-smaller c =
    let l = c.loop-choice in
    let t = l.tables in
    let turn : Take (told_choice c.in-Some.choice) ≡ turn_by t.messages.entries t.barriers.stands t.barriers.arrivals t.barriers.processes (told_next l.a) (told_next l.b) = search rules in
    let took : 0 ≡ first_no (table_takes c.args.call.row_limit l.n t.messages.entries c.row_of-row.result) = search rules in
    omega (arith, room l.invariant.0 c.requires.fits.few-processes turn refl (rw c.number-file.ensures at c.hand_over-part.ensures) c.row_of-row.ensures (took, refl) refl)

pub loop-choice-preserved : goal.loop-choice-preserved
loop-choice-preserved c =
    let l = c.loop-choice in
    let t = l.tables in
    let choice = c.in-Some.choice in
    let turn : Take (told_choice choice) ≡ turn_by t.messages.entries t.barriers.stands t.barriers.arrivals t.barriers.processes (told_next l.a) (told_next l.b) = search rules in
    let took : 0 ≡ first_no (table_takes c.args.call.row_limit l.n t.messages.entries c.row_of-row.result) = search rules in
    let messages : c.take.new.self.messages.entries ≡ table_taken c.args.call.row_limit l.n t.messages.entries c.row_of-row.result = search rules in
    let stands : c.take.new.self.barriers.stands ≡ noted_stand t.barriers.stands c.row_of-row.result = search rules in
    let arrivals : c.take.new.self.barriers.arrivals ≡ noted_arrival t.barriers.arrivals c.row_of-row.result = search rules in
    let processes : c.take.new.self.barriers.processes ≡ t.barriers.processes = search rules in
    let in_first : c.eq.result ≡ eqb (file_number choice.file) FIRST = c.eq.ensures ∙ is_first choice.file in
    let in_second : c.eq-in-Some.result ≡ eqb (file_number choice.file) SECOND = c.eq-in-Some.ensures ∙ is_second choice.file in (
      rw processes
          (goes_on_lem l.invariant.0 c.requires.fits.few-processes turn refl (rw c.number-file.ensures at c.hand_over-part.ensures) c.row_of-row.ensures (took, messages) refl
          (fits_kept c.requires.fits l.invariant.1 l.invariant.2) c.put_row.ensures c.put_part.ensures (stands, arrivals)
          (c.step-a.ensures ∙ ap (λ (b : Bool). stepped b c.args.call.process_limit c.args.first.now (told_next l.a)) in_first)
          (c.step-b.ensures ∙ ap (λ (b : Bool). stepped b c.args.call.process_limit c.args.second.now (told_next l.b)) in_second)),
      c.put_row.auto.rows ∙ l.invariant.1,
      c.put_part.auto.parts ∙ l.invariant.2,
    )

pub returns : goal.returns
returns c =
    let l = c.loop-choice in
    let t = l.tables in
    let turn : Over ≡ turn_by t.messages.entries t.barriers.stands t.barriers.arrivals t.barriers.processes (told_next l.a) (told_next l.b) = search rules in
    let both = over l.invariant.0 c.requires.fits.few-processes turn refl in
    record { answer = both.0; held = both.1 }
