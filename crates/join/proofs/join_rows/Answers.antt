-- `join::join_rows` meets its contract.
use Rattle.std.proofs.Common.{rules, arith, refl, sym, ap, ◌∙◌, length, replicate, ℕ, ◌≡◌, ◌≤◌}
use Rattle.std.proofs.lemmas.Result.{err_from_is_err_and}
use Rattle.rows.proofs.Asking.{number-some}
use Rattle.rows.specs.Refusals.{number_of}
use Rattle.join_meaning.specs.Joining.{join_traces}
use Rattle.join.specs.Leaving.{joined_of, HeldOver}
use Rattle.join_meaning.proofs.Refusals.{from_four}
use Rattle.join.proofs.Asking.{first_three, join-passed}
use Rattle.join.proofs.Whole.{call-refused, call-passed, no_told, yes-told, leaves_all, leaves_none, rows_within, parts_in, leaves-joined}
use Rattle.join.proofs.join_rows.Goals as goal

pub returns-in_err-ask_join : goal.returns-in_err-ask_join
returns-in_err-ask_join c =
    let a = c.args in
    let call = a.call in
    let rows = a.rows.now in
    let counts = a.counts.now in
    let parts = a.parts.now in
    let e = c.in_err-ask_join.field-0.0 in
    let low : 1 ≤ number_of e = number-some e in
    let q = err_from_is_err_and c.from_residual.result c.from_residual.ensures.1 in
    rw (q.1, q.2)
    (leaves_all rows counts parts
    (call-refused a.first.now a.second.now call (length rows) (length counts) (length parts) c.in_err-ask_join.ensures (λ z. omega arith))
    (first_three call (length rows) (length counts) (length parts) c.in_err-ask_join.ensures) refl)

pub join_files-requires : goal.join_files-requires
join_files-requires c =
    let a = c.args in
    join-passed a.call (length a.rows.now) (length a.counts.now) (length a.parts.now) c.in_ok-ask_join.ensures

pub slice_bounds-fill-count : goal.slice_bounds-fill-count
slice_bounds-fill-count c =
    let a = c.args in
    let call = a.call in
    let rows = a.rows.now in
    let counts = a.counts.now in
    let parts = a.parts.now in
    let p = call-passed a.first.now a.second.now call (length rows) (length counts) (length parts) refl c.in_ok-ask_join.ensures in
    let o = join_traces a.first.now a.second.now call.first_header call.second_header call.model call.row_limit call.process_limit (length rows) (length counts) (length parts) in
    let ys = c.join_files.new.rows in
    let qs = c.join_files.new.parts in
    let t = yes-told o (c.in-Ok.ensures.answer ∙ ap joined_of (sym p)) in
    let h : HeldOver o rows ys parts qs = rw p c.in-Ok.ensures.held in
    omega (arith, rows_within rows counts parts ys qs t h)

pub slice_bounds-fill-start : goal.slice_bounds-fill-start
slice_bounds-fill-start c =
    let a = c.args in
    let call = a.call in
    let rows = a.rows.now in
    let counts = a.counts.now in
    let parts = a.parts.now in
    let p = call-passed a.first.now a.second.now call (length rows) (length counts) (length parts) refl c.in_ok-ask_join.ensures in
    let o = join_traces a.first.now a.second.now call.first_header call.second_header call.model call.row_limit call.process_limit (length rows) (length counts) (length parts) in
    let ys = c.join_files.new.rows in
    let qs = c.join_files.new.parts in
    let t = yes-told o (c.in-Ok.ensures.answer ∙ ap joined_of (sym p)) in
    let h : HeldOver o rows ys parts qs = rw p c.in-Ok.ensures.held in
    omega (arith, rows_within rows counts parts ys qs t h)

pub slice_bounds-fill-count-in-Ok : goal.slice_bounds-fill-count-in-Ok
slice_bounds-fill-count-in-Ok c =
    let a = c.args in
    let call = a.call in
    let rows = a.rows.now in
    let counts = a.counts.now in
    let parts = a.parts.now in
    let p = call-passed a.first.now a.second.now call (length rows) (length counts) (length parts) refl c.in_ok-ask_join.ensures in
    let o = join_traces a.first.now a.second.now call.first_header call.second_header call.model call.row_limit call.process_limit (length rows) (length counts) (length parts) in
    let ys = c.join_files.new.rows in
    let qs = c.join_files.new.parts in
    let t = yes-told o (c.in-Ok.ensures.answer ∙ ap joined_of (sym p)) in
    let h : HeldOver o rows ys parts qs = rw p c.in-Ok.ensures.held in
    omega (arith, parts_in rows counts parts ys qs t h)

pub slice_bounds-fill-start-in-Ok : goal.slice_bounds-fill-start-in-Ok
slice_bounds-fill-start-in-Ok c =
    let a = c.args in
    let call = a.call in
    let rows = a.rows.now in
    let counts = a.counts.now in
    let parts = a.parts.now in
    let p = call-passed a.first.now a.second.now call (length rows) (length counts) (length parts) refl c.in_ok-ask_join.ensures in
    let o = join_traces a.first.now a.second.now call.first_header call.second_header call.model call.row_limit call.process_limit (length rows) (length counts) (length parts) in
    let ys = c.join_files.new.rows in
    let qs = c.join_files.new.parts in
    let t = yes-told o (c.in-Ok.ensures.answer ∙ ap joined_of (sym p)) in
    let h : HeldOver o rows ys parts qs = rw p c.in-Ok.ensures.held in
    omega (arith, parts_in rows counts parts ys qs t h)

pub returns-in-Ok : goal.returns-in-Ok
returns-in-Ok c =
    let a = c.args in
    let call = a.call in
    let rows = a.rows.now in
    let counts = a.counts.now in
    let parts = a.parts.now in
    let p = call-passed a.first.now a.second.now call (length rows) (length counts) (length parts) refl c.in_ok-ask_join.ensures in
    let o = join_traces a.first.now a.second.now call.first_header call.second_header call.model call.row_limit call.process_limit (length rows) (length counts) (length parts) in
    let ys = c.join_files.new.rows in
    let qs = c.join_files.new.parts in
    let t = yes-told o (c.in-Ok.ensures.answer ∙ ap joined_of (sym p)) in
    let h : HeldOver o rows ys parts qs = rw p c.in-Ok.ensures.held in
    leaves-joined rows counts parts ys qs t h (search rules) (search rules) (search rules)

pub returns-in-Err : goal.returns-in-Err
returns-in-Err c =
    let a = c.args in
    let call = a.call in
    let rows = a.rows.now in
    let counts = a.counts.now in
    let parts = a.parts.now in
    let p = call-passed a.first.now a.second.now call (length rows) (length counts) (length parts) refl c.in_ok-ask_join.ensures in
    let o = join_traces a.first.now a.second.now call.first_header call.second_header call.model call.row_limit call.process_limit (length rows) (length counts) (length parts) in
    let e = no_told o (c.in-Err.ensures.answer ∙ ap joined_of (sym p)) in
    let four = from_four call.first_header call.second_header call.row_limit call.process_limit a.first.now a.second.now (sym p ∙ e) in
    let cleared : c.fill-in-Err.new.self ≡ replicate (length c.join_files.new.rows) 0 = search rules in
    let counted : c.fill.new.self ≡ replicate (length counts) 0 = search rules in
    let placed : c.fill-in-Err-2.new.self ≡ replicate (length c.join_files.new.parts) 0 = search rules in
    leaves_none rows counts parts e four
    (cleared ∙ ap (λ (n : ℕ). replicate n 0) c.join_files.auto.rows) counted
    (placed ∙ ap (λ (n : ℕ). replicate n 0) c.join_files.auto.parts) refl
