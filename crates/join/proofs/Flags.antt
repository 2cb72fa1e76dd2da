-- The flags of the processes of two files: those of the first tell of question 19, and those of both how many processes there are.
use Rattle.std.proofs.Common.{ℕ, ◌<◌, ◌≡◌, sym, ap, subst, ◌∙◌, Bool, false, List, ◌++◌, length, replicate}
use lib.ListN.{get_or}
use lib.Dec.{eqb}
use Rattle.rows.specs.declared.row.Row.{Row}
use Rattle.rows.specs.Limits.{PROCESSES}
use Rattle.rows.specs.Rows.{row_at}
use Rattle.rows.specs.Tests.{any}
use Rattle.rows.proofs.Bools.{same_test}
use Rattle.rows.proofs.Tests.{some_out, some_in}
use Rattle.rows.specs.Counting.{count_below}
use Rattle.barriers.specs.Participants.{participants, Members, flagged}
use Rattle.barriers.proofs.Flags.{members_none, members_more, members_many}
use Rattle.happens_before.specs.Order.{same_process}
use Rattle.join_meaning.specs.Joining.{shares_process}
use Rattle.join.specs.Sharing.{any_flagged}

-- Two files share a process exactly where a row of the second is of a process that has a row in the first.
pub shared-told : {a : List Row} (b : List Row) {flags : List Bool} → Members a flags → ((k : ℕ) → k < length b → (row_at b k).process < PROCESSES) →
    any_flagged flags b ≡ shares_process a b
unfolding shares_process
shared-told {a} b {flags} m few =
    same_test (any_flagged flags b) (any (λ r. any (λ s. same_process r s) b) a)
    (λ e. let s = some_out (λ (r : Row). get_or flags r.process false) b e in
    let here = sym (m.each (row_at b s.0).process (few s.0 s.1)) ∙ s.2 in
    let r = some_out (λ (x : Row). eqb x.process (row_at b s.0).process) a here in
    some_in (λ x. any (λ y. same_process x y) b) a r.0 r.1 (some_in (λ y. same_process (row_at a r.0) y) b s.0 s.1 r.2))
    (λ e. let r = some_out (λ x. any (λ y. same_process x y) b) a e in
    let s = some_out (λ y. same_process (row_at a r.0) y) b r.2 in
    some_in (λ (x : Row). get_or flags x.process false) b s.0 s.1
    (m.each (row_at b s.0).process (few s.0 s.1) ∙ some_in (λ (x : Row). eqb x.process (row_at b s.0).process) a r.0 r.1 s.2))

-- The flags of a file's rows are those of its processes.
pub flags_told : {flags : List Bool} {rows a : List Row} → flags ≡ flagged (replicate PROCESSES false) rows → rows ≡ a → Members a flags
flags_told {flags} {rows} {a} e q =
    subst (λ (l : List Bool). Members a l) (sym (e ∙ ap (flagged (replicate PROCESSES false)) q)) (members_more a members_none)

-- With the rows of the second file flagged too, as many flags are set as processes have rows in both.
pub both-counted : {a b rows : List Row} {flags both : List Bool} {processes : ℕ} → Members a flags → both ≡ flagged flags rows → rows ≡ b →
    processes ≡ count_below PROCESSES (λ p. get_or both p false) → processes ≡ participants (a ++ b)
both-counted {a} {b} {rows} {flags} m e q k =
    k ∙ ap (λ (l : List Bool). count_below PROCESSES (λ p. get_or l p false)) (e ∙ ap (flagged flags) q) ∙ members_many (members_more b m)
