-- The four numbers of a run in a slice.
use Rattle.std.proofs.Common.{ℕ, suc, ◌+◌, ◌*◌, ◌-◌, ◌≤◌, ◌<◌, arith, ◌≡◌, ◌∙◌, true, List, length, take, drop, replicate, length-take-le, get_or-append-add}
use lib.ListN.{get_or}
use lib.Seq.{split_at}
use Rattle.extents_meaning.specs.Cells.{number_in, mark_in}
use Rattle.extents_meaning.specs.Runs.{Run, run_of}
use Rattle.extents_meaning.specs.Maps.{fours, map_of, space_in, runs, lawful}
use Rattle.extents_meaning.proofs.Trips.{length-fours, run_at_lem, lawful-map}
use Rattle.rows.proofs.Zeros.{zeros}

-- the four numbers at place p are those of a run
pub record Here (xs : List ℕ) (p : ℕ) (r : Run) : Type 0 where
  pub start : get_or xs p 0 ≡ r.start
  pub size : get_or xs (p + 1) 0 ≡ r.length
  pub number : get_or xs (p + 2) 0 ≡ number_in r.cell
  pub mark : get_or xs (p + 3) 0 ≡ mark_in r.cell

-- no run
abbrev pub no_run : Run
no_run = run_of 0 0 0

-- the run at a place of a lawful map
pub here-at : (xs : List ℕ) → lawful xs ≡ true → (i : ℕ) → i < length (runs xs) → Here xs (4 * i) (get_or (runs xs) i no_run)
here-at xs e i h =
    let rs = runs xs in
    let f = run_at_lem xs e (take i rs) (drop (suc i) rs) (get_or rs i no_run) i (split_at rs i no_run h) (length-take-le i rs (omega arith)) in
    record { start = f.0; size = f.1; number = f.2; mark = f.3 }

-- behind the runs of a lawful map all is 0
pub zero_behind : (xs : List ℕ) → lawful xs ≡ true → (q : ℕ) → 4 * length (runs xs) ≤ q → get_or xs q 0 ≡ 0
unfolding map_of
zero_behind xs e q h =
    let rs = runs xs in
    let n = 4 * (space_in xs - length rs) in
    let p : q ≡ length (fours rs) + (q - length (fours rs)) = omega (arith, length-fours rs) in
    (λ i. get_or ((lawful-map xs e).whole i) (p i) 0)
    ∙ get_or-append-add (fours rs) (replicate n 0) (q - length (fours rs)) 0
    ∙ zeros n (q - length (fours rs))
