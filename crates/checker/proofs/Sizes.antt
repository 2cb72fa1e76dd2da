-- The numbers in an answer of the whole call and of the list of races are small.
use Rattle.std.proofs.Common.{ℕ, ◌+◌, ◌*◌, ◌≤◌, ◌<◌, arith, ◌≡◌, refl, Bool, true, false, cond, List, length}
use Rattle.rows.specs.Limits.{ROWS}
use Rattle.rows.specs.declared.row.Row.{Row}
use Rattle.trace.specs.Questions.{Outcome, refused, accepted, check_trace}
use Rattle.trace.proofs.Laws.{accepted-passed, accepted-sound}
use Rattle.trace.proofs.Refusals.{Bounded, refusal-bounded}
use Rattle.races_meaning.specs.Races.{Verdict, free, racing, verdict_of}
use Rattle.races_meaning.proofs.Verdicts.{racing-within}
use Rattle.checker.specs.Judging.{Judged, Free, Race, Refused, judged_rows, judged_of}
use Rattle.rows.specs.Refusals.{LIST_SPACE}
use Rattle.races_meaning.specs.Lists.{race_pairs}
use Rattle.races_meaning.proofs.Lists.{pairs-most}
use Rattle.races.specs.Listing as listed
use Rattle.races.specs.Listing.{Listed, has_room, room_answer}
use Rattle.races.proofs.Whole.{square_most}
use Rattle.checker.specs.Listing.{listed_of}

-- at most 4,096 rows, the rows of a race among them, and the bounds of a refusal
abbrev pub Small : Judged → Type 0
Small (Free n) = n ≤ ROWS
Small (Race n earlier later) = (n ≤ ROWS) × (earlier < later) × (later ≤ n)
Small (Refused number place) = Bounded number place

-- the rows of a race are rows of the trace
verdict_small : (rows : List Row) (model : ℕ) → length rows ≤ ROWS → Small (judged_rows (length rows) (verdict_of rows model))
verdict_small rows model h = go (verdict_of rows model) refl
  where
    go : (v : Verdict) → verdict_of rows model ≡ v → Small (judged_rows (length rows) v)
    go free e = h
    go (racing earlier later) e =
        let w = racing-within rows model e in
        (h, w.1, w.2)

-- every answer of the whole call is small
pub judged-small : (text : List ℕ) (header model R P limit a b : ℕ) → Small (judged_of model (check_trace text header model R P limit a b))
judged-small text header model R P limit a b = go (check_trace text header model R P limit a b) refl
  where
    go : (o : Outcome) → check_trace text header model R P limit a b ≡ o → Small (judged_of model o)
    go (refused number place) e = refusal-bounded text header model R P limit a b e
    go (accepted rows) e =
        let p = accepted-passed text header model R P limit a b rows e in
        let s = accepted-sound header R P _ rows p.1 in
        verdict_small rows model (omega (arith, s.0, p.0.few-rows))

-- ---- The list of races

-- at most as many pairs as the largest row limit has, and the bounds of a refusal, of which 23 has place 0
abbrev pub SmallList : Listed → Type 0
SmallList (listed.Pairs n) = 2 * n ≤ ROWS * ROWS
SmallList (listed.Refused number place) = (0 < number) × (number ≤ LIST_SPACE) × (place ≤ ROWS + 1)

-- the pairs of at most 4,096 rows, or 23
room_small : (rows : List Row) (model listLength : ℕ) → length rows ≤ ROWS → SmallList (room_answer (race_pairs rows model) listLength)
room_small rows model listLength h = go (has_room (race_pairs rows model) listLength)
  where
    go : (b : Bool) → SmallList (cond b (listed.Pairs (length (race_pairs rows model))) (listed.Refused LIST_SPACE 0))
    go true = omega (arith, pairs-most rows model, square_most h)
    go false = (omega arith, omega arith, omega arith)

-- every answer of the call that lists the races is small
pub listed_small : (text : List ℕ) (header model R P limit a b listLength : ℕ) →
    SmallList (listed_of model (check_trace text header model R P limit a b) listLength)
listed_small text header model R P limit a b listLength = go (check_trace text header model R P limit a b) refl
  where
    go : (o : Outcome) → check_trace text header model R P limit a b ≡ o → SmallList (listed_of model o listLength)
    go (refused number place) e = let s = refusal-bounded text header model R P limit a b e in (omega arith, omega arith, omega arith)
    go (accepted rows) e =
        let p = accepted-passed text header model R P limit a b rows e in
        let s = accepted-sound header R P _ rows p.1 in
        room_small rows model listLength (omega (arith, s.0, p.0.few-rows))
