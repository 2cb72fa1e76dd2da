-- A join is accepted where some merging of the two files is an accepted trace.
use Rattle.std.proofs.Common.{ℕ, zero, suc, ◌+◌, ◌≤◌, ◌<◌, arith, ◌≡◌, refl, sym, ap, subst, ◌∙◌, List, [], ◌∷◌, ◌++◌, length, length-append, lt-ltb}
use Rattle.rows.specs.declared.row.Row.{Row}
use Rattle.rows.specs.Questions.{first_no}
use Rattle.rows.proofs.Tests.{Alike}
use Rattle.messages.proofs.Asks.{Passes}
use Rattle.barriers.specs.Barriers.{first_out, barrier_place}
use Rattle.barriers.proofs.Kept.{place-yes}
use Rattle.barriers.proofs.Exchange.{alike-first, alike-unfinished, first-last}
use Rattle.trace.proofs.Laws.{Sound}
use Rattle.join_meaning.specs.Files.{Entry, rows_of}
use Rattle.join_meaning.specs.Joining.{Turn, Joining, joined, taken_questions, on_turn, join_from, ask_joined, join_entries}
use Rattle.join_meaning.specs.Joining as turn
use Rattle.join_meaning.specs.Merging.{Merged}
use Rattle.join_meaning.proofs.Merging.{rows_append, rows-length, merged_rows, merged_length, merged_other}
use Rattle.join_meaning.proofs.Taking.{Next, at-end, all-wait, from_first, from_second, next-turn, join-rows}
use Rattle.join_meaning.proofs.Tests.{Apart}
use Rattle.join_meaning.proofs.Exchange.{merged_alike, Ordered, sound_ordered, to_front, not_stuck}

-- A row with room that passes the questions from 12 on passes 6 too.
passes : (R : ℕ) (before : List Row) (r : Row) → length before < R → Passes before r → first_no (taken_questions R before r) ≡ 0
unfolding taken_questions first_no
passes R before r h e = rw (lt-ltb (length before) R h) e

-- All rows taken so far are in their turn among the rows of both files.
abbrev InTurn : List Row → List Entry → Type 0
InTurn both es = first_out both [] (rows_of es) ≡ 0

-- A join takes all entries, and all are in their turn.
abbrev Found : List Row → Joining → Type 0
Found both o = (es : List Entry) × (o ≡ joined es) × InTurn both es

-- A join that goes on behind one more entry takes all.
abbrev GoesOn : ℕ → List Row → List Entry → (List Entry → List Entry → List Entry → Joining) → Type 0
GoesOn R both taken on =
    (e : Entry) (a b : List Entry) (n : List Row) → Apart (rows_of a) (rows_of b) → Merged (rows_of a) (rows_of b) n →
    Ordered both (rows_of (taken ++ (e ∷ []))) n → InTurn both (taken ++ (e ∷ [])) → length (taken ++ (e ∷ [])) + length n ≤ R →
    Found both (on (taken ++ (e ∷ [])) a b)

-- A turn takes an entry whose row is the first of a merging in order of what is left.
goes_on_lem : (R : ℕ) (both : List Row) (taken : List Entry) (e : Entry) (a b : List Entry) (n : List Row) (on : List Entry → List Entry → List Entry → Joining) →
    Apart (rows_of a) (rows_of b) → Merged (rows_of a) (rows_of b) n → Ordered both (rows_of taken) (e.row ∷ n) → InTurn both taken →
    length taken + suc (length n) ≤ R → GoesOn R both taken on → Found both (on_turn R taken (turn.take e a b) on)
unfolding on_turn rows_of
goes_on_lem R both taken e a b n on apart d o turned h behind =
    let l : length (rows_of taken) < R = omega (arith, rows-length taken) in
    let o' = subst (λ (t : List Row). Ordered both t n) (sym (rows_append taken (e ∷ []))) o.1 in
    let turned' =
    subst (λ (t : List Row). first_out both [] t ≡ 0) (sym (rows_append taken (e ∷ []))) (first-last both (rows_of taken) [] e.row turned o.0.1) in
    let t = behind e a b n apart d o' turned' (omega (arith, length-append taken (e ∷ []))) in
    (t.0, rw (passes R (rows_of taken) e.row l o.0.0) t.1, t.2)

-- One turn of a join whose rest has a merging in order.
turn-found : (R : ℕ) (both : List Row) (taken : List Entry) (m : List Row) (on : List Entry → List Entry → List Entry → Joining) {a b : List Entry} {t : Turn} →
    Next both (rows_of taken) a b t → Apart (rows_of a) (rows_of b) → Merged (rows_of a) (rows_of b) m → Ordered both (rows_of taken) m → InTurn both taken →
    length taken + length m ≤ R → GoesOn R both taken on → Found both (on_turn R taken t on)
unfolding on_turn rows_of
turn-found R both taken m on at-end apart d o turned h behind = (taken, refl, turned)
turn-found R both taken m on (all-wait a b n v w) apart d o turned h behind = absurd (not_stuck both (rows_of taken) d o n v w)
turn-found R both taken m on (from_first {e} {a} {b} ready) apart d o turned h behind =
    let t = to_front both (rows_of taken) apart d o ready in
    goes_on_lem R both taken e a b t.0 on (λ i j h l. apart (suc i) j (omega arith) l) t.1 t.2 turned (omega (arith, merged_length d, merged_length t.1)) behind
turn-found R both taken m on (from_second {e} {a} {b} w ready) apart d o turned h behind =
    let t = to_front both (rows_of taken) (λ i j h l q. apart j i l h (sym q)) (merged_other d) o ready in
    goes_on_lem R both taken e a b t.0 on (λ i j h l. apart i (suc j) h (omega arith)) (merged_other t.1) t.2 turned
    (omega (arith, merged_length (merged_other d), merged_length t.1)) behind

-- A join behind the entries taken so far takes all where the rest has a merging in order, within the row limit.
found_from : (k R : ℕ) (both : List Row) (taken a b : List Entry) (m : List Row) → Apart (rows_of a) (rows_of b) → Merged (rows_of a) (rows_of b) m →
    Ordered both (rows_of taken) m → InTurn both taken → length taken + length m ≤ R → Found both (join_from k R both taken a b)
unfolding join_from
found_from zero R both taken a b m apart d o turned h = (taken, refl, turned)
found_from (suc k) R both taken a b m apart d o turned h =
    turn-found R both taken m (λ t c f. join_from k R both t c f) (next-turn both (rows_of taken) a b) apart d o turned h
    (λ e c f n u g p v l. found_from k R both (taken ++ (e ∷ [])) c f n u g p v l)

-- A join of two files that share no process is accepted where some merging of their rows is sound, has a Yes to question 22 and is within the row
-- limit.
pub join-finds : (R P : ℕ) (a b : List Entry) (m : List Row) → Apart (rows_of a) (rows_of b) → Merged (rows_of a) (rows_of b) m → Sound P m →
    barrier_place m ≡ 0 → length m ≤ R → (es : List Entry) × (join_entries R a b ≡ joined es)
unfolding rows_of ask_joined first_out
join-finds R P a b m apart d s z h =
    let both = rows_of a ++ rows_of b in
    let alike = merged_alike d in
    let f = found_from (suc (length a + length b)) R both [] a b m apart d (sound_ordered s z both alike) refl (omega arith) in
    let merged = merged_alike (merged_rows (join-rows R a b f.0 f.1)) in
    let same : Alike m (rows_of f.0) = λ test. sym (alike test) ∙ merged test in
    let yes : barrier_place (rows_of f.0) ≡ 0 =
    (place-yes (rows_of f.0)).1 (
      sym (alike-first both (rows_of f.0) merged (rows_of f.0) []) ∙ f.2,
      sym (alike-unfinished m (rows_of f.0) same) ∙ ((place-yes m).0 z).1,
    ) in
    (f.0, ap ask_joined f.1 ∙ rw yes)
