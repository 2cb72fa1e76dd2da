-- The tables of the rows before a row: before any row, and with one row more.
use Rattle.std.proofs.Common.{ℕ, suc, ◌+◌, ◌*◌, ◌-◌, ◌≤◌, ◌<◌, add-one, arith, ◌≡◌, refl, sym, ap, ◌∙◌, true, false, List, length, replicate, length-set, get_or-set_same, get_or-set_other, eqb-true}
use native.Mathlib.Decide.{dec_lt}
use mathlib.Core.Bool.{false≢true}
use lib.ListN.{get_or, set, length-replicate}
use lib.Dec.{eqb}
use Rattle.rows.specs.Limits.{ROWS, PROCESSES}
use Rattle.rows.specs.Rows.{row_in}
use Rattle.rows.specs.Counting.{LastBy}
use Rattle.rows.proofs.Below.{last-most}
use Rattle.rows.proofs.Lasts.{lasts_none, lasts-kept, lasts-noted}
use Rattle.happens_before.specs.Order.{last_of, last_before}
use Rattle.happens_before.specs.Tables.{CHAINS, chain_of, chained, in_chain, last_chained, of_process, Chains, Tables}
use Rattle.happens_before.proofs.Joins.{process-in, kind-in, message-in, last-low, Joining, next-chained}

-- Before any row, all tables hold 0.
pub tables_none : (xs : List ℕ) → Tables xs 0 (replicate PROCESSES 0) (replicate CHAINS 0) (replicate ROWS 0)
tables_none xs =
    record {
      lasts_hold = lasts_none (of_process xs) PROCESSES;
      chains =
          record {
            heads_hold = lasts_none (in_chain xs) CHAINS;
            few = omega arith;
            earlier_size = length-replicate {A = ℕ} ROWS 0;
            earlier_at = λ k h chain e. absurd (omega arith);
          };
    }

module _ (xs : List ℕ) (j : ℕ) where
  module _ {lasts heads earlier : List ℕ} (t : Tables xs j lasts heads earlier) (h : get_or xs (j * 6) 0 < PROCESSES) where
    -- The table by process names the last row of row j's process.
    pub last_found : get_or lasts (get_or xs (j * 6) 0) 0 ≡ last_before (row_in xs) j
    unfolding last_of
    last_found = rw (process-in xs j) (t.lasts_hold.last_at (get_or xs (j * 6) 0) h)

    -- What it names is at most row j's index.
    pub last-few : get_or lasts (get_or xs (j * 6) 0) 0 ≤ j
    last-few = rw last_found (last-low (λ k. (row_in xs k).process) (row_in xs j).process j)

  module _ {heads earlier : List ℕ} (c : Chains xs j heads earlier) (t : ℕ) where
    -- The head of the chain of row t's number is the chain's last row below row j.
    pub head-found : get_or heads (chain_of (get_or xs (t * 6 + 5) 0)) 0 ≡ last_chained xs (chain_of (row_in xs t).message) j
    head-found =
        c.heads_hold.last_at (chain_of (get_or xs (t * 6 + 5) 0)) (omega arith) ∙ ap (λ (m : ℕ). last_chained xs (chain_of m) j) (sym (message-in xs t))

    module _ (P : ℕ) (l : List ℕ) (fits : j * P + P ≤ length l) {x : List ℕ} {next : ℕ} (g : Joining P xs l t j x next) (h : 0 < next) where
      -- The row that comes next is row `next` - 1.
      pub next_row_lem : next ≡ suc (next - 1)
      next_row_lem = omega arith

      -- That row names the one before it in the chain.
      pub next-found : get_or earlier (next - 1) 0 ≡ last_chained xs (chain_of (row_in xs t).message) (next - 1)
      next-found =
          c.earlier_at (next - 1) (omega (arith, g.low)) (chain_of (row_in xs t).message) (next-chained P xs l t j fits g next_row_lem)

      -- The one before it is less than `next`.
      pub next_low : get_or earlier (next - 1) 0 ≤ next - 1
      next_low = rw next-found (last-most (next - 1) _)

  module _ {lasts heads earlier : List ℕ} (t : Tables xs j lasts heads earlier) where
    -- Row j is noted as the last row of its process.
    own : {q : ℕ} → q < PROCESSES → q ≡ get_or xs (j * 6) 0 → LastBy (of_process xs) PROCESSES (set lasts q (suc j)) (suc j)
    own {q} h e =
        lasts-noted (of_process xs) PROCESSES t.lasts_hold q h (λ key. ap (λ (p : ℕ). eqb p key) (process-in xs j ∙ sym e))

    -- A row of another kind leaves the chains.
    pub other-noted : get_or xs (j * 6) 0 < PROCESSES → j < ROWS → chained (get_or xs (j * 6 + 1) 0) ≡ false →
        Tables xs (j + 1) (set lasts (get_or xs (j * 6) 0) (j + 1)) heads earlier
    other-noted h few e =
        let none : (chain : ℕ) → in_chain xs chain j ≡ false = λ chain. rw (kind-in xs j, e) in
        rw add-one
        (record {
          lasts_hold = own h refl;
          chains =
              record {
                heads_hold = lasts-kept (in_chain xs) CHAINS t.chains.heads_hold none;
                few = few;
                earlier_size = t.chains.earlier_size;
                earlier_at = λ k l chain c. at none k l chain c (dec_lt k j);
              };
        })
      where
        at : ((chain : ℕ) → in_chain xs chain j ≡ false) → (k : ℕ) → k < suc j → (chain : ℕ) → in_chain xs chain k ≡ true → Dec (k < j) →
            get_or earlier k 0 ≡ last_chained xs chain k
        at none k l chain c (yes b) = t.chains.earlier_at k b chain c
        at none k l chain c (no b) = let q : j ≡ k = omega arith in absurd (false≢true (sym (none chain) ∙ ap (in_chain xs chain) q ∙ c))

    -- A send or a barrier row becomes the head of its chain, and names the head before it.
    pub chained-noted : get_or xs (j * 6) 0 < PROCESSES → j < ROWS → chained (get_or xs (j * 6 + 1) 0) ≡ true →
        Tables xs (j + 1) (set lasts (get_or xs (j * 6) 0) (j + 1)) (set heads (chain_of (get_or xs (j * 6 + 5) 0)) (j + 1))
        (set earlier j (get_or heads (chain_of (get_or xs (j * 6 + 5) 0)) 0))
    chained-noted h few e =
        rw add-one
        (record {
          lasts_hold = own h refl;
          chains =
              record {
                heads_hold = lasts-noted (in_chain xs) CHAINS t.chains.heads_hold m (omega arith) one;
                few = few;
                earlier_size = length-set earlier j head ∙ t.chains.earlier_size;
                earlier_at = λ k l chain c. at k l chain c (dec_lt k j);
              };
        })
      where
        -- The chain of row j's number.
        m : ℕ
        m = chain_of (get_or xs (j * 6 + 5) 0)

        -- The head of that chain.
        head : ℕ
        head = get_or heads m 0

        -- Row j is in that chain alone.
        one : (chain : ℕ) → in_chain xs chain j ≡ eqb m chain
        one chain = rw (kind-in xs j, e, message-in xs j)

        at : (k : ℕ) → k < suc j → (chain : ℕ) → in_chain xs chain k ≡ true → Dec (k < j) → get_or (set earlier j head) k 0 ≡ last_chained xs chain k
        at k l chain c (yes b) = get_or-set_other earlier j k head 0 (λ q. omega arith) ∙ t.chains.earlier_at k b chain c
        at k l chain c (no b) =
            let q : k ≡ j = omega arith in
            let r : m ≡ chain = eqb-true m chain (sym (one chain) ∙ ap (in_chain xs chain) (sym q) ∙ c) in
            rw q (get_or-set_same earlier j head 0 (rw t.chains.earlier_size few) ∙ t.chains.heads_hold.last_at m (omega arith) ∙ ap (λ (x : ℕ). last_chained xs x j) r)
