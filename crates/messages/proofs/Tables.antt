-- A table by message tells what the rows so far did with every message, so a row is answered by it as by the rows.
use Rattle.std.proofs.Common.{ℕ, ◌<◌, ◌≡◌, refl, sym, subst, ◌∙◌, Bool, true, false, cond, not, ◌&&◌, List, [], ◌∷◌, ◌++◌, length, replicate, length-set, get_or-set_same, get_or-set_other, eq-eqb, ne_eqb, eqb-true}
use native.Mathlib.Decide.{ℕ_discrete}
use mathlib.Core.Bool.{and-false}
use lib.ListN.{get_or, set, length-replicate}
use lib.Dec.{eqb}
use borrow.Author.Tests.{not-true}
use Rattle.rows.specs.declared.row.Row.{Row}
use Rattle.rows.specs.Kinds.{SEND, RECV, WAIT}
use Rattle.rows.specs.Limits.{PROCESSES, MESSAGES}
use Rattle.rows.specs.Questions.{first_no}
use Rattle.rows.specs.Refusals.{MESSAGE_ORDER, WAIT_ORDER}
use Rattle.rows.proofs.Bools.{and_out}
use Rattle.rows.proofs.Zeros.{zeros}
use Rattle.messages.specs.Questions.{sent, sent_by, posted, posted_by, message_in_order, wait_in_order, message_questions}
use Rattle.messages.specs.Table.{with_send, with_post, with_wait, entry_for, entry_in_order, entry_wait_in_order, table_questions, noted_row, table_after}
use Rattle.messages.proofs.Asks.{message-yes}
use Rattle.messages.proofs.Entries.{Told, told_none, told-kept, told-send, told-post, told-wait}

-- The table has an entry for every message, and each tells what the rows did with its message.
pub record Tells (table : List ℕ) (rows : List Row) : Type 0 where
  pub size : length table ≡ MESSAGES
  pub each : (m : ℕ) → m < MESSAGES → Told (get_or table m 0) m rows

-- Before any row, a table of zeros tells.
pub tells_none : Tells (replicate MESSAGES 0) []
tells_none =
    record {
      size = length-replicate {A = ℕ} MESSAGES 0;
      each = λ m h. subst (λ (e : ℕ). Told e m []) (sym (zeros MESSAGES m)) (told_none m);
    }

module _ {table : List ℕ} {rows : List Row} (t : Tells table rows) (r : Row) (h : r.process < PROCESSES) (b : r.message < MESSAGES) where
  -- The entry of the row's message tells.
  told : Told (entry_for table r) r.message rows
  told = t.each r.message b

  -- The entry answers question 12 as the rows do.
  in_order : entry_in_order (entry_for table r) r ≡ message_in_order rows r
  unfolding entry_in_order message_in_order
  in_order =
      λ i. cond (eqb r.kind SEND) (not (told.sent-told i) && not (told.poster_told r.process h i))
      (cond (eqb r.kind RECV) (not (told.posted-told i) && not (told.sender_told r.process h i)) true)

  -- The entry answers question 21 as the rows do.
  wait_in_order_lem : entry_wait_in_order (entry_for table r) r ≡ wait_in_order rows r
  unfolding entry_wait_in_order wait_in_order
  wait_in_order_lem =
      λ i. cond (eqb r.kind WAIT) (told.poster_told r.process h i && (told.sent-told i && not (told.waited_told i))) true

  -- A table that tells answers the questions from 12 on as the rows do.
  pub tells-asks : first_no (table_questions table r) ≡ first_no (message_questions rows r)
  unfolding table_questions message_questions first_no
  tells-asks = λ i. cond (in_order i) (cond (wait_in_order_lem i) 0 WAIT_ORDER) MESSAGE_ORDER

  -- A store at the row's message keeps the other entries.
  stored : (x : ℕ) → Told x r.message (rows ++ (r ∷ [])) → Tells (set table r.message x) (rows ++ (r ∷ []))
  stored x new = record { size = length-set table r.message x ∙ t.size; each = λ m l. at m l (ℕ_discrete m r.message) }
    where
      here : get_or (set table r.message x) r.message 0 ≡ x
      here = get_or-set_same table r.message x 0 (rw t.size b)

      at : (m : ℕ) → m < MESSAGES → Dec (m ≡ r.message) → Told (get_or (set table r.message x) m 0) m (rows ++ (r ∷ []))
      at m l (yes e) = rw e (subst (λ (n : ℕ). Told n r.message (rows ++ (r ∷ []))) (sym here) new)
      at m l (no n) =
          let far = ne_eqb r.message m (λ e. n (sym e)) in
          let kept = told-kept (t.each m l) r (rw far (and-false (eqb r.kind SEND))) (rw far (and-false (eqb r.kind RECV))) (rw far (and-false (eqb r.kind WAIT))) in
          subst (λ (e : ℕ). Told e m (rows ++ (r ∷ []))) (sym (get_or-set_other table r.message m x 0 n)) kept

  -- A row in order is noted, and the table then tells of it too.
  noted : message_in_order rows r ≡ true → Tells (noted_row table r) (rows ++ (r ∷ []))
  unfolding message_in_order noted_row
  noted = go (eqb r.kind SEND) (eqb r.kind RECV) (eqb r.kind WAIT) refl refl refl
    where
      same : eqb r.message r.message ≡ true
      same = eq-eqb r.message r.message refl

      go : (x y z : Bool) → eqb r.kind SEND ≡ x → eqb r.kind RECV ≡ y → eqb r.kind WAIT ≡ z →
          cond x (not (sent r.message rows) && not (posted_by r.process r.message rows))
          (cond y (not (posted r.message rows) && not (sent_by r.process r.message rows)) true) ≡ true →
          Tells
          (cond x (set table r.message (with_send r.process (entry_for table r)))
          (cond y (set table r.message (with_post r.process (entry_for table r)))
          (cond z (set table r.message (with_wait (entry_for table r))) table)))
          (rows ++ (r ∷ []))
      go true y z p q s o =
          let k = eqb-true r.kind SEND p in
          stored (with_send r.process (entry_for table r))
          (told-send told r (rw (p, same)) (rw k) (rw k) h (not-true (sent r.message rows) (and_out _ _ o).0))
      go false true z p q s o =
          let k = eqb-true r.kind RECV q in
          stored (with_post r.process (entry_for table r))
          (told-post told r (rw p) (rw (q, same)) (rw k) h (not-true (posted r.message rows) (and_out _ _ o).0))
      go false false true p q s o = stored (with_wait (entry_for table r)) (told-wait told r (rw p) (rw q) (rw (s, same)))
      go false false false p q s o = record { size = t.size; each = λ m l. told-kept (t.each m l) r (rw p) (rw q) (rw s) }

  -- A row in order is put to the table, and the table then tells of it too.
  pub tells-next : first_no (message_questions rows r) ≡ 0 → Tells (table_after table r) (rows ++ (r ∷ []))
  unfolding table_after
  tells-next y =
      let after : table_after table r ≡ noted_row table r = rw (eq-eqb (first_no (table_questions table r)) 0 (tells-asks ∙ y)) in
      subst (λ (l : List ℕ). Tells l (rows ++ (r ∷ []))) (sym after) (noted ((message-yes rows r).0 y).0)
