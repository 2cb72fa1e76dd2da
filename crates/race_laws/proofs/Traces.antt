-- The rows of a trace in another allowed order are a trace too: they pass the questions from 12 on.
use Rattle.std.proofs.Common.{ℕ, ◌<◌, arith, ◌≡◌, refl, sym, ap, subst, ◌∙◌, inl, inr, List, length}
use Rattle.rows.specs.declared.row.Row.{Row}
use Rattle.rows.specs.Rows.{row_at}
use Rattle.rows.specs.Kinds.{SEND, RECV, WAIT, BARRIER}
use Rattle.messages.proofs.InOrder.{Arrives, InOrder}
use Rattle.trace.specs.Questions.{accepted, check_trace}
use Rattle.trace.proofs.Laws.{WellFormed, Sound, accepted-kept}
use Rattle.trace.proofs.Messages.{in_order-sound, sends-once, posts_once, arrives-once, sent-to_other, arrival_posted, arrival_sent}
use Rattle.trace.proofs.Sounds.{sound_row}
use Rattle.barriers.specs.Barriers.{barrier_place}
use Rattle.barriers.proofs.Kept.{Meet, Kept, kept-iff}
use Rattle.happens_before.specs.Order.{edge, HB, one}
use Rattle.happens_before.proofs.Clocks.{HB-less, edge-forward, program-order}
use Rattle.happens_before.proofs.Barriers.{barrier_order}
use Rattle.reorder.specs.Renumbering.{Renumbered}
use Rattle.reorder.proofs.Edges.{same-turned, process-at}
use Rattle.reorder.proofs.Moving.{hb-moved}
use Rattle.consistency.proofs.Messages.{sound_edge}
use Rattle.consistency.proofs.Theorems.{sound_trace}
use Rattle.race_laws.specs.Reordered.{Whole, reordered}
use Rattle.race_laws.proofs.Reordered.{one-row, reordered-many, whole-renumbered}

module _ {rows rows' : List Row} {to from : ℕ → ℕ} (r : Renumbered rows rows' to from) where
  -- Two new places of one old place are one place.
  one_place : (a b : ℕ) → a < length rows' → b < length rows' → from a ≡ from b → a ≡ b
  one_place = one-row (same-turned r.same)

  -- A row at a new place, by its old place.
  old_row : (a : ℕ) → a < length rows' → row_at rows (from a) ≡ row_at rows' a
  old_row = (same-turned r.same).same_row

  -- What happens before a row stands before its new place.
  stands-new : (i a : ℕ) → a < length rows' → HB (edge rows) i (from a) → to i < a
  stands-new i a h before = omega (arith, HB-less (edge-forward rows') (hb-moved r before), r.same.to_from a h)

  -- ---- Barriers

  -- Rows whose barriers are kept have kept barriers under another numbering.
  moved-kept : Kept rows → Kept rows'
  moved-kept w = record { once = once; all-before = before; all-at_end = at-end }
    where
      -- Rows of one barrier are so at their old places.
      meets : (a b : ℕ) → a < length rows' → b < length rows' → Meet (row_at rows' a) (row_at rows' b) →
          Meet (row_at rows (from a)) (row_at rows (from b))
      meets a b h g m = rw (old_row a h, old_row b g) m

      -- A row's process, by its old place.
      process : (a : ℕ) → a < length rows' → (row_at rows (from a)).process ≡ (row_at rows' a).process
      process = process-at (same-turned r.same)

      once : (a b : ℕ) → a < length rows' → b < length rows' → Meet (row_at rows' a) (row_at rows' b) →
          (row_at rows' a).process ≡ (row_at rows' b).process → a ≡ b
      once a b h g m p =
          one_place a b h g
          (w.once (from a) (from b) (r.same.from_within a h) (r.same.from_within b g) (meets a b h g m) (process a h ∙ p ∙ sym (process b g)))

      -- A row of row k's barrier in the trace, of row q's process, is so at its new place.
      there : (k q i : ℕ) → k < length rows' → q < length rows' → i < length rows → Meet (row_at rows (from k)) (row_at rows i) →
          (row_at rows i).process ≡ (row_at rows (from q)).process →
          Meet (row_at rows' k) (row_at rows' (to i)) × ((row_at rows' (to i)).process ≡ (row_at rows' q).process)
      there k q i h g l m p = rw (r.same.same_row i l) (rw (old_row k h) at m, p ∙ process q g)

      before : (k j q : ℕ) → k < j → j < length rows' → q < length rows' → (row_at rows' k).kind ≡ BARRIER →
          (row_at rows' k).process ≡ (row_at rows' j).process →
          (i : ℕ) × (i < j) × Meet (row_at rows' k) (row_at rows' i) × ((row_at rows' i).process ≡ (row_at rows' q).process)
      before k j q l h g b p =
          let c : k < length rows' = omega arith in
          let less = edge-forward rows (from k) (from j) (r.edge_from k j (program-order rows' k j l h p)) in
          let own = process k c ∙ p ∙ sym (process j h) in
          let t = w.all-before (from k) (from j) (from q) less (r.same.from_within j h) (r.same.from_within q g) (rw (old_row k c) b) own in
          let i : t.0 < length rows = omega (arith, t.1, r.same.from_within j h) in
          let n = there k q t.0 c g i t.2 t.3 in
          (to t.0, stands-new t.0 j h (barrier_order rows w t.0 (from k) (from j) i less (r.same.from_within j h) t.2 own), n.0, n.1)

      at-end : (k q : ℕ) → k < length rows' → q < length rows' → (row_at rows' k).kind ≡ BARRIER →
          (i : ℕ) × (i < length rows') × Meet (row_at rows' k) (row_at rows' i) × ((row_at rows' i).process ≡ (row_at rows' q).process)
      at-end k q h g b =
          let t = w.all-at_end (from k) (from q) (r.same.from_within k h) (r.same.from_within q g) (rw (old_row k h) b) in
          let n = there k q t.0 h g t.1 t.2 t.3 in
          (to t.0, r.same.to_within t.0 t.1, n.0, n.1)

  -- ---- Messages

  module _ {P : ℕ} (s : Sound P rows) (w : Kept rows) where
    -- Under another numbering every row is in order behind the rows before it.
    moved-in-order : (a : ℕ) → a < length rows' → InOrder rows' a (row_at rows' a)
    moved-in-order a h =
        record {
          unsent = lone SEND (sends-once s m);
          posted_by-other =
              λ k b l c. let g : b < length rows' = omega arith in
              sent-to_other s m (from a) (from b) inside (r.same.from_within b g) (rw here (k, refl)) (rw (old_row b g) c.0)
              (rw (here, old_row b g) (sym c.1));
          unposted = lone RECV (posts_once s m);
          sent_by-other =
              λ k b l c. let g : b < length rows' = omega arith in
              sent-to_other s m (from b) (from a) (r.same.from_within b g) inside (rw (old_row b g) c.0) (rw here (k, refl))
              (rw (here, old_row b g) c.1);
          posted-before =
              λ k. let t = arrival_posted s m (from a) inside (rw here (k, refl)) in
              let i : t.0 < length rows = omega (arith, t.1, inside) in
              let n = stands-new t.0 a h (one (program-order rows t.0 (from a) t.1 inside t.3)) in
              (to t.0, n, rw (r.same.same_row t.0 i) (t.2, t.3 ∙ ap (λ (x : Row). x.process) here));
          sent-before =
              λ k. let arrives : Arrives (row_at rows (from a)) m = rw here (k, refl) in
              let t = arrival_sent s m (from a) inside arrives in
              let i : t.0 < length rows = omega (arith, t.1, inside) in
              let n = stands-new t.0 a h (one ((sound_edge s w t.0 (from a) i inside).1 (inr (inl (m, t.2, arrives))))) in
              (to t.0, n, rw (r.same.same_row t.0 i) t.2);
          unwaited = lone WAIT (arrives-once s m);
        }
      where
        m : ℕ
        m = (row_at rows' a).message

        here : row_at rows (from a) ≡ row_at rows' a
        here = old_row a h

        inside : from a < length rows
        inside = r.same.from_within a h

        -- The row has this kind and row a's message.
        Has : ℕ → Row → Type 0
        Has kind x = (x.kind ≡ kind) × (x.message ≡ m)

        -- Where at most one row of the trace has a kind and a message, no row before row a has both of row a's.
        lone : (kind : ℕ) →
            ((i j : ℕ) → i < length rows → j < length rows → Has kind (row_at rows i) → Has kind (row_at rows j) → i ≡ j) →
            (row_at rows' a).kind ≡ kind → (b : ℕ) → b < a → Has kind (row_at rows' b) → ⊥
        lone kind f k b l c =
            let g : b < length rows' = omega (arith, l, h) in
            let e = f (from b) (from a) (r.same.from_within b g) inside (rw (old_row b g) c) (rw here (k, refl)) in
            omega (arith, one_place b a g h e, l)

    -- Sound rows whose barriers are kept are sound under another numbering.
    moved-sound : Sound P rows'
    moved-sound =
        in_order-sound P rows' (λ a h. subst (WellFormed P) (old_row a h) (sound_row s (from a) (r.same.from_within a h))) moved-in-order

-- ---- All rows in an allowed order

module _ {P : ℕ} {rows : List Row} (s : Sound P rows) (w : Kept rows) {order : List ℕ} (o : Whole rows order) where
  -- The reordered rows are well formed, and the message of each is in order behind the rows before it.
  pub reordered-sound : Sound P (reordered rows order)
  reordered-sound = moved-sound (whole-renumbered s w o) s w

  -- The barriers of the reordered rows are kept.
  pub reordered-kept : Kept (reordered rows order)
  reordered-kept = moved-kept (whole-renumbered s w o) w

-- All rows of an accepted trace in an allowed order are as many, and pass the questions from 12 on.
pub reordered-accepted : (text : List ℕ) (header m R P limit a b : ℕ) (rows : List Row) → check_trace text header m R P limit a b ≡ accepted rows →
    {order : List ℕ} → Whole rows order →
    (length (reordered rows order) ≡ length rows) × Sound P (reordered rows order) × (barrier_place (reordered rows order) ≡ 0)
reordered-accepted text header m R P limit a b rows taken o =
    let s = (sound_trace text header m R P limit a b rows taken).0 in
    let w = accepted-kept text header m R P limit a b rows taken in
    (reordered-many o, reordered-sound s w o, (kept-iff _).1 (reordered-kept s w o))
