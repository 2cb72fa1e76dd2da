-- The barriers of an accepted trace: every process has one row of each, a row of a barrier happens before every row that follows a row of that
-- barrier in any process, and an allowed order lets no process pass before all have arrived.
use Rattle.std.proofs.Common.{ℕ, ◌<◌, ◌≡◌, ◌↔◌, List, length}
use Rattle.rows.specs.declared.row.Row.{Row}
use Rattle.rows.specs.Kinds.{BARRIER}
use Rattle.rows.specs.Lists.{In}
use Rattle.rows.specs.Rows.{row_at}
use Rattle.trace.specs.Questions.{accepted, check_trace}
use Rattle.trace.proofs.Laws.{accepted-kept}
use Rattle.barriers.proofs.Kept.{Meet, Kept, one-row_each, barrier_first}
use Rattle.happens_before.specs.Order.{edge, HB}
use Rattle.happens_before.specs.Sentences.{literal_edge}
use Rattle.happens_before.proofs.Barriers.{barrier_order, literal_order}
use Rattle.consistency.specs.Orders.{Allowed, Stands}
use Rattle.consistency.proofs.Messages.{sound_sent_first}
use Rattle.consistency.proofs.Orderings.{allowed-stands}
use Rattle.consistency.proofs.Theorems.{sound_trace}

-- An allowed order lets no process pass a barrier before all have arrived: it holds each row of the barrier before a row that follows one of the
-- barrier's rows in its process.
pub none_passes : {rows : List Row} → Kept rows → {order : List ℕ} → Allowed rows order → (i k j : ℕ) → i < length rows → k < j →
    Meet (row_at rows k) (row_at rows i) → (row_at rows k).process ≡ (row_at rows j).process → In j order → In i order × Stands i j order
none_passes {rows} kept {order} allowed i k j h l m s n =
    let before = barrier_order rows kept i k j h l (allowed.of_trace j n) m s in
    (allowed.closed i j before n, allowed-stands rows order allowed i j before n)

-- ---- From the text on

module _ (text : List ℕ) (header model R P limit a b : ℕ) (rows : List Row) (taken : check_trace text header model R P limit a b ≡ accepted rows) where
  -- What question 22 asks holds of the rows.
  kept : Kept rows
  kept = accepted-kept text header model R P limit a b rows taken

  -- Every process that has a row in an accepted trace has one row of each barrier, and no other.
  pub accepted-one_row_each : (k q : ℕ) → k < length rows → q < length rows → (row_at rows k).kind ≡ BARRIER →
      (i : ℕ) × (i < length rows) × Meet (row_at rows k) (row_at rows i) × ((row_at rows i).process ≡ (row_at rows q).process)
      × ((j : ℕ) → j < length rows → Meet (row_at rows k) (row_at rows j) → (row_at rows j).process ≡ (row_at rows q).process → j ≡ i)
  accepted-one_row_each = one-row_each kept

  -- Each row of a barrier stands before every row that follows a row of that barrier in any process, and happens before it.
  pub accepted-barrier_order : (i k j : ℕ) → i < length rows → k < j → j < length rows → Meet (row_at rows k) (row_at rows i) →
      (row_at rows k).process ≡ (row_at rows j).process → (i < j) × HB (edge rows) i j
  accepted-barrier_order i k j h l g m s = (barrier_first kept i k j h l g m s, barrier_order rows kept i k j h l g m s)

  -- The rows are ordered as the documents' sentences order them, and not otherwise.
  pub accepted-literal_order : (i j : ℕ) → HB (edge rows) i j ↔ HB (literal_edge rows) i j
  accepted-literal_order =
      literal_order rows kept (sound_sent_first (sound_trace text header model R P limit a b rows taken).0)

  -- No allowed order lets a process pass a barrier before all have arrived.
  pub accepted-none_passes : {order : List ℕ} → Allowed rows order → (i k j : ℕ) → i < length rows → k < j → Meet (row_at rows k) (row_at rows i) →
      (row_at rows k).process ≡ (row_at rows j).process → In j order → In i order × Stands i j order
  accepted-none_passes = none_passes kept
