-- A posted receive gives no order by itself: a trace has the same edges where every recv is a row that carries nothing.
use Rattle.std.proofs.Common.{ℕ, zero, suc, ◌≡◌, refl, ap, ◌∙◌, Bool, true, false, cond, ◌&&◌, ◌||◌, List, [], ◌∷◌, map, length, eqb-true}
use lib.ListN.{length-map}
use lib.Dec.{ltb, eqb}
use Rattle.rows.specs.declared.row.Row.{Row}
use Rattle.rows.specs.Kinds.{READ, SEND, RECV, ARRIVAL, BARRIER}
use Rattle.rows.specs.Rows.{row_at}
use Rattle.happens_before.specs.Order.{delivers, last_of, last_before, passes, crosses, edge}

-- A read of row r's process whose other fields are 0.
abbrev pub blank : Row → Row
blank r = record { process = r.process; kind = READ; file = 0; offset = 0; length = 0; message = 0 }

-- A recv becomes such a read. Any other row stays.
abbrev pub without_post : Row → Row
without_post r = cond (eqb r.kind RECV) (blank r) r

-- The row at a place of a trace without posts.
row-without : (rows : List Row) (i : ℕ) → row_at (map without_post rows) i ≡ without_post (row_at rows i)
row-without [] i = refl
row-without (r ∷ rows) zero = refl
row-without (r ∷ rows) (suc i) = row-without rows i

module _ (r : Row) where
  -- The process stays.
  process-without : (without_post r).process ≡ r.process
  process-without = go (eqb r.kind RECV)
    where
      go : (b : Bool) → (cond b (blank r) r).process ≡ r.process
      go true = refl
      go false = refl

  -- A row of a kind that is neither read nor recv keeps its kind and its message, and no other row becomes one.
  kind-without : (kind : ℕ) → eqb READ kind ≡ false → eqb RECV kind ≡ false → (test : ℕ → Bool) →
      eqb (without_post r).kind kind && test (without_post r).message ≡ eqb r.kind kind && test r.message
  kind-without kind a b test = go (eqb r.kind RECV) refl
    where
      go : (t : Bool) → eqb r.kind RECV ≡ t →
          eqb (cond t (blank r) r).kind kind && test (cond t (blank r) r).message ≡ eqb r.kind kind && test r.message
      go true e = rw (a, eqb-true r.kind RECV e, b)
      go false e = refl

-- Two rows of such kinds with one message are such rows without posts, and no others are.
message-without : (k l : ℕ) → (eqb READ k ≡ false) × (eqb RECV k ≡ false) → (eqb READ l ≡ false) × (eqb RECV l ≡ false) → (r s : Row) →
    eqb (without_post r).kind k && (eqb (without_post s).kind l && eqb (without_post r).message (without_post s).message)
    ≡ eqb r.kind k && (eqb s.kind l && eqb r.message s.message)
message-without k l a b r s =
    kind-without r k a.0 a.1 (λ m. eqb (without_post s).kind l && eqb m (without_post s).message)
    ∙ ap (λ (x : Bool). eqb r.kind k && x) (kind-without s l b.0 b.1 (λ m. eqb r.message m))

module _ (at : ℕ → Row) (i : ℕ) where
  -- The rows of a barrier stay.
  passes-without : (last : ℕ) → passes (λ k. without_post (at k)) i last ≡ passes at i last
  unfolding passes
  passes-without zero = refl
  passes-without (suc k) = message-without BARRIER BARRIER (refl, refl) (refl, refl) (at i) (at k)

  -- A row leads to the same rows.
  crosses-without : (j : ℕ) → crosses (λ k. without_post (at k)) i j ≡ crosses at i j
  unfolding crosses
  crosses-without j =
      (λ t. message-without SEND ARRIVAL (refl, refl) (refl, refl) (at i) (at j) t
      || passes (λ k. without_post (at k)) i (last_of (λ k. process-without (at k) t) (process-without (at j) t) j))
      ∙ ap (λ (x : Bool). delivers (at i) (at j) || x) (passes-without (last_before at j))

-- A trace has the same edges without its posts.
pub recv_no_order : (rows : List Row) (i j : ℕ) → edge (map without_post rows) i j ≡ edge rows i j
unfolding edge
recv_no_order rows i j =
    (λ t. ltb i j && (ltb j (length-map rows without_post t)
    && (eqb (row-without rows i t).process (row-without rows j t).process || crosses (λ k. row-without rows k t) i j)))
    ∙ (λ t. ltb i j && (ltb j (length rows)
    && (eqb (process-without (row_at rows i) t) (process-without (row_at rows j) t) || crosses-without (row_at rows) i j t)))
