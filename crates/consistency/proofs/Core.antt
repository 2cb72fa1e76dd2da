-- The core of demands 2 and 3, at one byte of one file and over any edges: what a row does there is all that is known of it. Orders are lists
-- with the latest row first, so that a prefix is a tail.
use Rattle.std.proofs.Common.{ℕ, suc, ◌<◌, ◌≡◌, ◌⊎◌, Bool, true, false, cond, List, [], ◌∷◌, ◌++◌}
use Rattle.consistency.proofs.Byte.{Byte, fresh_byte, publish_byte, step_byte}
use Rattle.happens_before.specs.Order.{HB}
use Rattle.happens_before.proofs.Clocks.{Forward}
use Rattle.rows.specs.Lists.{In}

-- The rows as one byte of one file sees them: which write or read the byte, which publish and refresh the file for their process, and whether
-- a write publishes and a read refreshes by itself under the model.
pub record Trace : Type 0 where
  pub rows : ℕ
  pub edge : ℕ → ℕ → Bool
  pub process : ℕ → ℕ
  pub writes : ℕ → Bool
  pub reads : ℕ → Bool
  pub publishes : ℕ → Bool
  pub refreshes : ℕ → Bool
  pub at_write : Bool
  pub at_read : Bool
  pub forward : Forward edge
  pub inside : (i j : ℕ) → edge i j ≡ true → j < rows
  pub program : (i j : ℕ) → i < j → j < rows → process i ≡ process j → edge i j ≡ true
  pub one-kind : (k : ℕ) → reads k ≡ true → writes k ≡ false
  pub write_publishes : at_write ≡ true → (k : ℕ) → writes k ≡ true → publishes k ≡ true
  pub read-refreshes : at_read ≡ true → (k : ℕ) → reads k ≡ true → refreshes k ≡ true

-- One more publishing by each process of a list, the first one first.
unfoldable pub publish_all : List ℕ → Byte → Byte
publish_all [] s = s
publish_all (p ∷ ps) s = publish_all ps (publish_byte p s)

module _ (t : Trace) where
  -- ---- Runs

  -- The layered byte after the rows of an order, and the plain byte.
  unfoldable pub run : List ℕ → Byte
  run [] = fresh_byte
  run (y ∷ h) = step_byte (t.writes y) (t.publishes y) (t.refreshes y) (t.process y) (suc y) (run h)

  unfoldable pub plain : List ℕ → ℕ
  plain [] = 0
  plain (y ∷ h) = cond (t.writes y) (suc y) (plain h)

  -- An allowed order of a closed set: each row once, and every direct predecessor of a row before it.
  pub data Ok : List ℕ → Type 0 where
    none : Ok []
    next : {y : ℕ} {h : List ℕ} → y < t.rows → (In y h → ⊥) → ((k : ℕ) → t.edge k y ≡ true → In k h) → Ok h → Ok (y ∷ h)

  -- ---- Races

  -- Row c publishes the write x; row o refreshes for y.
  abbrev pub Published : ℕ → ℕ → Type 0
  Published x c = ((t.at_write ≡ true) × (c ≡ x)) ⊎ ((t.at_write ≡ false) × (x < c) × (t.publishes c ≡ true) × (t.process c ≡ t.process x))

  abbrev pub Refreshed : ℕ → ℕ → Type 0
  Refreshed y o = ((t.at_read ≡ true) × (o ≡ y)) ⊎ ((t.at_read ≡ false) × (o < y) × (t.refreshes o ≡ true) × (t.process o ≡ t.process y))

  abbrev pub Chain : ℕ → ℕ → Type 0
  Chain x y = (c : ℕ) × (o : ℕ) × Published x c × Refreshed y o × HB t.edge c o

  -- Two rows of different processes that touch the byte, the first one earlier in the trace, and one of them writes.
  abbrev pub Conflict : ℕ → ℕ → Type 0
  Conflict x y =
      (x < y) × (y < t.rows) × (t.process x ≡ t.process y → ⊥)
      × (((t.writes x ≡ true) × ((t.writes y ≡ true) ⊎ (t.reads y ≡ true))) ⊎ ((t.reads x ≡ true) × (t.writes y ≡ true)))

  abbrev pub Synchronized : ℕ → ℕ → Type 0
  Synchronized x y = ((t.writes x ≡ true) × Chain x y) ⊎ ((t.reads x ≡ true) × HB t.edge x y)

  -- No conflicting pair is left unsynchronized.
  abbrev pub Free : Type 0
  Free = (x y : ℕ) → Conflict x y → Synchronized x y

  -- ---- A race under commit: some order shows it

  -- What commit says of the rows: no write publishes, reads refresh.
  pub record Commits : Type 0 where
    pub no_write : t.at_write ≡ false
    pub every-read : t.at_read ≡ true
    pub publish-alone : (k : ℕ) → t.publishes k ≡ true → (t.writes k ≡ false) × (t.reads k ≡ false)
    pub refresh-alone : (k : ℕ) → t.refreshes k ≡ true → (t.writes k ≡ false) × (t.publishes k ≡ false)

  -- An order after which a last read is not the plain byte, or one after which the published byte is not, where a process publishes last.
  pub data Shown (h : List ℕ) : Type 0 where
    by_read : (y : ℕ) (l : List ℕ) → h ≡ y ∷ l → t.reads y ≡ true → ((run h).view (t.process y) ≡ plain l → ⊥) → Shown h
    at-end : (p : ℕ) (k : ℕ) → In k h → t.process k ≡ p →
        ((qs : List ℕ) → (In p qs → ⊥) → (publish_all (qs ++ (p ∷ [])) (run h)).published ≡ plain h → ⊥) → Shown h
