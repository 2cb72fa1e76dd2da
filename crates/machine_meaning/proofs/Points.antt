-- Bytes whose cells change only at given points: fresh bytes do so, and every row keeps them so.
use Rattle.std.proofs.Common.{ℕ, zero, suc, ◌+◌, ◌%◌, ◌≤◌, ◌<◌, arith, ◌≡◌, refl, sym, ap, ◌∙◌, inl, inr, Bool, true, false, cond, List, length, eqb-true, ne_eqb}
use native.Mathlib.Decide.{dec_lt, ℕ_discrete}
use lib.Dec.{eqb}
use Rattle.rows.specs.Limits.{ROWS, OFFSET_MAX}
use Rattle.rows.specs.Kinds.{WRITE}
use Rattle.models.specs.Table.{publishes, refreshes}
use Rattle.rows.specs.declared.row.Row.{Row}
use Rattle.extents_meaning.specs.Cells.{Bytes, cell_of, number_in, unpublished, cleared, in_range, overwrite, published, as_published, refreshed}
use Rattle.extents_meaning.specs.Runs.{runs_of, pieces_of}
use Rattle.rows.specs.Lists.{In}
use Rattle.extents_meaning.proofs.Longest.{Fine}
use Rattle.extents_meaning.proofs.Points.{few-runs, few-pieces}
use Rattle.extents_meaning.proofs.Overwrites.{over-in, over-before, over-behind}
use Rattle.machine_meaning.specs.Layers.{Layers, nothing, fresh, with_view, written, publishing, refreshing, after_row, after_plain}

-- A property of both branches holds of the branch that a test picks.
pub picked : {A : Type 0} (P : A → Type 0) (x : Bool) (a b : A) → (x ≡ true → P a) → P b → P (cond x a b)
picked P true a b f p = f refl
picked P false a b f p = p

-- A fine cell without its mark is fine.
cleared-fine : (c : ℕ) → Fine c → Fine (cleared c)
cleared-fine c (inl e) = inl (omega arith)
cleared-fine c (inr f) = inr (omega (arith, f.0), omega (arith, f.1))

-- A cell without its mark is published.
cleared-unmarked : (c : ℕ) → unpublished (cleared c) ≡ false
cleared-unmarked c = ne_eqb (cleared c % 2) 1 (omega arith)

-- ---- Bytes

-- The cell before a byte, and 0 before the first byte.
abbrev pub prior : Bytes → Bytes
prior f zero = 0
prior f (suc b) = f b

-- Cells are fine, 0 from the end of all files on, and differ from the cell before only at points.
pub record Pointed (points : List ℕ) (f : Bytes) : Type 0 where
  pub fine : (b : ℕ) → Fine (f b)
  pub ends : (b : ℕ) → OFFSET_MAX ≤ b → f b ≡ 0
  pub changes : (b : ℕ) → (prior f b ≡ f b → ⊥) → In b points

module _ {points : List ℕ} where
  -- Bytes that change only at the points have at most one run for each point.
  pub pointed_runs : {f : Bytes} → Pointed points f → length (runs_of f) ≤ length points
  pointed_runs {f} k = few-runs f points (λ n. k.changes 0 (λ e. n (sym e))) (λ b _. k.changes (suc b))

  -- Every range of such bytes has at most one piece more than there are points.
  pub pointed_pieces : {f : Bytes} → Pointed points f → (s n : ℕ) → length (pieces_of f s n) ≤ suc (length points)
  pointed_pieces {f} k s n = few-pieces f points s n (λ b _ _ d. k.changes (suc b) (λ e. d (ap number_in e)))

  -- Bytes that nobody wrote change nowhere.
  nothing-pointed : Pointed points nothing
  nothing-pointed = record { fine = λ b. inl refl; ends = λ b _. refl; changes = λ b d. absurd (d (same b)) }
    where
      same : (b : ℕ) → prior nothing b ≡ 0
      same zero = refl
      same (suc b) = refl

  module _ (F : ℕ → ℕ → ℕ) (none : F 0 0 ≡ 0) (keeps : (c d : ℕ) → Fine c → Fine d → Fine (F c d)) where
    -- A function of two cells, byte by byte, changes only at the points.
    both-pointed : {f g : Bytes} → Pointed points f → Pointed points g → Pointed points (λ b. F (f b) (g b))
    both-pointed {f} {g} k m =
        record {
          fine = λ b. keeps (f b) (g b) (k.fine b) (m.fine b);
          ends = λ b h. (λ i. F (k.ends b h i) (m.ends b h i)) ∙ none;
          changes = λ b d. go b d (ℕ_discrete (prior f b) (f b)) (ℕ_discrete (prior g b) (g b));
        }
      where
        before : (b : ℕ) → prior (λ b. F (f b) (g b)) b ≡ F (prior f b) (prior g b)
        before zero = sym none
        before (suc b) = refl

        go : (b : ℕ) → (prior (λ b. F (f b) (g b)) b ≡ F (f b) (g b) → ⊥) → Dec (prior f b ≡ f b) → Dec (prior g b ≡ g b) → In b points
        go b d (yes p) (yes q) = absurd (d (before b ∙ (λ i. F (p i) (q i))))
        go b d (yes p) (no q) = m.changes b q
        go b d (no p) q = k.changes b p

  -- ---- Bytes of a view and published bytes

  -- Publishing keeps the points of the published bytes.
  published-pointed : {f g : Bytes} → Pointed points f → Pointed points g → Pointed points (published f g)
  published-pointed =
      both-pointed (λ c d. cond (unpublished c) (cleared c) d) refl
      (λ c d p q. picked Fine (unpublished c) (cleared c) d (λ _. cleared-fine c p) q)

  -- Publishing keeps the points of the view.
  as_published-pointed : {f : Bytes} → Pointed points f → Pointed points (as_published f)
  as_published-pointed k = both-pointed (λ c d. cleared c) refl (λ c d p q. cleared-fine c p) k k

  -- Refreshing keeps the points of the view.
  refreshed-pointed : {f g : Bytes} → Pointed points f → Pointed points g → Pointed points (refreshed f g)
  refreshed-pointed = both-pointed (λ c d. cond (unpublished c) c d) refl (λ c d p q. picked Fine (unpublished c) c d (λ _. p) q)

  -- ---- A range that gets a cell

  module _ (start size c : ℕ) (f : Bytes) (k : Pointed points f) (there : In start points) (end : In (start + size) points) where
    -- Overwriting a range adds changes only at its two ends.
    over-changes : (b : ℕ) → (prior (overwrite start size c f) b ≡ overwrite start size c f b → ⊥) → In b points
    over-changes b d = go b d (ℕ_discrete b start) (ℕ_discrete b (start + size)) (dec_lt b start) (dec_lt b (start + size))
      where
        over : Bytes
        over = overwrite start size c f

        go : (b : ℕ) → (prior over b ≡ over b → ⊥) → Dec (b ≡ start) → Dec (b ≡ start + size) → Dec (b < start) → Dec (b < start + size) → In b points
        go b d (yes e) q l m = rw e there
        go b d (no e) (yes q) l m = rw q end
        go zero d (no e) (no q) l m = k.changes 0 (λ p. d (p ∙ sym (over-before start size c f 0 (omega arith))))
        go (suc a) d (no e) (no q) (yes l) m =
            k.changes (suc a) (λ p. d (over-before start size c f a (omega arith) ∙ p ∙ sym (over-before start size c f (suc a) l)))
        go (suc a) d (no e) (no q) (no l) (yes m) =
            absurd (d (over-in start size c f a (omega arith) (omega arith) ∙ sym (over-in start size c f (suc a) (omega arith) m)))
        go (suc a) d (no e) (no q) (no l) (no m) =
            k.changes (suc a) (λ p. d (over-behind start size c f a (omega arith) ∙ p ∙ sym (over-behind start size c f (suc a) (omega arith))))

    -- Overwriting a range between two points keeps the points.
    over-pointed : start + size ≤ OFFSET_MAX → Fine c → Pointed points (overwrite start size c f)
    over-pointed h w =
        record {
          fine = λ b. picked Fine (in_range start size b) c (f b) (λ _. w) (k.fine b);
          ends = λ b l. over-behind start size c f b (omega arith) ∙ k.ends b l;
          changes = over-changes;
        }

-- ---- Rows

-- The bytes of a layered file change only at the points, and no published byte is marked.
pub record LayersPointed (points : List ℕ) (s : Layers) : Type 0 where
  pub shared : Pointed points s.shared
  pub unmarked : (b : ℕ) → unpublished (s.shared b) ≡ false
  pub view : (p : ℕ) → Pointed points (s.view p)

-- The bytes of a plain file change only at the points, and no byte is marked.
pub record PlainPointed (points : List ℕ) (f : Bytes) : Type 0 where
  pub bytes : Pointed points f
  pub unmarked : (b : ℕ) → unpublished (f b) ≡ false

-- A row under a row number. If the row writes, its range ends within files, and both its ends are points.
pub record Writing (points : List ℕ) (r : Row) (number : ℕ) : Type 0 where
  pub numbered : 1 ≤ number
  pub number-most : number ≤ ROWS
  pub range-end : r.kind ≡ WRITE → r.offset + r.length ≤ OFFSET_MAX
  pub at-points : r.kind ≡ WRITE → In r.offset points × In (r.offset + r.length) points

module _ {points : List ℕ} where
  -- A fresh layered file changes nowhere.
  pub fresh-pointed : LayersPointed points fresh
  fresh-pointed = record { shared = nothing-pointed; unmarked = λ b. refl; view = λ p. nothing-pointed }

  -- A fresh plain file changes nowhere.
  pub plain-pointed : PlainPointed points nothing
  plain-pointed = record { bytes = nothing-pointed; unmarked = λ b. refl }

  -- Replacing a view by one that changes only at the points keeps the points.
  with_pointed : (p : ℕ) {f : Bytes} {views : ℕ → Bytes} → Pointed points f → ((q : ℕ) → Pointed points (views q)) →
      (q : ℕ) → Pointed points (with_view p f views q)
  with_pointed p {f} {views} k m q = picked (Pointed points) (eqb q p) f (views q) (λ _. k) (m q)

  -- A publish, a refresh and a write keep the points, where a test picks them.
  publishing-pointed : (x : Bool) (p : ℕ) {s : Layers} → LayersPointed points s → LayersPointed points (cond x (publishing p s) s)
  publishing-pointed x p {s} k = picked (LayersPointed points) x (publishing p s) s (λ _. then) k
    where
      unmarked : (b : ℕ) → unpublished (published (s.view p) s.shared b) ≡ false
      unmarked b =
          let c : ℕ = s.view p b in
          picked (λ (c : ℕ). unpublished c ≡ false) (unpublished c) (cleared c) (s.shared b) (λ _. cleared-unmarked c) (k.unmarked b)

      then : LayersPointed points (publishing p s)
      then =
          record {
            shared = published-pointed (k.view p) k.shared;
            unmarked = unmarked;
            view = with_pointed p (as_published-pointed (k.view p)) k.view;
          }

  refreshing-pointed : (x : Bool) (p : ℕ) {s : Layers} → LayersPointed points s → LayersPointed points (cond x (refreshing p s) s)
  refreshing-pointed x p {s} k = picked (LayersPointed points) x (refreshing p s) s (λ _. then) k
    where
      then : LayersPointed points (refreshing p s)
      then = record { shared = k.shared; unmarked = k.unmarked; view = with_pointed p (refreshed-pointed (k.view p) k.shared) k.view }

  module _ {r : Row} {number : ℕ} (w : Writing points r number) where
    -- Writing the row number over the range of the row, marked or not, keeps the points.
    write-pointed : (mark : ℕ) → mark ≤ 1 → {f : Bytes} → r.kind ≡ WRITE → Pointed points f →
        Pointed points (overwrite r.offset r.length (cell_of number mark) f)
    write-pointed mark h {f} e k =
        let low = w.numbered in
        let high = w.number-most in
        let at = w.at-points e in
        over-pointed r.offset r.length (cell_of number mark) f k at.0 at.1 (w.range-end e) (inr (omega arith, omega arith))

    writing-pointed : {s : Layers} → LayersPointed points s → LayersPointed points (cond (eqb r.kind WRITE) (written r number s) s)
    writing-pointed {s} k = picked (LayersPointed points) (eqb r.kind WRITE) (written r number s) s (λ e. then (eqb-true _ _ e)) k
      where
        then : r.kind ≡ WRITE → LayersPointed points (written r number s)
        then e =
            record {
              shared = k.shared;
              unmarked = k.unmarked;
              view = with_pointed r.process (write-pointed 1 (omega arith) e (k.view r.process)) k.view;
            }

    -- Every row keeps the points of the layered file.
    pub row-pointed : (model : ℕ) {s : Layers} → LayersPointed points s → LayersPointed points (after_row model r number s)
    unfolding after_row
    row-pointed model k =
        refreshing-pointed (refreshes model r.kind) r.process
        (publishing-pointed (publishes model r.kind) r.process (writing-pointed k))

    -- Every row keeps the points of the plain file.
    pub plain-row-pointed : {f : Bytes} → PlainPointed points f → PlainPointed points (after_plain r number f)
    unfolding after_plain
    plain-row-pointed {f} k =
        picked (PlainPointed points) (eqb r.kind WRITE) (overwrite r.offset r.length (cell_of number 0) f) f
        (λ e. then (eqb-true _ _ e)) k
      where
        unmarked : (b : ℕ) → unpublished (overwrite r.offset r.length (cell_of number 0) f b) ≡ false
        unmarked b =
            picked (λ (c : ℕ). unpublished c ≡ false) (in_range r.offset r.length b) (cell_of number 0) (f b)
            (λ _. ne_eqb (cell_of number 0 % 2) 1 (omega arith)) (k.unmarked b)

        then : r.kind ≡ WRITE → PlainPointed points (overwrite r.offset r.length (cell_of number 0) f)
        then e = record { bytes = write-pointed 0 (omega arith) e k.bytes; unmarked = unmarked }
