-- The scan finds the races.
use Rattle.std.proofs.Common.{ℕ, suc, ◌-◌, ◌≤◌, ◌<◌, arith, ◌≡◌, refl, sym, ap, ◌∙◌, Bool, true, false, cond, not, ◌&&◌, List, length, lt-ltb, ltb-true, eq-eqb, eqb-true}
use lib.Dec.{ltb, eqb}
use Rattle.rows.specs.Kinds.{WRITE}
use Rattle.models.specs.Table.{publishes}
use Rattle.rows.specs.declared.row.Row.{Row}
use Rattle.happens_before.specs.Order.{edge, HB}
use Rattle.rows.specs.Rows.{row_at}
use Rattle.rows.proofs.Bools.{and_out, same_test}
use Rattle.happens_before.proofs.Clocks.{edge-forward, HB-less, hb-iff}
use Rattle.races_meaning.specs.Races.{same_file, conflict, synchronized, race}
use Rattle.rows.specs.Counting.{last_below}
use Rattle.races_meaning.specs.TableChain.{published_by, refreshed_by, table_chain}
use Rattle.races_meaning.specs.Search.{is_publish, publish_at, refresh_at, best_chain}
use Rattle.races_meaning.specs.Scan.{before, noted, last_noted, is_in_order, seen}
use Rattle.races_meaning.proofs.Conflicts.{Conflict, conflict-iff}
use Rattle.races_meaning.proofs.Chains.{two-iff, table-chain}
use Rattle.races_meaning.proofs.Best.{Latest, last-is, refreshed, publish_first, refresh_last, best_chain_lem, counts-tell}
use Rattle.rows.specs.Limits.{MODELS}

-- ---- A write: its chain and the last noted row

module _ (rows : List Row) (model x y : ℕ) (h : x < y) (g : y < length rows) (c : Conflict (row_at rows x) (row_at rows y)) where
  -- Row c is a noted row of x's process.
  abbrev mark : ℕ → ℕ → Bool
  mark o k = eqb (row_at rows k).process (row_at rows x).process && noted rows model y o k

  -- Row x publishes itself, or a noted row behind x does.
  abbrev told : Bool → ℕ → Bool
  told b o = cond b (before rows model (row_at rows x).process x o) (ltb (suc x) (last_below y (mark o)))

  -- Where a row publishes x and happens before row o, the noted rows tell.
  chain_told : (b : Bool) (k o : ℕ) → o ≤ y → HB (edge rows) k o → cond b (eqb k x) (ltb x k && is_publish rows model (row_at rows x) k) ≡ true →
      told b o ≡ true
  chain_told true k o l r e =
      let q = eqb-true k x e in
      let s : HB (edge rows) x o = rw q at r in
      let d = HB-less (edge-forward rows) s in
      sym (counts-tell rows x o (omega arith) (omega arith) (omega arith)) ∙ (hb-iff (edge-forward rows) x o).1 s
  chain_told false k o l r e =
      let d = HB-less (edge-forward rows) r in
      let i = and_out (ltb x k) _ e in
      let j = and_out (publishes model (row_at rows k).kind) _ i.1 in
      let f = and_out (same_file (row_at rows x) (row_at rows k)) _ j.1 in
      let b = ltb-true x k i.0 in
      let u = sym (counts-tell rows k o (omega arith) (omega arith) (omega arith)) ∙ (hb-iff (edge-forward rows) k o).1 r in
      let p = eq-eqb (row_at rows k).process (row_at rows x).process (sym (eqb-true _ _ f.1)) in
      let s = eq-eqb (row_at rows y).file (row_at rows k).file (sym c.one-file ∙ eqb-true _ _ f.0) in
      let a = (last-is y (mark o)).last k (omega arith) (rw (p, j.0, s) u) in
      lt-ltb (suc x) _ (omega arith)

  -- Where the noted rows tell, a row publishes x and happens before row o.
  told-chain : (b : Bool) (o : ℕ) → o ≤ y → (row_at rows y).process ≡ (row_at rows o).process → told b o ≡ true →
      (k : ℕ) × (cond b (eqb k x) (ltb x k && is_publish rows model (row_at rows x) k) ≡ true) × HB (edge rows) k o
  told-chain true o l s e = (x, eq-eqb x x refl, (hb-iff (edge-forward rows) x o).0 (counts-tell rows x o (omega arith) (omega arith) apart ∙ e))
    where
      apart : x ≡ o → ⊥
      apart q = c.two-processes (ap (λ (k : ℕ). (row_at rows k).process) q ∙ sym s)
  told-chain false o l s e = (k, t, (hb-iff (edge-forward rows) k o).0 (counts-tell rows k o (omega (arith, low, high)) (omega arith) apart ∙ f.1))
    where
      r : Latest y (mark o) (last_below y (mark o))
      r = last-is y (mark o)

      k : ℕ
      k = last_below y (mark o) - 1

      low : suc x < last_below y (mark o)
      low = ltb-true (suc x) _ e

      high : last_below y (mark o) ≤ y
      high = r.high

      a : (eqb (row_at rows k).process (row_at rows x).process ≡ true) × (noted rows model y o k ≡ true)
      a = and_out (eqb (row_at rows k).process (row_at rows x).process) (noted rows model y o k) (r.passes (omega (arith, low)))

      d : (publishes model (row_at rows k).kind ≡ true)
          × (same_file (row_at rows y) (row_at rows k) && before rows model (row_at rows k).process k o ≡ true)
      d = and_out (publishes model (row_at rows k).kind) _ a.1

      f : (same_file (row_at rows y) (row_at rows k) ≡ true) × (before rows model (row_at rows k).process k o ≡ true)
      f = and_out (same_file (row_at rows y) (row_at rows k)) _ d.1

      p : (row_at rows k).process ≡ (row_at rows x).process
      p = eqb-true _ _ a.0

      t : ltb x k && is_publish rows model (row_at rows x) k ≡ true
      t =
          rw (
            lt-ltb x k (omega (arith, low)),
            d.0,
            eq-eqb (row_at rows x).file (row_at rows k).file (c.one-file ∙ eqb-true _ _ f.0),
          )
          (eq-eqb (row_at rows x).process (row_at rows k).process (sym p))

      apart : k ≡ o → ⊥
      apart q = c.two-processes (sym p ∙ ap (λ (i : ℕ). (row_at rows i).process) q ∙ sym s)

  -- The chain of the table, by the last noted row.
  chain_scan : table_chain rows model x y ≡ ltb 0 (refresh_at rows model y) && told (publishes model WRITE) (refresh_at rows model y - 1)
  unfolding table_chain published_by best_chain
  chain_scan = same_test _ _ (λ e. there (sym (best_chain_lem rows model x y (omega arith) g) ∙ e)) back
    where
      q : ℕ
      q = refresh_at rows model y

      r : Latest (suc y) (refreshed_by rows model y) q
      r = refresh_last rows model y

      there : best_chain rows model x y ≡ true → ltb 0 q && told (publishes model WRITE) (q - 1) ≡ true
      there e =
          let i = and_out (ltb (publish_at rows model x) (length rows)) _ e in
          let j = and_out (ltb 0 q) _ i.1 in
          let t = (publish_first rows model x (omega arith)).passes (ltb-true _ _ i.0) in
          let s = (hb-iff (edge-forward rows) (publish_at rows model x) (q - 1)).0 j.1 in
          rw j.0 (chain_told (publishes model WRITE) (publish_at rows model x) (q - 1) (omega (arith, r.high)) s t)

      back : ltb 0 q && told (publishes model WRITE) (q - 1) ≡ true → table_chain rows model x y ≡ true
      back e =
          let j = and_out (ltb 0 q) _ e in
          let t = r.passes (ltb-true 0 q j.0) in
          let l : q ≤ suc y = r.high in
          let a = told-chain (publishes model WRITE) (q - 1) (omega arith) (refreshed rows model y (q - 1) t).1 j.1 in
          (two-iff rows (length rows) (published_by rows model x) (refreshed_by rows model y)).1 (a.0, q - 1, a.1, omega arith, t, a.2)

-- Of a conflicting pair, the scan tells whether it is properly synchronized.
pub in_order : (rows : List Row) (model x y : ℕ) → model < MODELS → x < y → y < length rows → conflict (row_at rows x) (row_at rows y) ≡ true →
    synchronized rows model x y ≡ is_in_order rows model x y
unfolding synchronized is_in_order last_noted
in_order rows model x y m h g c =
    let k = (conflict-iff (row_at rows x) (row_at rows y)).0 c in
    let write = sym (table-chain rows x y model m (omega arith) g) ∙ chain_scan rows model x y h g k in
    rw (write, counts-tell rows x y (omega arith) g (omega arith))

-- ---- The races of a later row

-- An earlier row that the scan finds is a race.
pub race_seen : (rows : List Row) (model x y : ℕ) → model < MODELS → x < y → y < length rows → race rows model x y ≡ seen rows model y x
unfolding race
race_seen rows model x y m h g = rw (lt-ltb x y h, lt-ltb y (length rows) g) (go (conflict (row_at rows x) (row_at rows y)) refl)
  where
    go : (b : Bool) → conflict (row_at rows x) (row_at rows y) ≡ b → b && not (synchronized rows model x y) ≡ b && not (is_in_order rows model x y)
    go true e = ap not (in_order rows model x y m h g e)
    go false e = refl
