-- A conflict is what document 01 says.
use Rattle.std.proofs.Common.{ℕ, ◌+◌, ◌≤◌, ◌<◌, ◌≡◌, ◌↔◌, ◌⊎◌, inl, inr, true, not, ◌||◌, eq-eqb, ne_eqb, eqb-true}
use mathlib.Core.Bool.{or-true}
use lib.Dec.{eqb}
use borrow.Author.Tests.{eqb-false, not-true}
use Rattle.rows.specs.Kinds.{READ, WRITE}
use Rattle.rows.specs.declared.row.Row.{Row}
use Rattle.happens_before.specs.Order.{same_process}
use Rattle.rows.proofs.Bools.{and_out, or_out}
use Rattle.races_meaning.specs.Races.{is_write, is_data, same_file, share_byte, conflict}
use Rattle.races_meaning.proofs.Verdicts.{share_iff}

-- Two data rows that name the same file, share at least one byte, are of different processes, and one is a write.
pub record Conflict (r s : Row) : Type 0 where
  pub first-data : (r.kind ≡ READ) ⊎ (r.kind ≡ WRITE)
  pub second-data : (s.kind ≡ READ) ⊎ (s.kind ≡ WRITE)
  pub one-file : r.file ≡ s.file
  pub byte : ℕ
  pub in_first : (r.offset ≤ byte) × (byte < r.offset + r.length)
  pub in_second : (s.offset ≤ byte) × (byte < s.offset + s.length)
  pub two-processes : r.process ≡ s.process → ⊥
  pub one_writes : (r.kind ≡ WRITE) ⊎ (s.kind ≡ WRITE)

-- One of two tests of a number passes exactly where the number is one of the two.
either : (a b k l : ℕ) → (eqb a k || eqb b l ≡ true) ↔ ((a ≡ k) ⊎ (b ≡ l))
either a b k l = (λ e. to (or_out (eqb a k) (eqb b l) e), from)
  where
    to : (eqb a k ≡ true) ⊎ (eqb b l ≡ true) → (a ≡ k) ⊎ (b ≡ l)
    to (inl e) = inl (eqb-true a k e)
    to (inr e) = inr (eqb-true b l e)

    from : (a ≡ k) ⊎ (b ≡ l) → eqb a k || eqb b l ≡ true
    from (inl e) = rw (eq-eqb a k e)
    from (inr e) = rw (eq-eqb b l e, or-true)

pub conflict-iff : (r s : Row) → (conflict r s ≡ true) ↔ Conflict r s
unfolding conflict
conflict-iff r s = (to, from)
  where
    to : conflict r s ≡ true → Conflict r s
    to e =
        let a = and_out (is_data r) _ e in
        let b = and_out (is_data s) _ a.1 in
        let c = and_out (same_file r s) _ b.1 in
        let d = and_out (share_byte r s) _ c.1 in
        let f = and_out (not (same_process r s)) (is_write r || is_write s) d.1 in
        let h = (share_iff r s).0 d.0 in
        record {
          first-data = (either r.kind r.kind READ WRITE).0 a.0;
          second-data = (either s.kind s.kind READ WRITE).0 b.0;
          one-file = eqb-true r.file s.file c.0;
          byte = h.0;
          in_first = (h.1, h.2);
          in_second = (h.3, h.4);
          two-processes = eqb-false r.process s.process (not-true (same_process r s) f.0);
          one_writes = (either r.kind s.kind WRITE WRITE).0 f.1;
        }

    from : Conflict r s → conflict r s ≡ true
    from c =
        rw (
          (either r.kind r.kind READ WRITE).1 c.first-data,
          (either s.kind s.kind READ WRITE).1 c.second-data,
          eq-eqb r.file s.file c.one-file,
          (share_iff r s).1 (c.byte, c.in_first.0, c.in_first.1, c.in_second.0, c.in_second.1),
          ne_eqb r.process s.process c.two-processes,
        )
        ((either r.kind s.kind WRITE WRITE).1 c.one_writes)
