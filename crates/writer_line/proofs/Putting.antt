-- What the functions put and count, part by part.
use Rattle.std.proofs.Common.{ℕ, ◌+◌, ◌≤◌, arith, ◌≡◌, subst, ◌∙◌, Bool, true, false, List, [], ◌∷◌, length}
use lib.ListN.{get_or}
use Rattle.csv_field.specs.FieldGrammar.{COMMA, CRLF}
use Rattle.print.specs.Decimal.{decimal_of}
use Rattle.print.specs.Puts.{lay, put_in, put_end}
use Rattle.print.proofs.Laying.{put-lay}
use Rattle.print.proofs.Parts.{Laid, put-laid, laid-length, then}
use Rattle.rows.specs.declared.row.Row.{Row}
use Rattle.trace_numbers.specs.declared.Used.{Used}
use Rattle.trace_fields.specs.Rows.{kind_words, used_by}
use Rattle.writer_line.specs.Lines.{number_field, record_of}
use Rattle.writer_line.proofs.Contents.{comma, record-size, parts_using}

-- ---- Fields

module _ (xs : List ℕ) (at : ℕ) (content : List ℕ) (h : at + length (COMMA ∷ content) ≤ length xs) {mid : ℕ} {ys : List ℕ}
    (p : (mid ≡ put_end xs at (COMMA ∷ [])) × (ys ≡ put_in xs at (COMMA ∷ []))) where
  -- The comma of a field is laid.
  first : Laid xs at (COMMA ∷ []) mid ys
  first = put-laid xs at (COMMA ∷ []) p (omega arith)

  -- A field is its comma and what it contains.
  pub content-laid : {end : ℕ} {zs : List ℕ} → (end ≡ put_end ys mid content) × (zs ≡ put_in ys mid content) →
      (end ≡ at + length (COMMA ∷ content)) × (zs ≡ lay xs at (COMMA ∷ content))
  content-laid q =
      let both = then first (put-laid ys mid content q (omega (arith, h, first.behind, laid-length first))) in
      (both.behind, both.whole)

module _ (xs : List ℕ) (at n : ℕ) (used : Bool) (h : at + length (COMMA ∷ number_field used n) ≤ length xs) {mid : ℕ} {ys : List ℕ}
    (p : (mid ≡ put_end xs at (COMMA ∷ [])) × (ys ≡ put_in xs at (COMMA ∷ []))) where
  -- A field that is not used is its comma.
  pub comma-laid : used ≡ false → (mid ≡ at + length (COMMA ∷ number_field used n)) × (ys ≡ lay xs at (COMMA ∷ number_field used n))
  comma-laid u = let l = put-laid xs at (COMMA ∷ []) p (omega arith) in rw u (l.behind, l.whole)

  -- A used field is its comma and its digits.
  pub field-laid : {end : ℕ} {zs : List ℕ} → used ≡ true → (end ≡ put_end ys mid (decimal_of n)) × (zs ≡ put_in ys mid (decimal_of n)) →
      (end ≡ at + length (COMMA ∷ number_field used n)) × (zs ≡ lay xs at (COMMA ∷ number_field used n))
  field-laid u q = rw u (content-laid xs at (decimal_of n) (rw u at h) p q)

-- ---- A record

module _ (xs : List ℕ) (r : Row) {v : Used} (e : v ≡ used_by r.kind) (fit : length (record_of r) ≤ length xs) where
  -- The first field.
  abbrev process : List ℕ
  process = decimal_of r.process

  -- The second field with its comma.
  abbrev kind : List ℕ
  kind = COMMA ∷ get_or kind_words r.kind []

  -- There is room for all parts.
  pub room : length process + length kind + length (comma v.file r.file) + length (comma v.range r.offset)
      + length (comma v.range r.length) + length (comma v.message r.message) + 2 ≤ length xs
  room = rw e (omega (arith, record-size r))

  -- The first field is laid.
  pub process-laid : {i : ℕ} {ys : List ℕ} → (i ≡ put_end xs 0 process) × (ys ≡ put_in xs 0 process) → Laid xs 0 process i ys
  process-laid p = put-laid xs 0 process p (omega (arith, room))

  module _ {i : ℕ} {ys : List ℕ} (p : (i ≡ put_end xs 0 process) × (ys ≡ put_in xs 0 process)) where
    -- There is room for the second field behind it.
    pub kind-room : i + length kind ≤ length ys
    kind-room = omega (arith, room, (process-laid p).behind, laid-length (process-laid p))

    module _ {j : ℕ} {zs : List ℕ} (q : (j ≡ i + length kind) × (zs ≡ lay ys i kind)) where
      -- The second field is laid behind it.
      pub kind-laid : Laid ys i kind j zs
      kind-laid = record { fit = kind-room; behind = q.0; whole = q.1 }

      -- The two fields end where their lengths say, and the slice has its length.
      pub two-laid : (j ≡ length process + length kind) × (length zs ≡ length xs)
      two-laid = (omega (arith, (process-laid p).behind, kind-laid.behind), laid-length kind-laid ∙ laid-length (process-laid p))

-- All parts, laid one behind the other, are the record laid.
pub record_laid : (xs : List ℕ) (r : Row) {v : Used} → v ≡ used_by r.kind →
    {a b c d f g end : ℕ} {ps bs cs ds fs gs out : List ℕ} → Laid xs 0 (decimal_of r.process) a ps → Laid ps a (COMMA ∷ get_or kind_words r.kind []) b bs →
    Laid bs b (comma v.file r.file) c cs → Laid cs c (comma v.range r.offset) d ds → Laid ds d (comma v.range r.length) f fs →
    Laid fs f (comma v.message r.message) g gs → Laid gs g (CRLF []) end out →
    (end ≡ length (record_of r)) × (out ≡ lay xs 0 (record_of r))
record_laid xs r e {end = end} {out = out} la lb lc ld lf lg le =
    let all = then la (then lb (then lc (then ld (then lf (then lg le))))) in
    let whole = subst (λ (w : List ℕ). Laid xs 0 w end out) (parts_using r e) all in
    (omega (arith, whole.behind), whole.whole)

-- A record laid where there is room is put.
pub record_put : (xs : List ℕ) (r : Row) {end : ℕ} {out : List ℕ} → length (record_of r) ≤ length xs →
    (end ≡ length (record_of r)) × (out ≡ lay xs 0 (record_of r)) → (end ≡ put_end xs 0 (record_of r)) × (out ≡ put_in xs 0 (record_of r))
record_put xs r h q =
    let p = put-lay xs 0 (record_of r) (omega arith) in
    (omega (arith, q.0, p.0), q.1 ∙ p.1)
