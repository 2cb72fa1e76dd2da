-- The header and the rows' lines, put into a slice one behind the other.
use Rattle.std.proofs.Common.{ℕ, ◌+◌, ◌*◌, ◌-◌, ◌≤◌, arith, ◌≡◌, refl, sym, ap, ◌∙◌, Bool, true, false, cond, List, [], ◌∷◌, ◌++◌, append_assoc, append-nil, length, take, drop, length-append}
use lib.Dec.{eqb}
use borrow.Rule.Slice.PartMut.{put_mid}
use Rattle.print.specs.Puts.{lay, put_in, put_end}
use Rattle.print.proofs.Laying.{lay-none}
use Rattle.print.proofs.Parts.{Laid, put-laid, laid-length, then, part-laid}
use Rattle.rows.specs.declared.row.Row.{Row}
use Rattle.writer_line.specs.Lines.{commas, record_of}
use Rattle.writer_line.proofs.Contents.{RECORD_MOST, record_most}
use Rattle.writer.specs.Writing.{lines_of, header_line, header_of}

-- ---- The header

-- The header is there where the header word is 1.
pub header-there : {header : ℕ} → header ≡ 1 → header_of header ≡ header_line
header-there e = rw e

-- The header's line has 41 bytes.
pub header-size : {header : ℕ} → header ≡ 1 → 41 ≡ length (header_of header)
unfolding commas
header-size e = ap length (sym (header-there e))

-- The header has at most 41 bytes.
pub header-most : (header : ℕ) → length (header_of header) ≤ 41
unfolding commas
header-most header = go (eqb header 1)
  where
    go : (b : Bool) → length (cond b header_line []) ≤ 41
    go true = omega arith
    go false = omega arith

-- Bytes that are the header's line are put where there is room.
pub header-put : (xs : List ℕ) (at header : ℕ) {end : ℕ} {ys : List ℕ} → header ≡ 1 → at + length (header_of header) ≤ length xs →
    (end ≡ put_end xs at header_line) × (ys ≡ put_in xs at header_line) → (end ≡ at + length (header_of header)) × (ys ≡ lay xs at (header_of header))
header-put xs at header e h p =
    let l = put-laid xs at header_line p (rw (header-there e) at h) in
    rw (header-there e) (l.behind, l.whole)

-- ---- Rows

-- The lines of rows and of those behind them.
pub lines_add : (rows more : List Row) → lines_of (rows ++ more) ≡ lines_of rows ++ lines_of more
unfolding lines_of
lines_add [] more = refl
lines_add (r ∷ rows) more = ap (λ (l : List ℕ). record_of r ++ l) (lines_add rows more) ∙ sym (append_assoc (record_of r) (lines_of rows) (lines_of more))

-- The lines of rows, one more and those behind it.
pub lines_next : (taken : List Row) {left : List Row} {row : Row} {rest : List Row} → left ≡ row ∷ rest →
    lines_of (taken ++ (row ∷ [])) ++ lines_of rest ≡ lines_of taken ++ lines_of left
unfolding lines_of
lines_next taken {left} {row} {rest} e =
    ap (λ (l : List ℕ). l ++ lines_of rest) (lines_add taken (row ∷ [])) ∙ append_assoc (lines_of taken) (lines_of (row ∷ [])) (lines_of rest)
    ∙ ap (λ (l : List ℕ). lines_of taken ++ (l ++ lines_of rest)) (append-nil (record_of row)) ∙ ap (λ (l : List Row). lines_of taken ++ lines_of l) (sym e)

-- The lines of rows have at most 64 bytes each.
pub lines_most : (rows : List Row) → length (lines_of rows) ≤ RECORD_MOST * length rows
unfolding lines_of
lines_most [] = omega arith
lines_most (r ∷ rows) = omega (arith, lines_most rows, record_most r, length-append (record_of r) (lines_of rows))

-- The lines of a first row and those behind it.
pub line-first : {left : List Row} {row : Row} {rest : List Row} → left ≡ row ∷ rest →
    length (lines_of left) ≡ length (record_of row) + length (lines_of rest)
unfolding lines_of
line-first {left} {row} {rest} e = ap (λ (l : List Row). length (lines_of l)) e ∙ length-append (record_of row) (lines_of rest)

-- No rows have no lines.
pub lines-over : {left : List Row} → left ≡ [] → length (lines_of left) ≡ 0
unfolding lines_of
lines-over e = ap (λ (l : List Row). length (lines_of l)) e

-- ---- Lines put into the rest of a slice

module _ (all taken : List Row) {left : List Row} {row : Row} {rest : List Row} (next : left ≡ row ∷ rest) (whole : lines_of taken ++ lines_of left ≡ lines_of all)
    {out₀ : List ℕ} {start at : ℕ} {out : List ℕ} (laid : Laid out₀ start (lines_of taken) at out)
    (room : start + length (lines_of all) ≤ length out₀) where
  -- The line of one row more.
  one-more : lines_of (taken ++ (row ∷ [])) ≡ lines_of taken ++ record_of row
  unfolding lines_of
  one-more = lines_add taken (row ∷ []) ∙ ap (λ (l : List ℕ). lines_of taken ++ l) (append-nil (record_of row))

  -- The lines with those of the next row and those behind it are all.
  pub lines_go : lines_of (taken ++ (row ∷ [])) ++ lines_of rest ≡ lines_of all
  lines_go = lines_next taken next ∙ whole

  -- There is room for the next row's line.
  pub record_room : at + length (record_of row) ≤ length out
  record_room =
      omega (
        arith,
        laid.behind,
        laid-length laid,
        ap length lines_go,
        length-append (lines_of (taken ++ (row ∷ []))) (lines_of rest),
        ap length one-more,
        length-append (lines_of taken) (record_of row),
      )

  -- The next row's line is laid behind the lines before it.
  pub record_next : {end : ℕ} {last : List ℕ} →
      (end ≡ put_end (take (length out - at) (drop at out)) 0 (record_of row)) × (last ≡ put_in (take (length out - at) (drop at out)) 0 (record_of row)) →
      Laid out₀ start (lines_of (taken ++ (row ∷ []))) (at + end) (put_mid at (length out - at) out last)
  record_next p = rw one-more (then laid (part-laid out at (record_of row) record_room p))

-- Before the first row nothing is laid.
pub lines_none : (out : List ℕ) (start : ℕ) {all left : List Row} → left ≡ all → start + length (lines_of all) ≤ length out →
    Laid out start (lines_of []) start out × (lines_of [] ++ lines_of left ≡ lines_of all)
unfolding lines_of
lines_none out start e h = (record { fit = omega arith; behind = omega arith; whole = lay-none out start }, ap lines_of e)

-- Behind the last row all lines are laid.
pub lines_laid : (all taken : List Row) {left : List Row} → lines_of taken ++ lines_of left ≡ lines_of all → left ≡ [] → {out₀ : List ℕ} {start at : ℕ} {out : List ℕ} →
    Laid out₀ start (lines_of taken) at out → (at ≡ start + length (lines_of all)) × (out ≡ lay out₀ start (lines_of all))
unfolding lines_of
lines_laid all taken whole e {out₀} {start} l =
    let is : lines_of taken ≡ lines_of all = sym (append-nil (lines_of taken)) ∙ ap (λ (r : List Row). lines_of taken ++ lines_of r) (sym e) ∙ whole in
    (l.behind ∙ ap (λ (w : List ℕ). start + length w) is, l.whole ∙ ap (lay out₀ start) is)
