-- The rules of document 01 on one byte, each as a law of its definition.
use Rattle.std.proofs.Common.{ℕ, ◌+◌, ◌≤◌, ◌<◌, arith, ◌≡◌, true, false, eq-eqb}
use Rattle.extents_meaning.specs.Cells.{Bytes, cell_of, number_in, mark_in, unpublished, published, as_published, refreshed, overwrite}
use Rattle.extents_meaning.proofs.Overwrites.{over-in}

-- a write puts its row number into its range, with its mark
pub write_number : (start n number : ℕ) (f : Bytes) (b : ℕ) → start ≤ b → b < start + n → number_in (overwrite start n (cell_of number 1) f b) ≡ number
write_number start n number f b l h = rw (over-in start n (cell_of number 1) f b l h) (omega arith)

pub write_mark : (start n number : ℕ) (f : Bytes) (b : ℕ) → start ≤ b → b < start + n → unpublished (overwrite start n (cell_of number 1) f b) ≡ true
write_mark start n number f b l h =
    rw (over-in start n (cell_of number 1) f b l h) (eq-eqb (mark_in (cell_of number 1)) 1 (omega arith))

-- publishing copies an unpublished byte
pub publish_copies : (view below : Bytes) (b : ℕ) → unpublished (view b) ≡ true → number_in (published view below b) ≡ number_in (view b)
publish_copies view below b e = rw e (omega arith)

-- Publishing copies no other byte: old bytes never cover newer ones.
pub publish_keeps : (view below : Bytes) (b : ℕ) → unpublished (view b) ≡ false → published view below b ≡ below b
publish_keeps view below b e = rw e

-- afterwards the view's bytes are the same and published
pub publish_keeps_number : (view : Bytes) (b : ℕ) → number_in (as_published view b) ≡ number_in (view b)
publish_keeps_number view b = omega arith

pub publish_clears : (view : Bytes) (b : ℕ) → mark_in (as_published view b) ≡ 0
publish_clears view b = omega arith

-- a refresh takes the published byte, but for an unpublished one
pub refresh_takes : (view below : Bytes) (b : ℕ) → unpublished (view b) ≡ false → refreshed view below b ≡ below b
refresh_takes view below b e = rw e

pub refresh_keeps : (view below : Bytes) (b : ℕ) → unpublished (view b) ≡ true → refreshed view below b ≡ view b
refresh_keeps view below b e = rw e
