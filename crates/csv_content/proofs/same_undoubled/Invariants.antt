-- `csv_content::same_undoubled` meets its contract.
use Rattle.csv_content.specs.Content.{same_bytes, undouble}
use Rattle.std.proofs.Common.{length, drop, false, ◌≤◌, ◌≡◌}
use Rattle.csv_content.proofs.same_undoubled.Given as goal

-- The content of what is left of a and what is left of b decide.
abbrev pub invariant-loop-x : goal.invariant-loop-x
invariant-loop-x l =
    (l.j ≤ length l.b) × (same_bytes (undouble false l.a) l.b ≡ same_bytes (undouble l.kept (drop l.x-index l.a)) (drop l.j l.b))
