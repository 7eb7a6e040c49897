-- Byte by byte, the map is filled with the marks of eight addresses.
-- Assumes nothing.
use Rattle.std.proofs.Common.{◌≡◌, ℕ, ◌<◌, length, get_or}
use Rattle.cells.specs.Cells.{eight_of}
use Rattle.cells.proofs.rows.put_marks.Given as goal

abbrev pub invariant-loop-i : goal.invariant-loop-i
invariant-loop-i l = record { size : length l.map ≡ 8192; filled : (i : ℕ) → i < l.i → get_or l.map i 0 ≡ eight_of l.bit l.cells i }
