-- Bit by bit, the byte is put together.
-- Assumes nothing.
use Rattle.std.proofs.Common.{◌≡◌, ◌*◌}
use Rattle.cells.specs.Cells.{marks_of}
use Rattle.cells.proofs.rows.eight.Given as goal

abbrev pub invariant-loop-j : goal.invariant-loop-j
invariant-loop-j l = l.marks ≡ marks_of l.bit l.cells (l.i * 8) l.j
