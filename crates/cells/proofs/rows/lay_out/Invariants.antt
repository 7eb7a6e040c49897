-- Cell by cell, the row is filled with bytes and marks.
-- Assumes nothing.
use Rattle.std.proofs.Common.{◌≡◌, ℕ, ◌<◌, length, get_or}
use Rattle.cells.proofs.Laws.{cell_of}
use Rattle.cells.proofs.rows.lay_out.Given as goal

abbrev pub invariant-loop-k : goal.invariant-loop-k
invariant-loop-k l = record { size : length l.cells ≡ 65536; filled : (i : ℕ) → i < l.k → get_or l.cells i 0 ≡ cell_of l.memory l.reads l.writes i }
