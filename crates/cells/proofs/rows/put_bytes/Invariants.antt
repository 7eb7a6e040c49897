-- Byte by byte, the memory is filled with the low bytes.
-- Assumes nothing.
use Rattle.std.proofs.Common.{◌≡◌, ℕ, ◌<◌, length, get_or}
use Rattle.cells.specs.Cells.{byte_of}
use Rattle.cells.proofs.rows.put_bytes.Given as goal

abbrev pub invariant-loop-k : goal.invariant-loop-k
invariant-loop-k l = record { size : length l.memory ≡ 65536; filled : (i : ℕ) → i < l.k → get_or l.memory i 0 ≡ byte_of l.cells i }
