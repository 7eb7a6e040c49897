-- Bit by bit, the byte is put together: j marks with another are below 2 ^ (j + 1), and this is at most 256.
-- Assumes nothing.
use Rattle.std.proofs.Common.{◌≡◌, ℕ, suc, ◌+◌, ◌*◌, ◌%◌, ◌^◌, ◌<◌, ◌≤◌, List, Fits, w8, arith}
use lib.Pow.{pow_mono}
use Rattle.cells.specs.Cells.{mark_of, marks_of}
use Rattle.cells.proofs.Marks.{marks_small}
use Rattle.cells.proofs.rows.eight.Goals as goal

room : (bit : ℕ) (cells : List ℕ) (at j : ℕ) {marks mark : ℕ} → j < 8 → marks ≡ marks_of bit cells at j → mark ≡ mark_of bit cells (at + j)
    → Fits w8 (marks + mark * 2 ^ j % 256)
room bit cells at j h e f =
    let most : 2 ^ suc j ≤ 2 ^ 8 = pow_mono {j = 8} (omega arith) in
    rw (e, f) (omega (arith, marks_small bit cells at (suc j)))

pub overflow_add-marks : goal.overflow_add-marks
overflow_add-marks c = room _ _ _ _ c.loop-j-test.true c.loop-j.invariant c.mark_of.ensures.0
