-- Eight bytes, one, and four, one behind the other.
-- Assumes nothing.
use Prim.Native.Nat.{ℕ}
use mathlib.Core.Path.{◌≡◌, refl}
use mathlib.Core.List.{List, ◌∷◌, ◌++◌}
use native.Mathlib.Omega.{arith}
use lib.ListN.{length, set, length-set}
use lib.Seq.{sets, length-sets}
use borrow.Rule.Slice.PartMut.{put_mid}
use Rattle.laws.specs.Stored.{put_stored}
use Rattle.processor.specs.declared.Processor.{Processor}
use Rattle.state.specs.Registers.{bytes_of, whole_bytes_of, four_bytes}
use Rattle.auditor.proofs.Laws.{number_laid}
use Rattle.auditor.proofs.head.outcome.Goals as goal

one_behind_the_other : (head : List ℕ) (cpu : Processor) (stop steps : ℕ) → length head ≡ 64
    → put_mid 15 4 (set (put_mid 6 8 head (whole_bytes_of cpu)) 14 stop) (four_bytes steps)
    ≡ sets head 6 (whole_bytes_of cpu ++ stop ∷ four_bytes steps)
unfolding whole_bytes_of bytes_of
one_behind_the_other head cpu stop steps size =
    let eight = whole_bytes_of cpu in
    let size₁ = length-set (sets head 6 eight) 14 stop in
    let size₂ = length-sets head 6 eight in
    rw (put_stored head eight 6 {n = 8} refl (omega arith), number_laid (set (sets head 6 eight) 14 stop) 15 steps (omega arith))

pub returns : goal.returns
returns c =
    rw (c.set_number.ensures, c.from.ensures, c.set_whole.ensures)
    (one_behind_the_other c.args.head.now c.args.ran.cpu _ c.args.ran.steps c.told-head)
