-- Four numbers, one behind the other.
-- Assumes nothing.
use Prim.Native.Nat.{ℕ}
use mathlib.Core.Path.{◌≡◌}
use mathlib.Core.List.{List, ◌++◌}
use native.Mathlib.Omega.{arith}
use lib.ListN.{length}
use lib.Seq.{sets, length-sets}
use borrow.Rule.Slice.PartMut.{put_mid}
use Rattle.state.specs.Registers.{four_bytes}
use Rattle.auditor.proofs.Laws.{number_laid}
use Rattle.auditor.proofs.head.counts.Goals as goal

four_numbers : (head : List ℕ) (a b c d : ℕ) → length head ≡ 64
    → put_mid 31 4 (put_mid 27 4 (put_mid 23 4 (put_mid 19 4 head (four_bytes a)) (four_bytes b)) (four_bytes c)) (four_bytes d)
    ≡ sets head 19 (four_bytes a ++ four_bytes b ++ four_bytes c ++ four_bytes d)
four_numbers head a b c d size =
    let one = sets head 19 (four_bytes a) in
    let two = sets one 23 (four_bytes b) in
    let three = sets two 27 (four_bytes c) in
    let size₁ = length-sets head 19 (four_bytes a) in
    let size₂ = length-sets one 23 (four_bytes b) in
    let size₃ = length-sets two 27 (four_bytes c) in
    rw (
      number_laid head 19 a (omega arith),
      number_laid one 23 b (omega arith),
      number_laid two 27 c (omega arith),
      number_laid three 31 d (omega arith),
    )

pub returns : goal.returns
returns c =
    rw (c.set_number-4.ensures, c.set_number-3.ensures, c.set_number-2.ensures, c.set_number.ensures)
    (four_numbers c.args.head.now c.args.counted.read_only c.args.counted.stored_only c.args.counted.both c.args.blanked c.told-head)
