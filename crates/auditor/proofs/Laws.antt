-- Bytes that are stored one after the other from a place on (`sets`).
-- Assumes nothing.
use Prim.Native.Nat.{ℕ, ◌+◌, ◌≤◌}
use mathlib.Core.Path.{◌≡◌, refl}
use mathlib.Core.List.{List}
use lib.ListN.{length}
use lib.Seq.{sets}
use borrow.Rule.Slice.PartMut.{put_mid}
use Rattle.laws.specs.Stored.{put_stored}
use Rattle.state.specs.Registers.{four_bytes}

-- A number is stored where four bytes are put back as it.
pub number_laid : (row : List ℕ) (at n : ℕ) → at + 4 ≤ length row → put_mid at 4 row (four_bytes n) ≡ sets row at (four_bytes n)
number_laid row at n room = put_stored row (four_bytes n) at refl room
