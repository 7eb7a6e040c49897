-- One byte more is stored in the head.
-- Assumes nothing.
use Prim.Native.Nat.{ℕ}
use mathlib.Core.Path.{◌≡◌}
use mathlib.Core.Bool.{Bool}
use mathlib.Core.List.{List}
use lib.ListN.{set}
use Rattle.psw.specs.Status.{one_if}
use Rattle.player.specs.Packet.{told}
use Rattle.player.proofs.end_told.Goals as goal

with_told : (alike : Bool) (laid : List ℕ) {head : List ℕ} {byte : ℕ} → head ≡ laid → byte ≡ one_if alike → set head 50 byte ≡ told alike laid
with_told alike laid h b = rw (h, b)

pub returns : goal.returns
returns c = let left = c.end.ensures in
    let maps = left.1 in (
      record { of_head = with_told c.args.alike _ left.0 c.one_if.ensures.0 },
      record { of_reads = maps.of_reads; of_writes = maps.of_writes; of_made = maps.of_made },
    )
