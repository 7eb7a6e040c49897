-- Each part has just the room that is stored there.
-- Assumes nothing.
use Prim.Native.Nat.{ℕ}
use mathlib.Core.Path.{◌≡◌, refl, ◌∙◌}
use mathlib.Core.List.{List}
use native.Mathlib.Omega.{arith}
use lib.ListN.{length, set, length-set}
use lib.Seq.{sets, length-sets}
use borrow.Author.Rules.{rules}
use borrow.Rule.Slice.PartMut.{put_mid}
use Rattle.laws.specs.Stored.{put_stored}
use Rattle.state.specs.Registers.{bytes_of, whole_bytes_of, four_bytes}
use Rattle.host.specs.declared.Player.{Player}
use Rattle.player.specs.Head.{devices_bytes, head_of}
use Rattle.player.proofs.head.lay.Goals as goal

module _ (head : List ℕ) (size : length head ≡ 64) (player : Player) where
  abbrev begun : List ℕ
  begun = set head 9 1

  begun_size : length begun ≡ 64
  begun_size = length-set head 9 1 ∙ size

  module _ {eight : List ℕ} (is : eight ≡ whole_bytes_of player.cpu) where
    abbrev one : List ℕ
    one = put_mid 10 8 begun eight

    with_registers : one ≡ sets begun 10 (whole_bytes_of player.cpu)
    unfolding whole_bytes_of bytes_of
    with_registers = rw is (put_stored begun (whole_bytes_of player.cpu) 10 refl (omega (arith, begun_size)))

    one_size : length one ≡ 64
    one_size = rw with_registers (length-sets begun 10 (whole_bytes_of player.cpu) ∙ begun_size)

    module _ (steps : ℕ) {four : List ℕ} (n : four ≡ four_bytes steps) where
      abbrev two : List ℕ
      two = put_mid 18 4 one four

      with_steps : two ≡ sets one 18 (four_bytes steps)
      with_steps = rw n (put_stored one (four_bytes steps) 18 refl (omega (arith, one_size)))

      two_size : length two ≡ 64
      two_size = rw with_steps (length-sets one 18 (four_bytes steps) ∙ one_size)

      module _ {rest : List ℕ} (d : rest ≡ devices_bytes player.devices) where
        with_devices : put_mid 23 27 two rest ≡ sets two 23 (devices_bytes player.devices)
        unfolding devices_bytes
        with_devices = rw d (put_stored two (devices_bytes player.devices) 23 refl (omega (arith, two_size)))

        all_laid : put_mid 23 27 two rest ≡ head_of head player steps
        all_laid = with_devices ∙ rw (with_steps, with_registers)

pub returns : goal.returns
returns c = search (rules, all_laid)
