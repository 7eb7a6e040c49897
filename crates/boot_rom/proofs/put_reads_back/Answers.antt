-- So many bytes are put back, and the others are as they were.
-- Assumes nothing.
use Prim.Native.Nat.{ℕ, ◌+◌, ◌-◌, ◌<◌, ◌≤◌}
use mathlib.Core.Path.{◌≡◌, sym, ◌∙◌}
use mathlib.Core.List.{List}
use native.Mathlib.Omega.{arith}
use lib.Bits.{bit_and, bit_or}
use lib.ListN.{length, get_or, set}
use borrow.Author.Rules.{rules}
use Rattle.boot_rom.specs.Inside.{read_back}
use Rattle.boot_rom.proofs.Back.{length_back, get_back}
use Rattle.boot_rom.proofs.Laid.{Laid, none_laid, one_laid, all_laid}
use Rattle.boot_rom.proofs.Part.{eight_last, last_of, put_last}
use Rattle.boot_rom.proofs.put_reads_back.Goals as goal

module _ (part read stored : List ℕ) where
  begun : Laid part (read_back part read stored) part 0
  begun = none_laid part _ 0 (omega arith) (λ k h. absurd (omega arith))

  module _ {now : List ℕ} {i : ℕ} (so : Laid part (read_back part read stored) now i) where
    one_more : length part ≡ length read → length part ≡ length stored → i < length part
        → Laid part (read_back part read stored)
        (set now i (bit_or (get_or read i 0) (bit_and (get_or now i 0) (255 - get_or stored i 0)))) (i + 1)
    one_more r s h = one_laid part _ so _ h (rw (so.ahead i (omega arith)) (sym (get_back part read stored i r s h)))

    all : length part ≤ i → now ≡ read_back part read stored
    all h = all_laid part _ so (length_back part read stored) h

pub loop-i-init : goal.loop-i-init
loop-i-init c = begun _ _ _

pub loop-i-preserved : goal.loop-i-preserved
loop-i-preserved c =
    let eight = eight_last _ c.told-map in
    one_more _ _ _ c.loop-i.invariant (eight ∙ sym (search rules)) (eight ∙ sym (search rules)) c.loop-i-test.true

pub returns : goal.returns
returns c = rw (put_last _ c.told-map _, ← (last_of _ c.told-map), all _ _ _ c.loop-i.invariant c.loop-i-test.false)
