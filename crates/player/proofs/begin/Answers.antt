-- Byte 9 of the head is tested as the definition tests it.
-- Assumes nothing.
use Prim.Native.Nat.{ℕ}
use mathlib.Core.Path.{◌≡◌}
use mathlib.Core.List.{List}
use lib.ListN.{get_or}
use borrow.Author.Rules.{rules}
use borrow.Author.Tests.{eq-eqb, ne_eqb}
use Rattle.processor.specs.declared.Processor.{Processor}
use Rattle.state.specs.Registers.{whole_of}
use Rattle.devices.specs.Devices.{started}
use Rattle.devices.specs.declared.Devices.{Devices}
use Rattle.samples.specs.Fetched.{voices}
use Rattle.player.specs.Head.{registers_in, devices_in, devices_of}
use Rattle.player.specs.Packet.{start, start_of}
use Rattle.player.proofs.begin.Goals as goal

module _ (head chip memory writes fetched : List ℕ) {cpu : Processor} {devices : Devices} (is : cpu ≡ whole_of (registers_in head)) where
  begins : {map : List ℕ} → get_or head 9 0 ≡ 0 → devices ≡ started memory → map ≡ voices 8 0 255 chip memory writes fetched
      → start cpu devices map ≡ start_of head chip memory writes fetched
  unfolding start_of
  begins z d m = rw (eq-eqb _ _ z, is, d, m)

  goes_on : (get_or head 9 0 ≡ 0 → ⊥) → devices ≡ devices_of (devices_in head)
      → start cpu devices fetched ≡ start_of head chip memory writes fetched
  unfolding start_of
  goes_on n d = rw (ne_eqb _ _ n, is, d)

pub returns-then-head-eq0 : goal.returns-then-head-eq0
returns-then-head-eq0 c = search (rules, begins)

pub returns : goal.returns
returns c = search (rules, goes_on)
