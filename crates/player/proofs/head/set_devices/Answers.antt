-- All 27 bytes are laid out and then copied, so nothing is left of what was there.
-- Assumes nothing.
use Prim.Native.Nat.{ℕ, ◌/◌, ◌%◌}
use mathlib.Core.Path.{◌≡◌, ◌∙◌}
use mathlib.Core.List.{List, [], ◌∷◌, ◌++◌}
use lib.ListN.{get_or}
use Rattle.psw.specs.Status.{one_if}
use Rattle.devices.specs.declared.Devices.{Devices}
use Rattle.state.specs.Registers.{four_bytes}
use Rattle.player.specs.Head.{timer_at, devices_bytes}
use Rattle.player.proofs.head.set_devices.Goals as goal

module _ (d : Devices) where
  -- the bytes, with those for rom and for the timers that are on
  abbrev laid : ℕ → ℕ → ℕ → ℕ → List ℕ
  laid rom on0 on1 on2 =
      four_bytes d.cycles
      ++ d.read % 256 ∷ d.read / 256 ∷ d.stored % 256 ∷ d.stored / 256 ∷ d.last % 256 ∷ d.last / 256 ∷ rom
      ∷ on0 ∷ (timer_at d 0).target ∷ (timer_at d 0).ticks ∷ (timer_at d 0).count
      ∷ on1 ∷ (timer_at d 1).target ∷ (timer_at d 1).ticks ∷ (timer_at d 1).count
      ∷ on2 ∷ (timer_at d 2).target ∷ (timer_at d 2).ticks ∷ (timer_at d 2).count
      ∷ get_or d.ports 0 0 ∷ get_or d.ports 1 0 ∷ get_or d.ports 2 0 ∷ get_or d.ports 3 0 ∷ []

  all_laid : {rom on0 on1 on2 : ℕ} {after : List ℕ} → rom ≡ one_if d.rom → on0 ≡ one_if (timer_at d 0).on → on1 ≡ one_if (timer_at d 1).on
      → on2 ≡ one_if (timer_at d 2).on → after ≡ laid rom on0 on1 on2 → after ≡ devices_bytes d
  unfolding devices_bytes
  all_laid r a b c e = e ∙ rw (r, a, b, c)

pub returns : goal.returns
returns c =
    all_laid c.args.devices c.one_if.ensures.0 c.one_if-2.ensures.0 c.one_if-3.ensures.0 c.one_if-4.ensures.0
    c.copy_from_slice.ensures.after
