-- The timers one after the other, by `Changing`.
-- Assumes nothing.
use Rattle.std.proofs.Common.{◌≡◌, ◌+◌, arith}
use Rattle.devices.specs.Devices.{aimed_all}
use Rattle.devices.proofs.Changing.{begun, one_changed, one_kept, all_changed}
use Rattle.devices.proofs.Devices.aim.Goals as goal
use Rattle.devices.proofs.Devices.aim.Goals.{then-has, else-has}

pub loop-k-init : goal.loop-k-init
loop-k-init c = begun _ _ _ _

pub loop-k-preserved : goal.loop-k-preserved
loop-k-preserved c =
    let so = c.loop-k.invariant in
    let same : 0xFA + c.loop-k.k ≡ 0xF0 + (10 + c.loop-k.k) = omega arith in
    elim c.if-has.branch [
      | then-has w ↦ one_changed _ _ _ _ so (omega arith) c.has.ensures w.if-has.true (rw same at w.aim.ensures) w.self-is
      | else-has w ↦ one_kept _ _ _ _ so (omega arith) c.has.ensures w.if-has.false w.self-is
    ]

pub returns : goal.returns
unfolding aimed_all
returns c = all_changed _ _ _ _ c.loop-k.invariant (omega arith)
