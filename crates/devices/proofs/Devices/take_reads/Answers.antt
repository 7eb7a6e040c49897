-- The timers one after the other, by `Changing`; where nothing was read, the definition changes nothing either.
-- Assumes nothing.
use Rattle.std.proofs.Common.{arith}
use lib.Bits.{or_zero_r}
use Rattle.devices.specs.Timers.{cleared}
use Rattle.devices.specs.Devices.{bit, after_reads}
use Rattle.devices.proofs.Changing.{begun, one_changed, one_kept, all_changed, none_changed, no_bit}
use Rattle.devices.proofs.Devices.take_reads.Goals as goal
use Rattle.devices.proofs.Devices.take_reads.Goals.{then-has, else-has}

pub returns-then-read-eq0 : goal.returns-then-read-eq0
unfolding after_reads
returns-then-read-eq0 c =
    let none = none_changed 13 (bit 0) (λ j t. cleared t) c.args.self c.args.self.timers no_bit in
    rw (c.if-read-eq0.true, or_zero_r, none)

pub loop-k-init : goal.loop-k-init
loop-k-init c = begun _ _ _ _

pub loop-k-preserved : goal.loop-k-preserved
loop-k-preserved c =
    let so = c.loop-k.invariant in
    elim c.if-has.branch [
      | then-has w ↦ one_changed _ _ _ _ so (omega arith) c.has.ensures w.if-has.true w.clear.ensures w.self-is
      | else-has w ↦ one_kept _ _ _ _ so (omega arith) c.has.ensures w.if-has.false w.self-is
    ]

pub returns : goal.returns
unfolding after_reads
returns c = rw (all_changed _ _ _ _ c.loop-k.invariant (omega arith))
