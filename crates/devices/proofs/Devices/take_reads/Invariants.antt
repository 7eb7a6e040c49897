-- The invariant is `Changing`: the timers below k are cleared where they were read.
-- Assumes nothing.
use Rattle.devices.specs.Timers.{cleared}
use Rattle.devices.specs.Devices.{bit}
use Rattle.devices.proofs.Changing.{Changing}
use Rattle.devices.proofs.Devices.take_reads.Given as goal

abbrev pub invariant-loop-k : goal.invariant-loop-k
invariant-loop-k l = Changing 13 (bit l.read) (λ j t. cleared t) l.initial.self l.self l.k
