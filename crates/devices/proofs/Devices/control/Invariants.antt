-- The invariant is `Changing`: the timers below k are switched by their bits.
-- Assumes nothing.
use Rattle.std.proofs.Common.{true}
use Rattle.devices.specs.Timers.{switched}
use Rattle.devices.specs.Devices.{bit}
use Rattle.devices.proofs.Changing.{Changing}
use Rattle.devices.proofs.Devices.control.Given as goal

abbrev pub invariant-loop-k : goal.invariant-loop-k
invariant-loop-k l = Changing 0 (λ j. true) (λ j t. switched (bit l.byte j) t) l.initial.self l.self l.k
