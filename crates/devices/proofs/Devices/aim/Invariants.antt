-- The invariant is `Changing`: the timers below k are aimed where there was a store.
-- Assumes nothing.
use Rattle.std.proofs.Common.{◌+◌}
use Rattle.devices.specs.Timers.{aimed}
use Rattle.devices.specs.Devices.{bit, byte}
use Rattle.devices.proofs.Changing.{Changing}
use Rattle.devices.proofs.Devices.aim.Given as goal

abbrev pub invariant-loop-k : goal.invariant-loop-k
invariant-loop-k l = Changing 10 (bit l.stored) (λ j t. aimed (byte l.memory (0xF0 + j)) t) l.initial.self l.self l.k
