-- So far, the counters of the first k timers.
-- Assumes nothing.
use Rattle.std.proofs.Common.{map}
use Rattle.host.proofs.Laying.{Laying}
use Rattle.host.proofs.lay_out.Given as goal

abbrev pub invariant-loop-k : goal.invariant-loop-k
invariant-loop-k l = Laying 0xFD (map (λ t. t.count) l.devices.timers) l.initial.memory l.memory l.k
