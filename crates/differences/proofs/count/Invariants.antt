-- The invariant is `Counting`: what was counted and touched so far, together with the stretches that are left, is all.
-- Assumes nothing.
use Rattle.std.specs.Option.{option_copied}
use Rattle.differences.specs.Calls.{marks_of}
use Rattle.differences.specs.Walk.{left}
use Rattle.differences.proofs.Counting.{Counting}
use Rattle.differences.proofs.count.Given as goal

abbrev pub invariant-loop-stretch : goal.invariant-loop-stretch
invariant-loop-stretch l = Counting (marks_of (option_copied l.map)) (left l.fn.stretches) l.found (left l.stretch-iterator)
