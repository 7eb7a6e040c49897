-- What the loop has done and told so far is the watched run of as many steps, on the same loans; it ends where the record is no longer
-- awake, after which a larger budget changes nothing, or where the budget is spent.
-- Assumes nothing.
use Rattle.memory.specs.Promises.{behind, SameLoans}
use Rattle.watch.proofs.SoFar.{SoFar}
use Rattle.watch.proofs.take_steps.Given as goal

abbrev pub invariant-loop-left : goal.invariant-loop-left
invariant-loop-left l =
    SoFar l.edition l.budget l.initial.next (behind l.initial.bus) l.next l.left l.devices (behind l.bus) × SameLoans l.initial.bus l.bus

abbrev pub decreases-loop-left : goal.decreases-loop-left
decreases-loop-left l = l.left
