-- The loop does what is left to do, and ends where the budget is spent, or where there is no step to take.
-- Assumes nothing.
use Rattle.host.specs.Promises.{on, SameLoans}
use Rattle.host.proofs.SoFar.{SoFar}
use Rattle.host.proofs.play.Given as goal

abbrev pub invariant-loop-left : goal.invariant-loop-left
invariant-loop-left l =
    SoFar l.edition l.until l.budget (on l.initial.next l.initial.song) l.left (on l.next l.song) × SameLoans l.initial.song l.song

abbrev pub decreases-loop-left : goal.decreases-loop-left
decreases-loop-left l = l.left
