-- The loop does what is left to do, and ends where the budget is spent, where the two are not alike, or where one has no step to take.
-- Assumes nothing.
use Rattle.host.specs.Promises.{on, SameLoans}
use Rattle.host.proofs.BothSoFar.{BothSoFar}
use Rattle.host.proofs.beside.play_both.Given as goal

abbrev pub invariant-loop-left : goal.invariant-loop-left
invariant-loop-left l =
    BothSoFar l.edition l.until l.budget (on l.initial.a l.initial.song) (on l.initial.b l.initial.other) l.left
    (on l.a l.song) (on l.b l.other) l.alike
    × (SameLoans l.initial.song l.song × SameLoans l.initial.other l.other)

abbrev pub decreases-loop-left : goal.decreases-loop-left
decreases-loop-left l = l.left
