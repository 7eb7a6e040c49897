-- The invariant is `Counting`: each turn counts the first of the stretches that are left.
-- Assumes nothing.
use Rattle.differences.proofs.Counting.{all_counted, countable, one_counted}
use Rattle.differences.proofs.Walks.{few_left}
use Rattle.differences.proofs.count.Goals as goal
use Rattle.differences.proofs.count.Goals.{Else-found, Then-found}

pub overflow_add-found : goal.overflow_add-found
overflow_add-found c = let e = rw c.in-Some.is at c.next.ensures.steps in countable _ _ c.loop-stretch.invariant e (few_left _ _)

pub loop-stretch-preserved : goal.loop-stretch-preserved
loop-stretch-preserved c = let e = rw c.in-Some.is at c.next.ensures.steps in one_counted _ _ c.loop-stretch.invariant e (rw (c.if-found.false, c.touches.ensures))

pub returns : goal.returns
returns c = let e = rw c.in-None.is at c.next.ensures.steps in all_counted _ _ c.loop-stretch.invariant e.0
