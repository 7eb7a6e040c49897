-- The invariant holds at first and with each step, and ends in the run.
-- Assumes nothing.
use borrow.Author.Rules.{rules}
use Rattle.memory.proofs.Laws.{same_loans, still_same}
use Rattle.watch.proofs.SoFar.{begun, one_more, resting, spent}
use Rattle.watch.proofs.take_steps.Goals as goal
use Rattle.watch.proofs.take_steps.Goals.{then-loop-left-test+else-is_awake, else-loop-left-test}

pub loop-left-init : goal.loop-left-init
loop-left-init c = search (rules, begun, same_loans)

pub loop-left-preserved : goal.loop-left-preserved
loop-left-preserved c = search (rules, one_more, still_same)

pub returns : goal.returns
returns c = let before = c.loop-left.invariant in record {
  is =
      elim c.loop-left-test.branch [
        | then-loop-left-test+else-is_awake w ↦ resting before.0 w.is_awake.ensures w.if-is_awake.false
        | else-loop-left-test w ↦ spent before.0 w.loop-left-test.false
      ];
  same = before.1;
}
