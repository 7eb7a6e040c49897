-- The marks are set aside, the step is the engine's, and put back they are as the step alone leaves them.
-- Assumes nothing.
use borrow.Author.Rules.{rules}
use Rattle.memory.proofs.Laws.{same_loans, still_same}
use Rattle.watch.proofs.Step.{turned}
use Rattle.watch.proofs.turn.Goals as goal

pub returns : goal.returns
returns c = record {
  is = turned _ _ _ c.set_aside-aside.ensures c.take_steps-ran.ensures.is c.put_back-devices.ensures;
  same = search (rules, still_same, same_loans);
}
