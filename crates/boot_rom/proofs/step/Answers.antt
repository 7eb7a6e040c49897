-- The marks are set aside, the step is the engine's, and put back they are as the step by itself leaves them.
-- Assumes nothing.
use borrow.Author.Rules.{rules}
use Rattle.memory.proofs.Laws.{same_loans, still_same}
use Rattle.boot_rom.proofs.Made.{made}
use Rattle.boot_rom.proofs.step.Goals as goal

pub returns : goal.returns
returns c = record {
  is =
      made _ _ _ c.set_aside-read.ensures c.set_aside-stored.ensures c.take_steps-ran.ensures.is
      c.any_marked-rom.ensures c.put_reads_back.ensures c.put_stores_back.ensures;
  same = search (rules, still_same, same_loans);
}
