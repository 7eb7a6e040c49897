-- The invariant is `Stepping`: the blocks that are left, from here on, make the map what it is to be.
-- Assumes nothing.
use Rattle.std.proofs.Common.{rules}
use Rattle.samples.proofs.Stepping.{begun, one_block, last_met, none_left}
use Rattle.samples.proofs.fetch_blocks.Goals as goal

pub loop-init : goal.loop-init
loop-init c = search (rules, begun)

pub loop-preserved : goal.loop-preserved
loop-preserved c = search (rules, one_block)

pub returns-then-memory-at-eq1 : goal.returns-then-memory-at-eq1
returns-then-memory-at-eq1 c = search (rules, last_met)

pub returns-after-loop : goal.returns-after-loop
returns-after-loop c = search (rules, none_left)
