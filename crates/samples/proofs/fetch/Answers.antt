-- The invariant is `Marking`: what is left to mark, from here on, makes the map what it is to be.
-- Assumes nothing.
use Rattle.std.proofs.Common.{rules}
use Rattle.samples.proofs.Marking.{begun, one_marked, all_marked}
use Rattle.samples.proofs.fetch.Goals as goal

pub loop-place-init : goal.loop-place-init
loop-place-init c = search (rules, begun)

pub loop-place-preserved : goal.loop-place-preserved
loop-place-preserved c = search (rules, one_marked)

pub returns : goal.returns
returns c = search (rules, all_marked)
