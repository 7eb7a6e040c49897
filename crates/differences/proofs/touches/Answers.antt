-- Without a map there is no mark to find; with one, the first that is found decides.
-- Assumes nothing.
use Rattle.std.proofs.Common.{rules}
use Rattle.differences.proofs.Looks.{no_map, look, none_marked, a_mark, not_marked, last_not_marked}
use Rattle.differences.proofs.touches.Goals as goal

pub returns-in_default : goal.returns-in_default
returns-in_default c = rw c.in_default.is (no_map c.args.stretch)

pub loop-at-init : goal.loop-at-init
loop-at-init c = search (rules, look)

pub returns-then-is_marked : goal.returns-then-is_marked
returns-then-is_marked c = rw c.in-Some.is (search (rules, a_mark))

pub loop-at-preserved : goal.loop-at-preserved
loop-at-preserved c = search (rules, not_marked)

pub returns-in-Some : goal.returns-in-Some
returns-in-Some c = rw c.in-Some.is (search (rules, none_marked))

pub returns-else-is_marked : goal.returns-else-is_marked
returns-else-is_marked c = rw c.in-Some.is (search (rules, last_not_marked))
