-- The invariant is `Giving`: what is left to store, from here on, makes the buffer what it is to be.
-- Assumes nothing.
use Rattle.std.proofs.Common.{rules}
use Rattle.surveyor.proofs.Giving.{one_given, no_room, room_for_all}
use Rattle.surveyor.proofs.give.Goals as goal

pub returns-then-out-total : goal.returns-then-out-total
returns-then-out-total c = search (rules, no_room)

pub loop-i-preserved : goal.loop-i-preserved
loop-i-preserved c = rw c.to_le_bytes.ensures (search (rules, one_given))

pub returns : goal.returns
returns c = search (rules, room_for_all)
