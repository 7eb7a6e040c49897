-- The tests of the input's length are the definition's.
-- Assumes nothing.
use Rattle.std.proofs.Common.{arith}
use Rattle.text.proofs.Laws.{gives_new}
use Rattle.surveyor.specs.Which.{is_map, is_two, is_all, is_none}
use Rattle.surveyor.proofs.Parts.{given_two, given_all}
use Rattle.surveyor.proofs.session.Goals as goal

pub returns-in-8192 : goal.returns-in-8192
returns-in-8192 c = rw (is_map _ c.in-8192.is) c.of_map.ensures

pub returns-in-131072 : goal.returns-in-131072
returns-in-131072 c = rw (is_two _ c.in-131072.is) (given_two _ c.of_memories.ensures)

pub returns-in-139264 : goal.returns-in-139264
returns-in-139264 c =
    rw (is_all _ c.in-139264.is) (given_all _ c.split_at.ensures.front c.split_at.ensures.back c.of_memories-in-139264.ensures)

pub returns-in_default : goal.returns-in_default
returns-in_default c =
    let given = gives_new c.text.result c.new.result c.new.ensures c.text.ensures (omega arith) c.give.ensures in
    rw (is_none c.args.input.now (omega arith) (omega arith) (omega arith)) given
