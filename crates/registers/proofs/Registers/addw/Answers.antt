-- The definition's two halves: on the low bytes from the first carry, on the high bytes from there, then joined.
-- Assumes nothing.
use Rattle.std.proofs.Common.{false}
use Rattle.processor.specs.Record.{with_carry}
use Rattle.processor.specs.Sums.{adc_of}
use Rattle.registers.specs.Flat.{record_of}
use Rattle.registers.proofs.Laws.{in_halves}
use Rattle.registers.proofs.Registers.addw.Goals as goal

pub returns : goal.returns
returns c = let given = c.args in
    let self = given.self in
    let l = c.adc-l in
    let h = c.adc-h in
    let first = rw c.with_c.ensures at l.ensures in
    in_halves adc_of (with_carry false (record_of self)) l.result h.result c.load_ya.result
    self.a self.y given.low given.high first h.ensures c.load_ya.ensures
