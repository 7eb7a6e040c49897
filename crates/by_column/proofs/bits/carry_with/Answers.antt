-- C is bit 0 of the byte that an arm makes; the row picks the arm.
-- Assumes nothing.
use Rattle.std.proofs.Common.{◌≡◌, arith}
use Rattle.instructions.specs.Effects.{has_bit, effect_of}
use Rattle.by_column.proofs.Valued.{or_carry, or_carry_not, and_carry, and_carry_not, xor_carry, own_carry}
use Rattle.by_column.proofs.bits.carry_with.Goals as goal

pub returns-in-0 : goal.returns-in-0
unfolding effect_of
returns-in-0 c = λ opcode at next. rw (c.with_c.ensures, c.in-0.is)
    (or_carry c.args.cpu
    (has_bit c.args.bit c.args.v)
    (rw c.has_bit.ensures at c.bit_if-one.ensures.0))

pub returns-in-1 : goal.returns-in-1
unfolding effect_of
returns-in-1 c = λ opcode at next. rw (c.with_c-in-1.ensures, c.in-1.is)
    (or_carry_not c.args.cpu
    (has_bit c.args.bit c.args.v)
    (rw c.has_bit.ensures at c.bit_if-one.ensures.0))

pub returns-in-2 : goal.returns-in-2
unfolding effect_of
returns-in-2 c = λ opcode at next. rw (c.with_c-in-2.ensures, c.in-2.is)
    (and_carry c.args.cpu
    (has_bit c.args.bit c.args.v)
    (rw c.has_bit.ensures at c.bit_if-one.ensures.0))

pub returns-in-3 : goal.returns-in-3
unfolding effect_of
returns-in-3 c = λ opcode at next. rw (c.with_c-in-3.ensures, c.in-3.is)
    (and_carry_not c.args.cpu
    (has_bit c.args.bit c.args.v)
    (rw c.has_bit.ensures at c.bit_if-one.ensures.0))

pub returns-in-4 : goal.returns-in-4
unfolding effect_of
returns-in-4 c = λ opcode at next. rw (c.with_c-in-4.ensures, c.in-4.is)
    (xor_carry c.args.cpu
    (has_bit c.args.bit c.args.v)
    (rw c.has_bit.ensures at c.bit_if-one.ensures.0))

pub returns-in_default : goal.returns-in_default
unfolding effect_of
returns-in_default c = λ opcode at next. let row : c.args.row ≡ 5 = omega arith in rw (c.with_c-in_default.ensures, row)
    (own_carry c.args.cpu
    (has_bit c.args.bit c.args.v)
    (rw c.has_bit.ensures at c.bit_if-one.ensures.0))
