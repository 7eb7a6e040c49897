-- V and H are stored as the definition's own tests of the old values; N and Z are those of the quotient, by `load_a`.
-- Assumes nothing.
use Rattle.std.proofs.Common.{◌%◌, leb, refl}
use Rattle.psw.specs.Status.{bit_of}
use Rattle.registers.proofs.Laws.{told, overflown}
use Rattle.registers.proofs.Registers.with_quotient.Goals as goal

pub returns : goal.returns
returns c = let self = c.args.self in
    let v = leb self.x self.y in
    let h = leb (self.x % 16) (self.y % 16) in
    overflown c.load_a.result v h
    (rw c.with_y.ensures at c.load_a.ensures)
    c.with_vh.ensures
    (rw c.bit_if-v.ensures.0 (told (leb 128) 128 v refl refl))
    (rw c.bit_if-h.ensures.0 (told (bit_of 16) 16 h refl refl))
