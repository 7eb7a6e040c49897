-- Each flag is told by the byte that is made of it, and the state by its number.
-- Assumes nothing.
use Rattle.std.proofs.Common.{◌≡◌, ◌+◌, ◌/◌, ◌%◌, Bool, true, false, cond, not, eqb, leb, refl}
use Rattle.waking.specs.Theorems.{number_and_back}
use Rattle.psw.specs.Status.{bit_of}
use Rattle.registers.proofs.Laws.{told}
use Rattle.registers.proofs.Registers.of.Goals as goal
use Rattle.registers.proofs.Registers.of.Goals.{then-psw, else-psw}

-- a byte that is 1 unless a flag is set
unless : (flag : Bool) → eqb (cond (not flag) 1 0) 0 ≡ flag
unless true = refl
unless false = refl

-- B and I share a byte
shared : (b i : Bool) → (bit_of 16 (cond b 16 0 + cond i 4 0) ≡ b) × (bit_of 4 (cond b 16 0 + cond i 4 0) ≡ i)
shared true true = (refl, refl)
shared true false = (refl, refl)
shared false true = (refl, refl)
shared false false = (refl, refl)

pub returns : goal.returns
returns c = let cpu = c.args.cpu in
    let f = cpu.psw in
    let chosen = c.if-psw in
    let page : chosen.result ≡ cond f.p 256 0 = elim chosen.branch [ then-psw w ↦ rw w.if-psw.true w.result-is | else-psw w ↦ rw w.if-psw.false w.result-is ] in
    rw (
      c.bit_if.ensures.0,
      c.bit_if-2.ensures.0,
      c.bit_if-3.ensures.0,
      c.bit_if-4.ensures.0,
      c.bit_if-5.ensures.0,
      page,
      c.bit_if-6.ensures.0,
      c.bit_if-7.ensures.0,
      c.from.ensures,
      told (leb 128) 128 f.n refl refl,
      told (leb 128) 128 f.v refl refl,
      told (λ n. eqb (n / 256 % 2) 1) 256 f.p refl refl,
      (shared f.b f.i).0,
      told (bit_of 16) 16 f.h refl refl,
      (shared f.b f.i).1,
      unless f.z,
      told (λ n. eqb (n % 2) 1) 1 f.c refl refl,
      number_and_back cpu.state,
    )
