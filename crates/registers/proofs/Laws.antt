-- What the byte of a flag tells, and what a change of flat registers is on the record that they stand for.
-- Assumes nothing.
use Rattle.std.proofs.Common.{◌≡◌, ℕ, ◌+◌, ◌/◌, ◌%◌, ◌<◌, Bool, true, false, cond, eqb, leb, refl, ap, arith, eqb-true, leb-false, leb-true}
use native.Mathlib.Nat.{div-eq_of_lt, div-eq_of_lt-le}
use borrow.Author.Tests.{eqb-false}
use Rattle.psw.specs.Status.{one_if, bit_of}
use Rattle.psw.specs.Flags.{with_vh}
use Rattle.processor.specs.Record.{with_flags, with_carry, produced}
use Rattle.processor.specs.Words.{joined, then_high}
use Rattle.processor.specs.declared.Processor.{Processor}
use Rattle.processor.specs.declared.Produced.{Produced}
use Rattle.processor.proofs.Halves.{halves}
use Rattle.registers.specs.declared.Registers.{Registers}
use Rattle.registers.specs.Flat.{record_of, Makes}
use Rattle.registers.specs.Fields.{set_c, set_vh}

-- The flag of a bit, as a number, is the bit.
pub bit_number_lem : (n : ℕ) → one_if (eqb (n % 2) 1) ≡ n % 2
bit_number_lem n = go (eqb (n % 2) 1) refl
  where
    go : (b : Bool) → eqb (n % 2) 1 ≡ b → one_if b ≡ n % 2
    go true e = omega (arith, eqb-true (n % 2) 1 e)
    go false e = omega (arith, eqb-false (n % 2) 1 e)

-- The top bit of a number is set where the number is not below the bit's value.
pub top_bit : (value n : ℕ) → n < value + value → bit_of value n ≡ leb value n
top_bit value n h = go (leb value n) refl
  where
    go : (b : Bool) → leb value n ≡ b → bit_of value n ≡ b
    go true e = rw (div-eq_of_lt-le {k = 1} value {m = n} (omega (arith, leb-true value n e)) (omega arith))
    go false e = rw (div-eq_of_lt (leb-false value n e))

-- The top bit of a byte, as a number.
pub top_number : (n : ℕ) → n < 256 → one_if (leb 128 n) ≡ n / 128
top_number n h = rw (← top_bit 128 n h, bit_number_lem (n / 128)) (omega arith)

-- A byte that is `value` or 0 by a flag tells the flag.
pub told : (f : ℕ → Bool) (value : ℕ) (flag : Bool) → f value ≡ true → f 0 ≡ false → f (cond flag value 0) ≡ flag
told f value true t e = t
told f value false t e = e

-- Another byte for C is the record with another carry.
pub carried : (m : Registers) {r : Registers} {cpu : Processor} {c : ℕ} (flag : Bool)
    → record_of m ≡ cpu → r ≡ set_c c m → eqb (c % 2) 1 ≡ flag → record_of r ≡ with_carry flag cpu
carried m flag p e t = rw (e, t) (ap (with_carry flag) p)

-- So with a byte produced, which stays in z.
pub carrying : {m r : Registers} {p : Produced} {c : ℕ} (flag : Bool)
    → Makes m p → r ≡ set_c c m → eqb (c % 2) 1 ≡ flag → Makes r (produced (with_carry flag p.cpu) p.byte)
carrying {m} flag p e t = record { cpu = carried m flag p.cpu e t; byte = rw e p.byte }

-- Other bytes for V and H are the record with other such flags.
pub overflown : (m : Registers) {r : Registers} {cpu : Processor} {v h : ℕ} (f g : Bool)
    → record_of m ≡ cpu → r ≡ set_vh v h m → leb 128 v ≡ f → bit_of 16 h ≡ g → record_of r ≡ with_flags (with_vh f g cpu.psw) cpu
overflown m f g p e s t = rw (e, s, t) (ap (λ (cpu : Processor). with_flags (with_vh f g cpu.psw) cpu) p)

-- The registers and the byte in z, as an operation on the record hands them back.
made : {r : Registers} {p : Produced} → Makes r p → produced (record_of r) r.z ≡ p
made m = rw (m.cpu, m.byte)

-- An operation on words in two halves, l of the low bytes and h of the high bytes from there, whose bytes are joined in r.
pub in_halves : (op : Processor → ℕ → ℕ → Produced) (start : Processor) (l h r : Registers) (a y low high : ℕ)
    → Makes l (op start a low) → Makes h (op (record_of l) y high)
    → record_of r ≡ joined (produced (record_of l) l.z) (produced (record_of h) h.z)
    → record_of r ≡ then_high op y high (op start a low)
in_halves op start l h r a y low high p q j = halves op start (record_of r) a y low high _ _ (made p) (made q) j
