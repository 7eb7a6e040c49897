-- C is the sum's bit 8, H the low digits' bit 4, and V tells that both bytes differ from the sum in their top bits.
-- Assumes nothing.
use Rattle.std.proofs.Common.{◌≡◌, ℕ, ◌+◌, ◌/◌, ◌%◌, ◌^◌, ◌<◌, ◌≤◌, Bool, true, false, not, ◌&&◌, eqb, ltb, leb, sym, refl, ◌∙◌, arith, le-ltb, lt-ltb, leb-false, leb-true}
use mathlib.Core.Bool.{beq}
use lib.Bits.{bit_and, bit_xor, and_shr, xor_shr, and_lt, xor_lt}
use Rattle.psw.specs.Status.{one_if}
use Rattle.processor.specs.Sums.{leaves, adc_of}
use Rattle.processor.proofs.Signs.{by_signs}
use Rattle.registers.specs.declared.Registers.{Registers}
use Rattle.registers.specs.Flat.{record_of, Makes}
use Rattle.registers.specs.Fields.{set_nz, set_vh, set_c}
use Rattle.registers.proofs.Laws.{bit_number_lem, top_bit, top_number, told}
use Rattle.registers.proofs.Registers.adc.Goals as goal

-- a byte is below 128 where its top bit is clear
below : (n : ℕ) → ltb n 128 ≡ not (leb 128 n)
below n = go (leb 128 n) refl
  where
    go : (b : Bool) → leb 128 n ≡ b → ltb n 128 ≡ not b
    go true e = le-ltb n 128 (leb-true 128 n e)
    go false e = lt-ltb n 128 (leb-false 128 n e)

-- whether a sum overflows, by the top bits of the two bytes and of the sum: theirs are the same, and the sum's is another
abbrev over : Bool → Bool → Bool → Bool
over a b s = beq (not a) (not b) && not (beq (not a) (not s))

-- the code's way to say so
signs : (a b s : Bool) → bit_and (bit_xor (one_if a) (one_if s)) (bit_xor (one_if b) (one_if s)) ≡ one_if (over a b s)
signs true true true = refl
signs true true false = refl
signs true false true = refl
signs true false false = refl
signs false true true = refl
signs false true false = refl
signs false false true = refl
signs false false false = refl

overflow : (l r carry s : ℕ) → l < 256 → r < 256 → carry ≤ 1 → s ≡ (l + r + carry) % 256
    → leb 128 (bit_and (bit_xor l s) (bit_xor r s)) ≡ leaves l r carry
overflow l r carry s h g k e =
    let v = bit_and (bit_xor l s) (bit_xor r s) in
    let low : s < 256 = omega arith in
    let fits : v < 256 = and_lt 8 (bit_xor l s) (bit_xor r s) (xor_lt 8 l s h low) (xor_lt 8 r s g low) in
    let flag = over (leb 128 l) (leb 128 r) (leb 128 s) in
    let top : v / 2 ^ 7 ≡ one_if flag =
    rw (
      and_shr (bit_xor l s) (bit_xor r s) 7,
      xor_shr l s 7,
      xor_shr r s 7,
      ← top_number l h,
      ← top_number r g,
      ← top_number s low,
    )
    (signs (leb 128 l) (leb 128 r) (leb 128 s))
    in
    sym (top_bit 128 v fits)
    ∙ rw top (told (λ n. eqb (n % 2) 1) 1 flag refl refl)
    ∙ (rw (below l, below r, below s) at (by_signs l r carry s h g k e))

-- the registers as the code sets them
added : (self : Registers) (l r s d : ℕ) → l < 256 → r < 256 → s ≡ l + r + self.c % 2 → d ≡ l % 16 + r % 16 + self.c % 2
    → Makes (set_c (s / 256) (set_vh (bit_and (bit_xor l (s % 256)) (bit_xor r (s % 256))) d (set_nz (s % 256) (s % 256) self)))
    (adc_of (record_of self) l r)
added self l r s d h g e f =
    rw (bit_number_lem self.c, ← e, ← f)
    (record {
      cpu =
          rw (
            top_bit 256 s (omega arith),
            top_bit 16 d (omega arith),
            overflow l r (self.c % 2) (s % 256) h g (omega arith) (rw e),
          );
      byte = refl;
    })

pub returns : goal.returns
returns c = let given = c.args in
    rw (c.with_c.ensures, c.with_vh.ensures, c.with_nz.ensures)
    (added given.self given.l given.r _ _ (omega arith) (omega arith) refl refl)
