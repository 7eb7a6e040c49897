-- Results of operations are bytes: they wrap, are made of the bits of bytes, or are parts of a quotient.
-- Assumes nothing.
use Prim.Native.Nat.{ℕ, ◌+◌, ◌-◌, ◌*◌, ◌/◌, ◌%◌, ◌<◌}
use mathlib.Core.Path.{◌≡◌, refl}
use mathlib.Core.Bool.{Bool, true, false, cond, not, ◌||◌}
use native.Mathlib.Nat.{mod-lt}
use native.Mathlib.Omega.{arith}
use lib.Bits.{bit_and, bit_or, bit_xor, or_lt, xor_lt, and_le_l}
use lib.Dec.{ltb}
use lib.Pow.{pow-lt}
use borrow.Author.Tests.{ltb-true}
use Rattle.psw.specs.Status.{one_if}
use Rattle.psw.specs.Theorems.{most_one}
use Rattle.processor.specs.Record.{word_of, loaded_a}
use Rattle.processor.specs.Products.{divided, div_of}
use Rattle.processor.specs.Decimal.{high_adjusted, daa_of, high_reduced, das_of}
use Rattle.processor.specs.declared.Processor.{Processor}
use Rattle.processor.proofs.Bounds.{product_most, odd_rest}
use Rattle.instructions.specs.Effects.{with_bit, bit_in}
use Rattle.instructions.proofs.Parts.{below_256}

-- a record's five registers, each in its width; it computes, so that records which differ in flags alone share a proof
abbrev pub Widths : Processor → Type 0
Widths cpu = (cpu.a < 256) × (cpu.x < 256) × (cpu.y < 256) × (cpu.sp < 256) × (cpu.pc < 65536)

pub either : (t : Bool) (x y : Processor) → Widths x → Widths y → Widths (cond t x y)
either true x y p q = p
either false x y p q = q

-- ---- bits

pub or_byte : {l r : ℕ} → l < 256 → r < 256 → bit_or l r < 256
or_byte {l} {r} h k = or_lt 8 l r h k

pub xor_byte : {l r : ℕ} → l < 256 → r < 256 → bit_xor l r < 256
xor_byte {l} {r} h k = xor_lt 8 l r h k

pub and_byte : {l : ℕ} (r : ℕ) → l < 256 → bit_and l r < 256
and_byte {l} r h = omega (arith, and_le_l l r)

pub with_bit_lem : (on : Bool) {bit byte : ℕ} → bit < 256 → byte < 256 → with_bit on bit byte < 256
with_bit_lem true h k = or_byte k h
with_bit_lem false h k = and_byte _ k

pub bit_in_lem : (k : ℕ) → k < 256 → bit_in k < 256
bit_in_lem k h = pow-lt {j = 8} (omega arith)

pub right_byte : (byte : ℕ) (f : Bool) → byte < 256 → byte / 2 + one_if f * 128 < 256
right_byte byte f h = omega (arith, most_one f)

-- ---- MUL and DIV

pub mul_high : (y a : ℕ) → y < 256 → a < 256 → y * a / 256 < 256
mul_high y a h k = omega (arith, product_most y a h k)

rest_byte : (w x y : ℕ) → x < 256 → ltb y (x * 2) ≡ true → w % x < 256
rest_byte w x y h t = omega (arith, ltb-true y (x * 2) t, mod-lt w {m = x} (omega (arith, ltb-true y (x * 2) t)))

odd_quotient : (n : ℕ) → 255 - n < 256
odd_quotient n = omega arith

pub div_widths : (cpu : Processor) → Widths cpu → Widths (div_of cpu)
div_widths cpu p = go (ltb cpu.y (cpu.x * 2)) refl
  where
    go : (t : Bool) → ltb cpu.y (cpu.x * 2) ≡ t
        → Widths
        (cond t
        (divided cpu (word_of cpu.a cpu.y / cpu.x % 256) (word_of cpu.a cpu.y % cpu.x))
        (divided cpu
        (255 - (word_of cpu.a cpu.y - cpu.x * 512) / (256 - cpu.x))
        (cpu.x + (word_of cpu.a cpu.y - cpu.x * 512) % (256 - cpu.x))))
    go true e = (below_256 _, p.1, rest_byte _ cpu.x cpu.y p.1 e, p.3, p.4)
    go false e = (odd_quotient _, p.1, odd_rest _ cpu.x p.1, p.3, p.4)

-- ---- digits

-- A adjusted or not, where it may have been adjusted once before
second : (t : Bool) (cpu : Processor) {n : ℕ} → n < 256 → Widths cpu → Widths (loaded_a cpu (cond t n cpu.a))
second true cpu h p = (h, p.1, p.2, p.3, p.4)
second false cpu h p = p

pub daa_widths : (cpu : Processor) → Widths cpu → Widths (daa_of cpu)
daa_widths cpu p =
    let h = high_adjusted cpu in
    second (h.psw.h || ltb 9 (h.a % 16)) h (below_256 _) (either (cpu.psw.c || ltb 0x99 cpu.a) _ cpu (below_256 _, p.1, p.2, p.3, p.4) p)

pub das_widths : (cpu : Processor) → Widths cpu → Widths (das_of cpu)
das_widths cpu p =
    let h = high_reduced cpu in
    second (not h.psw.h || ltb 9 (h.a % 16)) h (below_256 _) (either (not cpu.psw.c || ltb 0x99 cpu.a) _ cpu (below_256 _, p.1, p.2, p.3, p.4) p)

pub exchanged : (a : ℕ) → a < 256 → a % 16 * 16 + a / 16 < 256
exchanged a h = omega arith
