-- What comes to YA modulo 65,536 when the other word is added is their difference in 16 bits; C is the definition's own test.
-- Assumes nothing.
use Rattle.std.proofs.Common.{◌≡◌, ℕ, ◌+◌, ◌-◌, ◌*◌, ◌/◌, ◌%◌, ◌<◌, eqb, leb, refl, arith, rules}
use Rattle.registers.proofs.Laws.{told, carried}
use Rattle.registers.proofs.Registers.cmpw.Goals as goal

-- the two halves of the difference, joined again
whole : (ya other d : ℕ) → ya < 65536 → other < 65536 → d < 65536 → (d + other) % 65536 ≡ ya
    → d / 256 * 256 + d % 256 ≡ (ya + 65536 - other) % 65536
whole ya other d g h k e = omega arith

pub returns : goal.returns
returns c = let ya = c.word-ya.result in
    let other = c.word-word.result in
    let d = c.wrapping_sub_u16-d.result in
    let less : d / 256 * 256 + d % 256 ≡ (ya + 65536 - other) % 65536 = search (rules, whole) in
    rw (← c.word-ya.ensures, ← c.word-word.ensures)
    (carried c.nz_word.result (leb other ya) (rw less at c.nz_word.ensures) c.with_c.ensures
    (rw c.bit_if.ensures.0 (told (λ n. eqb (n % 2) 1) 1 (leb other ya) refl refl)))
