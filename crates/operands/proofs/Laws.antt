-- What a page's bit and a displacement come to, and a fetch by registers that are known by an equation.
-- Assumes nothing.
use Rattle.std.proofs.Common.{◌≡◌, ℕ, zero, suc, ◌+◌, ◌-◌, ◌*◌, ◌%◌, ◌<◌, Bool, true, false, cond, eqb, ltb, refl, ◌∙◌, arith, ltb-false, ltb-true}
use Rattle.memory.specs.World.{World}
use Rattle.memory.specs.Access.{outcome, Does}
use Rattle.signed.specs.Displacement.{target_of}
use Rattle.processor.specs.Record.{produced}
use Rattle.processor.specs.declared.Processor.{Processor}
use Rattle.modes.specs.Addresses.{onward}
use Rattle.modes.specs.Modes.{fetch}

-- A bit times 0x100 is 0x100 where the bit is set.
pub page_bit : (page : ℕ) → page % 2 * 256 ≡ cond (eqb (page % 2) 1) 0x100 0
page_bit page = go (page % 2) (omega arith)
  where
    go : (bit : ℕ) → bit < 2 → bit * 256 ≡ cond (eqb bit 1) 0x100 0
    go zero h = refl
    go (suc zero) h = refl
    go (suc (suc bit)) h = absurd (omega arith)

-- What passes 65,536 falls out, before a sum or behind it.
falls_out : (x y : ℕ) → (x % 65536 + y) % 65536 ≡ (x + y) % 65536
falls_out x y = omega arith

goes_round : (x : ℕ) → (x + 65536) % 65536 ≡ x % 65536
goes_round x = omega arith

-- Where a displacement leads, with 128 added to the byte and 65,408, which is 128 less, to PC.
pub lands : (pc byte : ℕ) → byte < 256 → ((pc + (byte + 128) % 256) % 65536 + 65408) % 65536 ≡ target_of pc byte
lands pc byte h = falls_out _ 65408 ∙ go (ltb byte 128) refl
  where
    go : (low : Bool) → ltb byte 128 ≡ low
        → (pc + (byte + 128) % 256 + 65408) % 65536 ≡ cond low ((pc + byte) % 65536) ((pc + 65536 - (256 - byte)) % 65536)
    go true e =
        let low = ltb-true byte 128 e in
        let sum : pc + (byte + 128) % 256 + 65408 ≡ pc + byte + 65536 = omega (arith, low) in
        rw sum (goes_round (pc + byte))
    go false e =
        let high = ltb-false byte 128 e in
        let sum : pc + (byte + 128) % 256 + 65408 ≡ pc + 65536 - (256 - byte) = omega (arith, high) in
        rw sum

-- A fetch at a PC is the fetch of the record that has it.
pub fetch_as : {p q : Processor} {byte : ℕ} {w left : World} → p ≡ q
    → Does (fetch p) w (outcome (produced (onward p) byte) left) → Does (fetch q) w (outcome (produced (onward q) byte) left)
fetch_as e f = rw (← e) f
