-- The sixteen worked cases of document 01, the last one's twin of document 02, and one statement that proves them all by computing.
-- Assumes nothing.
use Rattle.std.specs.Prelude.{ℕ, ◌≡◌, refl, List, [], ◌∷◌}
use Rattle.signed.specs.Displacement.{target_of}
use Rattle.waking.specs.declared.State.TheVariants.{Awake}
use Rattle.psw.specs.Status.{byte_of, flags_of}
use Rattle.processor.specs.Record.{word_of}
use Rattle.processor.specs.Sums.{leaves, adc_of, sbc_of}
use Rattle.processor.specs.Shifts.{asl_of, rol_of}
use Rattle.processor.specs.Products.{div_of}
use Rattle.processor.specs.Decimal.{daa_of, das_of}
use Rattle.processor.specs.declared.Processor.{Processor}
use Rattle.processor.specs.declared.Produced.{Produced}
use Rattle.memory.specs.Access.{Access}
use Rattle.memory.specs.Access.Access.{done, read_at, store_at}
use Rattle.editions.specs.declared.Edition.TheVariants.{First, Second}
use Rattle.modes.specs.Addresses.{direct_at, absolute_at, bit_address, bit_number}
use Rattle.modes.specs.Modes.{addressed, pointed}
use Rattle.modes.specs.Stack.{push}
use Rattle.modes.specs.declared.Addressed.{Addressed}

-- what a definition gives, and what the document says
infix 4 ◌is◌
pub data Claim : Type 1 where
  ◌is◌ : {A : Type 0} → A → A → Claim

abbrev pub All : List Claim → Type 0
All [] = Unit
All ((a is b) ∷ cs) = (a ≡ b) × All cs

-- a record with these in A, X, Y, SP and the status byte, awake
abbrev pub cpu : ℕ → ℕ → ℕ → ℕ → ℕ → Processor
cpu a x y sp status = record { a = a; x = x; y = y; sp = sp; pc = 0; psw = flags_of status; state = Awake }

-- registers and status byte as one list: A Y PSW; a produced byte and PSW
abbrev pub shown : Processor → List ℕ
shown c = c.a ∷ c.y ∷ byte_of c.psw ∷ []

abbrev pub result : Produced → List ℕ
result p = p.byte ∷ byte_of p.cpu.psw ∷ []

-- the address that two bytes give which are read at these places, the low one first
abbrev pub pointer_bytes : ℕ → ℕ → Access Addressed
pointer_bytes first second =
    read_at first (λ low. read_at second (λ high. done (addressed (cpu 0 0 0 0 0) (absolute_at (word_of low high) 0))))

-- A status byte is, from bit 7 to bit 0, N V P B H I Z C.
unfoldable pub cases : List Claim
cases =
    -- 1. ADC FF+00, C=1: 00, C H Z set, V clear
    (result (adc_of (cpu 0 0 0 0 0b0000_0001) 0xFF 0x00) is 0x00 ∷ 0b0000_1011 ∷ []) ∷
    -- 2. ADC 80+80, C=0: 00, C V Z set, H clear
    (result (adc_of (cpu 0 0 0 0 0b0000_0000) 0x80 0x80) is 0x00 ∷ 0b0100_0011 ∷ []) ∷
    -- 3. SBC 00-01, C=1: FF, N set, C H V clear
    (result (sbc_of (cpu 0 0 0 0 0b0000_0001) 0x00 0x01) is 0xFF ∷ 0b1000_0000 ∷ []) ∷
    -- 4. ASL 80: 00, C Z
    (result (asl_of (cpu 0 0 0 0 0b0000_0000) 0x80) is 0x00 ∷ 0b0000_0011 ∷ []) ∷
    -- 5. ROL 80, C=1: 01, C
    (result (rol_of (cpu 0 0 0 0 0b0000_0001) 0x80) is 0x01 ∷ 0b0000_0001 ∷ []) ∷
    -- 6. DIV Y=03 A=05 X=00: A=FC Y=05, V H N
    (shown (div_of (cpu 0x05 0x00 0x03 0 0b0000_0000)) is 0xFC ∷ 0x05 ∷ 0b1100_1000 ∷ []) ∷
    -- 7. DIV Y=01 A=00 X=02: A=80 Y=00, N only of N Z V H
    (shown (div_of (cpu 0x00 0x02 0x01 0 0b0000_0000)) is 0x80 ∷ 0x00 ∷ 0b1000_0000 ∷ []) ∷
    -- 8. DAA 9C, C=H=0: 02, C
    (shown (daa_of (cpu 0x9C 0 0 0 0b0000_0000)) is 0x02 ∷ 0x00 ∷ 0b0000_0001 ∷ []) ∷
    -- 9. DAS 42, C=0 H=1: E2, C clear
    (shown (das_of (cpu 0x42 0 0 0 0b0000_1000)) is 0xE2 ∷ 0x00 ∷ 0b1000_1000 ∷ []) ∷
    -- 10. a branch from FFF0 by 0F: FFFF
    (target_of 0xFFF0 0x0F is 0xFFFF) ∷
    -- 11. from FFF0 by 0E: FFFE
    (target_of 0xFFF0 0x0E is 0xFFFE) ∷
    -- 12. from 0002 by FB: FFFD
    (target_of 0x0002 0xFB is 0xFFFD) ∷
    -- 13. a push at SP=00: store at 0100, SP=FF
    (push 0x55 (cpu 0 0 0 0x00 0) is store_at 0x0100 0x55 (done (cpu 0 0 0 0xFF 0))) ∷
    -- 14. Mb bytes 34 B2: 1234, bit 5
    (bit_address (word_of 0x34 0xB2) ∷ bit_number (word_of 0x34 0xB2) ∷ [] is 0x1234 ∷ 5 ∷ []) ∷
    -- 15. d+X, byte F0, X=20, P: 0110
    (direct_at (flags_of 0b0010_0000) 0xF0 0x20 is 0x0110) ∷
    -- 16. [d]+Y at 00FF in edition 1: pointer bytes 00FF, 0100
    (pointed First 0 (addressed (cpu 0 0 0 0 0) 0x00FF) is pointer_bytes 0x00FF 0x0100) ∷
    -- its twin of document 02, in edition 2: pointer bytes 00FF, 0000
    (pointed Second 0 (addressed (cpu 0 0 0 0 0) 0x00FF) is pointer_bytes 0x00FF 0x0000) ∷
    []

pub sixteen_cases : All cases
unfolding cases byte_of flags_of leaves push pointed
sixteen_cases =
    (refl, (refl, (refl, (refl, (refl, (refl, (refl, (refl, (refl, (refl, (refl, (refl, (refl, (refl, (refl, (refl, (refl, tt)))))))))))))))))
