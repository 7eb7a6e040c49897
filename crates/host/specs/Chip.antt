-- The sound chip's row of 512 bytes: 128 registers; a byte for each of them, 1 where the song has asked for it; a byte for each number of a
-- sample, 1 where the song has keyed it on. And the map of what the sound chip may fetch.
use Rattle.std.specs.Prelude.{ℕ, zero, suc, ◌+◌, ◌*◌, ◌/◌, ◌%◌, cond, List, eqb, leb, get_or, set}
use Rattle.devices.specs.Devices.{bit}
use Rattle.samples.specs.Fetched.{voices}

pub record Sound : Type 0 where
  pub chip : List ℕ
  pub fetched : List ℕ

abbrev pub sound : List ℕ → List ℕ → Sound
sound chip fetched = record { chip = chip; fetched = fetched }

-- A step has read 00F3 while 00F2 held this byte: seven bits of it name the register.
abbrev pub asked : ℕ → List ℕ → List ℕ
asked name chip = set chip (128 + name % 128) 1

-- Of so many voices from `voice` on, the samples of those whose bit is set are keyed on; voice v plays the number in register 16 v + 4.
unfoldable pub keyed : ℕ → ℕ → ℕ → List ℕ → List ℕ
keyed zero voice bits chip = chip
keyed (suc n) voice bits chip =
    keyed n (voice + 1) (bits / 2) (cond (eqb (bits % 2) 1) (set chip (256 + get_or chip (16 * voice + 4) 0) 1) chip)

-- A byte stored to register 4C keys voices on, one a bit: the sound chip may fetch their samples.
abbrev pub keyed_on : ℕ → List ℕ → List ℕ → List ℕ → List ℕ → Sound
keyed_on bits memory writes chip fetched =
    let noted = keyed 8 0 bits chip in sound noted (voices 8 0 bits noted memory writes fetched)

-- A step has stored to 00F3. The byte goes to the register that 00F2 names; above 7F there is none that can be written.
unfoldable pub stored_to : List ℕ → List ℕ → List ℕ → List ℕ → Sound
stored_to memory writes chip fetched =
    let register = get_or memory 0xF2 0 in
    let byte = get_or memory 0xF3 0 in
    let changed = set chip register byte in
    cond (leb 128 register) (sound chip fetched)
    (cond (eqb register 0x4C) (keyed_on byte memory writes changed fetched) (sound changed fetched))

-- The sound chip: a read of 00F3 asks for the register that 00F2 held before the step, and a store there goes to the one that it holds now.
unfoldable pub heard : ℕ → ℕ → ℕ → List ℕ → List ℕ → Sound → Sound
heard read stored name memory writes s =
    let chip = cond (bit read 3) (asked name s.chip) s.chip in
    cond (bit stored 3) (stored_to memory writes chip s.fetched) (sound chip s.fetched)
