-- What comes back of bytes and of records that go into the other form: of eight bytes all, of seven all but the state.
-- Assumes nothing.
use Prim.Native.Nat.{ℕ, ◌/◌, ◌%◌}
use Rattle.std.specs.Prelude.{◌≡◌, refl, Bool, true, false, ◌&&◌, List, Ok, eqb, length, take}
use Rattle.std.proofs.Math.Path.{sym, ap}
use Rattle.std.proofs.Common.{◌∙◌, true≢false, arith, eqb-true}
use Rattle.std.proofs.Math.ListN.{get_or}
use Rattle.std.proofs.Math.Seq.{get_or-take}
use Rattle.laws.specs.Bytes.{Bytes}
use Rattle.laws.specs.Stored.{all_stored, standing, standing_stays}
use Rattle.waking.specs.States.{is_state, state_of, is_awake}
use Rattle.waking.specs.Theorems.{named, number_and_back, state_and_back}
use Rattle.psw.specs.Theorems.{byte_to_flags_and_back, flags_to_byte_and_back}
use Rattle.processor.specs.Record.{with_state, woken, word_of}
use Rattle.processor.specs.declared.Processor.{Processor}
use Rattle.state.specs.Registers.{bytes_of, registers_of, whole_bytes_of, is_whole, whole_of, whole_in}

-- The record of seven bytes is awake.
pub seven_awake : (bytes : List ℕ) → is_awake (registers_of bytes).state ≡ true
unfolding registers_of
seven_awake bytes = refl

-- A record that goes into seven bytes comes back, awake;
pub record_to_bytes_and_back : (cpu : Processor) → registers_of (bytes_of cpu) ≡ woken cpu
unfolding bytes_of registers_of
record_to_bytes_and_back cpu =
    let word : word_of (cpu.pc % 256) (cpu.pc / 256) ≡ cpu.pc = omega arith in rw (word, flags_to_byte_and_back cpu.psw)

-- and seven bytes come back as they were.
pub bytes_to_record_and_back : (bytes : List ℕ) → Bytes bytes → length bytes ≡ 7 → bytes_of (registers_of bytes) ≡ bytes
unfolding bytes_of registers_of
bytes_to_record_and_back bytes small seven =
    let b : ℕ → ℕ = λ i. get_or bytes i 0 in
    let low : word_of (b 4) (b 5) % 256 ≡ b 4 = omega (arith, small 4) in
    let high : word_of (b 4) (b 5) / 256 ≡ b 5 = omega (arith, small 4) in
    let same : standing 7 0 bytes ≡ bytes = sym (all_stored (standing 7 0 bytes) bytes seven) ∙ standing_stays 7 0 bytes in
    rw (low, high, byte_to_flags_and_back (b 6) (small 6)) same

-- ---- the whole record

-- It comes back as it was, its state, too;
pub record_to_whole_and_back : (cpu : Processor) → whole_of (whole_bytes_of cpu) ≡ cpu
unfolding whole_of whole_bytes_of bytes_of registers_of
record_to_whole_and_back cpu =
    let word : word_of (cpu.pc % 256) (cpu.pc / 256) ≡ cpu.pc = omega arith in
    rw (word, flags_to_byte_and_back cpu.psw, number_and_back cpu.state)

-- What its bytes are is a whole record,
pub bytes_whole : (cpu : Processor) → is_whole (whole_bytes_of cpu) ≡ true
unfolding whole_bytes_of bytes_of
bytes_whole cpu = named cpu.state

-- in which it is found again,
pub found_again : (cpu : Processor) → whole_in (whole_bytes_of cpu) ≡ Ok cpu
found_again cpu = rw (bytes_whole cpu, record_to_whole_and_back cpu)

module _ (bytes : List ℕ) where
  -- which has eight bytes, the last of them a state's number.
  pub whole_parts : is_whole bytes ≡ true → (length bytes ≡ 8) × (is_state (get_or bytes 7 0) ≡ true)
  whole_parts = go (eqb (length bytes) 8) refl
    where
      go : (b : Bool) → eqb (length bytes) 8 ≡ b → (b && is_state (get_or bytes 7 0)) ≡ true → (length bytes ≡ 8) × (is_state (get_or bytes 7 0) ≡ true)
      go true e whole = (eqb-true _ _ e, whole)
      go false e whole = absurd (true≢false (sym whole))

  first_seven : registers_of (take 7 bytes) ≡ registers_of bytes
  unfolding registers_of
  first_seven =
      rw (
        get_or-take 7 bytes 0 0 (omega arith),
        get_or-take 7 bytes 1 0 (omega arith),
        get_or-take 7 bytes 2 0 (omega arith),
        get_or-take 7 bytes 3 0 (omega arith),
        get_or-take 7 bytes 4 0 (omega arith),
        get_or-take 7 bytes 5 0 (omega arith),
        get_or-take 7 bytes 6 0 (omega arith),
      )

  module _ (small : Bytes bytes) (whole : is_whole bytes ≡ true) where
    eight_again : whole_bytes_of (with_state (state_of (get_or bytes 7 0)) (registers_of bytes)) ≡ bytes
    unfolding whole_bytes_of bytes_of registers_of
    eight_again =
        let b : ℕ → ℕ = λ i. get_or bytes i 0 in
        let low : word_of (b 4) (b 5) % 256 ≡ b 4 = omega (arith, small 4) in
        let high : word_of (b 4) (b 5) / 256 ≡ b 5 = omega (arith, small 4) in
        let eight = whole_parts whole in
        let same : standing 8 0 bytes ≡ bytes = sym (all_stored (standing 8 0 bytes) bytes eight.0) ∙ standing_stays 8 0 bytes in
        rw (low, high, byte_to_flags_and_back (b 6) (small 6), state_and_back (b 7) eight.1) same

    -- and comes back from the record that it holds.
    pub whole_to_record_and_back : whole_bytes_of (whole_of bytes) ≡ bytes
    unfolding whole_of
    whole_to_record_and_back =
        ap (λ (c : Processor). whole_bytes_of (with_state (state_of (get_or bytes 7 0)) c)) first_seven ∙ eight_again
