-- What a program knows of a record at rest, by these calls: a run does nothing to it, and a wake changes one byte.
-- Assumes nothing.
use Rattle.std.specs.Prelude.{ℕ, ◌/◌, ◌%◌, ◌^◌, ◌<◌, true, false, ◌≡◌, refl, List, get_or, set, Option, None, Some, Result, Ok, Err}
use Rattle.std.proofs.Common.{◌∙◌, arith, ne_eqb}
use Rattle.laws.specs.Bytes.{Bytes}
use Rattle.laws.specs.Filled.{filled}
use Rattle.refusals.specs.Numbers.{number_of as number_of_refusal}
use Rattle.refusals.specs.declared.Refusal.{Refusal}
use Rattle.waking.specs.States.{number_of, is_awake}
use Rattle.waking.specs.Theorems.{state_and_back, at_most_two, awake_is_zero}
use Rattle.memory.specs.World.{World}
use Rattle.editions.specs.Editions.{is_edition, edition_of}
use Rattle.processor.specs.Record.{woken}
use Rattle.processor.specs.declared.Processor.{Processor}
use Rattle.state.specs.Registers.{bytes_of, whole_bytes_of, is_whole, whole_of, whole_in}
use Rattle.state.specs.Theorems.{found_again, whole_parts, whole_to_record_and_back}
use Rattle.engine.specs.Entry.{refusal_of, run_of}
use Rattle.engine.specs.Accepted.{accepts, sized}
use Rattle.engine.specs.Theorems.{within_budget, run_keeps}
use Rattle.engine.specs.Rest.{identity_called}
use Rattle.exports.specs.Calls.{packed, Called, called, run_call, wake_call}
use Rattle.exports.specs.Parts.{stop_part}

-- What is handed back of a run on a record at rest, given by its bytes: the number of its state as the stop, 0 steps, and all as it was.
rests : (edition budget : ℕ) (cpu : Processor) (w : World) → is_awake cpu.state ≡ false → refusal_of edition w ≡ None
    → run_call edition budget (whole_bytes_of cpu) w ≡ called (packed 0 (number_of cpu.state) 0) (whole_bytes_of cpu) w
rests edition budget cpu w rest z =
    rw (found_again cpu, identity_called edition budget cpu w z rest)

-- A run of any budget on registers whose last byte is 1 or 2 answers that byte as the stop, 0 steps, and changes nothing.
pub identity_at_bytes : (edition budget : ℕ) (registers : List ℕ) (w : World) → Bytes registers → is_whole registers ≡ true
    → (get_or registers 7 0 ≡ 0 → ⊥) → refusal_of edition w ≡ None
    → run_call edition budget registers w ≡ called (packed 0 (get_or registers 7 0) 0) registers w
unfolding whole_of
identity_at_bytes edition budget registers w bytes whole rest z =
    let cpu = whole_of registers in
    let number : number_of cpu.state ≡ get_or registers 7 0 = state_and_back (get_or registers 7 0) (whole_parts registers whole).1 in
    let not-awake : is_awake cpu.state ≡ false = awake_is_zero cpu.state ∙ rw number (ne_eqb _ _ rest) in
    rw (whole_to_record_and_back registers bytes whole, number) at (rests edition budget cpu w not-awake z)

-- Let a run answer a stop other than 0, as include/spc700.h takes it out of the number. Called again with the registers, memory and maps
-- that it left, with any budget and in either edition, it answers that stop and 0 steps, and changes nothing.
module _ (edition budget : ℕ) (registers : List ℕ) (w : World) (word : budget < 2 ^ 32) where
  abbrev pub first : Called
  first = run_call edition budget registers w

  abbrev pub stop : ℕ
  stop = first.answer / 2 ^ 32 % 2 ^ 8

  pub called_again : (stop ≡ 0 → ⊥) → (again more : ℕ) → is_edition again ≡ true
      → run_call again more first.registers first.left ≡ called (packed 0 stop 0) first.registers first.left
  called_again stops again more named = go (whole_in registers) refl (refusal_of edition w) refl
    where
      go : (r : Result Processor Refusal) → whole_in registers ≡ r → (o : Option Refusal) → refusal_of edition w ≡ o
          → run_call again more first.registers first.left ≡ called (packed 0 stop 0) first.registers first.left
      go (Err refusal) other o z =
          absurd (stops (rw other (stop_part (number_of_refusal refusal) 0 0 (omega arith) (omega arith))))
      go (Ok cpu) whole (Some refusal) z =
          absurd (stops (rw (whole, z) (stop_part (number_of_refusal refusal) 0 0 (omega arith) (omega arith))))
      go (Ok cpu) whole None z =
          let o = run_of (edition_of edition) budget cpu w in
          let told = stop_part 0 (number_of o.result.regs.state) o.result.steps
          (omega (arith, at_most_two o.result.regs.state))
          (omega (arith, within_budget (edition_of edition) budget cpu w)) in
          let nonzero : number_of o.result.regs.state ≡ 0 → ⊥ = λ e. stops (rw (whole, z) (told ∙ e)) in
          let rest : is_awake o.result.regs.state ≡ false = awake_is_zero o.result.regs.state ∙ ne_eqb _ _ nonzero in
          let size = (run_keeps (edition_of edition) budget cpu w (sized edition w z)).sized in
          rw (whole, z, told) (rests again more o.result.regs o.left rest (accepts again o.left named size))

last_byte : (cpu : Processor) → whole_bytes_of (woken cpu) ≡ set (whole_bytes_of cpu) 7 0
unfolding whole_bytes_of bytes_of
last_byte cpu = refl

-- A wake of registers that are a whole record answers 0, sets the last byte to 0, and changes nothing else.
pub wakes_at_bytes : (registers : List ℕ) → Bytes registers → is_whole registers ≡ true → wake_call registers ≡ filled 0 (set registers 7 0)
wakes_at_bytes registers bytes whole =
    rw (whole, last_byte (whole_of registers), whole_to_record_and_back registers bytes whole)
