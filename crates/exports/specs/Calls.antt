-- The calls that other programs make: what each answers, as one number, and what it leaves in the bytes it was lent.
use Rattle.std.specs.Prelude.{ℕ, ◌+◌, ◌*◌, ◌^◌, cond, List, [], ◌∷◌, ◌≡◌, eqb, length, Option, None, Some, Result, Ok, Err}
use Rattle.refusals.specs.Numbers.{number_of as number_of_refusal}
use Rattle.refusals.specs.declared.Refusal.{Refusal}
use Rattle.refusals.specs.declared.Refusal.TheVariants.{Form}
use Rattle.text.specs.Given.{Wanted, answer_to, buffer_after}
use Rattle.waking.specs.States.{number_of as number_of_state}
use Rattle.marks.specs.Counts.{counts_of}
use Rattle.marks.specs.declared.Counted.{Counted}
use Rattle.memory.specs.World.{World}
use Rattle.memory.specs.Access.{Outcome}
use Rattle.laws.specs.Lent.{Lent}
use Rattle.laws.specs.Filled.{Filled, filled}
use Rattle.memory.specs.Promises.{before, after}
use Rattle.processor.specs.Record.{woken}
use Rattle.processor.specs.declared.Processor.{Processor}
use Rattle.state.specs.Registers.{whole_bytes_of, whole_in}
use Rattle.spc_file.specs.Calls.{read_of, write_of}
use Rattle.conversion.specs.Calls.{file_from_record, record_from_file}
use Rattle.differences.specs.Calls.{differences_of}
use Rattle.differences.specs.declared.Differences.{Differences}
use Rattle.blanking.specs.Calls.{blank_of}
use Rattle.engine.specs.Entry.{step_answer, run_answer}
use Rattle.engine.specs.declared.Ran.{Ran}
use Rattle.exports.specs.declared.Told.{Told}

-- The refusal in bits 40 and up, the stop in bits 32 to 39, the number (steps, length, stretches, addresses) in the low 32.
abbrev pub packed : ℕ → ℕ → ℕ → ℕ
packed refusal stop number = refusal * 2 ^ 40 + stop * 2 ^ 32 + number

-- What a refused call answers.
abbrev pub refused_with : Refusal → ℕ
refused_with refusal = packed (number_of_refusal refusal) 0 0

-- What a call answers by its work: what is made of the work's answer, or the refusal.
abbrev pub number_by : {R : Type 0} → (R → ℕ) → Result R Refusal → ℕ
number_by number (Ok answer) = number answer
number_by number (Err refusal) = refused_with refusal

-- a stop and a number as the code has them
abbrev pub told_number : Result Told Refusal → ℕ
told_number = number_by (λ told. packed 0 told.stop told.number)

-- the answer, the registers' bytes, memory and maps
pub record Called : Type 0 where
  pub answer : ℕ
  pub registers : List ℕ
  pub left : World

abbrev pub called : ℕ → List ℕ → World → Called
called answer registers left = record { answer = answer; registers = registers; left = left }

-- The state of the record is the stop.
abbrev pub ran_number : Ran → ℕ
ran_number ran = packed 0 (number_of_state ran.cpu.state) ran.steps

-- Refused, nothing changes. Else the registers come back in their bytes.
abbrev pub handed : List ℕ → World → World → Result Ran Refusal → Called
handed registers w left (Ok ran) = called (ran_number ran) (whole_bytes_of ran.cpu) left
handed registers w left (Err refusal) = called (refused_with refusal) registers w

abbrev pub handed_back : List ℕ → World → Outcome World (Result Ran Refusal) → Called
handed_back registers w o = handed registers w o.left o.result

-- Refused with Form exactly if the registers are not a whole record, eight bytes of which the last is 0, 1 or 2, before all others.
abbrev pub on_record : (Processor → World → Outcome World (Result Ran Refusal)) → List ℕ → World → Result Processor Refusal → Called
on_record answer registers w (Ok cpu) = handed_back registers w (answer cpu w)
on_record answer registers w (Err refusal) = called (refused_with refusal) registers w

abbrev pub on_bytes : (Processor → World → Outcome World (Result Ran Refusal)) → List ℕ → World → Called
on_bytes answer registers w = on_record answer registers w (whole_in registers)

-- what the engine's step and run answer to the number of an edition, at the bytes
abbrev pub step_call : ℕ → List ℕ → World → Called
step_call edition = on_bytes (step_answer edition)

abbrev pub run_call : ℕ → ℕ → List ℕ → World → Called
run_call edition budget = on_bytes (run_answer edition budget)

-- What a call promises: it answers and leaves what `call` makes of the registers' bytes, memory and maps.
abbrev pub CallYields : (List ℕ → World → Called) → Lent → Lent → Lent → Lent → ℕ → Type 0
CallYields call registers memory reads writes r =
    called r registers.exit (after memory reads writes) ≡ call registers.entry (before memory reads writes)

-- A call that answers by one number; and one whose number says the refusal alone.
abbrev pub numbered_by : {R : Type 0} → (R → ℕ) → Filled R → Filled ℕ
numbered_by number o = filled (number o.answer) o.left

abbrev pub refusal_number : Result Unit Refusal → ℕ
refusal_number = number_by (λ none. packed 0 0 0)

abbrev pub numbered : Filled (Result Unit Refusal) → Filled ℕ
numbered = numbered_by refusal_number

-- A call that stores what its work gives in what it is lent, all of it, and answers no number. Refused, what it was lent stays as it was.
abbrev pub stored : {R : Type 0} → (R → List ℕ) → Result R Refusal → List ℕ → Filled ℕ
stored new (Ok answer) old = filled (packed 0 0 0) (new answer)
stored new (Err refusal) old = filled (refused_with refusal) old

-- A wake, at the bytes: refused as above, and else the record awake.
abbrev pub wake_call : List ℕ → Filled ℕ
wake_call registers = stored (λ cpu. whole_bytes_of (woken cpu)) (whole_in registers) registers

-- A call that fills a lent row of n numbers: Form exactly if the row has another length, before all others; then the refusal of its work, if
-- there is one; else `new` in the row. Refused, the row stays as it was.
abbrev pub into_row : {R : Type 0} → ℕ → (R → List ℕ) → Result R Refusal → List ℕ → Filled ℕ
into_row n new work row = cond (eqb (length row) n) (stored new work row) (filled (refused_with Form) row)

-- A count over both maps, into three numbers: read only, stored only, both.
abbrev pub three_of : Counted → List ℕ
three_of c = c.read_only ∷ c.stored_only ∷ c.both ∷ []

abbrev pub counts_call : List ℕ → List ℕ → List ℕ → Filled ℕ
counts_call reads writes = into_row 3 three_of (counts_of reads writes)

-- A comparison of two memories, with a map where the sign is not 0: the stop is 1 exactly if a stretch touches a mark, the number is how
-- many stretches there are.
abbrev pub differences_number : Result Differences Refusal → ℕ
differences_number = number_by (λ d. packed 0 (cond d.touched 1 0) d.stretches)

abbrev pub map_given : ℕ → List ℕ → Option (List ℕ)
map_given has-map map = cond (eqb has-map 0) None (Some map)

abbrev pub differences_call : List ℕ → List ℕ → ℕ → List ℕ → List ℕ → Filled ℕ
differences_call first second has-map map row = numbered_by differences_number (differences_of first second (map_given has-map map) row)

-- A memory blanked by a map: the number is how many addresses were given the byte.
abbrev pub blanked_number : Result ℕ Refusal → ℕ
blanked_number = number_by (packed 0 0)

abbrev pub blank_call : List ℕ → ℕ → List ℕ → Filled ℕ
blank_call map byte memory = numbered_by blanked_number (blank_of map byte memory)

-- The record of an SPC file, into eight bytes, in the order that all calls have. What they held does not matter.
abbrev pub file_read_call : List ℕ → List ℕ → Filled ℕ
file_read_call file = into_row 8 whole_bytes_of (read_of file)

-- Record and memory into an SPC file: Form exactly if the registers are not a whole record, before all others; else what the write answers
-- and leaves.
abbrev pub written_of : List ℕ → List ℕ → Result Processor Refusal → Filled ℕ
written_of memory file (Ok cpu) = numbered (write_of cpu memory file)
written_of memory file (Err refusal) = filled (refused_with refusal) file

abbrev pub file_write_call : List ℕ → List ℕ → List ℕ → Filled ℕ
file_write_call registers memory file = written_of memory file (whole_in registers)

-- A state record into an SPC file, and back: the refusal of each way is its number.
abbrev pub file_from_record_call : List ℕ → List ℕ → Filled ℕ
file_from_record_call state file = numbered (file_from_record state file)

abbrev pub record_from_file_call : List ℕ → List ℕ → Filled ℕ
record_from_file_call file state = numbered (record_from_file file state)

-- a text, whose number is its length
abbrev pub text_number : Result ℕ Refusal → ℕ
text_number = number_by (packed 0 0)

-- What a call that is to give a text promises: the number of the text's own answer, and what the text's own call leaves in the buffer.
abbrev pub TextYields : Wanted → Lent → ℕ → Type 0
TextYields w text r = (r ≡ text_number (answer_to w text.entry)) × (text.exit ≡ buffer_after w text.entry)
