-- Reading and writing SPC files through the calls, and making them of state records and back, one after the other.
-- The hypotheses are what the code's types give, that the lent slices hold bytes, and where it is said, that a call was not refused.
-- Assumes nothing.
use Rattle.std.specs.Prelude.{ℕ, ◌≡◌, refl, List, length, Result, Ok, Err}
use Rattle.std.specs.Result.{result_unwrap_or}
use Rattle.std.proofs.Common.{ap, sym, ◌∙◌, eq-eqb, ne_eqb}
use Rattle.std.proofs.Math.Decide.{ℕ_discrete}
use Rattle.laws.specs.Bytes.{Bytes}
use Rattle.laws.specs.Filled.{Filled, filled}
use Rattle.refusals.specs.declared.Refusal.{Refusal}
use Rattle.refusals.specs.declared.Refusal.TheVariants.{Form}
use Rattle.processor.specs.declared.Processor.{Processor}
use Rattle.state.specs.Registers.{whole_bytes_of, is_whole, whole_of, whole_in}
use Rattle.state.specs.Theorems.{found_again, whole_to_record_and_back}
use Rattle.spc_file.specs.Calls.{read_of, memory_of, write_of}
use Rattle.spc_file.specs.Theorems as spc
use Rattle.conversion.specs.Calls.{file_from_record, record_from_file}
use Rattle.conversion.proofs.BothWays as conversion
use Rattle.engine.proofs.Refused.{when_ok}
use Rattle.exports.specs.Calls.{refused_with, numbered, file_read_call, file_write_call, file_from_record_call, record_from_file_call}
use Rattle.exports.specs.Parts.{refused_tells, none_refused}

-- ---- the calls, past the test of the registers

module _ (file registers : List ℕ) where
  read_refused : length registers ≡ 8 → {refusal : Refusal} → read_of file ≡ Err refusal
      → file_read_call file registers ≡ filled (refused_with refusal) registers
  read_refused eight e = rw (eq-eqb _ _ eight, e)

  read_accepted : length registers ≡ 8 → {cpu : Processor} → read_of file ≡ Ok cpu
      → file_read_call file registers ≡ filled 0 (whole_bytes_of cpu)
  read_accepted eight e = rw (eq-eqb _ _ eight, e)

  wrote : {cpu : Processor} → whole_in registers ≡ Ok cpu → (memory : List ℕ) {o : Filled (Result Unit Refusal)}
      → write_of cpu memory file ≡ o → file_write_call registers memory file ≡ numbered o
  wrote whole memory e = rw (whole, e)

-- ---- both ways round

-- The record that a file gives is written as it was read.
written_again : (file : List ℕ) → Bytes file → {cpu : Processor} → read_of file ≡ Ok cpu → write_of cpu (memory_of file) file ≡ filled (Ok tt) file
written_again file bytes {cpu} z =
    ap (λ (r : Result Processor Refusal). write_of (result_unwrap_or r cpu) (memory_of file) file) (sym z)
    ∙ spc.read_then_write file bytes cpu
    ∙ ap (λ (r : Result Unit Refusal). filled r file) (spc.given file z).0

-- a call that is refused, and leaves what it was lent as it was
pub record Refused (o : Filled ℕ) (lent : List ℕ) : Type 0 where
  pub refused : o.answer ≡ 0 → ⊥
  pub stays : o.left ≡ lent

refused_so : (refusal : Refusal) (lent : List ℕ) → Refused (filled (refused_with refusal) lent) lent
refused_so refusal lent = record { refused = refused_tells refusal; stays = refl }

module _ (file registers : List ℕ) where
  -- Reading a file, and then writing into it the registers' bytes as they are by then and the memory that the file has, is accepted where
  -- the read is, and changes nothing,
  pub read_then_write : Bytes file → (file_read_call file registers).answer ≡ 0
      → file_write_call (file_read_call file registers).left (memory_of file) file ≡ filled 0 file
  read_then_write bytes e = go (ℕ_discrete (length registers) 8) (read_of file) refl
    where
      go : Dec (length registers ≡ 8) → (r : Result Processor Refusal) → read_of file ≡ r
          → file_write_call (file_read_call file registers).left (memory_of file) file ≡ filled 0 file
      go (no n) r z = absurd (refused_tells Form (rw (ne_eqb _ _ n) at e))
      go (yes s) (Err refusal) z = absurd (refused_tells refusal (rw (read_refused file registers s z) at e))
      go (yes s) (Ok cpu) z =
          rw (read_accepted file registers s z) (wrote file (whole_bytes_of cpu) (found_again cpu) (memory_of file) (written_again file bytes z))

  -- and no more does a write behind a read that was refused: it is refused, too, though it may be with another number.
  pub refused_both_times : ((file_read_call file registers).answer ≡ 0 → ⊥)
      → Refused (file_write_call (file_read_call file registers).left (memory_of file) file) file
  refused_both_times refused = go (ℕ_discrete (length registers) 8) (read_of file) refl (whole_in registers) refl
    where
      go : Dec (length registers ≡ 8) → (r : Result Processor Refusal) → read_of file ≡ r → (w : Result Processor Refusal) → whole_in registers ≡ w
          → Refused (file_write_call (file_read_call file registers).left (memory_of file) file) file
      go (no n) r z w x = rw (ne_eqb _ _ n, ne_eqb _ _ n) (refused_so Form file)
      go (yes s) (Ok cpu) z w x = absurd (refused (rw (read_accepted file registers s z) refl))
      go (yes s) (Err refusal) z (Ok cpu) x =
          rw (
            read_refused file registers s z,
            wrote file registers x (memory_of file) (spc.refused_file cpu (memory_of file) file (spc.not_given file z)),
          )
          (refused_so refusal file)
      go (yes s) (Err refusal) z (Err other) x = rw (read_refused file registers s z, x) (refused_so other file)

-- what the calls give back of a file
pub record GivesBack (registers memory file : List ℕ) : Type 0 where
  pub read : (into : List ℕ) → length into ≡ 8 → file_read_call file into ≡ filled 0 registers
  pub part : memory_of file ≡ memory

-- Writing and then reading gives back what was written.
pub write_then_read : (registers memory file : List ℕ) → Bytes registers → (file_write_call registers memory file).answer ≡ 0
    → GivesBack registers memory (file_write_call registers memory file).left
write_then_read registers memory file bytes e = go (whole_in registers) refl
  where
    go : (w : Result Processor Refusal) → whole_in registers ≡ w → GivesBack registers memory (file_write_call registers memory file).left
    go (Err refusal) x = absurd (refused_tells refusal (rw x at e))
    go (Ok cpu) x =
        let back = spc.write_then_read cpu memory file (none_refused _ (rw x at e)) in
        let own = when_ok (is_whole registers) (whole_of registers) cpu Form (sym x) in
        let again : whole_bytes_of cpu ≡ registers = rw own.1 (whole_to_record_and_back registers bytes own.0) in
        rw x (record { read = λ into eight. rw (read_accepted _ into eight back.read, again); part = back.part })

-- ---- state records and files

-- A record that went into a file comes back, into whatever record is lent,
pub record_to_file_and_back : (state file into : List ℕ) → Bytes state → (file_from_record_call state file).answer ≡ 0 → length into ≡ 65543
    → record_from_file_call (file_from_record_call state file).left into ≡ filled 0 state
record_to_file_and_back state file into bytes e size =
    ap numbered (conversion.record_to_file_and_back state file into bytes (none_refused (file_from_record state file).answer e) size)

-- and a file that went into a record comes back, into whatever file is lent.
pub file_to_record_and_back : (file state into : List ℕ) → Bytes file → (record_from_file_call file state).answer ≡ 0 → length into ≡ 66048
    → file_from_record_call (record_from_file_call file state).left into ≡ filled 0 file
file_to_record_and_back file state into bytes e size =
    ap numbered (conversion.file_to_record_and_back file state into bytes (none_refused (record_from_file file state).answer e) size)
