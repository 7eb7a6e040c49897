-- What reading an SPC file gives, and what writing into one answers and leaves.
use Rattle.std.specs.Prelude.{ℕ, cond, List, [], Result, Ok, Err, is_ok, nat_eq, eqb, length}
use Rattle.std.specs.List.{starts_with}
use Rattle.std.specs.Result.{result_and}
use Rattle.laws.specs.Filled.{Filled, filled}
use Rattle.refusals.specs.declared.Refusal.{Refusal}
use Rattle.refusals.specs.declared.Refusal.TheVariants.{Memory, File, Signature, Asleep}
use Rattle.waking.specs.States.{is_awake}
use Rattle.processor.specs.declared.Processor.{Processor}
use Rattle.spc_file.specs.Layout.{signature, record_in, memory_in, laid}

-- Refused as no file exactly if the file is not 66,048 bytes; then for its signature exactly if its first 33 bytes are others.
abbrev pub refusal_of : List ℕ → Result Unit Refusal
refusal_of file = cond (eqb (length file) 66048) (cond (starts_with nat_eq file signature) (Ok tt) (Err Signature)) (Err File)

-- Reading gives the file's record, or its refusal.
abbrev pub read_of : List ℕ → Result Processor Refusal
read_of file = result_and (refusal_of file) (Ok (record_in file))

-- It gives the part that is memory; refused, an empty part.
abbrev pub memory_of : List ℕ → List ℕ
memory_of file = cond (is_ok (refusal_of file)) (memory_in file) []

-- A write has the file's refusals; then the memory's exactly if it is not 65,536 bytes; then the record's exactly if it is not awake, since
-- a file would give it back awake.
abbrev pub write_refusal : Processor → List ℕ → List ℕ → Result Unit Refusal
write_refusal cpu memory file =
    result_and (refusal_of file) (cond (eqb (length memory) 65536) (cond (is_awake cpu.state) (Ok tt) (Err Asleep)) (Err Memory))

-- A call that may be refused: it leaves something new in the lent slice, or answers the refusal and leaves what the slice held.
abbrev pub unless_refused : {T : Type 0} → Result T Refusal → List ℕ → List ℕ → Filled (Result T Refusal)
unless_refused (Ok answer) new old = filled (Ok answer) new
unless_refused (Err refusal) new old = filled (Err refusal) old

-- Writing leaves the file with record and memory in it; refused, the file as it was.
abbrev pub write_of : Processor → List ℕ → List ℕ → Filled (Result Unit Refusal)
write_of cpu memory file = unless_refused (write_refusal cpu memory file) (laid cpu memory file) file
