-- Where things stand in an SPC file of 66,048 bytes. The bytes that have no name here are unnamed: reading a file and writing into one do
-- not look at them and do not change them.
use Rattle.std.specs.Prelude.{ℕ, ◌/◌, ◌%◌, List, [], ◌∷◌, get_or, take, drop}
use Rattle.std.proofs.lemmas.List.Edits.{sets}
use Rattle.text.specs.Quoted.{text}
use Rattle.waking.specs.declared.State.TheVariants.{Awake}
use Rattle.psw.specs.Status.{byte_of, flags_of}
use Rattle.processor.specs.Record.{word_of}
use Rattle.processor.specs.declared.Processor.{Processor}

-- The first 33 bytes of every file.
unfoldable pub signature : List ℕ
signature = text "SNES-SPC700 Sound File Data v0.30"

-- The record: PC at 37 and 38, low first, then A X Y PSW SP at 39 to 43. A file has no place for its state: what it gives is awake.
unfoldable pub record_in : List ℕ → Processor
record_in file = record {
  pc = word_of (get_or file 37 0) (get_or file 38 0);
  a = get_or file 39 0;
  x = get_or file 40 0;
  y = get_or file 41 0;
  psw = flags_of (get_or file 42 0);
  sp = get_or file 43 0;
  state = Awake;
}

-- the seven bytes of a record, in the file's order
unfoldable pub record_bytes : Processor → List ℕ
record_bytes cpu = cpu.pc % 256 ∷ cpu.pc / 256 ∷ cpu.a ∷ cpu.x ∷ cpu.y ∷ byte_of cpu.psw ∷ cpu.sp ∷ []

-- The memory: 65,536 bytes, from 256 on.
abbrev pub memory_in : List ℕ → List ℕ
memory_in file = take 65536 (drop 256 file)

-- The file with another record and another memory in their places. `sets` stores numbers one after the other, from a place on.
abbrev pub laid : Processor → List ℕ → List ℕ → List ℕ
laid cpu memory file = sets (sets file 37 (record_bytes cpu)) 256 memory
