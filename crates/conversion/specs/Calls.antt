-- From a state record to an SPC file and back: what each way answers, and what it leaves in the lent file or record.
use Rattle.std.specs.Prelude.{ℕ, cond, List, ◌++◌, Result, Ok, Err, eqb, length, take, drop, replicate}
use Rattle.std.specs.Result.{result_and}
use Rattle.laws.specs.Filled.{Filled}
use Rattle.refusals.specs.declared.Refusal.{Refusal}
use Rattle.refusals.specs.declared.Refusal.TheVariants.{Form, File, Unnamed}
use Rattle.state.specs.Registers.{registers_of, bytes_of}
use Rattle.spc_file.specs.Layout.{signature, record_in, memory_in, laid}
use Rattle.spc_file.specs.Calls.{refusal_of, unless_refused}
use Rattle.conversion.specs.Unnamed.{with_defaults, all_default}

-- ---- from a record to a file

-- Refused for its form exactly if the record is not 65,543 bytes; then as no file exactly if the file is not 66,048 bytes.
abbrev pub to_file_refusal : List ℕ → List ℕ → Result Unit Refusal
to_file_refusal state file = cond (eqb (length state) 65543) (cond (eqb (length file) 66048) (Ok tt) (Err File)) (Err Form)

-- A file of 66,048 bytes in which nothing is written yet: the signature, the default in every unnamed byte, and zeros.
unfoldable pub new_file : List ℕ
new_file = with_defaults (signature ++ replicate 66015 0)

-- The file of a state record, which is seven bytes, A X Y SP PC-low PC-high PSW, and the memory: both in their places in a new file.
abbrev pub file_of : List ℕ → List ℕ
file_of state = laid (registers_of (take 7 state)) (drop 7 state) new_file

-- It leaves the record's file, whatever the lent file held; refused, the lent file as it was.
abbrev pub file_from_record : List ℕ → List ℕ → Filled (Result Unit Refusal)
file_from_record state file = unless_refused (to_file_refusal state file) (file_of state) file

-- ---- from a file to a record

-- Refused for its form exactly if the lent record is not 65,543 bytes; then for the file's own reasons; then for an unnamed byte exactly if
-- some unnamed byte is not its default.
abbrev pub to_record_refusal : List ℕ → List ℕ → Result Unit Refusal
to_record_refusal file state =
    cond (eqb (length state) 65543) (result_and (refusal_of file) (cond (all_default file) (Ok tt) (Err Unnamed))) (Err Form)

-- The state record of a file.
abbrev pub record_of : List ℕ → List ℕ
record_of file = bytes_of (record_in file) ++ memory_in file

-- It leaves the file's record, all of it; refused, the lent record as it was.
abbrev pub record_from_file : List ℕ → List ℕ → Filled (Result Unit Refusal)
record_from_file file state = unless_refused (to_record_refusal file state) (record_of file) state
