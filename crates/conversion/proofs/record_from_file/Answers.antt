-- Registers and memory fill the lent record between them, and are stored once nothing more can be refused.
-- Assumes nothing.
use Rattle.std.proofs.Common.{◌≡◌, ℕ, ◌+◌, Bool, true, List, ◌++◌, Ok, Err, length, sym, ◌∙◌, rules, arith, eq-eqb}
use Rattle.std.proofs.lemmas.Result.{err_from_is_err_and}
use Rattle.laws.specs.Filled.{filled}
use Rattle.refusals.specs.declared.Refusal.{Refusal}
use Rattle.processor.specs.declared.Processor.{Processor}
use Rattle.state.specs.Registers.{bytes_of}
use Rattle.spc_file.specs.Layout.{memory_in}
use Rattle.spc_file.specs.Calls.{read_of, memory_of}
use Rattle.spc_file.specs.Refused.{not_refused}
use Rattle.spc_file.specs.Theorems.{accepted, given, not_given, gives_part, memory_size}
use Rattle.conversion.specs.Unnamed.{all_default}
use Rattle.conversion.specs.Calls.{to_record_refusal, record_of, record_from_file}
use Rattle.conversion.proofs.record_from_file.Goals as goal

-- `file` is the lent file, and `array` is the same as an array
module _ (file array state : List ℕ) (same : array ≡ file) (s : length state ≡ 65543) where
  wrong_file : {refusal : Refusal} → Err refusal ≡ read_of array → filled (Err refusal) state ≡ record_from_file file state
  wrong_file e = let own = not_given file (sym (rw same at e)) in rw (eq-eqb _ _ s, own)

  module _ {cpu : Processor} (e : Ok cpu ≡ read_of array) {memory : List ℕ} (m : memory ≡ memory_of array) where
    part : memory ≡ memory_in file
    part = rw same at m ∙ gives_part file (given file (sym (rw same at e))).0

    as_long : (rest : List ℕ) → length rest + 7 ≡ length state → length rest ≡ length memory
    as_long rest h = rw part (omega (arith, memory_size (accepted (given file (sym (rw same at e))).0)))

    stored : {all : Bool} {registers copied : List ℕ} → all ≡ all_default array → all ≡ true → registers ≡ bytes_of cpu → copied ≡ memory
        → filled (Ok tt) (registers ++ copied) ≡ record_from_file file state
    stored a t g c =
        let gives = given file (sym (rw same at e)) in
        let every : all_default file ≡ true = sym (rw same at a) ∙ t in
        rw (g, c, part, ← gives.1)
        (sym (not_refused (to_record_refusal file state) (record_of file) state (rw (eq-eqb _ _ s, gives.0, every))))

pub returns-in_err-cpu : goal.returns-in_err-cpu
returns-in_err-cpu c =
    let p = err_from_is_err_and c.from_residual-in_err-cpu.result c.from_residual-in_err-cpu.ensures.1 in
    rw (p.1, p.2)
    (wrong_file c.args.file.now c.in_ok-file.file.now c.args.record.now (search rules) c.if-record-ne65543.false c.in_err-cpu.ensures)

pub copy_from_slice-requires : goal.copy_from_slice-requires
copy_from_slice-requires c =
    as_long c.args.file.now c.in_ok-file.file.now c.args.record.now (search rules) c.if-record-ne65543.false c.in_ok-cpu.ensures
    c.memory.ensures _ c.split_at_mut-registers.ensures.back_len

pub returns : goal.returns
returns c = search (rules, stored)
