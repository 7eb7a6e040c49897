-- A record that goes into an SPC file and back is the record, and a file that goes into a record and back is the file.
-- Assumes nothing.
use Rattle.std.specs.Prelude.{ℕ, ◌<◌, ◌≤◌, ◌≡◌, refl, List, ◌++◌, Result, Ok, length, get_or, take}
use Rattle.std.proofs.Common.{sym, ap, subst, ◌∙◌, arith, lit≤, length-append, length-drop, length-take-le, take_at, drop_at, get_or-take}
use Rattle.std.proofs.Math.Decide.{dec_le}
use Rattle.std.proofs.Math.ListN.{drop, take-append-drop, get_or-eq_default}
use Rattle.laws.specs.Bytes.{Bytes}
use Rattle.laws.specs.Filled.{Filled, filled}
use Rattle.refusals.specs.declared.Refusal.{Refusal}
use Rattle.processor.specs.declared.Processor.{Processor}
use Rattle.state.specs.Registers.{registers_of, bytes_of}
use Rattle.state.specs.Theorems.{record_to_bytes_and_back, bytes_to_record_and_back}
use Rattle.spc_file.specs.Layout.{record_in, memory_in, laid}
use Rattle.spc_file.specs.Refused.{not_refused, answers}
use Rattle.spc_file.specs.Theorems.{Accepted, memory_size}
use Rattle.spc_file.specs.Theorems.{same_file, same_registers, same_memory}
use Rattle.conversion.specs.Unnamed.{EachDefault}
use Rattle.conversion.specs.Calls.{to_file_refusal, new_file, file_of, file_from_record, to_record_refusal, record_of, record_from_file}
use Rattle.conversion.specs.Theorems.{Plain, new_plain, plain_alike, plain_still, takes_record, took_record, takes_file, took_file}

module _ (state : List ℕ) (size : length state ≡ 65543) where
  behind_seven : length (drop 7 state) ≡ 65536
  behind_seven = rw length-drop (omega arith)

  -- The file of a record holds nothing but the record,
  pub file_plain : Plain (file_of state)
  file_plain = plain_still new_plain (registers_of (take 7 state)) (drop 7 state) behind_seven

  seven_small : Bytes state → Bytes (take 7 state)
  seven_small bytes at = go (dec_le 7 at)
    where
      go : Dec (7 ≤ at) → get_or (take 7 state) at 0 < 256
      go (yes far) = rw (get_or-eq_default (take 7 state) 0 {n = at} (rw (length-take-le 7 state (omega arith)) far)) (lit≤ tt)
      go (no near) = rw (get_or-take 7 state at 0 (omega arith)) (bytes at)

  -- and the record of that file is the record.
  pub record_again : Bytes state → record_of (file_of state) ≡ state
  unfolding registers_of
  record_again bytes =
      let cpu = registers_of (take 7 state) in
      let seven = bytes_to_record_and_back (take 7 state) (seven_small bytes) (length-take-le 7 state (omega arith)) in
      ap (λ (c : Processor). bytes_of c ++ memory_in (file_of state))
      (same_registers cpu (drop 7 state) new_file new_plain.accepted behind_seven)
      ∙ ap (λ (m : List ℕ). bytes_of cpu ++ m) (same_memory cpu (drop 7 state) new_file new_plain.accepted behind_seven)
      ∙ ap (λ (l : List ℕ). l ++ drop 7 state) seven
      ∙ take-append-drop 7 state

module _ (file : List ℕ) where
  seven_bytes : length (bytes_of (record_in file)) ≡ 7
  unfolding bytes_of
  seven_bytes = refl

  pub record_size : Accepted file → length (record_of file) ≡ 65543
  record_size a = omega (arith, length-append (bytes_of (record_in file)) (memory_in file), seven_bytes, memory_size a)

  -- The file of such a file's record is the file.
  pub file_again : Bytes file → Plain file → file_of (record_of file) ≡ file
  unfolding record_in
  file_again bytes p =
      let cpu = record_in file in
      let memory = memory_in file in
      ap (λ (l : List ℕ). laid (registers_of l) (drop 7 (record_of file)) new_file) (take_at (bytes_of cpu) memory 7 seven_bytes)
      ∙ ap (λ (m : List ℕ). laid (registers_of (bytes_of cpu)) m new_file) (drop_at (bytes_of cpu) memory 7 seven_bytes)
      ∙ ap (λ (c : Processor). laid c memory new_file) (record_to_bytes_and_back cpu)
      ∙ plain_alike new_plain p cpu memory (memory_size p.accepted)
      ∙ same_file file bytes p.accepted

  -- Of no other file it is: what stands in its unnamed bytes would be lost.
  pub only_then : Accepted file → file_of (record_of file) ≡ file → EachDefault file
  only_then a e = (subst (λ (f : List ℕ). Plain f) e (file_plain (record_of file) (record_size a))).defaults

-- A record that went into a file comes back, into whatever record is lent.
pub record_to_file_and_back : (state file into : List ℕ) → Bytes state → (file_from_record state file).answer ≡ Ok tt → length into ≡ 65543
    → record_from_file (file_from_record state file).left into ≡ filled (Ok tt) state
record_to_file_and_back state file into bytes e size =
    let z = sym (answers (to_file_refusal state file) (file_of state) file) ∙ e in
    let whole = (took_record state file z).0 in
    let accepted = takes_file (file_of state) into size (file_plain state whole) in
    ap (λ (f : Filled (Result Unit Refusal)). record_from_file f.left into)
    (not_refused (to_file_refusal state file) (file_of state) file z)
    ∙ not_refused (to_record_refusal (file_of state) into) (record_of (file_of state)) into accepted
    ∙ ap (λ (l : List ℕ). filled (Ok tt) l) (record_again state whole bytes)

-- A file that went into a record comes back, into whatever file is lent.
pub file_to_record_and_back : (file state into : List ℕ) → Bytes file → (record_from_file file state).answer ≡ Ok tt → length into ≡ 66048
    → file_from_record (record_from_file file state).left into ≡ filled (Ok tt) file
file_to_record_and_back file state into bytes e size =
    let z = sym (answers (to_record_refusal file state) (record_of file) state) ∙ e in
    let plain = (took_file file state z).1 in
    let accepted = takes_record (record_of file) into (record_size file plain.accepted) size in
    ap (λ (f : Filled (Result Unit Refusal)). file_from_record f.left into)
    (not_refused (to_record_refusal file state) (record_of file) state z)
    ∙ not_refused (to_file_refusal (record_of file) into) (file_of (record_of file)) into accepted
    ∙ ap (λ (l : List ℕ). filled (Ok tt) l) (file_again file bytes plain)
