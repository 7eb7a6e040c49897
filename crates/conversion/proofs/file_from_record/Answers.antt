-- With signature and defaults in it, the lent file is like a new one wherever the write that follows does not store.
-- Assumes nothing.
use Rattle.std.proofs.Common.{◌≡◌, ℕ, true, List, ◌++◌, Result, Ok, length, take, drop}
use Rattle.std.proofs.Common.{sym, ap, subst, ◌∙◌, rules, arith, length-append, length-drop, take_at}
use Rattle.laws.specs.Filled.{filled}
use Rattle.refusals.specs.declared.Refusal.{Refusal}
use Rattle.waking.specs.States.{is_awake}
use Rattle.processor.specs.declared.Processor.{Processor}
use Rattle.state.specs.Registers.{registers_of}
use Rattle.state.specs.Theorems.{seven_awake}
use Rattle.spc_file.specs.Layout.{signature}
use Rattle.spc_file.specs.Calls.{write_of}
use Rattle.spc_file.specs.Refused.{not_refused}
use Rattle.spc_file.specs.Theorems.{Accepted, writes, lays}
use Rattle.conversion.specs.Unnamed.{with_defaults}
use Rattle.conversion.specs.Calls.{to_file_refusal, file_of, file_from_record}
use Rattle.conversion.specs.Theorems.{Plain, signature_size, made_plain, new_plain, plain_alike, takes_record}
use Rattle.conversion.proofs.file_from_record.Goals as goal

module _ (state file array : List ℕ) (same : array ≡ file) (s : length state ≡ 65543) (f : length file ≡ 66048) where
  -- the signature, copied to the file's beginning, is there
  signed : {copied : List ℕ} → copied ≡ signature → Accepted (copied ++ drop 33 array)
  signed {copied} all =
      let size : length copied ≡ 33 = ap length all ∙ signature_size in
      record {
        size = omega (arith, ap length same, length-append copied (drop 33 array), length-drop 33 array);
        begins = take_at copied (drop 33 array) 33 size ∙ all;
      }

  made : {copied defaulted seven part left : List ℕ} {cpu : Processor} {r : Result Unit Refusal}
      → filled r left ≡ write_of cpu part defaulted
      → copied ≡ signature
      → defaulted ≡ with_defaults (copied ++ drop 33 array)
      → cpu ≡ registers_of seven
      → seven ≡ take 7 state
      → part ≡ drop 7 state
      → filled r left ≡ file_from_record state file
  made {copied} {defaulted} {seven} {part} {left} {cpu} w c d k q p =
      let plain : Plain defaulted = subst (λ (l : List ℕ). Plain l) (sym d) (made_plain (copied ++ drop 33 array) (signed c)) in
      let whole : length part ≡ 65536 = rw p (rw length-drop (omega arith)) in
      let awake : is_awake cpu.state ≡ true = rw k (seven_awake seven) in
      w
      ∙ lays cpu part defaulted (writes cpu part defaulted (record { accepted = plain.accepted; size = whole; awake = awake }))
      ∙ ap (λ (l : List ℕ). filled (Ok tt) l) (plain_alike plain new_plain cpu part whole)
      ∙ rw (k, q, p) (sym (not_refused (to_file_refusal state file) (file_of state) file (takes_record state file s f)))

pub returns : goal.returns
unfolding signature
returns c =
    made c.args.record.now c.args.file.now c.in_ok-file.field-0.now (search rules) c.if-record-ne65543.false (search rules) c.write.ensures
    c.copy_from_slice.ensures.after c.set_defaults.ensures c.registers.ensures c.split_at.ensures.front c.split_at.ensures.back
