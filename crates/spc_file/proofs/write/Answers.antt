-- Record and memory are copied to their places, in which they have just the room that is there.
-- Assumes nothing.
use Rattle.std.proofs.Common.{◌≡◌, ℕ, Bool, true, List, Ok, length, sym, ap, refl, ◌∙◌, rules, arith}
use Rattle.std.proofs.lemmas.List.Edits.{sets}
use Rattle.std.proofs.Math.Seq.{length-sets}
use borrow.Rule.Slice.PartMut.{put_mid}
use Rattle.laws.specs.Filled.{filled}
use Rattle.laws.specs.Stored.{put_stored}
use Rattle.waking.specs.States.{is_awake}
use Rattle.processor.specs.declared.Processor.{Processor}
use Rattle.spc_file.specs.Layout.{record_bytes, laid}
use Rattle.spc_file.specs.Calls.{refusal_of, write_of}
use Rattle.spc_file.specs.Theorems.{accepted, writes, lays}
use Rattle.spc_file.proofs.write.Goals as goal

module _ (cpu : Processor) (memory file : List ℕ) (a : refusal_of file ≡ Ok tt) (size : length memory ≡ 65536) where
  both_laid : {seven copied part : List ℕ} → seven ≡ record_bytes cpu → copied ≡ seven → part ≡ memory
      → put_mid 256 65536 (put_mid 37 7 file copied) part ≡ laid cpu memory file
  unfolding record_bytes
  both_laid r q p =
      let long = (accepted a).size in
      rw (q, r, p)
      (ap (λ (l : List ℕ). put_mid 256 65536 l memory) (put_stored file (record_bytes cpu) 37 refl (omega arith))
      ∙ put_stored (sets file 37 (record_bytes cpu)) memory 256 size (rw length-sets (omega arith)))

  stored : {awake : Bool} → awake ≡ is_awake cpu.state → awake ≡ true → {seven copied part : List ℕ}
      → seven ≡ record_bytes cpu → copied ≡ seven → part ≡ memory
      → filled (Ok tt) (put_mid 256 65536 (put_mid 37 7 file copied) part) ≡ write_of cpu memory file
  stored tested t r q p =
      ap (λ (l : List ℕ). filled (Ok tt) l) (both_laid r q p)
      ∙ sym (lays cpu memory file (writes cpu memory file (record { accepted = accepted a; size = size; awake = sym tested ∙ t })))

pub returns : goal.returns
returns c = search (rules, stored)
