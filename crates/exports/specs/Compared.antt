-- What a comparison tells a program that calls it: where refusal and stop are 0, the second image gives the first one's run.
-- Assumes nothing.
use Rattle.std.specs.Prelude.{ℕ, ◌/◌, ◌%◌, ◌^◌, ◌<◌, ◌≤◌, Bool, true, false, cond, ◌≡◌, refl, List, Some, Result, Ok, Err}
use Rattle.std.proofs.Common.{sym, ◌∙◌, arith, ne_eqb}
use Rattle.refusals.specs.Numbers.{number_of}
use Rattle.refusals.specs.declared.Refusal.{Refusal}
use Rattle.editions.specs.declared.Edition.{Edition}
use Rattle.processor.specs.declared.Processor.{Processor}
use Rattle.runs.specs.Same.{Same}
use Rattle.engine.specs.Provenance.{played, read_map}
use Rattle.differences.specs.Calls.{stretches_of, marks_of, accepted, differences_of}
use Rattle.differences.specs.declared.Differences.{Differences}
use Rattle.differences.proofs.Refusals.{nothing_refused}
use Rattle.differences.proofs.Theorems.{few}
use Rattle.differences.proofs.SameRun.{same_run_compared}
use Rattle.exports.specs.Calls.{differences_number, differences_call}
use Rattle.exports.specs.Parts.{refusal_part, stop_part, not_zero}

-- There are never more stretches than the number has room for.
few_told : (first second map row : List ℕ) {d : Differences} → (differences_of first second (Some map) row).answer ≡ Ok d → d.stretches ≤ 32768
few_told first second map row {d} is =
    let z = nothing_refused first second (Some map) row is in
    let as_told : d ≡ accepted (stretches_of first second) (marks_of (Some map)) = cc (rw z at is) in
    rw as_told (few first second)

a_byte : (b : Bool) → cond b 1 0 < 2 ^ 8
a_byte true = omega arith
a_byte false = omega arith

no_touch : (b : Bool) → ◌≡◌ {A = ℕ} (cond b 1 0) 0 → b ≡ false
no_touch true e = absurd (omega arith)
no_touch false e = refl

module _ (edition : Edition) (budget : ℕ) (cpu : Processor) (image second row : List ℕ) (has-map : ℕ) where
  abbrev map : List ℕ
  map = read_map edition budget cpu image

  -- Two images compared, with the read map that a run of the first, from clear maps, leaves.
  abbrev pub number : ℕ
  number = (differences_call image second has-map (read_map edition budget cpu image) row).answer

  -- With a sign other than 0, and refusal and stop as include/spc700.h takes them out of the number.
  pub same_run_told : (has-map ≡ 0 → ⊥) → number / 2 ^ 40 ≡ 0 → number / 2 ^ 32 % 2 ^ 8 ≡ 0
      → Same image second (played edition budget cpu image) (played edition budget cpu second)
  same_run_told given no-refusal no_stop = go (differences_of image second (Some map) row).answer refl
    where
      go : (r : Result Differences Refusal) → (differences_of image second (Some map) row).answer ≡ r
          → Same image second (played edition budget cpu image) (played edition budget cpu second)
      go (Err refusal) is =
          let number_is : number ≡ differences_number (Err refusal) = rw (ne_eqb _ _ given, is) in
          absurd (not_zero refusal (sym (refusal_part (number_of refusal) 0 0 (omega arith) (omega arith)) ∙ rw number_is at no-refusal))
      go (Ok d) is =
          let number_is : number ≡ differences_number (Ok d) = rw (ne_eqb _ _ given, is) in
          let word : d.stretches < 2 ^ 32 = omega (arith, few_told image second map row is) in
          let stop = stop_part 0 (cond d.touched 1 0) d.stretches (a_byte d.touched) word in
          same_run_compared edition budget cpu image second row is (no_touch d.touched (sym stop ∙ rw number_is at no_stop))
