-- When two images that differ give the same run: it follows from which bytes a run is made of.
-- Assumes nothing.
use Rattle.std.specs.Prelude.{ℕ, false, ◌≡◌, List, length, Some, Result, Ok}
use Rattle.marks.specs.Maps.{is_marked}
use Rattle.refusals.specs.declared.Refusal.{Refusal}
use Rattle.editions.specs.declared.Edition.{Edition}
use Rattle.processor.specs.declared.Processor.{Processor}
use Rattle.runs.specs.Same.{Same}
use Rattle.engine.specs.Provenance.{played, read_map, provenance}
use Rattle.differences.specs.Stretches.{touched}
use Rattle.differences.specs.Calls.{stretches_of, accepted, differences_of}
use Rattle.differences.proofs.Refusals.{paired, nothing_refused, lengths_right}
use Rattle.differences.proofs.Theorems.{untouched}
use Rattle.differences.specs.declared.Differences.{Differences}

module _ (edition : Edition) (budget : ℕ) (cpu : Processor) (image second : List ℕ) where
  -- The read map that a run of the image in that edition, from clear maps, leaves.
  abbrev map : List ℕ
  map = read_map edition budget cpu image

  -- If no stretch touches one of its marks, the second image gives the same run in that edition: the same registers, step count, stop and
  -- maps, and equal bytes wherever a step stored; at every other address each run leaves its own image's byte.
  pub same_run : length image ≡ 65536 → length second ≡ 65536 → touched (is_marked map) (stretches_of image second) ≡ false
      → Same image second (played edition budget cpu image) (played edition budget cpu second)
  same_run size other none = provenance edition budget cpu image size second other (untouched image second (is_marked map) none)

  -- What a comparison of the two answers that is lent this map, whatever row it is lent.
  abbrev pub compared : List ℕ → Result Differences Refusal
  compared row = (differences_of image second (Some map) row).answer

  -- So if it is accepted and tells of no touch, the second image gives the same run.
  pub same_run_compared : (row : List ℕ) {told : Differences} → compared row ≡ Ok told → told.touched ≡ false
      → Same image second (played edition budget cpu image) (played edition budget cpu second)
  same_run_compared row {told} is none =
      let z = nothing_refused image second (Some map) row is in
      let both = paired image second (lengths_right image second (Some map) row z).0 in
      let as_told : accepted (stretches_of image second) (is_marked map) ≡ told = cc (rw (compared, z) at is) in
      same_run both.0 both.1 (rw (← as_told) at none)
