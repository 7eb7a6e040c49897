-- Which bytes of an image a run is made of. What is said here is said of `run_answer`, which is what the contract of `engine::run` says
-- that the code answers and leaves in the lent memory and maps.
-- Assumes nothing.
use Rattle.std.specs.Prelude.{ℕ, ◌<◌, ◌≡◌, refl, ◌↔◌, true, List, length, get_or, replicate, Result, Ok}
use borrow.Author.Tests.{eq-eqb}
use Rattle.refusals.specs.declared.Refusal.{Refusal}
use Rattle.marks.specs.Maps.{is_marked}
use Rattle.memory.specs.World.{World, world}
use Rattle.memory.specs.Access.{Outcome}
use Rattle.editions.specs.Editions.{number_of}
use Rattle.editions.specs.Theorems.{named, number_and_back}
use Rattle.editions.specs.declared.Edition.{Edition}
use Rattle.processor.specs.declared.Processor.{Processor}
use Rattle.runs.specs.Run.{Progress}
use Rattle.runs.specs.Trace.{Event, trace}
use Rattle.runs.specs.Marks.{ReadFirst, StoredAt}
use Rattle.runs.specs.Same.{Same}
use Rattle.runs.proofs.Trace.{run_unmapped}
use Rattle.runs.proofs.Exact.{Fresh, fresh, reads_exact, writes_exact}
use Rattle.runs.proofs.Agree.{same_through, same_run}
use Rattle.engine.specs.Entry.{answer_of, accepted, refusal_of, counted_step, run_of, run_answer}
use Rattle.engine.specs.Theorems.{run_keeps}
use Rattle.engine.specs.declared.Ran.{Ran}

-- A map without marks: 8,192 bytes of zero.
abbrev pub clear : List ℕ
clear = replicate 8192 0

-- What a run in an edition on an image, from clear maps, answers and leaves.
abbrev pub played : Edition → ℕ → Processor → List ℕ → Outcome World (Result Ran Refusal)
played edition budget cpu image = run_answer (number_of edition) budget cpu (world image clear clear)

-- The read map that it leaves.
abbrev pub read_map : Edition → ℕ → Processor → List ℕ → List ℕ
read_map edition budget cpu image = (played edition budget cpu image).left.reads

-- The accesses of all its steps, in order, as the definition of the instructions says them.
abbrev pub accesses : Edition → ℕ → Processor → List ℕ → List Event
accesses edition budget cpu image = trace (counted_step edition) budget cpu (world image clear clear)

same_accepted : {image second : List ℕ} {o q : Outcome World (Progress Processor)} → Same image second o q
    → Same image second (accepted o) (accepted q)
same_accepted = same_through (λ p. Ok (answer_of p))

-- Of one edition, whichever it is; of one budget and one record.
module _ (edition : Edition) (budget : ℕ) (cpu : Processor) where
  -- An image of 65,536 bytes is not refused: what is answered and left is what the definition gives.
  pub accepted_sized : (image : List ℕ) → length image ≡ 65536
      → played edition budget cpu image ≡ accepted (run_of edition budget cpu (world image clear clear))
  unfolding refusal_of
  accepted_sized image size = rw (named edition, number_and_back edition, eq-eqb _ _ size)

  module _ (image : List ℕ) (size : length image ≡ 65536) where
    start : Fresh (world image clear clear)
    start = fresh image 8192 size refl

    -- The read map has 8,192 bytes then.
    pub read_map_size : length (read_map edition budget cpu image) ≡ 8192
    read_map_size =
        rw (read_map, accepted_sized image size) (run_keeps edition budget cpu (world image clear clear) start.sized).sized.reads

    -- The accesses depend on the image alone: whatever the maps hold, they are the same. So nothing below is said in a circle.
    pub accesses_of_image : (w : World) → w.memory ≡ image → trace (counted_step edition) budget cpu w ≡ accesses edition budget cpu image
    accesses_of_image w e = (run_unmapped (counted_step edition) budget cpu w (world image clear clear) e).1

    -- The read map marks an address exactly when some step reads it before any step has stored there.
    pub read_map_exact : (k : ℕ) → k < 65536
        → (is_marked (read_map edition budget cpu image) k ≡ true) ↔ ReadFirst k (accesses edition budget cpu image)
    read_map_exact k h =
        rw (read_map, accepted_sized image size) (reads_exact (counted_step edition) budget cpu (world image clear clear) start k h)

    -- The written map marks an address exactly when some step stores there.
    pub written_map_exact : (k : ℕ) → k < 65536
        → (is_marked (played edition budget cpu image).left.writes k ≡ true) ↔ StoredAt k (accesses edition budget cpu image)
    written_map_exact k h =
        rw (accepted_sized image size) (writes_exact (counted_step edition) budget cpu (world image clear clear) start k h)

    -- Any second image that is equal at the marked addresses gives, with the same registers and budget and in the same edition, the same
    -- registers, step count, stop and maps, and equal bytes wherever a step stored; at every other address each run leaves its own image's
    -- byte.
    pub provenance : (second : List ℕ) → length second ≡ 65536
        → ((k : ℕ) → k < 65536 → is_marked (read_map edition budget cpu image) k ≡ true → get_or image k 0 ≡ get_or second k 0)
        → Same image second (played edition budget cpu image) (played edition budget cpu second)
    provenance second other equal =
        let one = accepted_sized image size in
        let same = same_run (counted_step edition) budget cpu (world image clear clear) start second other in
        rw (one, accepted_sized second other) (same_accepted (same (λ k h e. equal k h (rw (read_map, one) e))))
