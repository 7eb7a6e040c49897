-- The run on a blanked image once more, now with no condition on numbers and lengths: of whatever number is given for an edition, and of an
-- image and a map of any length. Where the run on the image is refused, so is that on the blanked one. The map has at least the marks of
-- the run's own, as before.
-- Assumes nothing.
use Rattle.std.specs.Prelude.{ℕ, ◌≡◌, refl, List, length, Option, Some, None, Result}
use Rattle.std.proofs.Common.{sym, ◌∙◌, true≢false}
use Rattle.refusals.specs.declared.Refusal.{Refusal}
use Rattle.memory.specs.World.{World, world}
use Rattle.memory.specs.Access.{Outcome, outcome}
use Rattle.memory.specs.Theorems.{Keeps}
use Rattle.editions.specs.Editions.{edition_of}
use Rattle.processor.specs.declared.Processor.{Processor}
use Rattle.runs.specs.Same.{Same}
use Rattle.runs.proofs.Exact.{no_marks}
use Rattle.engine.specs.Entry.{refusal_of, run_answer}
use Rattle.engine.specs.Accepted.{sized}
use Rattle.engine.specs.Provenance.{clear, played, accepted_sized}
use Rattle.engine.specs.declared.Ran.{Ran}
use Rattle.blanking.specs.Calls.{blank_of}
use Rattle.blanking.specs.Theorems.{same_length, run_with_more}

-- Two calls that answer the same and change nothing, on two images with clear maps.
pub both_refused : {R : Type 0} (image second : List ℕ) (answer : R)
    → Same image second (outcome answer (world image clear clear)) (outcome answer (world second clear clear))
both_refused image second answer = record {
  result = refl;
  reads = refl;
  writes = refl;
  stored = λ k h e. absurd (true≢false (sym e ∙ no_marks 8192 k));
  first = λ k h e. refl;
  other = λ k h e. refl;
}

module _ (number budget : ℕ) (cpu : Processor) where
  -- What a run on an image, from clear maps, answers and leaves.
  abbrev pub answer_to : List ℕ → Outcome World (Result Ran Refusal)
  answer_to image = run_answer number budget cpu (world image clear clear)

  right_size : (image : List ℕ) → refusal_of number (world image clear clear) ≡ None → length image ≡ 65536
  right_size image z = (sized number (world image clear clear) z).memory

  in_edition : (image : List ℕ) → refusal_of number (world image clear clear) ≡ None
      → answer_to image ≡ played (edition_of number) budget cpu image
  in_edition image z = rw z (sym (accepted_sized (edition_of number) budget cpu image (right_size image z)))

  module _ (image map : List ℕ) (byte : ℕ) where
    as_refused : refusal_of number (world (blank_of map byte image).left clear clear) ≡ refusal_of number (world image clear clear)
    unfolding refusal_of
    as_refused = rw (same_length map byte image)

    -- Blanked by a map that has at least the marks of the read map which the run left, the image gives the same.
    pub same_answer : Keeps (answer_to image).left.reads map
        → Same image (blank_of map byte image).left (answer_to image) (answer_to (blank_of map byte image).left)
    same_answer more = go (refusal_of number (world image clear clear)) refl
      where
        go : (r : Option Refusal) → refusal_of number (world image clear clear) ≡ r
            → Same image (blank_of map byte image).left (answer_to image) (answer_to (blank_of map byte image).left)
        go None z =
            let is = in_edition image z in
            rw (is, in_edition (blank_of map byte image).left (as_refused ∙ z))
            (run_with_more (edition_of number) budget cpu image (right_size image z) byte map (rw is at more))
        go (Some r) z = rw (as_refused, z) (both_refused image (blank_of map byte image).left _)
