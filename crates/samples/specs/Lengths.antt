-- However much is fetched, a map keeps its length.
-- Assumes nothing.
use Rattle.std.specs.Prelude.{◌≡◌, ℕ, zero, suc, ◌+◌, ◌/◌, ◌%◌, Bool, true, false, cond, List, length, ◌==◌, slice_index}
use Rattle.std.proofs.Math.Path.{refl}
use Rattle.std.proofs.Common.{◌∙◌}
use Rattle.marks.specs.Maps.{is_marked, marked_unless}
use Rattle.marks.proofs.Laws.{length_marked}
use Rattle.samples.specs.Fetched.{fetched, blocks, sample, voices}

-- of two maps, whichever
length_either : (b : Bool) (one other : List ℕ) {n : ℕ} → length one ≡ n → length other ≡ n → length (cond b one other) ≡ n
length_either true one other e f = e
length_either false one other e f = f

pub length_marked_unless : (map writes : List ℕ) (at : ℕ) → length (marked_unless map writes at) ≡ length map
length_marked_unless map writes at = length_either (is_marked writes at) _ _ refl (length_marked map at)

pub length_fetched : (n at : ℕ) (writes map : List ℕ) → length (fetched n at writes map) ≡ length map
unfolding fetched
length_fetched zero at writes map = refl
length_fetched (suc n) at writes map = length_fetched n _ writes _ ∙ rw length_marked_unless

module _ (memory writes : List ℕ) where
  pub length_blocks : (n at : ℕ) (map : List ℕ) → length (blocks n at memory writes map) ≡ length map
  unfolding blocks
  length_blocks zero at map = refl
  length_blocks (suc n) at map =
      let nine = length_fetched 9 at writes map in
      length_either (slice_index memory at % 2 == 1) _ _ nine (length_blocks n ((at + 9) % 65536) _ ∙ nine)

  length_sample : (directory number : ℕ) (map : List ℕ) → length (sample directory number memory writes map) ≡ length map
  unfolding sample
  length_sample directory number map = length_blocks 65536 _ _ ∙ length_blocks 65536 _ _ ∙ length_fetched 4 _ writes map

  -- of a voice, whose bit is set or not
  pub length_voice : (directory number : ℕ) (b : Bool) (map : List ℕ)
      → length (cond b (sample directory number memory writes map) map) ≡ length map
  length_voice directory number b map = length_either b _ _ (length_sample directory number map) refl

  pub length_voices : (chip : List ℕ) (n voice bits : ℕ) (map : List ℕ) → length (voices n voice bits chip memory writes map) ≡ length map
  unfolding voices
  length_voices chip zero voice bits map = refl
  length_voices chip (suc n) voice bits map =
      length_voices chip n (voice + 1) (bits / 2) _ ∙ length_voice _ _ (bits % 2 == 1) map
