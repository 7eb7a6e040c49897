-- What a blanked image is worth: the run on it answers and leaves the same, and nothing is left in it of what stood at unmarked addresses.
--
-- The words: `blank_of map byte image` is what blanking answers (`.answer`), and what it leaves in the memory that held the image (`.left`):
-- the contract of `blanking::blank` says so of the code. Where it is accepted, it answers how many addresses the map does not mark
-- (`accepted map`), and leaves `blanked_image map byte image`. `played edition budget cpu image` is what a run that begins on the image
-- with clear maps answers and leaves, and `read_map edition budget cpu image` is the read map among that: the contract of `engine::run` says
-- so of the code. `is_marked map k`: the map marks the address k; `get_or image k 0`: the image's byte there; `cond b x y`: x where b is true,
-- else y. `Keeps one other`: the map `other` has at least the marks of `one`. `Same` has a field for each thing that two runs have in
-- common (runs/specs/Same).
-- Assumes nothing.
use Rattle.std.specs.Prelude.{ℕ, ◌+◌, ◌<◌, ◌≡◌, refl, Bool, true, false, cond, not, List, length, get_or, IsOkAnd}
use Rattle.std.proofs.Common.{ap, sym, ◌∙◌, arith}
use borrow.Author.Tests.{eq-eqb}
use Rattle.laws.specs.Filled.{filled}
use Rattle.marks.specs.Maps.{is_marked}
use Rattle.marks.specs.Counts.{counts_of}
use Rattle.marks.specs.HowMany.{in_parts, all_pass}
use Rattle.marks.specs.Sums.{read_in_parts}
use Rattle.memory.specs.Theorems.{Keeps, keeps_itself}
use Rattle.editions.specs.declared.Edition.{Edition}
use Rattle.processor.specs.declared.Processor.{Processor}
use Rattle.runs.specs.Same.{Same}
use Rattle.engine.specs.Provenance.{played, read_map, read_map_size, provenance}
use Rattle.blanking.specs.Calls.{blanked_image, refusal_of, accepted, blank_of}
use Rattle.blanking.specs.Image.{length_blanked, get_blanked, marked_kept, same_blanked, either, right_size, same_refusal}

-- Two images have the same byte at every address that a map marks.
pub record AgreeAt (map image second : List ℕ) : Type 0 where
  pub equal : (k : ℕ) → k < 65536 → is_marked map k ≡ true → get_or image k 0 ≡ get_or second k 0

-- ---- what blanking leaves

-- With any map, any byte and any image.
module _ (map : List ℕ) (byte : ℕ) (image : List ℕ) where
  -- Refused or not, no length changes,
  pub same_length : length (blank_of map byte image).left ≡ length image
  same_length = either map byte image (λ o. length o.left ≡ length image) (λ z. length_blanked map byte image) (λ refusal e. refl)

  -- and no byte at a marked address.
  pub marked_stay : AgreeAt map image (blank_of map byte image).left
  marked_stay = record {
    equal = λ k h e.
        either map byte image (λ o. get_or image k 0 ≡ get_or o.left k 0)
        (λ z. marked_kept map byte image k (omega (arith, right_size map byte image z)) e)
        (λ refusal e. refl);
  }

  -- Blanking twice with one byte is blanking once: the second time answers the same, and nothing changes any more.
  pub twice : blank_of map byte (blank_of map byte image).left ≡ blank_of map byte image
  twice =
      let blanked = blanked_image map byte image in
      let size = length_blanked map byte image in
      either map byte image (λ o. blank_of map byte o.left ≡ o)
      (λ z.
      rw (same_refusal map byte image blanked size ∙ z)
      (ap (filled (accepted map)) (same_blanked map byte image blanked size (marked_kept map byte image))))
      (λ refusal e. rw e)

  -- Where the lengths are right,
  module _ (map-size : length map ≡ 8192) (size : length image ≡ 65536) where
    -- nothing is refused,
    pub not_refused : blank_of map byte image ≡ filled (accepted map) (blanked_image map byte image)
    unfolding refusal_of
    not_refused = rw (eq-eqb _ _ size, eq-eqb _ _ map-size)

    -- and the blanked image has the chosen byte at every address that is not marked, and the image's own at every other one.
    pub each_address : (k : ℕ) → k < 65536 → get_or (blank_of map byte image).left k 0 ≡ cond (is_marked map k) (get_or image k 0) byte
    each_address k h = rw not_refused (get_blanked map byte image k (omega arith))

    -- The number that is answered, and what a count over this map and any other one tells of it, read only and both, make up all
    -- addresses.
    pub all_addresses : (writes : List ℕ) → length writes ≡ 8192
        → IsOkAnd (blank_of map byte image).answer (λ blanked.
        IsOkAnd (counts_of map writes) (λ counted. blanked + (counted.read_only + counted.both) ≡ 65536))
    all_addresses writes writes-size =
        rw (not_refused, eq-eqb _ _ map-size, eq-eqb _ _ writes-size, read_in_parts map writes)
        (in_parts 65536 (λ k. not (is_marked map k)) (λ k. is_marked map k) (λ k. true) (λ k. one (is_marked map k)) ∙ all_pass 65536)
      where
        one : (b : Bool) → cond (not b) 1 0 + cond b 1 0 ≡ 1
        one true = refl
        one false = refl

-- ---- the run on a blanked image

-- Of a run in an edition, with a budget and registers, on an image of 65,536 bytes; with any byte.
module _ (edition : Edition) (budget : ℕ) (cpu : Processor) (image : List ℕ) (size : length image ≡ 65536) (byte : ℕ) where
  -- What the theorem says that stands next; those that rest on it rest on this.
  pub run_with_more : (map : List ℕ) → Keeps (read_map edition budget cpu image) map
      → Same image (blank_of map byte image).left
      (played edition budget cpu image)
      (played edition budget cpu (blank_of map byte image).left)
  run_with_more map more =
      provenance edition budget cpu image size (blank_of map byte image).left (same_length map byte image ∙ size)
      (λ k h e. (marked_stay map byte image).equal k h (more.marks k h e))

  -- Blanked by any map that has at least the marks of the run's own read map, the image gives the same run in that edition, with that
  -- budget and these registers: the same registers, step count, stop and maps, and equal bytes wherever a step stored; at every other
  -- address each run leaves its own image's byte. A map has more marks where a house adds what the sound chip fetches by itself, or what
  -- other runs read.
  pub same_run_with_more : (map : List ℕ) → Keeps (read_map edition budget cpu image) map
      → Same image (blank_of map byte image).left
      (played edition budget cpu image)
      (played edition budget cpu (blank_of map byte image).left)
  same_run_with_more map more = run_with_more map more

  -- In particular the image that is blanked by the run's own read map gives the same run,
  pub same_run :
      Same image (blank_of (read_map edition budget cpu image) byte image).left
      (played edition budget cpu image)
      (played edition budget cpu (blank_of (read_map edition budget cpu image) byte image).left)
  same_run = run_with_more (read_map edition budget cpu image) (keeps_itself (read_map edition budget cpu image))

  -- and to blank by that map is never refused.
  pub own_map_accepted :
      blank_of (read_map edition budget cpu image) byte image
      ≡ filled (accepted (read_map edition budget cpu image)) (blanked_image (read_map edition budget cpu image) byte image)
  own_map_accepted = not_refused (read_map edition budget cpu image) byte image (read_map_size edition budget cpu image size) size

-- ---- nothing is left

module _ (image second : List ℕ) (size : length image ≡ 65536) (other : length second ≡ 65536) (byte : ℕ) where
  -- Two images that agree at the addresses which a map marks have the same blanked image by it, and the same is answered: who is handed
  -- that image learns nothing of what stood at the unmarked addresses.
  pub nothing_left : (map : List ℕ) → length map ≡ 8192 → AgreeAt map image second → blank_of map byte second ≡ blank_of map byte image
  nothing_left map map-size agree =
      rw (not_refused map byte second map-size other, not_refused map byte image map-size size)
      (ap (filled (accepted map)) (same_blanked map byte image second (other ∙ sym size) (λ k h. agree.equal k (omega arith))))

  -- Nor does the map that a run leaves tell of it: two images that agree at the addresses which the run of the first one read have the same
  -- blanked image, each by the map of its own run.
  pub own_map_tells_nothing : (edition : Edition) (budget : ℕ) (cpu : Processor) → AgreeAt (read_map edition budget cpu image) image second
      → blank_of (read_map edition budget cpu second) byte second ≡ blank_of (read_map edition budget cpu image) byte image
  own_map_tells_nothing edition budget cpu agree =
      rw (← (provenance edition budget cpu image size second other agree.equal).reads)
      (nothing_left (read_map edition budget cpu image) (read_map_size edition budget cpu image size) agree)
