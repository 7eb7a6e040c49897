-- Maps put together, for an image that is to serve several runs, or to keep more than a run reads.
-- Assumes nothing.
use Rattle.std.specs.Prelude.{ℕ, zero, suc, ◌/◌, ◌%◌, ◌≡◌, refl, ◌||◌, List, [], ◌∷◌, length, get_or}
use Rattle.std.proofs.Common.{ap, sym, ◌∙◌, arith}
use Rattle.std.proofs.Math.Bool.{or-true}
use Rattle.std.specs.Int.Bits.{bit_or, or_zero_l, or_zero_r}
use Rattle.marks.specs.Maps.{is_marked}
use Rattle.marks.proofs.Laws.{either_bit}
use Rattle.memory.specs.Theorems.{Keeps}
use Rattle.editions.specs.declared.Edition.{Edition}
use Rattle.processor.specs.declared.Processor.{Processor}
use Rattle.runs.specs.Same.{Same}
use Rattle.engine.specs.Provenance.{played, read_map}
use Rattle.blanking.specs.Calls.{blank_of}
use Rattle.blanking.specs.Theorems.{run_with_more}

-- Byte by byte, each byte with the bits of both.
abbrev pub together : List ℕ → List ℕ → List ℕ
together [] other = other
together (a ∷ map) [] = a ∷ map
together (a ∷ map) (b ∷ other) = bit_or a b ∷ together map other

pub get_together : (map other : List ℕ) (i : ℕ) → get_or (together map other) i 0 ≡ bit_or (get_or map i 0) (get_or other i 0)
get_together [] other i = sym (or_zero_l (get_or other i 0))
get_together (a ∷ map) [] i = sym (or_zero_r (get_or (a ∷ map) i 0))
get_together (a ∷ map) (b ∷ other) zero = refl
get_together (a ∷ map) (b ∷ other) (suc i) = get_together map other i

pub length_together : (map other : List ℕ) → length map ≡ length other → length (together map other) ≡ length map
length_together [] other e = sym e
length_together (a ∷ map) [] e = refl
length_together (a ∷ map) (b ∷ other) e = ap suc (length_together map other (omega arith))

module _ (map other : List ℕ) where
  -- Maps put together mark what either of them marks,
  pub marks_of_either : (k : ℕ) → is_marked (together map other) k ≡ (is_marked map k || is_marked other k)
  marks_of_either k = rw (get_together map other (k / 8)) (either_bit (get_or map (k / 8) 0) (get_or other (k / 8) 0) (k % 8))

  -- and so have at least the marks of each.
  pub keeps_first : Keeps map (together map other)
  keeps_first = record { marks = λ k h e. rw (marks_of_either k, e) }

  pub keeps_second : Keeps other (together map other)
  keeps_second = record { marks = λ k h e. rw (marks_of_either k, e) (or-true (is_marked map k)) }

  -- Maps of 8,192 bytes make one of 8,192 bytes.
  pub together_size : length map ≡ 8192 → length other ≡ 8192 → length (together map other) ≡ 8192
  together_size one two = length_together map other (one ∙ sym two) ∙ one

-- So an image that is blanked by the read maps of two runs of it, put together, gives both runs.
module _ (image : List ℕ) (size : length image ≡ 65536) (byte : ℕ)
    (edition edition₂ : Edition) (budget budget₂ : ℕ) (cpu cpu₂ : Processor) where
  -- the image blanked by both
  abbrev pub for_both : List ℕ
  for_both = (blank_of (together (read_map edition budget cpu image) (read_map edition₂ budget₂ cpu₂ image)) byte image).left

  pub serves_first : Same image for_both (played edition budget cpu image) (played edition budget cpu for_both)
  serves_first =
      run_with_more edition budget cpu image size byte _
      (keeps_first (read_map edition budget cpu image) (read_map edition₂ budget₂ cpu₂ image))

  pub serves_second : Same image for_both (played edition₂ budget₂ cpu₂ image) (played edition₂ budget₂ cpu₂ for_both)
  serves_second =
      run_with_more edition₂ budget₂ cpu₂ image size byte _
      (keeps_second (read_map edition budget cpu image) (read_map edition₂ budget₂ cpu₂ image))
