-- What a program knows that blanks images by these calls: the run of a blanked image answers and leaves the same, nothing is left of what
-- stood at unmarked addresses, and the number tells how many these are.
-- Assumes nothing.
use Rattle.std.specs.Prelude.{ℕ, ◌/◌, ◌%◌, ◌^◌, ◌<◌, not, ◌≡◌, refl, List, length, None, Some, Result, Ok, Err}
use Rattle.std.proofs.Common.{ap, sym, ◌∙◌, arith}
use Rattle.refusals.specs.declared.Refusal.{Refusal}
use Rattle.marks.specs.Maps.{is_marked}
use Rattle.marks.specs.HowMany.{at_most}
use Rattle.memory.specs.World.{World, world}
use Rattle.memory.specs.Access.{Outcome}
use Rattle.memory.specs.Theorems.{Keeps}
use Rattle.processor.specs.declared.Processor.{Processor}
use Rattle.state.specs.Registers.{whole_bytes_of, whole_in}
use Rattle.runs.specs.Same.{Same}
use Rattle.runs.proofs.Agree.{same_through}
use Rattle.engine.specs.Entry.{refusal_of}
use Rattle.engine.specs.Provenance.{clear}
use Rattle.engine.specs.declared.Ran.{Ran}
use Rattle.blanking.specs.Calls.{unmarked}
use Rattle.blanking.specs.Theorems.{AgreeAt, twice, not_refused, nothing_left}
use Rattle.blanking.specs.Answers.{answer_to, both_refused, same_answer}
use Rattle.exports.specs.Calls.{refused_with, ran_number, numbered_by, blanked_number, Called, handed_back, run_call, blank_call}
use Rattle.exports.specs.Parts.{refusal_part, number_part}

-- ---- the run on a blanked image

-- What a call answers, in its number and in the registers' bytes.
pub record Answer : Type 0 where
  pub number : ℕ
  pub registers : List ℕ

-- What it answers, and what it leaves in memory and maps.
abbrev pub outcome_of : Called → Outcome World Answer
outcome_of c = record { result = record { number = c.answer; registers = c.registers }; left = c.left }

-- A run as it is called, of an image from clear maps.
abbrev pub played_call : ℕ → ℕ → List ℕ → List ℕ → Called
played_call edition budget registers image = run_call edition budget registers (world image clear clear)

-- What is handed back of an engine's answer on an image with clear maps, and of that answer alone.
abbrev handed : List ℕ → List ℕ → Outcome World (Result Ran Refusal) → Outcome World Answer
handed registers image o = outcome_of (handed_back registers (world image clear clear) o)

abbrev answer_of : List ℕ → Result Ran Refusal → Answer
answer_of registers (Ok ran) = record { number = ran_number ran; registers = whole_bytes_of ran.cpu }
answer_of registers (Err refusal) = record { number = refused_with refusal; registers = registers }

-- What the engine answered alike, refused or not, is handed back alike.
handed_alike : (registers image second : List ℕ) (o q : Outcome World (Result Ran Refusal)) → Same image second o q
    → Same image second (handed registers image o) (handed registers second q)
handed_alike registers image second o q s = go o.result refl
  where
    go : (r : Result Ran Refusal) → o.result ≡ r → Same image second (handed registers image o) (handed registers second q)
    go (Ok ran) z =
        let other : q.result ≡ Ok ran = sym s.result ∙ z in
        rw (z, other) (rw (z, other) at (same_through (answer_of registers) s))
    go (Err refusal) z = rw (← s.result, z) (both_refused image second _)

-- Whatever the numbers are, and whatever is lent.
module _ (edition budget : ℕ) (registers image map : List ℕ) (byte : ℕ) where
  -- the engine's own maps are handed back, refused or not
  its_marks : (cpu : Processor) → Keeps (handed registers image (answer_to edition budget cpu image)).left.reads map
      → Keeps (answer_to edition budget cpu image).left.reads map
  its_marks cpu more =
      elim (refusal_of edition (world image clear clear)) as
      (λ r. refusal_of edition (world image clear clear) ≡ r → Keeps (answer_to edition budget cpu image).left.reads map) [
        | None ↦ λ z. rw z (rw z at more)
        | Some refusal ↦ λ z. rw z (rw z at more)
      ]
      refl

  -- Let an image be run from clear maps, and then blanked, as it was before the run, by a map that has at least the marks of the read map
  -- that the run left. Another such run of the blanked image answers the same number, and leaves the same registers, maps and bytes
  -- wherever a step stored; at every other address each leaves its own image's byte.
  pub same_run_called : Keeps (played_call edition budget registers image).left.reads map
      → Same image (blank_call map byte image).left
      (outcome_of (played_call edition budget registers image))
      (outcome_of (played_call edition budget registers (blank_call map byte image).left))
  same_run_called more = go (whole_in registers) refl
    where
      go : (w : Result Processor Refusal) → whole_in registers ≡ w
          → Same image (blank_call map byte image).left
          (outcome_of (played_call edition budget registers image))
          (outcome_of (played_call edition budget registers (blank_call map byte image).left))
      go (Err refusal) other = rw other (both_refused image (blank_call map byte image).left _)
      go (Ok cpu) whole =
          rw whole
          (handed_alike registers image (blank_call map byte image).left _ _
          (same_answer edition budget cpu image map byte (its_marks cpu (rw whole at more))))

-- ---- what the call answers and leaves

-- Called twice with one byte, it answers and leaves what it does called once.
pub twice_called : (map : List ℕ) (byte : ℕ) (image : List ℕ) → blank_call map byte (blank_call map byte image).left ≡ blank_call map byte image
twice_called map byte image = ap (numbered_by blanked_number) (twice map byte image)

module _ (map : List ℕ) (byte : ℕ) (image : List ℕ) (map-size : length map ≡ 8192) (size : length image ≡ 65536) where
  -- Two images that agree at the marked addresses are left the same, and the same number is answered.
  pub nothing_left_called : (second : List ℕ) → length second ≡ 65536 → AgreeAt map image second
      → blank_call map byte second ≡ blank_call map byte image
  nothing_left_called second other agree = ap (numbered_by blanked_number) (nothing_left image second size other byte map map-size agree)

  few : unmarked map < 2 ^ 32
  few = omega (arith, at_most 65536 (λ k. not (is_marked map k)))

  -- Refusal and number as include/spc700.h takes them out of the answer: 0, and how many addresses the map does not mark.
  pub refusal_told : (blank_call map byte image).answer / 2 ^ 40 ≡ 0
  refusal_told = rw (not_refused map byte image map-size size) (refusal_part 0 0 (unmarked map) (omega arith) few)

  pub number_told : (blank_call map byte image).answer % 2 ^ 32 ≡ unmarked map
  number_told = rw (not_refused map byte image map-size size) (number_part 0 0 (unmarked map) (omega arith) few)
