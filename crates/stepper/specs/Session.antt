-- The program `step`: what it prints for an input.
use Rattle.std.specs.Prelude.{ℕ, cond, List, ◌++◌, eqb, length, get_or, take, drop}
use Rattle.text.specs.Digits.{decimal}
use Rattle.text.specs.Quoted.{text}
use Rattle.memory.specs.World.{World, world}
use Rattle.memory.specs.Access.{Outcome, perform}
use Rattle.editions.specs.Editions.{is_edition, edition_of}
use Rattle.editions.specs.declared.Edition.{Edition}
use Rattle.processor.specs.declared.Processor.{Processor}
use Rattle.state.specs.Registers.{registers_of, bytes_of}
use Rattle.engine.specs.Entry.{told, counted_step}
use Rattle.engine.specs.Provenance.{clear}
use Rattle.engine.specs.declared.Ran.{Ran}
use Rattle.stepper.specs.Alike.{alike}

-- One step in an edition on a memory of 65,536 bytes, from clear maps: what `step_answer` of engine/specs/Entry accepts.
abbrev pub stepped : Edition → Processor → List ℕ → Outcome World Ran
stepped edition cpu memory = told (perform (counted_step edition cpu) (world memory clear clear))

-- A state record is A X Y SP PC-low PC-high PSW, and the memory. The record that one step leaves.
abbrev pub after_step : Edition → List ℕ → List ℕ
after_step edition state =
    let o = stepped edition (registers_of (take 7 state)) (drop 7 state) in bytes_of o.result.cpu ++ o.left.memory

-- Of two records that begin alike with so many bytes: `same` if that is all of them, else the offset, 0 to 65,542, of the first byte at
-- which they differ, in decimal.
abbrev pub comparison_text : ℕ → List ℕ
comparison_text at = cond (eqb at 65543) (text "same\n") (decimal at ++ text "\n")

-- The input: the number of the edition; a record to step from; a record to compare with.
abbrev pub edition_byte : List ℕ → ℕ
edition_byte input = get_or input 0 0

abbrev pub first_of : List ℕ → List ℕ
first_of input = take 65543 (drop 1 input)

abbrev pub second_of : List ℕ → List ℕ
second_of input = take 65543 (drop 65544 input)

-- what a step from the one leaves, in the edition that the input names
abbrev pub outcome_of : List ℕ → List ℕ
outcome_of input = after_step (edition_of (edition_byte input)) (first_of input)

-- what is printed, and what is left in the bytes of the input
pub record Session : Type 0 where
  pub printed : List ℕ
  pub left : List ℕ

-- What a step in an edition leaves stands where the first record stood.
abbrev pub compared_in : Edition → List ℕ → Session
compared_in edition input = let outcome = after_step edition (first_of input) in record {
  printed = comparison_text (alike outcome (second_of input));
  left = take 1 input ++ (outcome ++ second_of input);
}

-- The edition is the one that the input names.
unfoldable pub compared : List ℕ → Session
compared input = compared_in (edition_of (edition_byte input)) input

-- An input that is refused gives one line, and stays as it was.
abbrev pub refused : List ℕ → List ℕ → Session
refused line input = record { printed = line; left = input }

-- `refused 6` exactly if the input is not 131,087 bytes; then `refused 9` exactly if its edition is neither 1 nor 2.
unfoldable pub session_of : List ℕ → Session
session_of input =
    cond (eqb (length input) 131087)
    (cond (is_edition (edition_byte input)) (compared input) (refused (text "refused 9\n") input))
    (refused (text "refused 6\n") input)
