-- The run that a report tells of is the one that the theorems of engine/specs/Provenance speak of.
-- Assumes nothing.
use Rattle.std.specs.Prelude.{ℕ, ◌≡◌, List, length, take, drop, Ok}
use Rattle.std.proofs.Common.{◌∙◌, arith, length-drop}
use Rattle.memory.specs.Access.{outcome}
use Rattle.editions.specs.Editions.{edition_of}
use Rattle.state.specs.Registers.{registers_of}
use Rattle.engine.specs.Provenance.{played, accepted_sized}
use Rattle.runner.specs.Session.{edition_byte, budget_of, run_on}

-- Of an input of 65,548 bytes `played` accepts the image, and answers and leaves what is told.
pub run_is_played : (input : List ℕ) → length input ≡ 65548
    → played (edition_of (edition_byte input)) (budget_of input) (registers_of (take 7 (drop 5 input))) (drop 12 input)
    ≡ outcome (Ok (run_on input).result) (run_on input).left
run_is_played input size =
    accepted_sized (edition_of (edition_byte input)) (budget_of input) (registers_of (take 7 (drop 5 input))) (drop 12 input)
    (length-drop 12 input ∙ omega (arith, size))
