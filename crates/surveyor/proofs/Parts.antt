-- The memories and the map of an input: the parts that the code lends are those of the definition.
-- Assumes nothing.
use Rattle.std.proofs.Common.{ℕ, ◌≡◌, List, None, Some, Result, take, drop}
use Rattle.std.proofs.lemmas.List.{drop-drop}
use Rattle.refusals.specs.declared.Refusal.{Refusal}
use Rattle.text.specs.Given.{Given, says}
use Rattle.differences.specs.Calls.{stretches_of, marks_of}
use Rattle.surveyor.specs.Survey.{of_memories, of_all}
use Rattle.surveyor.specs.Compared.{compared}
use Rattle.surveyor.proofs.Marking.{no_touch}

module _ (input : List ℕ) {before after : List ℕ} {r : Result ℕ Refusal} where
  -- without a map no stretch touches a mark,
  pub given_two : Given (says (compared (marks_of None) (take 65536 input) (drop 65536 input))) before after r
      → Given (says (of_memories input)) before after r
  given_two g = rw (no_touch (stretches_of (take 65536 input) (drop 65536 input))) at g

  -- and behind a map the memories stand 8,192 bytes later.
  pub given_all : {map memories : List ℕ} → map ≡ take 8192 input → memories ≡ drop 8192 input
      → Given (says (compared (marks_of (Some map)) (take 65536 memories) (drop 65536 memories))) before after r
      → Given (says (of_all input)) before after r
  given_all m e g = rw (m, e, drop-drop 65536 8192 input) at g
