-- The record that the step leaves goes back to its place, between the edition and the second record; there it is compared.
-- Assumes nothing.
use Rattle.std.proofs.Common.{◌≡◌, ℕ, List, ◌++◌, length, take, drop, arith, sym, ◌∙◌, append_assoc, take_all, length-drop}
use Rattle.std.proofs.lemmas.List.{drop-take, take-take}
use Rattle.text.specs.Line.{blank, adds}
use Rattle.text.specs.declared.Line.{Line}
use Rattle.editions.specs.declared.Edition.{Edition}
use Rattle.stepper.specs.Alike.{alike}
use Rattle.stepper.specs.Session.{after_step, comparison_text, second_of, compared_in}
use Rattle.stepper.specs.Told.{Told}
use Rattle.stepper.specs.Theorems.{at_most}
use Rattle.stepper.proofs.accepted.Goals as goal

-- The second record is what is split off first, and then the first one.
module _ (edition : Edition) (input : List ℕ) (size : length input ≡ 131087) where
  second_is : drop 65544 input ≡ second_of input
  second_is = let rest = length-drop 65544 input in sym (take_all 65543 (drop 65544 input) (omega arith))

  told : {front before first second outcome : List ℕ} {n : ℕ} {r : Line}
      → front ≡ take 65544 input → second ≡ drop 65544 input → before ≡ take 1 front → first ≡ drop 1 front
      → outcome ≡ after_step edition first → n ≡ alike outcome second → r ≡ adds blank (comparison_text n)
      → Told (compared_in edition input) r ((before ++ outcome) ++ second)
  told {before = before} {second = second} {outcome = outcome} whole s b f o n r =
      let edition-byte = rw (whole, take-take 1 65544 input (omega arith)) at b in
      let first-is = rw (whole, drop-take 1 65543 input) at f in
      let second-is = s ∙ second_is in
      rw (← edition-byte, ← first-is, ← second-is, ← o) (record { printed = rw (r, n); left = append_assoc before outcome second })

pub comparison-requires : goal.comparison-requires
comparison-requires c = grind (arith, at_most)

pub returns : goal.returns
returns c =
    let whole = rw (c.unwrap.ensures, c.told-input) at c.split_last_chunk_mut.ensures.cases in
    let front : length c.unwrap.result.0.now ≡ 65544 = omega arith in
    let before = rw (c.unwrap-2.ensures, front) at c.split_last_chunk_mut-2.ensures.cases in
    told c.args.edition c.args.input.now c.told-input whole.0 whole.1 before.0 before.1 c.take_step.ensures c.alike.ensures c.comparison.ensures
