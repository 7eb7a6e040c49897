-- The three tests are those of the three stretches.
-- Assumes nothing.
use Rattle.std.proofs.Common.{◌≡◌, true, false, sym, ◌∙◌, refl, replicate}
use Rattle.conversion.proofs.Stretches.{Zeros, zeros_lem, first_fails, second_fails, last_tells}
use Rattle.conversion.proofs.unnamed.has_defaults.Goals as goal
use Rattle.conversion.proofs.unnamed.has_defaults.Goals.{then-eq, else-eq}

second : Zeros 212 (replicate 212 0)
second = zeros_lem 212 refl

third : Zeros 256 (replicate 256 0)
third = zeros_lem 256 refl

pub returns-then-eq-2 : goal.returns-then-eq-2
returns-then-eq-2 c =
    elim c.if-eq.branch [
      | then-eq w ↦ last_tells c.args.file.now (replicate 212 0) (replicate 256 0) c.told-file second third
          c.eq.ensures w.if-eq.true w.eq-then-eq.ensures (sym w.value-is ∙ c.if-eq-2.true) c.eq-then-eq-2.ensures
      | else-eq w ↦ let both : true ≡ false = sym c.if-eq-2.true ∙ w.value-is ∙ w.if-eq.false in cc
    ]

pub returns-else-eq-2 : goal.returns-else-eq-2
returns-else-eq-2 c =
    elim c.if-eq.branch [
      | then-eq w ↦ w.value-is ∙ second_fails c.args.file.now (replicate 212 0) (replicate 256 0) c.told-file second third
          w.eq-then-eq.ensures (sym w.value-is ∙ c.if-eq-2.false)
      | else-eq w ↦ w.value-is ∙ first_fails c.args.file.now (replicate 212 0) (replicate 256 0) c.told-file second third
          c.eq.ensures w.if-eq.false
    ]
