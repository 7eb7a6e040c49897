-- Where an arm names the low five bits, or they are what is left in a range, every such opcode's row has the effect that the arm calls,
-- and an opcode of a column is in that column: both are computed over the table.
-- Assumes nothing.
use Rattle.std.proofs.Common.{ℕ, ◌/◌, List, [], ◌∷◌, refl, ⊎_elim, rules}
use Rattle.instructions.specs.Rows.{Operation, rows}
use Rattle.instructions.specs.Rows.Operation.{set1, clr1, bbs, bbc, call}
use Rattle.instructions.specs.Effects.{effect_of}
use Rattle.instructions.specs.declared.Operands.{Operands}
use Rattle.instructions.specs.declared.Effect.{Effect}
use Rattle.instructions.specs.Families.{accumulator_group, pair_group, shift_group}
use Rattle.effects.specs.Columns.{in_column}
use Rattle.effects.proofs.Rows.{AllHave, named, left, named_row, left_row, named_test, left_test, low_five}
use Rattle.effects.proofs.effect_of.Goals as goal
use Rattle.effects.proofs.effect_of.Goals.{
  in_default-via-then-this-lt16,
  in_default-via-else-this-lt16+else-this-lt24+else-this-lt26,
  then-this-lt8,
  else-this-lt8+else-this-lt16+then-this-lt24,
  in-9-1,
  in_default+else-this-lt8+else-this-lt16+else-this-lt24+then-this-lt26,
}

-- what an opcode's top three bits pick
abbrev family : (ℕ → Operation) → ℕ → Operands → Effect
family group k = effect_of (group (k / 32)) 0

-- the low five bits that arms name one by one, the last arm first
abbrev others : List (List ℕ)
others =
    (14 ∷ 30 ∷ []) ∷
    (13 ∷ 29 ∷ []) ∷
    (10 ∷ 26 ∷ []) ∷
    (8 ∷ 28 ∷ []) ∷
    (0 ∷ 16 ∷ []) ∷
    (12 ∷ []) ∷
    (11 ∷ 27 ∷ []) ∷
    (9 ∷ []) ∷
    (1 ∷ 17 ∷ []) ∷
    (19 ∷ []) ∷
    (3 ∷ []) ∷
    (18 ∷ []) ∷
    (2 ∷ []) ∷
    []

-- An arm of several ranges has two ways into it: on each the rows have the arm's effect. `search` takes no sum apart, so the two ways, which
-- meet in the field `came`, are told apart by hand below.
accumulators : AllHave (left others 0 8) (family accumulator_group) × AllHave (left others 16 24) (family accumulator_group)
unfolding rows effect_of
accumulators = (refl, refl)

paired : AllHave (named (9 ∷ [])) (family pair_group) × AllHave (left others 24 26) (family pair_group)
unfolding rows effect_of
paired = (refl, refl)

pub flags_and_branches-requires : goal.flags_and_branches-requires
flags_and_branches-requires c = search (named_test (0 ∷ 16 ∷ []) (in_column 0) tt)

pub immediates_and_shifts-requires : goal.immediates_and_shifts-requires
immediates_and_shifts-requires c = search (named_test (8 ∷ 28 ∷ []) (in_column 8) tt)

pub bits_and_words-requires : goal.bits_and_words-requires
bits_and_words-requires c = search (named_test (10 ∷ 26 ∷ []) (in_column 10) tt)

pub pushes_and_moves-requires : goal.pushes_and_moves-requires
pushes_and_moves-requires c = search (named_test (13 ∷ 29 ∷ []) (in_column 13) tt)

pub compares_and_pops-requires : goal.compares_and_pops-requires
compares_and_pops-requires c = search (named_test (14 ∷ 30 ∷ []) (in_column 14) tt)

pub jumps_and_calls-requires : goal.jumps_and_calls-requires
jumps_and_calls-requires c =
    elim c.in_default.branch [
      | in_default-via-then-this-lt16 w ↦ search (left_test others 8 16 (in_column 15) tt)
      | in_default-via-else-this-lt16+else-this-lt24+else-this-lt26 w ↦
          search (low_five, left_test others 26 32 (in_column 15) tt)
    ]

pub returns-in-2 : goal.returns-in-2
unfolding rows effect_of
returns-in-2 c = search (named_row (2 ∷ []) (effect_of set1) refl)

pub returns-in-18 : goal.returns-in-18
unfolding rows effect_of
returns-in-18 c = search (named_row (18 ∷ []) (effect_of clr1) refl)

pub returns-in-3 : goal.returns-in-3
unfolding rows effect_of
returns-in-3 c = search (named_row (3 ∷ []) (effect_of bbs) refl)

pub returns-in-19 : goal.returns-in-19
unfolding rows effect_of
returns-in-19 c = search (named_row (19 ∷ []) (effect_of bbc) refl)

pub returns-in-1 : goal.returns-in-1
unfolding rows effect_of
returns-in-1 c = search (named_row (1 ∷ 17 ∷ []) (λ k. effect_of call 0) refl)

pub returns-in-11 : goal.returns-in-11
unfolding rows effect_of
returns-in-11 c = search (named_row (11 ∷ 27 ∷ []) (family shift_group) refl)

pub returns-in-12 : goal.returns-in-12
unfolding rows effect_of
returns-in-12 c = search (named_row (12 ∷ []) (family shift_group) refl)

pub returns-in-4-to-7 : goal.returns-in-4-to-7
returns-in-4-to-7 c =
    elim c.in-4-to-7-1.branch [
      | then-this-lt8 w ↦ search (rules, left_row others 0 8 (family accumulator_group) accumulators.0)
      | else-this-lt8+else-this-lt16+then-this-lt24 w ↦
          search (left_row others 16 24 (family accumulator_group) accumulators.1)
    ]

pub returns-in-9 : goal.returns-in-9
returns-in-9 c =
    elim c.in-9-1.branch [
      | in-9-1 w ↦ search (named_row (9 ∷ []) (family pair_group) paired.0)
      | in_default+else-this-lt8+else-this-lt16+else-this-lt24+then-this-lt26 w ↦
          search (left_row others 24 26 (family pair_group) paired.1)
    ]
