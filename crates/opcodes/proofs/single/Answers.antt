-- The code's array and the definition's list are the same numbers in the same order; past the end both give 0.
-- Assumes nothing.
use Rattle.std.proofs.Common.{◌≡◌, ℕ, List, Option, get_or, arith, Bor}
use Rattle.std.proofs.lemmas.Grind.{common_steps}
use Rattle.std.specs.Option.{unwrap_or, option_copied}
use Rattle.std.specs.Slice.{IsItemAt}
use Rattle.opcodes.specs.Opcodes.{constants, opcodes_of}
use Rattle.opcodes.proofs.single.Goals as goal

-- the element that is lent at a place, or 0 past the end
lent_or_0 : (xs : List ℕ) (i r : ℕ) (lent : Option (Bor ℕ)) (copied : Option ℕ)
    → IsItemAt xs i lent → copied ≡ option_copied lent → r ≡ unwrap_or copied 0 → r ≡ get_or xs i 0
lent_or_0 xs i r lent copied h e f = grind (arith, common_steps)

pub returns : goal.returns
unfolding constants
returns c = lent_or_0 (opcodes_of constants) c.args.i _ _ _ c.get.ensures.lookup c.copied.ensures c.unwrap_or.ensures
