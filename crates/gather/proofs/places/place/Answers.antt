-- The test is the definition's own: in the row of stores nothing is read, in any other `load` reads.
-- Assumes nothing.
use Prim.Native.Nat.{ℕ, ◌/◌}
use mathlib.Core.Path.{◌≡◌}
use borrow.Author.Rules.{rules}
use borrow.Author.Tests.{ne_eqb}
use Rattle.memory.specs.World.{World}
use Rattle.memory.specs.Access.{Outcome, outcome, Does}
use Rattle.memory.proofs.Laws.{ends_at}
use Rattle.modes.specs.declared.Addressed.{Addressed}
use Rattle.instructions.specs.Gather.{operands, loaded}
use Rattle.instructions.specs.declared.Operands.{Operands}
use Rattle.gather.specs.Columns.{placed}
use Rattle.gather.proofs.places.place.Goals as goal

aimed : (op : ℕ) (found : Addressed) {r : Operands} {w : World}
    → op / 32 ≡ 6 → r ≡ operands found.cpu found.at 0 0 0 → Does (placed op found) w (outcome r w)
aimed op found e is = rw e (ends_at is)

read : (op : ℕ) (found : Addressed) {w : World} {o : Outcome World Operands}
    → (op / 32 ≡ 6 → ⊥) → Does (loaded found) w o → Does (placed op found) w o
read op found n does = rw (ne_eqb _ _ n) does

pub returns-then-op-eq6 : goal.returns-then-op-eq6
returns-then-op-eq6 c = search (rules, aimed)

pub returns : goal.returns
returns c = search (rules, read)
