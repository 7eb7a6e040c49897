-- What the calls of this crate promise.
use Rattle.std.specs.Prelude.{ℕ, ◌≡◌, List}
use Rattle.laws.specs.Lent.{Lent}
use Rattle.text.specs.Line.{blank, adds}
use Rattle.text.specs.declared.Line.{Line}
use Rattle.memory.specs.World.{World}
use Rattle.memory.specs.Access.{Outcome}
use Rattle.engine.specs.declared.Ran.{Ran}
use Rattle.stepper.specs.Session.{Session}

-- A call that was to give the session s answered the line r, and left `after` in the lent bytes.
pub record Told (s : Session) (r : Line) (after : List ℕ) : Type 0 where
  pub printed : r ≡ adds blank s.printed
  pub left : after ≡ s.left

-- the contract of a call on lent bytes, of which `tale` makes the session
abbrev pub Tells : (List ℕ → Session) → Lent → Line → Type 0
Tells tale input r = Told (tale input.entry) r input.exit

-- A step that was to give o answered r, and left `after` in the lent memory. The maps are not lent: nothing is said of them.
pub record Taken (o : Outcome World Ran) (r : Ran) (after : List ℕ) : Type 0 where
  pub answer : r ≡ o.result
  pub left : after ≡ o.left.memory

-- the contract of a step on a lent memory, of which `step` makes the outcome
abbrev pub Takes : (List ℕ → Outcome World Ran) → Lent → Ran → Type 0
Takes step memory r = Taken (step memory.entry) r memory.exit
