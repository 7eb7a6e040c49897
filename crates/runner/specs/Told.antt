-- What a call of the runner answers.
use Rattle.std.specs.Prelude.{◌≡◌, List, ℕ}
use Rattle.laws.specs.Lent.{Lent}
use Rattle.text.specs.Line.{blank, adds}
use Rattle.runner.specs.Session.{Session}
use Rattle.runner.specs.declared.Report.{Report}

-- A call that was to give the session s answered r, and left `after` in the lent bytes.
pub record Told (s : Session) (r : Report) (after : List ℕ) : Type 0 where
  pub opening : r.opening ≡ adds blank s.opening
  pub closing : r.closing ≡ adds blank s.closing
  pub left : after ≡ s.left

-- the contract of a call on lent bytes, of which `tale` makes the session
abbrev pub Tells : (List ℕ → Session) → Lent → Report → Type 0
Tells tale input r = Told (tale input.entry) r input.exit
