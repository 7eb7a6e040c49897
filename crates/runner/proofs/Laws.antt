-- Two outcomes that meet the contract of a session coincide.
-- Assumes nothing.
use Prim.Native.Nat.{ℕ}
use mathlib.Core.Path.{◌≡◌, sym, ◌∙◌}
use mathlib.Core.List.{List}
use Rattle.runner.specs.Session.{Session}
use Rattle.runner.specs.Told.{Told}
use Rattle.runner.specs.declared.Report.{Report}

pub told_once : {s : Session} {r q : Report} {x y : List ℕ} → Told s r x → Told s q y → (r ≡ q) × (x ≡ y)
told_once t u = (rw (t.opening ∙ sym u.opening, t.closing ∙ sym u.closing), t.left ∙ sym u.left)
