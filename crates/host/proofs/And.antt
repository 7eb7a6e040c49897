-- What comes of `&&`: the first test where it fails, and else the second.
-- Assumes nothing.
use mathlib.Core.Path.{◌≡◌, refl, ◌∙◌}
use mathlib.Core.Bool.{Bool, true, false, ◌&&◌, false≢true}

pub held : {x y so r : Bool} → so ≡ x → so ≡ true → r ≡ y → r ≡ (x && y)
held is t e = rw (← is, t) e

pub failed : {x : Bool} (y : Bool) {so r : Bool} → so ≡ x → so ≡ false → r ≡ so → r ≡ (x && y)
failed y is t e = rw (← is, t) (e ∙ t)

pub first_held : (x y : Bool) → (x && y) ≡ true → x ≡ true
first_held true y e = refl
first_held false y e = absurd (false≢true e)
