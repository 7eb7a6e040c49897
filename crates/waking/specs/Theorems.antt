-- How the states are numbered.
-- Assumes nothing.
use Rattle.std.specs.Prelude.{ℕ, zero, suc, ◌≤◌, true, ◌≡◌, refl, eqb}
use Rattle.std.proofs.lemmas.Bool.{false≢true}
use Rattle.std.proofs.Common.{arith, leb→le}
use Rattle.waking.specs.States.{number_of, is_state, state_of, is_awake}
use Rattle.waking.specs.declared.State.{State}
use Rattle.waking.specs.declared.State.TheVariants.{Awake, Slept, Stopped}

-- A state's number names it, and a number that names one is its number.
pub named : (s : State) → is_state (number_of s) ≡ true
named Awake = refl
named Slept = refl
named Stopped = refl

pub number_and_back : (s : State) → state_of (number_of s) ≡ s
number_and_back Awake = refl
number_and_back Slept = refl
number_and_back Stopped = refl

pub state_and_back : (n : ℕ) → is_state n ≡ true → number_of (state_of n) ≡ n
state_and_back zero e = refl
state_and_back (suc zero) e = refl
state_and_back (suc (suc n)) e = let most = leb→le (suc (suc n)) 2 (rw e tt) in omega arith

-- No number is above 2.
pub at_most_two : (s : State) → number_of s ≤ 2
at_most_two Awake = omega arith
at_most_two Slept = omega arith
at_most_two Stopped = omega arith

-- Awake is 0, and nothing else is.
pub awake_is_zero : (s : State) → is_awake s ≡ eqb (number_of s) 0
awake_is_zero Awake = refl
awake_is_zero Slept = refl
awake_is_zero Stopped = refl

pub only_awake : (s : State) → is_awake s ≡ true → s ≡ Awake
only_awake Awake e = refl
only_awake Slept e = absurd (false≢true e)
only_awake Stopped e = absurd (false≢true e)
