-- The states of a register record, their numbers, and which of them takes steps.
use Rattle.std.specs.Prelude.{ℕ, zero, suc, Bool, true, false, leb}
use Rattle.waking.specs.declared.State.{State}
use Rattle.waking.specs.declared.State.TheVariants.{Awake, Slept, Stopped}

-- The numbers of the states. A run answers the number of the state that its record is in afterwards as its stop.
abbrev pub number_of : State → ℕ
number_of Awake = 0
number_of Slept = 1
number_of Stopped = 2

-- No other number names one.
abbrev pub is_state : ℕ → Bool
is_state number = leb number 2

-- The state that a number names. It is asked of no other number, but has to be something there, too.
abbrev pub state_of : ℕ → State
state_of zero = Awake
state_of (suc zero) = Slept
state_of (suc (suc n)) = Stopped

-- A record takes steps while it is awake.
abbrev pub is_awake : State → Bool
is_awake Awake = true
is_awake Slept = false
is_awake Stopped = false
