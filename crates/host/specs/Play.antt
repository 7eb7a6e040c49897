-- A song played: turns, one after the other.
use Rattle.std.specs.Prelude.{ℕ, zero, suc, ◌+◌, Bool, cond, ◌&&◌, ltb}
use Rattle.waking.specs.States.{is_awake}
use Rattle.editions.specs.declared.Edition.{Edition}
use Rattle.host.specs.Turn.{Playing, turn_of}
use Rattle.host.specs.declared.Player.{Player}

-- Whether there is a step to take: fewer cycles than so many have passed since the beginning, and the record is awake.
abbrev pub goes_on : ℕ → Player → Bool
goes_on until player = ltb player.devices.cycles until && is_awake player.cpu.state

-- a playing, and how many steps it has taken
pub record Progress : Type 0 where
  pub playing : Playing
  pub steps : ℕ

abbrev pub progress : Playing → ℕ → Progress
progress p steps = record { playing = p; steps = steps }

-- Steps while there is one to take and budget is left.
unfoldable pub play_of : Edition → ℕ → ℕ → Playing → Progress
play_of edition until zero p = progress p 0
play_of edition until (suc budget) p =
    let more = play_of edition until budget (turn_of edition p) in
    cond (goes_on until p.player) (progress more.playing (more.steps + 1)) (progress p 0)
