-- Where the cycles are spent, that decides; else the record does.
-- Assumes nothing.
use Prim.Native.Nat.{ℕ, ◌<◌, ◌≤◌}
use mathlib.Core.Path.{◌≡◌}
use mathlib.Core.Bool.{Bool}
use lib.Dec.{ltb}
use borrow.Author.Rules.{rules}
use borrow.Author.Tests.{lt-ltb, le-ltb}
use Rattle.waking.specs.States.{is_awake}
use Rattle.host.specs.Play.{goes_on}
use Rattle.host.specs.declared.Player.{Player}
use Rattle.host.proofs.goes_on.Goals as goal

more_cycles : (until : ℕ) (player : Player) {r : Bool} → player.devices.cycles < until → r ≡ is_awake player.cpu.state
    → r ≡ goes_on until player
more_cycles until player more e = rw (lt-ltb _ _ more) e

no_cycles : (until : ℕ) (player : Player) → until ≤ player.devices.cycles → ltb player.devices.cycles until ≡ goes_on until player
no_cycles until player none = rw (le-ltb _ _ none)

pub returns-then-player-until : goal.returns-then-player-until
returns-then-player-until c = search (rules, more_cycles)

pub returns-else-player-until : goal.returns-else-player-until
returns-else-player-until c = search (rules, no_cycles)
