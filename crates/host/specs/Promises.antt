-- The contracts on what is lent to a playing.
use Rattle.std.specs.Prelude.{◌≡◌, ℕ}
use Rattle.editions.specs.declared.Edition.{Edition}
use Rattle.memory.specs.World.{world}
use Rattle.host.specs.Turn.{Playing, turn_of}
use Rattle.host.specs.Play.{progress, play_of}
use Rattle.host.specs.Beside.{beside_of}
use Rattle.host.specs.declared.Player.{Player}
use Rattle.host.specs.declared.Song.{Song}
use Rattle.host.specs.declared.Played.{Played}
use Rattle.host.specs.declared.beside.Beside.{Beside}

-- a player, with what is behind a song
abbrev pub on : Player → Song → Playing
on player song = record {
  player = player;
  world = world song.memory.now song.reads.now song.writes.now;
  chip = song.chip.now;
  fetched = song.fetched.now;
}

-- It borrows what it did, whatever that holds now.
pub record SameLoans (before after : Song) : Type 0 where
  pub memory : after.memory.ghost_name ≡ before.memory.ghost_name
  pub reads : after.reads.ghost_name ≡ before.reads.ghost_name
  pub writes : after.writes.ghost_name ≡ before.writes.ghost_name
  pub chip : after.chip.ghost_name ≡ before.chip.ghost_name
  pub fetched : after.fetched.ghost_name ≡ before.fetched.ghost_name

-- A turn, a playing, and two of them side by side: what is answered, and what the songs hold then, is what the definition makes of what they
-- held before.
pub record Turns (edition : Edition) (player : Player) (before after : Song) (r : Player) : Type 0 where
  pub is : on r after ≡ turn_of edition (on player before)
  pub same : SameLoans before after

pub record Plays (edition : Edition) (until budget : ℕ) (player : Player) (before after : Song) (r : Played) : Type 0 where
  pub is : progress (on r.player after) r.steps ≡ play_of edition until budget (on player before)
  pub same : SameLoans before after

pub record PlaysBoth
    (edition : Edition) (until budget : ℕ) (first second : Player) (one two one_after two_after : Song) (r : Beside) : Type 0 where
  pub is :
      record { first = on r.first one_after; second = on r.second two_after; steps = r.steps; alike = r.alike }
      ≡ beside_of edition until budget (on first one) (on second two)
  pub same : SameLoans one one_after
  pub same_other : SameLoans two two_after
