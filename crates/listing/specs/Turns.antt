-- The lines of the listing one by one, as the code iterates over them.
use Rattle.std.specs.Prelude.{◌≡◌, ℕ, zero, suc, ◌+◌, ◌-◌, ◌%◌, ◌<◌, ◌≤◌, List, [], ◌∷◌, length}
use Rattle.text.specs.Line.{shown}
use Rattle.text.specs.declared.Line.{Line}
use Rattle.listing.specs.Session.{turn_text, turn_bytes}
use Rattle.listing.specs.declared.program.Turns.{Turns}

-- a line that stands for the first bytes of some code, of which no line has more than three
pub record Turned (code : List ℕ) (address : ℕ) (line : Line) (bytes : ℕ) : Type 0 where
  pub some : 0 < length code
  pub text : shown line ≡ turn_text address code
  pub stands : bytes ≡ turn_bytes code
  pub inside : bytes ≤ length code
  pub few : bytes ≤ 3

-- `lines_of`, of which each line stands by itself
unfoldable pub turns_of : ℕ → ℕ → List ℕ → List (List ℕ)
turns_of before address [] = []
turns_of (suc before) address (byte ∷ code) = turns_of before ((address + 1) % 65536) code
turns_of zero address (opcode ∷ code) =
    turn_text address (opcode ∷ code) ∷ turns_of (turn_bytes (opcode ∷ code) - 1) ((address + 1) % 65536) code

-- the lines that are left
abbrev pub left : Turns → List (List ℕ)
left turns = turns_of 0 turns.address turns.code.now
