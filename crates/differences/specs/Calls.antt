-- What differs between two memories: what a comparison answers, and what it leaves in the lent row.
use Rattle.std.specs.Prelude.{ℕ, ◌*◌, Bool, false, true, cond, not, ◌&&◌, List, [], ◌∷◌, ◌++◌, eqb, leb, length, get_or, drop}
use Rattle.std.specs.Prelude.{Option, None, Some, Result, Ok, Err}
use Rattle.laws.specs.Filled.{Filled, filled}
use Rattle.refusals.specs.declared.Refusal.{Refusal}
use Rattle.refusals.specs.declared.Refusal.TheVariants.{Memory, Map, Room}
use Rattle.marks.specs.Maps.{is_marked}
use Rattle.differences.specs.declared.Stretch.{Stretch}
use Rattle.differences.specs.Stretches.{stretches_from, touched}
use Rattle.differences.specs.declared.Differences.{Differences}

-- Whether two memories differ at an address.
abbrev pub differ : List ℕ → List ℕ → ℕ → Bool
differ first second k = not (eqb (get_or first k 0) (get_or second k 0))

-- The maximal stretches of addresses at which they differ, of all 65,536.
abbrev pub stretches_of : List ℕ → List ℕ → List Stretch
stretches_of first second = stretches_from (differ first second) 0 65536

-- The marks of a map where there is one; without it, none.
abbrev pub marks_of : Option (List ℕ) → ℕ → Bool
marks_of None k = false
marks_of (Some map) k = is_marked map k

-- First and last address of each stretch, one after the other.
unfoldable pub numbers_of : List Stretch → List ℕ
numbers_of [] = []
numbers_of (s ∷ rest) = s.first ∷ s.last ∷ numbers_of rest

-- What a row has once they are written: them, and behind them what it had.
unfoldable pub written : List Stretch → List ℕ → List ℕ
written stretches row = numbers_of stretches ++ drop (2 * length stretches) row

-- Whether both memories are 65,536 bytes; whether the map, if there is one, is 8,192 bytes; whether a row has two numbers for each stretch.
abbrev pub memories_right : List ℕ → List ℕ → Bool
memories_right first second = eqb (length first) 65536 && eqb (length second) 65536

abbrev pub map_right : Option (List ℕ) → Bool
map_right None = true
map_right (Some map) = eqb (length map) 8192

abbrev pub room_for : List Stretch → List ℕ → Bool
room_for stretches row = leb (2 * length stretches) (length row)

-- The first of these that does not hold is why a comparison is refused; it is accepted where all do.
unfoldable pub refusal_of : List ℕ → List ℕ → Option (List ℕ) → List ℕ → Option Refusal
refusal_of first second map row =
    cond (memories_right first second)
    (cond (map_right map) (cond (room_for (stretches_of first second) row) None (Some Room)) (Some Map))
    (Some Memory)

-- Accepted: how many stretches there are, and whether one of them touches a mark.
abbrev pub accepted : List Stretch → (ℕ → Bool) → Differences
accepted stretches mark = record { stretches = length stretches; touched = touched mark stretches }

-- What a comparison answers, and what it leaves in the row: refused, the row as it was.
abbrev pub outcome : Option Refusal → List Stretch → (ℕ → Bool) → List ℕ → Filled (Result Differences Refusal)
outcome None stretches mark row = filled (Ok (accepted stretches mark)) (written stretches row)
outcome (Some refusal) stretches mark row = filled (Err refusal) row

abbrev pub differences_of : List ℕ → List ℕ → Option (List ℕ) → List ℕ → Filled (Result Differences Refusal)
differences_of first second map row = outcome (refusal_of first second map row) (stretches_of first second) (marks_of map) row
