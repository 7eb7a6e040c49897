-- Lists of at most three modes, as the record of three modes and a count holds them.
use Rattle.std.specs.Prelude.{ℕ, List, [], ◌∷◌, take}
use Rattle.opcode_data.specs.declared.AddressMode.{AddressMode}
use Rattle.opcode_data.specs.declared.AddressMode.TheVariants.{A}
use Rattle.opcode_data.specs.declared.Modes.{Modes}

abbrev pub modes : AddressMode → AddressMode → AddressMode → ℕ → Modes
modes first second third count = record { three = first ∷ second ∷ third ∷ []; count = count }

-- The record of a list: A fills the places that do not count. A list longer than three is cut.
abbrev pub record_of : List AddressMode → Modes
record_of [] = modes A A A 0
record_of (a ∷ []) = modes a A A 1
record_of (a ∷ b ∷ []) = modes a b A 2
record_of (a ∷ b ∷ c ∷ ms) = modes a b c 3

-- The list that a record holds: modes beyond the count are ignored.
abbrev pub list_of : Modes → List AddressMode
list_of m = take m.count m.three
