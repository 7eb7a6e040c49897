-- A blanked image: what blanking answers, and what it leaves in the lent memory.
use Rattle.std.specs.Prelude.{ℕ, suc, cond, not, List, [], ◌∷◌, eqb, length, Option, None, Some, Result, Ok, Err}
use Rattle.laws.specs.Filled.{Filled, filled}
use Rattle.refusals.specs.declared.Refusal.{Refusal}
use Rattle.refusals.specs.declared.Refusal.TheVariants.{Memory, Map}
use Rattle.marks.specs.Maps.{is_marked}
use Rattle.marks.specs.Counts.{how_many}

module _ (map : List ℕ) (byte : ℕ) where
  -- The bytes from an address on: each stays where the map marks its address; the others give way to the chosen one.
  unfoldable pub blanked_from : ℕ → List ℕ → List ℕ
  blanked_from at [] = []
  blanked_from at (own ∷ rest) = cond (is_marked map at) own byte ∷ blanked_from (suc at) rest

  -- A whole image, from the first address on.
  abbrev pub blanked_image : List ℕ → List ℕ
  blanked_image image = blanked_from 0 image

-- How many of the 65,536 addresses a map does not mark.
abbrev pub unmarked : List ℕ → ℕ
unmarked map = how_many 65536 (λ k. not (is_marked map k))

-- Why blanking is refused: memory exactly if it is not 65,536 bytes; then the map exactly if it is not 8,192 bytes.
unfoldable pub refusal_of : List ℕ → List ℕ → Option Refusal
refusal_of map memory = cond (eqb (length memory) 65536) (cond (eqb (length map) 8192) None (Some Map)) (Some Memory)

-- Accepted: how many addresses were given the byte, which is every one that is not marked.
abbrev pub accepted : List ℕ → Result ℕ Refusal
accepted map = Ok (unmarked map)

-- What blanking answers and leaves: refused, the memory as it was.
abbrev pub outcome : Option Refusal → List ℕ → ℕ → List ℕ → Filled (Result ℕ Refusal)
outcome None map byte memory = filled (accepted map) (blanked_image map byte memory)
outcome (Some refusal) map byte memory = filled (Err refusal) memory

abbrev pub blank_of : List ℕ → ℕ → List ℕ → Filled (Result ℕ Refusal)
blank_of map byte memory = outcome (refusal_of map memory) map byte memory
