-- Parts of maps: one that is taken out, whether one has a mark, and marks that are put back.
use Rattle.std.specs.Prelude.{ℕ, ◌-◌, ◌<◌, ◌≡◌, Bool, false, not, ◌||◌, List, [], ◌∷◌, ◌++◌, eqb, length, get_or, take, drop, replicate}
use Rattle.std.specs.Int.Bits.{bit_and, bit_or}

-- The last eight bytes of a map, which has its length, are taken out of it: what was there, and the map without them.
pub record Taken (map there left : List ℕ) : Type 0 where
  pub size : length map ≡ 8192
  pub bytes : (i : ℕ) → get_or map i 0 < 256
  pub own : there ≡ drop 8184 map
  pub bare : left ≡ take 8184 map ++ replicate 8 0

-- Whether a part of a map has a mark.
unfoldable pub any_marked : List ℕ → Bool
any_marked [] = false
any_marked (byte ∷ map) = not (eqb byte 0) || any_marked map

-- Marks of reads that are put back, byte by byte: with those of reads since, but where something had been stored before.
unfoldable pub read_back : List ℕ → List ℕ → List ℕ → List ℕ
read_back [] read stored = []
read_back (byte ∷ map) [] stored = byte ∷ map
read_back (byte ∷ map) (r ∷ read) [] = byte ∷ map
read_back (byte ∷ map) (r ∷ read) (s ∷ stored) = bit_or r (bit_and byte (255 - s)) ∷ read_back map read stored
