-- The bits of one cell, as numbers: the byte below 256, the read mark at 256, the stored mark at 512.
-- Assumes nothing.
use Rattle.std.proofs.Common.{◌≡◌, ◌≢◌, ℕ, ◌+◌, ◌*◌, ◌/◌, ◌%◌, ◌<◌, Bool, true, false, cond, eqb, refl, arith}
use Rattle.std.specs.Int.{from_bool}

-- A cell without marks whose read mark is set has that mark,
pub read_set : (cell : ℕ) → cell / 256 % 4 ≡ 0 → (cell + 256) / 256 % 2 ≡ 1
read_set cell clear = omega arith

-- and its stored mark is clear, before and after.
pub stored_clear : (cell : ℕ) → cell / 256 % 4 ≡ 0 → cell / 512 % 2 ≡ 0
stored_clear cell clear = omega arith

pub still_clear : (cell : ℕ) → cell / 256 % 4 ≡ 0 → (cell + 256) / 512 % 2 ≡ 0
still_clear cell clear =
    let four : cell / 256 ≡ 4 * (cell / 256 / 4) = omega arith in
    let half : (cell + 256) / 512 ≡ 2 * (cell / 256 / 4) = omega arith in
    omega arith

-- A cell that has a mark, but not the stored mark, has the read mark.
pub only_read : (cell : ℕ) → cell / 256 % 4 ≢ 0 → cell / 512 % 2 ≢ 1 → cell / 256 % 2 ≡ 1
only_read cell some none =
    let half : cell / 512 ≡ cell / 256 / 2 = omega arith in
    go (cell / 256) some (rw half at none)
  where
    go : (q : ℕ) → q % 4 ≢ 0 → q / 2 % 2 ≢ 1 → q % 2 ≡ 1
    go q some none = omega arith

-- A cell that is put together of a byte and two marks has these.
module _ (cell byte read stored : ℕ) (small : byte < 256) (r : read < 2) (w : stored < 2)
    (is : cell ≡ byte + read * 256 + stored * 512) where
  pub its_byte : cell % 256 ≡ byte
  its_byte = omega arith

  pub its_read : cell / 256 % 2 ≡ read
  its_read = let high : cell / 256 ≡ read + stored * 2 = omega arith in omega arith

  pub its_stored : cell / 512 % 2 ≡ stored
  its_stored = let high : cell / 512 ≡ stored = omega arith in omega arith

-- A mark as a number.
pub mark_small : (b : Bool) → from_bool b < 2
mark_small true = omega arith
mark_small false = omega arith

pub mark_test : (b : Bool) → eqb (from_bool b) 1 ≡ b
mark_test true = refl
mark_test false = refl

-- Its value as a bit of a cell.
pub mark_value : (b : Bool) (value : ℕ) → cond b value 0 ≡ from_bool b * value
mark_value true value = omega arith
mark_value false value = omega arith
