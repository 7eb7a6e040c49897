-- In either order the operands of a list take as many bytes as its modes fill.
-- Assumes nothing.
use Rattle.std.proofs.Common.{◌≡◌, ℕ, ◌+◌, max, Bool, true, false, cond, List, [], ◌∷◌, refl, arith}
use Rattle.opcode_data.specs.declared.AddressMode.{AddressMode}
use Rattle.listing.specs.Operands.{fills, filled, from_last, from_first, branches_on_direct_page, operands_of, bytes_of}

from_last_lem : (ms : List AddressMode) → bytes_of (from_last ms) ≡ filled ms
from_last_lem [] = refl
from_last_lem (m ∷ ms) = omega (arith, from_last_lem ms)

from_first_lem : (at : ℕ) (ms : List AddressMode) → max at (bytes_of (from_first at ms)) ≡ at + filled ms
from_first_lem at [] = omega arith
from_first_lem at (m ∷ ms) = omega (arith, from_first_lem (at + fills m) ms)

pub all_filled : (ms : List AddressMode) → bytes_of (operands_of ms) ≡ filled ms
all_filled ms = go (branches_on_direct_page ms)
  where
    go : (b : Bool) → bytes_of (cond b (from_first 0 ms) (from_last ms)) ≡ filled ms
    go true = omega (arith, from_first_lem 0 ms)
    go false = from_last_lem ms
