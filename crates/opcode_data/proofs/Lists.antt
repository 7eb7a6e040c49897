-- The list of a record of modes has never more than three. What a function says of each mode of a list, added up.
-- Assumes nothing.
use Rattle.std.proofs.Common.{◌≡◌, ℕ, ◌+◌, ◌*◌, ◌≤◌, List, [], ◌∷◌, length, length-take, sum_by, arith}
use Rattle.std.proofs.lemmas.List.Sums.{sum_by-cons}
use Rattle.opcode_data.specs.Lists.{list_of}
use Rattle.opcode_data.specs.declared.AddressMode.{AddressMode}
use Rattle.opcode_data.specs.declared.Modes.{Modes}

pub at_most_three : (m : Modes) → length m.three ≡ 3 → length (list_of m) ≤ 3
at_most_three m e = rw length-take (omega arith)

module _ (f : AddressMode → ℕ) (sum : List AddressMode → ℕ) (none : sum [] ≡ 0)
    (more : (m : AddressMode) (ms : List AddressMode) → sum (m ∷ ms) ≡ f m + sum ms) where
  -- as the code adds it up
  pub summed : (ms : List AddressMode) → sum_by f ms ≡ sum ms
  summed [] = omega (arith, none)
  summed (m ∷ ms) = rw sum_by-cons (omega (arith, more m ms, summed ms))

  pub two_each : ((m : AddressMode) → f m ≤ 2) → (ms : List AddressMode) → sum ms ≤ 2 * length ms
  two_each few [] = omega (arith, none)
  two_each few (m ∷ ms) = omega (arith, more m ms, few m, two_each few ms)
