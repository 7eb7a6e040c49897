-- How the code goes through two memories. For the contracts of the functions that no other crate calls.
use Rattle.std.specs.Prelude.{ℕ, ◌-◌, ◌<◌, ◌≤◌, Bool, ◌≡◌, List, Option}
use Rattle.std.specs.Option.{MatchOption}
use Rattle.differences.specs.declared.Stretch.{Stretch}
use Rattle.differences.specs.Stretches.{stretches_from}
use Rattle.differences.specs.Calls.{differ}
use Rattle.differences.specs.declared.Stretches.{Stretches}

-- What a look for the first address from one on with an answer finds, where the test has the other answer at any address before it.
abbrev pub Sought : (ℕ → Bool) → Bool → Bool → ℕ → Option ℕ → Type 0
Sought test answer other from found =
    MatchOption found ((k : ℕ) → from ≤ k → k < 65536 → test k ≡ other)
    (λ i. (from ≤ i) × (i < 65536) × (test i ≡ answer) × ((k : ℕ) → from ≤ k → k < i → test k ≡ other))

-- The stretches from an address on.
abbrev pub left_from : List ℕ → List ℕ → ℕ → List Stretch
left_from first second at = stretches_from (differ first second) at (65536 - at)

-- Those that a walk has not come to yet.
abbrev pub left : Stretches → List Stretch
left walk = left_from walk.first.now walk.second.now walk.from
