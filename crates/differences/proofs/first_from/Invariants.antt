-- Up to here the test has the other answer.
-- Assumes nothing.
use Rattle.std.proofs.Common.{ℕ, ◌<◌, ◌≤◌, ◌≡◌, not}
use Rattle.differences.specs.Calls.{differ}
use Rattle.differences.proofs.first_from.Given as goal

abbrev pub invariant-loop-at : goal.invariant-loop-at
invariant-loop-at l =
    (k : ℕ) → l.fn.from ≤ k → k < l.at → differ l.fn.first l.fn.second k ≡ not l.fn.differing
