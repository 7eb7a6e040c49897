-- The first look is for an address at which the memories differ, the second for one behind it at which they do not.
-- Assumes nothing.
use Rattle.std.proofs.Common.{arith, ap, length}
use Rattle.differences.specs.Calls.{differ}
use Rattle.differences.proofs.Walks.{Found, found, none_left, one_left}
use Rattle.differences.proofs.StretchesIterator.next.Goals as goal
use Rattle.differences.proofs.StretchesIterator.next.Goals.{After-unwrap_or-end}

next_found : (c : After-unwrap_or-end)
    → Found (differ c.args.self.now.first.now c.args.self.now.second.now) c.args.self.now.from c.in_ok-at.at c.unwrap_or-end.result
next_found c =
    rw c.unwrap_or-end.ensures (found _ c.first_from-2.result (rw c.in_ok-at.was at c.first_from.ensures) c.first_from-2.ensures)

pub returns-in_err-at-clause-steps : goal.returns-in_err-at-clause-steps
returns-in_err-at-clause-steps c =
    let none = none_left _ _ (rw c.in_err-at.was at c.first_from.ensures) in
    rw c.from_residual.ensures (none, none)

pub overflow_sub-result : goal.overflow_sub-result
overflow_sub-result c =
    let at = goal.at.overflow_sub-result c in
    let f = next_found at.After-unwrap_or-end in
    omega (arith, f.some)

pub overflow_cast-result-2 : goal.overflow_cast-result-2
overflow_cast-result-2 c =
    let at = goal.at.overflow_cast-result-2 c in
    let f = next_found at.After-unwrap_or-end in
    omega (arith, f.some, f.next.throughout.within)

pub returns-clause-steps : goal.returns-clause-steps
returns-clause-steps c =
    let at = goal.at.returns-clause-steps c in
    one_left _ (next_found at.After-unwrap_or-end)

pub returns-clause-goes : goal.returns-clause-goes
returns-clause-goes c =
    let at = goal.at.returns-clause-goes c in
    let f = next_found at.After-unwrap_or-end in
    let fewer = ap length (one_left _ f) in
    record { on = λ h. (tt, tt, omega (arith, fewer)); keeps = tt; rests = λ h. tt }
