-- The invariant is `Writing`: what is left to store, from here on, makes the row what it is to be.
-- Assumes nothing.
use Rattle.std.proofs.Common.{rules, arith, ◌+◌, ◌*◌, ◌<◌, ◌∙◌, length, ⊎_elim}
use Rattle.differences.proofs.Writing.{begin_write, all_written, many_written, two_places, one_written}
use Rattle.differences.proofs.write.Goals as goal
use Rattle.differences.proofs.write.Goals.{In-Some}

places : (c : In-Some) → 2 * c.in-Some.i + 1 < length c.loop-i.row
places c = let s = rw c.in-Some.is at c.next.ensures.steps in two_places c.loop-i.invariant.0 s.0.1.1 s.1

pub loop-i-init : goal.loop-i-init
loop-i-init c = search (rules, begin_write)

pub bounds-row-i : goal.bounds-row-i
bounds-row-i c = let p = places (goal.at.bounds-row-i c).In-Some in omega arith

pub loop-i-preserved : goal.loop-i-preserved
loop-i-preserved c =
    let s = rw c.in-Some.is at c.next.ensures.steps in
    (one_written c.loop-i.invariant.0 s.0.1.1 s.1 s.0.1.2, s.0.0 ∙ c.loop-i.invariant.1)

pub returns : goal.returns
returns c =
    let w = c.loop-i.invariant in
    let s = rw c.in-None.is at c.next.ensures.steps in
    ⊎_elim (λ a. many_written w.0 (omega (arith, a.1.1.0, w.1, c.requires.counted))) (λ b. all_written w.0 b.1.0) s
