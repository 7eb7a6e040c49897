-- The loop does what is left to do, and ends where the budget is spent, or where there is no step to take.
-- Assumes nothing.
use mathlib.Core.Path.{sym, ◌∙◌}
use Rattle.host.proofs.Loans.{same_loans, still_same}
use Rattle.host.proofs.SoFar.{unspent, begun, next, spent, resting}
use Rattle.host.proofs.play.Goals as goal
use Rattle.host.proofs.play.Goals.{then-loop-left-test+else-goes_on, else-loop-left-test}

pub loop-left-init : goal.loop-left-init
loop-left-init c = (begun, same_loans _)

pub turn-next-requires : goal.turn-next-requires
turn-next-requires c = unspent c.args.until c.loop-left.next (sym c.goes_on.ensures ∙ c.if-goes_on.true) c.requires

pub loop-left-preserved : goal.loop-left-preserved
loop-left-preserved c =
    let sofar = c.loop-left.invariant in
    let goes = sym c.goes_on.ensures ∙ c.if-goes_on.true in
    let turned = c.turn-next.ensures in
    (next sofar.0 c.loop-left-test.true goes turned.is, still_same sofar.1 turned.same)

pub overflow_sub-steps : goal.overflow_sub-steps
overflow_sub-steps c = c.loop-left.invariant.0.within

pub returns : goal.returns
returns c = let sofar = c.loop-left.invariant in record {
  is =
      elim c.loop-left-test.branch [
        | then-loop-left-test+else-goes_on w ↦ resting sofar.0 (sym w.goes_on.ensures ∙ w.if-goes_on.false)
        | else-loop-left-test w ↦ spent sofar.0 w.loop-left-test.false
      ];
  same = sofar.1;
}
