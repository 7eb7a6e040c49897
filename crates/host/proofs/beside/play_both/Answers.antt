-- The loop does what is left to do, and ends where the budget is spent, where the two are not alike, or where one has no step to take.
-- Assumes nothing.
use mathlib.Core.Path.{sym, ◌∙◌}
use Rattle.host.proofs.Loans.{same_loans, still_same}
use Rattle.host.proofs.BothSoFar.{begun, next, spent, unlike, first_rests, second_rests}
use Rattle.host.proofs.beside.play_both.Goals as goal
use Rattle.host.proofs.beside.play_both.Goals.{
  then-loop-left-test+then-alike+then-goes_on+else-goes_on-2,
  then-loop-left-test+then-alike+else-goes_on,
  then-loop-left-test+else-alike,
  else-loop-left-test,
}

pub loop-left-init : goal.loop-left-init
loop-left-init c = (begun c.are_alike-alike.ensures, (same_loans _, same_loans _))

pub take_turn-a-requires : goal.take_turn-a-requires
take_turn-a-requires c = (c.requires, sym c.goes_on.ensures ∙ c.if-goes_on.true)

pub take_turn-b-requires : goal.take_turn-b-requires
take_turn-b-requires c = (c.requires, sym c.goes_on-then-goes_on.ensures ∙ c.if-goes_on-2.true)

pub loop-left-preserved : goal.loop-left-preserved
loop-left-preserved c =
    let sofar = c.loop-left.invariant in
    let one = c.take_turn-a.ensures in
    let two = c.take_turn-b.ensures in (
      next sofar.0 c.loop-left-test.true c.if-alike.true
          (sym c.goes_on.ensures ∙ c.if-goes_on.true)
          (sym c.goes_on-then-goes_on.ensures ∙ c.if-goes_on-2.true)
          one.is two.is c.are_alike-alike-in-loop-left.ensures,
      (still_same sofar.1.0 one.same, still_same sofar.1.1 two.same),
    )

pub overflow_sub-steps : goal.overflow_sub-steps
overflow_sub-steps c = c.loop-left.invariant.0.within

pub returns : goal.returns
returns c = let sofar = c.loop-left.invariant in record {
  is =
      elim c.loop-left-test.branch [
        | then-loop-left-test+then-alike+then-goes_on+else-goes_on-2 w ↦
            second_rests sofar.0 (sym w.goes_on-then-goes_on.ensures ∙ w.if-goes_on-2.false)
        | then-loop-left-test+then-alike+else-goes_on w ↦ first_rests sofar.0 (sym w.goes_on.ensures ∙ w.if-goes_on.false)
        | then-loop-left-test+else-alike w ↦ unlike sofar.0 w.if-alike.false
        | else-loop-left-test w ↦ spent sofar.0 w.loop-left-test.false
      ];
  same = sofar.1.0;
  same_other = sofar.1.1;
}
