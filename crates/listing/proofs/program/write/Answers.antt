-- The buffer starts with the lines that were given, and is as it was behind them.
-- Assumes nothing.
use Rattle.listing.proofs.Lines.{all_turns}
use Rattle.listing.proofs.Laid.{nothing_yet, all_laid, accepted, one_more}
use Rattle.listing.proofs.program.write.Goals as goal

pub loop-line-init : goal.loop-line-init
loop-line-init c = (tt, tt, nothing_yet _ _ _ (rw c.into_iter-line-iterator.ensures.into_iter_gives (all_turns 0 c.args.address c.args.code.now)))

pub unwrap-done-requires : goal.unwrap-done-requires
unwrap-done-requires c = accepted c.loop-line.invariant.2 c.requires.code_in_bounds c.in-Some.ensures.steps c.give.ensures

pub loop-line-preserved : goal.loop-line-preserved
loop-line-preserved c =
    (tt, tt, one_more c.loop-line.invariant.2 c.requires.code_in_bounds c.in-Some.ensures.steps c.give.ensures _ c.unwrap-done.ensures)

pub returns : goal.returns
returns c = all_laid c.loop-line.invariant.2 c.requires.code_in_bounds c.in-None.ensures.steps.0
