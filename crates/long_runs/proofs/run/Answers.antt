-- The cells stand for memory and maps before the steps, and memory and maps for the cells behind them.
-- Assumes nothing.
use Rattle.long_runs.proofs.Laws.{there_and_back}
use Rattle.long_runs.proofs.run.Goals as goal

pub returns : goal.returns
returns c = there_and_back _ _
    c.of.ensures
    c.lay_out.ensures
    c.take_steps-ended.ensures
    c.put_back.ensures
    c.«record».ensures
