-- A step is a run of budget 1, which is a theorem.
-- Assumes nothing.
use Rattle.std.proofs.Common.{sym, ◌∙◌}
use Rattle.engine.specs.Theorems.{step_is_run_of_one}
use Rattle.engine.proofs.step.Goals as goal

pub returns : goal.returns
returns c = c.run.ensures ∙ sym (step_is_run_of_one _ _ _)
