-- How large the numbers of a run's answer can be: a stop of at most 2, and no more steps than the budget.
-- Assumes nothing.
use Rattle.std.specs.Prelude.{ℕ, ◌≤◌, List}
use Rattle.waking.specs.States.{number_of}
use Rattle.waking.specs.Theorems.{at_most_two}
use Rattle.memory.specs.World.{World, world}
use Rattle.memory.specs.Access.{Outcome}
use Rattle.editions.specs.declared.Edition.{Edition}
use Rattle.processor.specs.declared.Processor.{Processor}
use Rattle.engine.specs.Provenance.{clear}
use Rattle.engine.specs.Theorems.{within_budget}
use Rattle.engine.specs.declared.Ran.{Ran}
use Rattle.runner.specs.Session.{from_clear}

pub record Small (budget : ℕ) (o : Outcome World Ran) : Type 0 where
  pub stop : number_of o.result.cpu.state ≤ 2
  pub steps : o.result.steps ≤ budget

pub small : (edition : Edition) (budget : ℕ) (cpu : Processor) (image : List ℕ) → Small budget (from_clear edition budget cpu image)
small edition budget cpu image = record {
  stop = at_most_two (from_clear edition budget cpu image).result.cpu.state;
  steps = within_budget edition budget cpu (world image clear clear);
}
