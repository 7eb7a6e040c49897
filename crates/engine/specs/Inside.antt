-- Which addresses a step and a run may touch.
-- Assumes nothing.
use Rattle.std.specs.Prelude.{ℕ, Bool, ◌≡◌}
use Rattle.std.proofs.Math.Bool.{true, false}
use Rattle.std.proofs.Math.Path.{refl}
use Rattle.memory.specs.World.{World}
use Rattle.memory.specs.Access.{perform}
use Rattle.memory.specs.Inside.{Bytes, Inside}
use Rattle.waking.specs.States.{is_awake}
use Rattle.editions.specs.declared.Edition.{Edition}
use Rattle.processor.specs.declared.Processor.{Processor}
use Rattle.instructions.specs.Inside.{Fits}
use Rattle.instructions.specs.Step.{step_of}
use Rattle.instructions.proofs.Within.{Within, follow, inside, performed}
use Rattle.instructions.proofs.Within.Within.{ends}
use Rattle.instructions.proofs.Inside.{step_within}
use Rattle.runs.specs.Run.{Progress}
use Rattle.runs.specs.Trace.{InMemory, trace}
use Rattle.runs.proofs.Inside as runs
use Rattle.engine.specs.Entry.{counted_step}

module _ (edition : Edition) where
  -- Whatever bytes it reads, a step reads and stores only addresses below 65,536.
  pub step_inside : (cpu : Processor) → Fits cpu → Inside (step_of edition cpu)
  step_inside cpu fits = inside (step_within edition cpu fits)

  -- On a memory of bytes it leaves one, and registers in their widths.
  pub step_widths : (cpu : Processor) (w : World) → Fits cpu → Bytes w
      → Fits (perform (step_of edition cpu) w).result × Bytes (perform (step_of edition cpu) w).left
  step_widths cpu w fits bytes = performed (step_within edition cpu fits) w bytes

  counted_within : (cpu : Processor) → Fits cpu → Within (λ (p : Progress Processor). Fits p.regs) (counted_step edition cpu)
  unfolding counted_step
  counted_within cpu fits = go (is_awake cpu.state) refl
    where
      go : (b : Bool) → is_awake cpu.state ≡ b → Within (λ (p : Progress Processor). Fits p.regs) (counted_step edition cpu)
      go true e = rw e (follow (step_within edition cpu fits) (λ next f. ends f))
      go false e = rw e (ends fits)

  -- So all accesses of a run are below 65,536.
  pub run_inside : (budget : ℕ) (cpu : Processor) (w : World) → Fits cpu → Bytes w → InMemory (trace (counted_step edition) budget cpu w)
  run_inside =
      runs.run_inside (counted_step edition) Fits
      (λ cpu fits. inside (counted_within cpu fits))
      (λ cpu w fits bytes. performed (counted_within cpu fits) w bytes)
