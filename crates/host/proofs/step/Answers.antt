-- While the boot ROM is on the step is the one that tells of reads there, and else the engine's, and none is told.
-- Assumes nothing.
use Prim.Native.Nat.{ℕ, ◌/◌, ◌%◌, ◌<◌, ◌≤◌}
use mathlib.Core.Path.{◌≡◌, ap, ◌∙◌}
use mathlib.Core.Bool.{true, false}
use native.Mathlib.Omega.{arith}
use lib.ListN.{get_or}
use borrow.Author.Rules.{rules}
use borrow.Author.Tests.{eq-eqb, ne_eqb}
use Rattle.memory.specs.World.{World}
use Rattle.memory.specs.Access.{Outcome, outcome}
use Rattle.memory.specs.Promises.{behind}
use Rattle.editions.specs.declared.Edition.{Edition}
use Rattle.processor.specs.declared.Processor.{Processor}
use Rattle.engine.specs.Entry.{told, counted_step, run_of}
use Rattle.runs.specs.Trace.{taken}
use Rattle.runs.proofs.Run.{run_one}
use Rattle.engine.specs.declared.Ran.{Ran}
use Rattle.devices.specs.Devices.{bit}
use Rattle.boot_rom.specs.Reading.{rom_step}
use Rattle.boot_rom.specs.declared.Stepped.{Stepped}
use Rattle.host.specs.Turn.{step_on}
use Rattle.host.proofs.step.Goals as goal

high : (x : ℕ) → 128 ≤ x → x < 256 → bit x 7 ≡ true
high x h g = eq-eqb (x / 128 % 2) 1 (omega arith)

low : (x : ℕ) → x < 128 → bit x 7 ≡ false
low x h = ne_eqb (x / 128 % 2) 1 (λ e. omega arith)

abbrev stepped : Processor → World → Outcome World Stepped
stepped cpu w = outcome (record { cpu = cpu; rom = false }) w

module _ (edition : Edition) (cpu : Processor) (w : World) where
  rom_on : {o : Outcome World Stepped} → 128 ≤ get_or w.memory 0xF1 0 → get_or w.memory 0xF1 0 < 256 → o ≡ rom_step edition cpu w
      → o ≡ step_on edition cpu w
  rom_on h g e = rw (high _ h g) e

  rom_off : {r : Ran} {left : World} → get_or w.memory 0xF1 0 < 128
      → outcome r left ≡ told (run_of edition 1 cpu w) → stepped r.cpu left ≡ step_on edition cpu w
  rom_off h e = rw (low _ h) (ap (λ (o : Outcome World Ran). stepped o.result.cpu o.left) (e ∙ ap told (run_one (taken (counted_step edition)) cpu w)))

pub returns-then-bus-ge128 : goal.returns-then-bus-ge128
returns-then-bus-ge128 c = record {
  is = rom_on _ _ (behind c.args.bus.now) c.if-bus-ge128.true (search rules) c.step.ensures.is;
  same = c.step.ensures.same;
}

pub returns : goal.returns
returns c = record {
  is = rom_off _ _ (behind c.args.bus.now) c.if-bus-ge128.false c.take_steps-ran.ensures.is;
  same = c.take_steps-ran.ensures.same;
}
