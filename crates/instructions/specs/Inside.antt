-- Which records the theorems on a step's addresses speak of. They stand in crate engine, specs/Inside.
use Rattle.std.specs.Prelude.{◌<◌}
use Rattle.processor.specs.declared.Processor.{Processor}

-- A record whose registers have the widths of the part's: A X Y SP eight bits, PC sixteen.
pub record Fits (cpu : Processor) : Type 0 where
  pub a : cpu.a < 256
  pub x : cpu.x < 256
  pub y : cpu.y < 256
  pub sp : cpu.sp < 256
  pub pc : cpu.pc < 65536
