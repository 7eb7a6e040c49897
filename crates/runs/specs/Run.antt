-- A run: as many turns as the budget has, one after the other. `turn` is one turn, on whatever it changes: a step, or none.
use Rattle.std.specs.Prelude.{ℕ, zero, suc, ◌+◌}
use Rattle.memory.specs.Access.{Outcome}

-- the registers, and how many steps were taken
pub record Progress (Regs : Type 0) : Type 0 where
  pub regs : Regs
  pub steps : ℕ

abbrev pub progress : {Regs : Type 0} → Regs → ℕ → Progress Regs
progress regs steps = record { regs = regs; steps = steps }

module _ {Regs W : Type 0} where
  -- nothing was done
  abbrev pub rested : Regs → W → Outcome W (Progress Regs)
  rested r w = record { result = progress r 0; left = w }

  -- What was done, and what was done after it: the steps of both.
  abbrev pub joined : Outcome W (Progress Regs) → Outcome W (Progress Regs) → Outcome W (Progress Regs)
  joined o q = record { result = progress q.result.regs (o.result.steps + q.result.steps); left = q.left }

module _ {Regs W : Type 0} (turn : Regs → W → Outcome W (Progress Regs)) where
  -- Budget 0: nothing is done. Else a turn, and then a run of what is left of the budget.
  unfoldable pub run : ℕ → Regs → W → Outcome W (Progress Regs)
  run zero r w = rested r w
  run (suc budget) r w = let o = turn r w in joined o (run budget o.result.regs o.left)
