-- A long run has one outcome.
-- Assumes nothing.
use Rattle.std.specs.Prelude.{[], ◌∷◌}
use Rattle.long_runs.proofs as long_runs
use Rattle.once.specs.Law.{One, third, fourth, fifth}
use Rattle.once.specs.Forms.{runs}

pub run_once : One long_runs.run.Reads.Post (λ κ e. third e ∷ fourth e ∷ fifth e ∷ [])
run_once = record { same = runs }
