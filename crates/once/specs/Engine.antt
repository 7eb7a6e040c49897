-- Steps on a bus have one outcome; a step and a run of lent slices have one each, refused or not.
-- Assumes nothing.
use Rattle.std.specs.Prelude.{[], ◌∷◌}
use Rattle.engine.proofs as engine
use Rattle.once.specs.Law.{One, third, fourth, fifth}
use Rattle.once.specs.Forms.{lent_bus, steps, runs}

pub step_once : One engine.step.Reads.Post (λ κ e. third e ∷ fourth e ∷ fifth e ∷ [])
step_once = record { same = runs }

pub run_once : One engine.run.Reads.Post (λ κ e. third e ∷ fourth e ∷ fifth e ∷ [])
run_once = record { same = runs }

pub take_steps_once : One engine.take_steps.Reads.Post (λ κ e. lent_bus (third e))
take_steps_once = record { same = steps }

pub run_on_once : One engine.run_on.Reads.Post (λ κ e. lent_bus (third e))
run_on_once = record { same = steps }
