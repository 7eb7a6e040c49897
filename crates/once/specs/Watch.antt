-- A watched run has one outcome, refused or not; so have the marks of the device addresses, asked for or put.
-- Assumes nothing.
use Rattle.std.specs.Prelude.{[], ◌∷◌}
use Rattle.watch.proofs as watch
use Rattle.once.specs.Law.{One, Answers, first, third, fourth, fifth}
use Rattle.once.specs.Forms.{answers, leaves, runs}

pub run_once : One watch.run.Reads.Post (λ κ e. third e ∷ fourth e ∷ fifth e ∷ [])
run_once = record { same = runs }

pub marks_of_once : Answers watch.marks_of.Reads.Post
marks_of_once = record { same = λ p q. answers p.all q.all }

pub put_marks_once : One watch.put_marks.Reads.Post (λ κ. first)
put_marks_once = record { same = leaves }

pub run_within_once : One watch.run_within.Reads.Post (λ κ e. third e ∷ fourth e ∷ fifth e ∷ [])
run_within_once = record { same = runs }
