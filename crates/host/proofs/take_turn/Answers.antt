-- A playing of budget 1 that goes on is one turn.
-- Assumes nothing.
use Prim.Native.Nat.{ℕ}
use mathlib.Core.Path.{◌≡◌, ap, ◌∙◌}
use mathlib.Core.Bool.{true}
use Rattle.editions.specs.declared.Edition.{Edition}
use Rattle.host.specs.Turn.{Playing, turn_of}
use Rattle.host.specs.Play.{Progress, progress, goes_on, play_of}
use Rattle.host.proofs.take_turn.Goals as goal

one_turn : (edition : Edition) (until : ℕ) (p : Playing) {after : Playing} {steps : ℕ} → goes_on until p.player ≡ true
    → progress after steps ≡ play_of edition until 1 p → after ≡ turn_of edition p
unfolding play_of
one_turn edition until p goes e =
    let one : play_of edition until 1 p ≡ progress (turn_of edition p) 1 = rw goes in ap (λ (o : Progress). o.playing) (e ∙ one)

pub returns : goal.returns
returns c = record { is = one_turn _ _ _ c.requires.1 c.play.ensures.is; same = c.play.ensures.same }
