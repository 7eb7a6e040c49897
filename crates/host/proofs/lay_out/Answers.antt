-- The bytes are stored one after the other, in the order of the definition: those of the timers in a loop.
-- Assumes nothing.
use Rattle.std.proofs.Common.{List, ◌∷◌, ◌%◌, false, get_or, map, sym, refl, ap, ◌∙◌, arith}
use Rattle.std.proofs.Math.ListN.{get_or-map}
use Rattle.std.proofs.lemmas.List.{length-map}
use Rattle.std.proofs.lemmas.List.Edits.{sets}
use Rattle.devices.specs.Timers.{timer}
use Rattle.devices.specs.declared.timer.Timer.{Timer}
use Rattle.host.specs.Turn.{sent, laid_out}
use Rattle.host.specs.Full.{three_at}
use Rattle.host.proofs.Laying.{begun, one_laid, all_laid}
use Rattle.host.proofs.lay_out.Goals as goal

pub loop-k-init : goal.loop-k-init
loop-k-init c = begun _ _ _

pub loop-k-preserved : goal.loop-k-preserved
loop-k-preserved c =
    one_laid _ _ _ c.loop-k.invariant (simp length-map (omega arith))
    (sym (get_or-map _ c.args.devices.timers c.loop-k.k (timer false 0 0 0))) refl

pub returns : goal.returns
unfolding laid_out
returns c =
    let d = c.args.devices in
    let named = get_or c.args.chip.now (get_or c.args.memory.now 0xF2 0 % 128) 0 in
    all_laid _ _ _ c.loop-k.invariant (simp length-map (omega arith))
    ∙ ap (λ (timers : List Timer). sets (sets c.args.memory.now 0xF3 (named ∷ sent d)) 0xFD (map (λ t. t.count) timers))
    (sym (three_at (timer false 0 0 0) d.timers (omega arith)))
