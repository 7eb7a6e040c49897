-- Which calls of a step and of a run are accepted.
-- Assumes nothing.
use Rattle.std.specs.Prelude.{ℕ, Bool, cond, length, Some, None}
use Rattle.std.proofs.Math.Path.{◌≡◌, refl}
use Rattle.std.proofs.Math.Bool.{true, false}
use Rattle.std.proofs.Common.{sym}
use Rattle.std.proofs.Math.Dec.{eqb}
use Rattle.std.proofs.lemmas.Option.{none-some}
use borrow.Author.Tests.{eq-eqb, eqb-true}
use Rattle.memory.specs.World.{World, Sized}
use Rattle.editions.specs.Editions.{is_edition}
use Rattle.refusals.specs.declared.Refusal.TheVariants as reason
use Rattle.engine.specs.Entry.{refusal_of}

module _ (number : ℕ) (w : World) where
  -- A call is accepted if the number names an edition, and memory and maps have their lengths;
  pub accepts : is_edition number ≡ true → Sized w → refusal_of number w ≡ None
  unfolding refusal_of
  accepts named size = rw (named, eq-eqb _ _ size.memory, eq-eqb _ _ size.reads, eq-eqb _ _ size.writes)

  -- and where it is, the lengths are these.
  pub sized : refusal_of number w ≡ None → Sized w
  unfolding refusal_of
  sized z =
      go (is_edition number) (eqb (length w.memory) 65536) (eqb (length w.reads) 8192) (eqb (length w.writes) 8192) refl refl refl z
    where
      go : (e a b c : Bool) → eqb (length w.memory) 65536 ≡ a → eqb (length w.reads) 8192 ≡ b → eqb (length w.writes) 8192 ≡ c
          → cond e (cond a (cond b (cond c None (Some reason.Map)) (Some reason.Map)) (Some reason.Memory)) (Some reason.Edition) ≡ None → Sized w
      go true true true true m r s z = record { memory = eqb-true _ _ m; reads = eqb-true _ _ r; writes = eqb-true _ _ s }
      go true true true false m r s z = absurd (none-some _ (sym z))
      go true true false c m r s z = absurd (none-some _ (sym z))
      go true false b c m r s z = absurd (none-some _ (sym z))
      go false a b c m r s z = absurd (none-some _ (sym z))
