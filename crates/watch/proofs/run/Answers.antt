-- The tests are those of the definition, in its order; past them it is the watched run on what they let through.
-- Assumes nothing.
use Rattle.std.specs.Prelude.{ℕ, Some, None, Ok, Err}
use Rattle.std.proofs.Common.{◌≡◌, ap, ◌∙◌}
use Rattle.std.proofs.lemmas.Result.{err_from_is_err_and}
use Rattle.refusals.specs.declared.Refusal.{Refusal}
use Rattle.memory.specs.World.{World}
use Rattle.memory.specs.Access.{Outcome, outcome}
use Rattle.editions.specs.Editions.{edition_of}
use Rattle.editions.specs.declared.Edition.{Edition}
use Rattle.processor.specs.declared.Processor.{Processor}
use Rattle.engine.specs.Entry.{refusal_of}
use Rattle.engine.proofs.Refused.{no_edition, edition_ok, no_memory, no_reads, no_writes, accepts}
use Rattle.watch.specs.Calls.{watching, watched_run}
use Rattle.watch.specs.declared.Watched.{Watched}
use Rattle.watch.proofs.run.Goals as goal

module _ (number budget : ℕ) (cpu : Processor) (w : World) where
  refused : {e : Refusal} → refusal_of number w ≡ Some e → outcome (Err e) w ≡ watched_run number budget cpu w
  refused z = rw z

  taken : {edition : Edition} {r : Watched} {left : World} → refusal_of number w ≡ None → edition ≡ edition_of number
      → outcome r left ≡ watching edition budget cpu w → outcome (Ok r) left ≡ watched_run number budget cpu w
  taken z it e = rw (z, ← it) (ap (λ (o : Outcome World Watched). outcome (Ok o.result) o.left) e)

pub returns-in_err-edition : goal.returns-in_err-edition
returns-in_err-edition c =
    let p = err_from_is_err_and c.from_residual.result c.from_residual.ensures.1 in
    rw (p.1, p.2) (refused _ _ _ _ (no_edition _ _ c.in_err-edition.ensures))

pub returns-in_default : goal.returns-in_default
returns-in_default c = refused _ _ _ _ (no_memory _ _ c.in_ok-edition.ensures c.in_default.ensures.cases)

pub returns-in_default-as_mut_array : goal.returns-in_default-as_mut_array
returns-in_default-as_mut_array c =
    let memory = c.in-Some.ensures.cases in
    rw memory.same (refused _ _ _ _ (no_reads _ _ c.in_ok-edition.ensures memory.long c.in_default-as_mut_array.ensures.cases))

pub returns-in_default-as_mut_array-2 : goal.returns-in_default-as_mut_array-2
returns-in_default-as_mut_array-2 c =
    let memory = c.in-Some.ensures.cases in
    let reads = c.in-Some-as_mut_array.ensures.cases in
    rw (memory.same, reads.same)
    (refused _ _ _ _ (no_writes _ _ c.in_ok-edition.ensures memory.long reads.long c.in_default-as_mut_array-2.ensures.cases))

pub returns : goal.returns
returns c =
    let memory = c.in-Some.ensures.cases in
    let reads = c.in-Some-as_mut_array.ensures.cases in
    let writes = c.in-Some-as_mut_array-2.ensures.cases in
    taken _ _ _ _ (accepts _ _ c.in_ok-edition.ensures memory.long reads.long writes.long) (edition_ok _ c.in_ok-edition.ensures).1
    (c.run_within.ensures ∙ rw (memory.same, reads.same, writes.same))
