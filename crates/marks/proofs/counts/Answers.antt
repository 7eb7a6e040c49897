-- Each turn has the next byte of each map; behind the last turn all bytes were counted.
-- Assumes nothing.
use Rattle.std.proofs.Common.{rules, length, length-append}
use Rattle.std.proofs.lemmas.Slice.Zip.{zip_turn}
use Rattle.marks.proofs.Counting.{Turn, at_first, room, one_more}
use Rattle.marks.specs.Counts.{read_only, stored_only, read_and_stored}
use Rattle.marks.proofs.counts.Goals as goal
use Rattle.marks.proofs.counts.Goals.{In-Some}

turn : (c : In-Some) → Turn c.args.reads.now c.args.writes.now (length c.loop-read.yielded) c.in-Some.read.now c.in-Some.stored.now
turn c =
    let at = length c.loop-read.yielded in
    let t = zip_turn c.args.reads.now c.args.writes.now c.loop-read.yielded c.into_iter-read-iterator.result c.loop-read.read-iterator
    c.next.new.self _ (cc) (cc) c.loop-read.yielded_by _ c.in-Some.is c.next.ensures.steps in
    record {
      within = t.0;
      of_reads = t.2 0;
      of_writes = t.3 0;
      read_fits = rw (t.2 0) (c.type_inv.reads at).fits;
      stored_fits = rw (t.3 0) (c.type_inv.writes at).fits;
    }

pub loop-read-init : goal.loop-read-init
loop-read-init c = search (rules, at_first)

pub overflow_add-counted : goal.overflow_add-counted
overflow_add-counted c = let t = turn (goal.at.overflow_add-counted c).In-Some in search (room _ _ t read_only, t.read_fits)

pub overflow_add-counted-in-loop-read : goal.overflow_add-counted-in-loop-read
overflow_add-counted-in-loop-read c =
    let t = turn (goal.at.overflow_add-counted-in-loop-read c).In-Some in search (room _ _ t stored_only, t.stored_fits)

pub overflow_add-counted-in-loop-read-2 : goal.overflow_add-counted-in-loop-read-2
overflow_add-counted-in-loop-read-2 c =
    let t = turn (goal.at.overflow_add-counted-in-loop-read-2 c).In-Some in search (room _ _ t read_and_stored, t.read_fits)

pub loop-read-preserved : goal.loop-read-preserved
loop-read-preserved c = rw length-append (one_more _ _ (turn (goal.at.loop-read-preserved c).In-Some) c.loop-read.invariant)
