-- The calls, one after the other, are the definition's parts.
-- Assumes nothing.
use mathlib.Core.Path.{refl}
use Rattle.host.specs.Promises.{on}
use Rattle.host.proofs.Turned.{turned}
use Rattle.host.proofs.turn.Goals as goal

pub note-requires : goal.note-requires
note-requires c = (c.requires, c.of_step-cost.ensures.1)

pub returns : goal.returns
returns c =
    let step = c.step-stepped.ensures in
    record {
      is =
          turned c.args.edition (on c.args.player c.args.song.now) c.lay_out.ensures c.put_marks.ensures c.put_marks-2.ensures
          step.is c.of_step-cost.ensures.0 c.marks_of-read.ensures c.marks_of-stored.ensures c.hear.ensures c.note.ensures;
      same = record { memory = refl; reads = refl; writes = refl; chip = refl; fetched = refl };
    }
