-- Which memory, maps and row a song borrows does not change.
-- Assumes nothing.
use Rattle.std.proofs.Common.{refl, ◌∙◌}
use Rattle.host.specs.Promises.{SameLoans}
use Rattle.host.specs.declared.Song.{Song}

pub same_loans : (s : Song) → SameLoans s s
same_loans s = record { memory = refl; reads = refl; writes = refl; chip = refl; fetched = refl }

pub still_same : {a b c : Song} → SameLoans a b → SameLoans b c → SameLoans a c
still_same e f = record {
  memory = f.memory ∙ e.memory;
  reads = f.reads ∙ e.reads;
  writes = f.writes ∙ e.writes;
  chip = f.chip ∙ e.chip;
  fetched = f.fetched ∙ e.fetched;
}
