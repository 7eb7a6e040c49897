-- The map of what the playing is made of begins as what may be fetched, of which it is as long, and is given the rest.
-- Assumes nothing.
use Prim.Native.Nat.{ℕ}
use mathlib.Core.Path.{◌≡◌}
use mathlib.Core.List.{List}
use borrow.Author.Rules.{rules}
use Rattle.watch.specs.Marks.{with_marks}
use Rattle.blanking.specs.Together.{together}
use Rattle.player.specs.Packet.{made_of}
use Rattle.player.proofs.finish.Goals as goal

made_of_lem : (reads fetched : List ℕ) {read copied joined after : List ℕ} → read ≡ with_marks reads 0 → copied ≡ fetched
    → joined ≡ together read copied → after ≡ with_marks joined 65535 → after ≡ made_of (with_marks reads 0) fetched
made_of_lem reads fetched r c j e = rw (e, j, c, r)

pub returns : goal.returns
returns c = record { of_reads = search rules; of_writes = search rules; of_made = search (rules, made_of_lem) }
