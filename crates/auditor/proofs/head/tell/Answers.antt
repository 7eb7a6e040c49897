-- Outcome, counts and devices, one behind the other.
-- Assumes nothing.
use Prim.Native.Nat.{ℕ, ◌/◌, ◌%◌}
use mathlib.Core.Path.{◌≡◌}
use mathlib.Core.List.{List, ◌∷◌, ◌++◌}
use native.Mathlib.Omega.{arith}
use lib.Bits.{bit_or}
use lib.ListN.{length, set}
use lib.Seq.{sets}
use Rattle.std.specs.Prelude.{Result, Ok}
use Rattle.std.proofs.Common.{eq-eqb, arith}
use Rattle.std.proofs.lemmas.Nat.{or_of_16}
use Rattle.refusals.specs.declared.Refusal.{Refusal}
use Rattle.waking.specs.States.{number_of}
use Rattle.marks.specs.Counts.{three_counts, counts_of}
use Rattle.marks.specs.declared.Counted.{Counted}
use Rattle.engine.specs.declared.Ran.{Ran}
use Rattle.state.specs.Registers.{bytes_of, whole_bytes_of, four_bytes}
use Rattle.auditor.specs.Packet.{devices_in}
use Rattle.auditor.specs.Inside.{told}
use Rattle.auditor.proofs.head.tell.Goals as goal

one_behind_the_other : (head : List ℕ) (ran : Ran) (counted : Counted) (blanked devices : ℕ) {one two : List ℕ} {low high : ℕ}
    → one ≡ sets head 6 (whole_bytes_of ran.cpu ++ number_of ran.cpu.state ∷ four_bytes ran.steps)
    → two ≡ sets one 19
    (four_bytes counted.read_only ++ four_bytes counted.stored_only ++ four_bytes counted.both ++ four_bytes blanked)
    → low ≡ devices % 256 → high ≡ devices / 256
    → set (set two 35 low) 36 high ≡ sets head 6 (told ran counted blanked devices)
unfolding told whole_bytes_of bytes_of
one_behind_the_other head ran counted blanked devices p q l h = rw (q, p, l, h)

counted_is : (reads writes : List ℕ) {counted : Counted} {r : Result Counted Refusal} → length reads ≡ 8192 → length writes ≡ 8192
    → r ≡ counts_of reads writes → r ≡ Ok counted → counted ≡ three_counts reads writes
counted_is reads writes r w e is =
    let ok : Ok (three_counts reads writes) ≡ counts_of reads writes = rw (eq-eqb _ _ r, eq-eqb _ _ w) in grind (arith, e, is, ok)

pub returns : goal.returns
returns c =
    let counted = counted_is c.args.reads.now c.args.writes.now c.told-reads c.told-writes c.counts.ensures c.unwrap-counted.ensures in
    let devices = bit_or (devices_in c.args.head.now) c.args.watched.devices in
    let bytes = c.to_le_bytes.ensures in
    rw (← counted)
    (one_behind_the_other c.args.head.now c.args.watched.ran c.unwrap-counted.result c.args.blanked devices c.outcome.ensures c.counts-2.ensures
    (rw (bytes, c.devices_in.ensures)) (rw (bytes, c.devices_in.ensures) (grind (arith, or_of_16))))
