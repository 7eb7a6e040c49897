-- One byte more is put together with the other's.
-- Assumes nothing.
use Rattle.std.proofs.Common.{ℕ, zero, suc, ◌<◌, ◌≡◌, refl, ap, List, [], ◌∷◌, length, get_or, take, bit_or, add-one, arith}
use Rattle.std.proofs.Math.ListN.{set}
use Rattle.blanking.specs.Together.{together}
use Rattle.blanking.proofs.join.Goals as goal

next_byte : (map before : List ℕ) (i : ℕ) → i < length map → i < length before
    → set (together (take i map) before) i (bit_or (get_or map i 0) (get_or (together (take i map) before) i 0))
    ≡ together (take (suc i) map) before
next_byte [] before i h k = absurd (omega arith)
next_byte (a ∷ map) [] i h k = absurd (omega arith)
next_byte (a ∷ map) (b ∷ before) zero h k = refl
next_byte (a ∷ map) (b ∷ before) (suc i) h k = ap (λ (l : List ℕ). bit_or a b ∷ l) (next_byte map before i (omega arith) (omega arith))

pub loop-i-preserved : goal.loop-i-preserved
loop-i-preserved c =
    rw (c.loop-i.invariant, add-one)
    (next_byte c.args.map.now c.args.other.now c.loop-i.i (omega arith) (omega arith))
