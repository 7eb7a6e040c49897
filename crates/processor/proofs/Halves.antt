-- An operation on words in two halves: on the low bytes, on the high bytes from there, and the two joined.
-- Assumes nothing.
use Rattle.std.proofs.Common.{◌≡◌, ℕ}
use Rattle.processor.specs.declared.Processor.{Processor}
use Rattle.processor.specs.declared.Produced.{Produced}
use Rattle.processor.specs.Words.{joined, then_high}

pub halves : (op : Processor → ℕ → ℕ → Produced) (start r : Processor) (a y low high : ℕ) (first second : Produced)
    → first ≡ op start a low → second ≡ op first.cpu y high → r ≡ joined first second → r ≡ then_high op y high (op start a low)
halves op start r a y low high first second p q j = rw (j, q, p)
