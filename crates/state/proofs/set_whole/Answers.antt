-- The first seven bytes are stored by `set_registers`, and the one behind them is the last.
-- Assumes nothing.
use Rattle.std.proofs.Common.{◌≡◌, ℕ, List, [], ◌∷◌, ◌++◌, length, set, drop, length-drop, rules, arith}
use Rattle.laws.specs.Stored.{all_stored}
use Rattle.waking.specs.States.{number_of}
use Rattle.processor.specs.declared.Processor.{Processor}
use Rattle.state.specs.Registers.{bytes_of, whole_bytes_of}
use Rattle.state.proofs.set_whole.Goals as goal

all_eight : (bytes : List ℕ) (cpu : Processor) {seven : List ℕ} {number : ℕ} → length bytes ≡ 8
    → seven ≡ bytes_of cpu → number ≡ number_of cpu.state → set (seven ++ drop 7 bytes) 7 number ≡ whole_bytes_of cpu
unfolding whole_bytes_of bytes_of
all_eight bytes cpu {number = number} size s n =
    let one : length (drop 7 bytes) ≡ 1 = rw length-drop (omega arith) in rw (s, all_stored (number ∷ []) (drop 7 bytes) one, n)

pub returns : goal.returns
returns c = search (rules, all_eight)
