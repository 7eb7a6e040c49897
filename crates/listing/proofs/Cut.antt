-- The code's test whether the first instruction is cut is the definition's.
-- Assumes nothing.
use Rattle.std.proofs.Common.{◌≡◌, ℕ, ◌+◌, ◌<◌, ◌≤◌, true, false, List, [], ◌∷◌, length, get_or, refl, arith, le-ltb, lt-ltb}
use Rattle.listing.specs.Instruction.{length_of, is_cut}

pub is_cut_lem : (code : List ℕ) → length code < length_of (get_or code 0 0) → is_cut code ≡ true
is_cut_lem [] h = refl
is_cut_lem (opcode ∷ code) h = lt-ltb (length code + 1) (length_of opcode) (omega arith)

pub is_whole_lem : (code : List ℕ) → 0 < length code → length_of (get_or code 0 0) ≤ length code → is_cut code ≡ false
is_whole_lem [] some h = absurd (omega arith)
is_whole_lem (opcode ∷ code) some h = le-ltb (length code + 1) (length_of opcode) (omega arith)
