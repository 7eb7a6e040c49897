-- What holds of the table's entries, by computed tests: none is above 12, and each branch that can be passed by has at least 4.
-- Assumes nothing.
use Rattle.std.proofs.Common.{◌≡◌, ℕ, ◌-◌, ◌%◌, ◌<◌, ◌≤◌, Bool, true, false, cond, ◌||◌, eqb, leb, List, get_or, sym, refl, ◌∙◌, arith, leb→le}
use Rattle.laws.specs.Below.{most_below}
use Rattle.laws.specs.Every.{every_at}
use Rattle.processor.specs.declared.Processor.{Processor}
use Rattle.cycles.specs.Cost.{cycles, is_passed_by, cost_of}

-- no entry is above 12
most : (opcode : ℕ) → get_or cycles opcode 0 ≤ 12
unfolding cycles
most opcode = leb→le (get_or cycles opcode 0) 12 (every_at (λ n. leb n 12) 0 tt cycles tt opcode)

-- the opcodes of the branches on flags and on memory, and of DBNZ Y
abbrev is_branch : ℕ → Bool
is_branch opcode =
    eqb (opcode % 32) 16 || (eqb (opcode % 16) 3 || (eqb opcode 0x2E || (eqb opcode 0xDE || (eqb opcode 0x6E || eqb opcode 0xFE))))

-- each of them has at least 4
least : (opcode : ℕ) → opcode < 256 → cond (is_branch opcode) 4 0 ≤ get_or cycles opcode 0
unfolding cycles
least opcode h = most_below 256 (λ k. cond (is_branch k) 4 0) (λ k. get_or cycles k 0) tt opcode h

-- only they can be passed by
branch : (opcode : ℕ) (cpu : Processor) (memory : List ℕ) → is_passed_by opcode cpu memory ≡ true → is_branch opcode ≡ true
unfolding is_passed_by
branch opcode cpu memory e =
    first (eqb (opcode % 32) 16) _ _ _ e
    (λ e. first (eqb (opcode % 16) 3) _ _ _ e
    (λ e. first (eqb opcode 0x2E) _ _ _ e
    (λ e. first (eqb opcode 0xDE) _ _ _ e
    (λ e. first (eqb opcode 0x6E) _ _ _ e
    (λ e. last (eqb opcode 0xFE) _ e)))))
  where
    first : (a p q b : Bool) → cond a p q ≡ true → (q ≡ true → b ≡ true) → (a || b) ≡ true
    first true p q b e later = refl
    first false p q b e later = later e

    last : (a p : Bool) → cond a p false ≡ true → a ≡ true
    last true p e = refl
    last false p e = e

-- the cost, where n is the opcode's entry and r says whether there is a branch that is passed by: then there are two cycles to leave out; and
-- it is never above 12
module _ (cpu : Processor) (memory : List ℕ) (r : Bool) (n : ℕ) (is : n ≡ get_or cycles (get_or memory cpu.pc 0) 0) where
  abbrev opcode : ℕ
  opcode = get_or memory cpu.pc 0

  pub two_less : opcode < 256 → r ≡ is_passed_by opcode cpu memory → r ≡ true → 2 ≤ n
  two_less h e t = let four = rw (branch opcode cpu memory (sym e ∙ t)) at (least opcode h) in omega (arith, is)

  pub passed_by : r ≡ is_passed_by opcode cpu memory → r ≡ true → (n - 2 ≡ cost_of cpu memory) × (n - 2 ≤ 12)
  unfolding cost_of
  passed_by e t = (rw (is, ← e, t), omega (arith, is, most opcode))

  pub whole : r ≡ is_passed_by opcode cpu memory → r ≡ false → (n ≡ cost_of cpu memory) × (n ≤ 12)
  unfolding cost_of
  whole e t = (rw (is, ← e, t), omega (arith, is, most opcode))
