-- Clock cycles: of each opcode, and of a step.
use Rattle.std.specs.Prelude.{ℕ, zero, suc, ◌+◌, ◌-◌, ◌/◌, ◌%◌, ◌^◌, Bool, false, cond, not, List, [], ◌∷◌, ◌++◌, ◌==◌, slice_index, slice_index_or}
use Rattle.modes.specs.Addresses.{direct_at}
use Rattle.processor.specs.declared.Processor.{Processor}
use Rattle.psw.specs.declared.ProgramStatusWord.{ProgramStatusWord}

-- The cycles of each opcode, a line for each high digit. A branch has those of a taken one; SLEEP and STOP, which end all, have none.
unfoldable pub cycles : List ℕ
cycles =
    (2 ∷ 8 ∷ 4 ∷ 7 ∷ 3 ∷ 4 ∷ 3 ∷ 6 ∷ 2 ∷ 6 ∷ 5 ∷ 4 ∷ 5 ∷ 4 ∷ 6 ∷ 8 ∷ [])  -- 00
    ++ (4 ∷ 8 ∷ 4 ∷ 7 ∷ 4 ∷ 5 ∷ 5 ∷ 6 ∷ 5 ∷ 5 ∷ 6 ∷ 5 ∷ 2 ∷ 2 ∷ 4 ∷ 6 ∷ [])  -- 10
    ++ (2 ∷ 8 ∷ 4 ∷ 7 ∷ 3 ∷ 4 ∷ 3 ∷ 6 ∷ 2 ∷ 6 ∷ 5 ∷ 4 ∷ 5 ∷ 4 ∷ 7 ∷ 4 ∷ [])  -- 20
    ++ (4 ∷ 8 ∷ 4 ∷ 7 ∷ 4 ∷ 5 ∷ 5 ∷ 6 ∷ 5 ∷ 5 ∷ 6 ∷ 5 ∷ 2 ∷ 2 ∷ 3 ∷ 8 ∷ [])  -- 30
    ++ (2 ∷ 8 ∷ 4 ∷ 7 ∷ 3 ∷ 4 ∷ 3 ∷ 6 ∷ 2 ∷ 6 ∷ 4 ∷ 4 ∷ 5 ∷ 4 ∷ 6 ∷ 6 ∷ [])  -- 40
    ++ (4 ∷ 8 ∷ 4 ∷ 7 ∷ 4 ∷ 5 ∷ 5 ∷ 6 ∷ 5 ∷ 5 ∷ 4 ∷ 5 ∷ 2 ∷ 2 ∷ 4 ∷ 3 ∷ [])  -- 50
    ++ (2 ∷ 8 ∷ 4 ∷ 7 ∷ 3 ∷ 4 ∷ 3 ∷ 6 ∷ 2 ∷ 6 ∷ 4 ∷ 4 ∷ 5 ∷ 4 ∷ 7 ∷ 5 ∷ [])  -- 60
    ++ (4 ∷ 8 ∷ 4 ∷ 7 ∷ 4 ∷ 5 ∷ 5 ∷ 6 ∷ 5 ∷ 5 ∷ 5 ∷ 5 ∷ 2 ∷ 2 ∷ 3 ∷ 6 ∷ [])  -- 70
    ++ (2 ∷ 8 ∷ 4 ∷ 7 ∷ 3 ∷ 4 ∷ 3 ∷ 6 ∷ 2 ∷ 6 ∷ 5 ∷ 4 ∷ 5 ∷ 2 ∷ 4 ∷ 5 ∷ [])  -- 80
    ++ (4 ∷ 8 ∷ 4 ∷ 7 ∷ 4 ∷ 5 ∷ 5 ∷ 6 ∷ 5 ∷ 5 ∷ 5 ∷ 5 ∷ 2 ∷ 2 ∷ 12 ∷ 5 ∷ [])  -- 90
    ++ (3 ∷ 8 ∷ 4 ∷ 7 ∷ 3 ∷ 4 ∷ 3 ∷ 6 ∷ 2 ∷ 6 ∷ 4 ∷ 4 ∷ 5 ∷ 2 ∷ 4 ∷ 4 ∷ [])  -- A0
    ++ (4 ∷ 8 ∷ 4 ∷ 7 ∷ 4 ∷ 5 ∷ 5 ∷ 6 ∷ 5 ∷ 5 ∷ 5 ∷ 5 ∷ 2 ∷ 2 ∷ 3 ∷ 4 ∷ [])  -- B0
    ++ (3 ∷ 8 ∷ 4 ∷ 7 ∷ 4 ∷ 5 ∷ 4 ∷ 7 ∷ 2 ∷ 5 ∷ 6 ∷ 4 ∷ 5 ∷ 2 ∷ 4 ∷ 9 ∷ [])  -- C0
    ++ (4 ∷ 8 ∷ 4 ∷ 7 ∷ 5 ∷ 6 ∷ 6 ∷ 7 ∷ 4 ∷ 5 ∷ 5 ∷ 5 ∷ 2 ∷ 2 ∷ 8 ∷ 3 ∷ [])  -- D0
    ++ (2 ∷ 8 ∷ 4 ∷ 7 ∷ 3 ∷ 4 ∷ 3 ∷ 6 ∷ 2 ∷ 4 ∷ 5 ∷ 3 ∷ 4 ∷ 3 ∷ 4 ∷ 0 ∷ [])  -- E0
    ++ (4 ∷ 8 ∷ 4 ∷ 7 ∷ 4 ∷ 5 ∷ 5 ∷ 6 ∷ 3 ∷ 4 ∷ 5 ∷ 4 ∷ 2 ∷ 2 ∷ 6 ∷ 0 ∷ [])  -- F0

-- ---- branches that are not taken

-- The flag that a branch on flags looks at: N, V, C or Z, by the opcode's two highest bits.
unfoldable pub flag_of : ℕ → ProgramStatusWord → Bool
flag_of zero psw = psw.n
flag_of (suc zero) psw = psw.v
flag_of (suc (suc zero)) psw = psw.c
flag_of (suc (suc (suc n))) psw = psw.z

-- The byte that a branch on memory looks at: in the direct page, at its operand byte plus an index.
abbrev pub branch_byte : Processor → ℕ → List ℕ → ℕ
branch_byte cpu index memory = slice_index memory (direct_at cpu.psw (slice_index memory ((cpu.pc + 1) % 65536)) index)

-- whether two truth values differ
abbrev pub differ : Bool → Bool → Bool
differ a b = cond a (not b) b

-- Whether there is a branch at PC, with this opcode, that is not taken. Branches on flags, 10 30 50 .. F0, are taken where the flag is as
-- the opcode's bit 5 says. BBS and BBC, 03 13 23 .. F3, name a bit by their three highest bits; it must be set where bit 4 is clear, and
-- clear where it is set. CBNE, 2E and with X DE, is not taken where A equals the byte; DBNZ, 6E of a byte and FE of Y, where one is left.
unfoldable pub is_passed_by : ℕ → Processor → List ℕ → Bool
is_passed_by opcode cpu memory =
    cond (opcode % 32 == 16) (differ (flag_of (opcode / 64) cpu.psw) (opcode / 32 % 2 == 1))
    (cond (opcode % 16 == 3) (branch_byte cpu 0 memory / 2 ^ (opcode / 32) % 2 == opcode / 16 % 2)
    (cond (opcode == 0x2E) (cpu.a == branch_byte cpu 0 memory)
    (cond (opcode == 0xDE) (cpu.a == branch_byte cpu cpu.x memory)
    (cond (opcode == 0x6E) (branch_byte cpu 0 memory == 1)
    (cond (opcode == 0xFE) (cpu.y == 1) false)))))

-- The cycles of the step that begins with these registers on this memory: its opcode's, and two less for a branch that is not taken.
unfoldable pub cost_of : Processor → List ℕ → ℕ
cost_of cpu memory =
    let opcode = slice_index_or memory cpu.pc 0 in
    let most = slice_index_or cycles opcode 0 in
    cond (is_passed_by opcode cpu memory) (most - 2) most
