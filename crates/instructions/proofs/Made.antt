-- An operation leaves registers in their widths, and what it stores is bytes, at addresses inside the memory.
-- Assumes nothing.
use Prim.Native.Nat.{ℕ, ◌/◌, ◌%◌, ◌<◌}
use mathlib.Core.Bool.{true, false, cond}
use native.Mathlib.Omega.{arith}
use Rattle.psw.specs.Theorems.{status_byte}
use Rattle.processor.specs.Record.{with_a, with_x, with_y, with_pc, with_ya}
use Rattle.modes.specs.Addresses.{onward}
use Rattle.instructions.specs.Rows.{Operation}
use Rattle.instructions.specs.Rows.Operation.{nop, sleep, stop, or_a, and_a, eor_a, cmp_a, adc_a, sbc_a, or_m, and_m, eor_m, cmp_m, adc_m, sbc_m, cmp_x, cmp_y, asl_a, rol_a, lsr_a, ror_a, dec_a, inc_a, asl_m, rol_m, lsr_m, ror_m, dec_m, inc_m, dec_x, inc_x, dec_y, inc_y, load_a, load_x, load_y, load_ainc, store_a, store_x, store_y, store_ainc, store_byte, mov_ax, mov_ay, mov_xa, mov_ya, mov_xsp, mov_spx, load_ya, store_ya, addw, subw, cmpw, incw, decw, mul, div, daa, das, xcn, tset1, tclr1, set1, clr1, and1, and1_n, or1, or1_n, eor1, not1, load_c, store_c, clrc, setc, notc, clrv, clrp, setp, ei, di, bpl, bmi, bvc, bvs, bcc, bcs, bne, beq, bra, bbs, bbc, cbne, dbnz_m, dbnz_y, jmp, call, brk, reti, push_a, push_x, push_y, push_psw, pop_a, pop_x, pop_y, pop_psw}
use Rattle.instructions.specs.Effects.{effect_of}
use Rattle.instructions.specs.declared.Operands.{Operands}
use Rattle.instructions.specs.declared.Effect.{Effect}
use Rattle.instructions.specs.declared.Stores.{Stores}
use Rattle.instructions.specs.declared.Stores.TheVariants.{Nothing, Byte, Word, Push, Call, Break}
use Rattle.instructions.proofs.Parts.{below_65536, below_256}
use Rattle.instructions.proofs.Gathered.{Gathered}
use Rattle.instructions.proofs.Bounds.{Widths, either, or_byte, xor_byte, and_byte, with_bit_lem, bit_in_lem, right_byte, mul_high, div_widths, daa_widths, das_widths, exchanged}

-- what is stored, and where; where a call goes
abbrev pub Kept : Stores → Type 0
Kept Nothing = Unit
Kept (Byte at byte) = (at < 65536) × (byte < 256)
Kept (Word at low next high) = (at < 65536) × (low < 256) × (next < 65536) × (high < 256)
Kept (Push byte) = byte < 256
Kept (Call target) = target < 65536
Kept (Break byte target) = (byte < 256) × (target < 65536)

abbrev pub Ready : Effect → Type 0
Ready e = Widths e.cpu × Kept e.stores

high_byte : (n : ℕ) → n % 65536 / 256 < 256
high_byte n = omega arith

-- an operation of opcode k on what was gathered
module _ (k : ℕ) (b : k < 256) {o : Operands} (g : Gathered o) where
  kept : Widths o.cpu
  kept = (g.cpu.a, g.cpu.x, g.cpu.y, g.cpu.sp, g.cpu.pc)

  -- registers alone: none, A, X, Y, YA, PC
  plain : Widths o.cpu × Unit {0}
  plain = (kept, tt)

  into_a : {n : ℕ} → n < 256 → Widths (with_a n o.cpu) × Unit {0}
  into_a h = ((h, g.cpu.x, g.cpu.y, g.cpu.sp, g.cpu.pc), tt)

  into_x : {n : ℕ} → n < 256 → Widths (with_x n o.cpu) × Unit {0}
  into_x h = ((g.cpu.a, h, g.cpu.y, g.cpu.sp, g.cpu.pc), tt)

  with-y : {n : ℕ} → n < 256 → Widths (with_y n o.cpu)
  with-y h = (g.cpu.a, g.cpu.x, h, g.cpu.sp, g.cpu.pc)

  into_y : {n : ℕ} → n < 256 → Widths (with_y n o.cpu) × Unit {0}
  into_y h = (with-y h, tt)

  into_ya : {a y : ℕ} → a < 256 → y < 256 → Widths (with_ya y a o.cpu) × Unit {0}
  into_ya h i = ((h, g.cpu.x, i, g.cpu.sp, g.cpu.pc), tt)

  jump : Widths (with_pc o.at o.cpu) × Unit {0}
  jump = ((g.cpu.a, g.cpu.x, g.cpu.y, g.cpu.sp, g.at), tt)

  -- a byte or a word stored
  to_byte : {n : ℕ} → n < 256 → Widths o.cpu × ((o.at < 65536) × (n < 256))
  to_byte h = (kept, (g.at, h))

  to_word : {m n : ℕ} → m < 256 → n < 256 → Widths o.cpu × ((o.at < 65536) × (m < 256) × (o.next < 65536) × (n < 256))
  to_word h i = (kept, (g.at, h, g.next, i))

  -- a branch: PC stays before the displacement, or passes it by
  past_y : {n : ℕ} → n < 256 → Widths (onward (with_y n o.cpu))
  past_y h = (g.cpu.a, g.cpu.x, h, g.cpu.sp, below_65536 _)

  branch : (op : Operation) → Widths (cond (effect_of op k o).taken o.cpu (onward o.cpu)) × Unit {0}
  branch op = (either (effect_of op k o).taken _ _ kept (past_y g.cpu.y), tt)

  pub made : (op : Operation) → Ready (effect_of op k o)
  unfolding effect_of
  made nop = plain
  made sleep = plain
  made stop = plain
  made or_a = into_a (or_byte g.cpu.a g.low)
  made and_a = into_a (and_byte _ g.cpu.a)
  made eor_a = into_a (xor_byte g.cpu.a g.low)
  made cmp_a = plain
  made adc_a = into_a (below_256 _)
  made sbc_a = into_a (below_256 _)
  made or_m = to_byte (or_byte g.high g.low)
  made and_m = to_byte (and_byte _ g.high)
  made eor_m = to_byte (xor_byte g.high g.low)
  made cmp_m = plain
  made adc_m = to_byte (below_256 _)
  made sbc_m = to_byte (below_256 _)
  made cmp_x = plain
  made cmp_y = plain
  made asl_a = into_a (below_256 _)
  made rol_a = into_a (below_256 _)
  made lsr_a = into_a (right_byte o.cpu.a false g.cpu.a)
  made ror_a = into_a (right_byte o.cpu.a o.cpu.psw.c g.cpu.a)
  made dec_a = into_a (below_256 _)
  made inc_a = into_a (below_256 _)
  made asl_m = to_byte (below_256 _)
  made rol_m = to_byte (below_256 _)
  made lsr_m = to_byte (right_byte o.low false g.low)
  made ror_m = to_byte (right_byte o.low o.cpu.psw.c g.low)
  made dec_m = to_byte (below_256 _)
  made inc_m = to_byte (below_256 _)
  made dec_x = into_x (below_256 _)
  made inc_x = into_x (below_256 _)
  made dec_y = into_y (below_256 _)
  made inc_y = into_y (below_256 _)
  made load_a = into_a g.low
  made load_x = into_x g.low
  made load_y = into_y g.low
  made load_ainc = ((g.low, below_256 _, g.cpu.y, g.cpu.sp, g.cpu.pc), tt)
  made store_a = to_byte g.cpu.a
  made store_x = to_byte g.cpu.x
  made store_y = to_byte g.cpu.y
  made store_ainc = ((g.cpu.a, below_256 _, g.cpu.y, g.cpu.sp, g.cpu.pc), (g.at, g.cpu.a))
  made store_byte = to_byte g.low
  made mov_ax = into_a g.cpu.x
  made mov_ay = into_a g.cpu.y
  made mov_xa = into_x g.cpu.a
  made mov_ya = into_y g.cpu.a
  made mov_xsp = into_x g.cpu.sp
  made mov_spx = ((g.cpu.a, g.cpu.x, g.cpu.y, g.cpu.x, g.cpu.pc), tt)
  made load_ya = into_ya g.low g.high
  made store_ya = to_word g.cpu.a g.cpu.y
  made addw = into_ya (below_256 _) (below_256 _)
  made subw = into_ya (below_256 _) (below_256 _)
  made cmpw = plain
  made incw = to_word (below_256 _) (high_byte _)
  made decw = to_word (below_256 _) (high_byte _)
  made mul = into_ya (below_256 _) (mul_high o.cpu.y o.cpu.a g.cpu.y g.cpu.a)
  made div = (div_widths o.cpu kept, tt)
  made daa = (daa_widths o.cpu kept, tt)
  made das = (das_widths o.cpu kept, tt)
  made xcn = into_a (exchanged o.cpu.a g.cpu.a)
  made tset1 = to_byte (or_byte g.low g.cpu.a)
  made tclr1 = to_byte (and_byte _ g.low)
  made set1 = to_byte (with_bit_lem true (bit_in_lem k b) g.low)
  made clr1 = to_byte (with_bit_lem false (bit_in_lem k b) g.low)
  made and1 = plain
  made and1_n = plain
  made or1 = plain
  made or1_n = plain
  made eor1 = plain
  made not1 = to_byte (xor_byte g.low g.high)
  made load_c = plain
  made store_c = to_byte (with_bit_lem o.cpu.psw.c g.high g.low)
  made clrc = plain
  made setc = plain
  made notc = plain
  made clrv = plain
  made clrp = plain
  made setp = plain
  made ei = plain
  made di = plain
  made bpl = branch bpl
  made bmi = branch bmi
  made bvc = branch bvc
  made bvs = branch bvs
  made bcc = branch bcc
  made bcs = branch bcs
  made bne = branch bne
  made beq = branch beq
  made bra = branch bra
  made bbs = branch bbs
  made bbc = branch bbc
  made cbne = branch cbne
  made dbnz_m = ((branch dbnz_m).0, (g.at, below_256 _))
  made dbnz_y = (either (effect_of dbnz_y k o).taken _ _ (with-y (below_256 _)) (past_y (below_256 _)), tt)
  made jmp = jump
  made call = (kept, g.at)
  made reti = jump
  made brk = (kept, (status_byte o.cpu.psw, g.at))
  made push_a = (kept, g.cpu.a)
  made push_x = (kept, g.cpu.x)
  made push_y = (kept, g.cpu.y)
  made push_psw = (kept, status_byte o.cpu.psw)
  made pop_a = into_a g.low
  made pop_x = into_x g.low
  made pop_y = into_y g.low
  made pop_psw = plain
