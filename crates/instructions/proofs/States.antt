-- A step leaves the record's state as it was, but for SLEEP and STOP: no mode, store or branch touches it, and one computed test over the
-- table shows that the rows of the two are the only ones whose operation does.
-- Assumes nothing.
use Prim.Native.Nat.{ℕ, ◌+◌, ◌-◌, ◌*◌, ◌/◌, ◌%◌, ◌<◌}
use mathlib.Core.Path.{◌≡◌, refl, subst, ◌∙◌}
use mathlib.Core.Bool.{Bool, true, false, cond, not, ◌||◌}
use mathlib.Core.Logic.{◌⊎◌, inl, inr, ⊎_elim}
use mathlib.Core.List.{[], ◌∷◌}
use native.Mathlib.Decide.{ℕ_discrete}
use lib.Dec.{T, ltb}
use borrow.Author.Tests.{ne_eqb}
use Rattle.laws.specs.Dispatch.{none_then}
use Rattle.waking.specs.States.{is_awake}
use Rattle.waking.specs.declared.State.{State}
use Rattle.memory.specs.World.{World, byte_at, seen, kept}
use Rattle.memory.specs.Access.{Access, then, perform}
use Rattle.memory.specs.Access.Access.{done, read_at, store_at}
use Rattle.processor.specs.Record.{started, with_y, word_of, produced}
use Rattle.processor.specs.Products.{divided, div_of}
use Rattle.processor.specs.Decimal.{daa_of, das_of}
use Rattle.processor.specs.declared.Processor.{Processor}
use Rattle.editions.specs.declared.Edition.{Edition}
use Rattle.modes.specs.Addresses.{onward}
use Rattle.modes.specs.Branches.{branched}
use Rattle.modes.specs.Modes.{fetch}
use Rattle.modes.specs.Stack.{push, push_word, called}
use Rattle.instructions.specs.Rows.{Operation, rows, row_of}
use Rattle.instructions.specs.Rows.Operation.{nop, sleep, stop, or_a, and_a, eor_a, cmp_a, adc_a, sbc_a, or_m, and_m, eor_m, cmp_m, adc_m, sbc_m, cmp_x, cmp_y, asl_a, rol_a, lsr_a, ror_a, dec_a, inc_a, asl_m, rol_m, lsr_m, ror_m, dec_m, inc_m, dec_x, inc_x, dec_y, inc_y, load_a, load_x, load_y, load_ainc, store_a, store_x, store_y, store_ainc, store_byte, mov_ax, mov_ay, mov_xa, mov_ya, mov_xsp, mov_spx, load_ya, store_ya, addw, subw, cmpw, incw, decw, mul, div, daa, das, xcn, tset1, tclr1, set1, clr1, and1, and1_n, or1, or1_n, eor1, not1, load_c, store_c, clrc, setc, notc, clrv, clrp, setp, ei, di, bpl, bmi, bvc, bvs, bcc, bcs, bne, beq, bra, bbs, bbc, cbne, dbnz_m, dbnz_y, jmp, call, brk, reti, push_a, push_x, push_y, push_psw, pop_a, pop_x, pop_y, pop_psw}
use Rattle.instructions.specs.Gather.{gather_of}
use Rattle.instructions.specs.Effects.{effect_of}
use Rattle.instructions.specs.Step.{commit_of, branch_of, read_for, made_of, finish_of}
use Rattle.instructions.specs.Order.{after_opcode}
use Rattle.instructions.specs.States.{state_after}
use Rattle.instructions.specs.declared.Begun.{Begun}
use Rattle.instructions.specs.declared.Effect.{Effect}
use Rattle.instructions.specs.declared.Operands.{Operands}
use Rattle.instructions.specs.declared.Stores.{Stores}
use Rattle.instructions.specs.declared.Stores.TheVariants.{Nothing, Byte, Word, Push, Call, Break}
use Rattle.instructions.proofs.Order.{OnlyReads, mode_reads}

-- ---- accesses by what they end with

-- whatever is read, the result passes
abbrev pub Ends : {R : Type 0} → (R → Type 0) → Access R → Type 0
Ends P (done x) = P x
Ends P (read_at a p) = (byte : ℕ) → Ends P (p byte)
Ends P (store_at a byte p) = Ends P p

ends_then : {R S : Type 0} (P : S → Type 0) (Q : R → Type 0) (p : Access S) (k : S → Access R)
    → Ends P p → ((x : S) → P x → Ends Q (k x)) → Ends Q (then p k)
unfolding then
ends_then P Q (done x) k h f = f x h
ends_then P Q (read_at a p) k h f = λ byte. ends_then P Q (p byte) k (h byte) f
ends_then P Q (store_at a byte p) k h f = ends_then P Q p k h f

pub ends_performed : {R : Type 0} (P : R → Type 0) (p : Access R) (w : World) → Ends P p → P (perform p w).result
unfolding perform
ends_performed P (done x) w h = h
ends_performed P (read_at a p) w h = ends_performed P (p (byte_at a w)) (seen a w) (h (byte_at a w))
ends_performed P (store_at a byte p) w h = ends_performed P p (kept a byte w) h

only_reads_end : {R : Type 0} (P : R → Type 0) (p : Access R) → OnlyReads P p → Ends P p
only_reads_end P (done x) h = h
only_reads_end P (read_at a p) h = λ byte. only_reads_end P (p byte) (h byte)
only_reads_end P (store_at a byte p) h = absurd h

-- ---- what an operation makes

-- one of two records in one state
either : (t : Bool) (p q : Processor) {s : State} → p.state ≡ s → q.state ≡ s → (cond t p q).state ≡ s
either true p q e f = e
either false p q e f = f

past_or_not : (t : Bool) (cpu : Processor) → (cond t cpu (onward cpu)).state ≡ cpu.state
past_or_not t cpu = either t cpu (onward cpu) refl refl

div_stays : (cpu : Processor) → (div_of cpu).state ≡ cpu.state
div_stays cpu = go (ltb cpu.y (cpu.x * 2)) (word_of cpu.a cpu.y) cpu.x
  where
    go : (t : Bool) (w x : ℕ)
        → (cond t (divided cpu (w / x % 256) (w % x)) (divided cpu (255 - (w - x * 512) / (256 - x)) (x + (w - x * 512) % (256 - x)))).state
        ≡ cpu.state
    go true w x = refl
    go false w x = refl

daa_stays : (cpu : Processor) → (daa_of cpu).state ≡ cpu.state
daa_stays cpu = either (cpu.psw.c || ltb 0x99 cpu.a) _ cpu refl refl

das_stays : (cpu : Processor) → (das_of cpu).state ≡ cpu.state
das_stays cpu = either (not cpu.psw.c || ltb 0x99 cpu.a) _ cpu refl refl

module _ (k : ℕ) (o : Operands) where
  made_stays : (op : Operation) → ((effect_of op k o).cpu.state ≡ o.cpu.state) ⊎ ((op ≡ sleep) ⊎ (op ≡ stop))
  unfolding effect_of
  made_stays nop = inl refl
  made_stays sleep = inr (inl refl)
  made_stays stop = inr (inr refl)
  made_stays or_a = inl refl
  made_stays and_a = inl refl
  made_stays eor_a = inl refl
  made_stays cmp_a = inl refl
  made_stays adc_a = inl refl
  made_stays sbc_a = inl refl
  made_stays or_m = inl refl
  made_stays and_m = inl refl
  made_stays eor_m = inl refl
  made_stays cmp_m = inl refl
  made_stays adc_m = inl refl
  made_stays sbc_m = inl refl
  made_stays cmp_x = inl refl
  made_stays cmp_y = inl refl
  made_stays asl_a = inl refl
  made_stays rol_a = inl refl
  made_stays lsr_a = inl refl
  made_stays ror_a = inl refl
  made_stays dec_a = inl refl
  made_stays inc_a = inl refl
  made_stays asl_m = inl refl
  made_stays rol_m = inl refl
  made_stays lsr_m = inl refl
  made_stays ror_m = inl refl
  made_stays dec_m = inl refl
  made_stays inc_m = inl refl
  made_stays dec_x = inl refl
  made_stays inc_x = inl refl
  made_stays dec_y = inl refl
  made_stays inc_y = inl refl
  made_stays load_a = inl refl
  made_stays load_x = inl refl
  made_stays load_y = inl refl
  made_stays load_ainc = inl refl
  made_stays store_a = inl refl
  made_stays store_x = inl refl
  made_stays store_y = inl refl
  made_stays store_ainc = inl refl
  made_stays store_byte = inl refl
  made_stays mov_ax = inl refl
  made_stays mov_ay = inl refl
  made_stays mov_xa = inl refl
  made_stays mov_ya = inl refl
  made_stays mov_xsp = inl refl
  made_stays mov_spx = inl refl
  made_stays load_ya = inl refl
  made_stays store_ya = inl refl
  made_stays addw = inl refl
  made_stays subw = inl refl
  made_stays cmpw = inl refl
  made_stays incw = inl refl
  made_stays decw = inl refl
  made_stays mul = inl refl
  made_stays div = inl (div_stays o.cpu)
  made_stays daa = inl (daa_stays o.cpu)
  made_stays das = inl (das_stays o.cpu)
  made_stays xcn = inl refl
  made_stays tset1 = inl refl
  made_stays tclr1 = inl refl
  made_stays set1 = inl refl
  made_stays clr1 = inl refl
  made_stays and1 = inl refl
  made_stays and1_n = inl refl
  made_stays or1 = inl refl
  made_stays or1_n = inl refl
  made_stays eor1 = inl refl
  made_stays not1 = inl refl
  made_stays load_c = inl refl
  made_stays store_c = inl refl
  made_stays clrc = inl refl
  made_stays setc = inl refl
  made_stays notc = inl refl
  made_stays clrv = inl refl
  made_stays clrp = inl refl
  made_stays setp = inl refl
  made_stays ei = inl refl
  made_stays di = inl refl
  made_stays bpl = inl (past_or_not (effect_of bpl k o).taken o.cpu)
  made_stays bmi = inl (past_or_not (effect_of bmi k o).taken o.cpu)
  made_stays bvc = inl (past_or_not (effect_of bvc k o).taken o.cpu)
  made_stays bvs = inl (past_or_not (effect_of bvs k o).taken o.cpu)
  made_stays bcc = inl (past_or_not (effect_of bcc k o).taken o.cpu)
  made_stays bcs = inl (past_or_not (effect_of bcs k o).taken o.cpu)
  made_stays bne = inl (past_or_not (effect_of bne k o).taken o.cpu)
  made_stays beq = inl (past_or_not (effect_of beq k o).taken o.cpu)
  made_stays bra = inl (past_or_not (effect_of bra k o).taken o.cpu)
  made_stays bbs = inl (past_or_not (effect_of bbs k o).taken o.cpu)
  made_stays bbc = inl (past_or_not (effect_of bbc k o).taken o.cpu)
  made_stays cbne = inl (past_or_not (effect_of cbne k o).taken o.cpu)
  made_stays dbnz_m = inl (past_or_not (effect_of dbnz_m k o).taken o.cpu)
  made_stays dbnz_y = inl (past_or_not (effect_of dbnz_y k o).taken (with_y _ o.cpu))
  made_stays jmp = inl refl
  made_stays call = inl refl
  made_stays brk = inl refl
  made_stays reti = inl refl
  made_stays push_a = inl refl
  made_stays push_x = inl refl
  made_stays push_y = inl refl
  made_stays push_psw = inl refl
  made_stays pop_a = inl refl
  made_stays pop_x = inl refl
  made_stays pop_y = inl refl
  made_stays pop_psw = inl refl

-- ---- the table

-- operands of a record that is awake
awake : Operands
awake = record { cpu = started; at = 0; next = 0; low = 0; high = 0 }

-- Of every row but those of SLEEP and STOP the operation leaves it awake.
row_awake : (opcode : ℕ) → opcode < 256 → (opcode ≡ 0xEF → ⊥) → (opcode ≡ 0xFF → ⊥)
    → T (is_awake (effect_of (row_of opcode).operation opcode awake).cpu.state)
unfolding rows effect_of awake
row_awake opcode h sleeps stops =
    none_then 256 (λ k. is_awake (effect_of (row_of k).operation k awake).cpu.state) (λ k. k) ((0xFF ∷ []) ∷ (0xEF ∷ []) ∷ []) opcode h
    ((tt, sleeps), stops) tt

-- So it leaves whatever state there was,
row_stays : (opcode : ℕ) → opcode < 256 → (opcode ≡ 0xEF → ⊥) → (opcode ≡ 0xFF → ⊥)
    → (o : Operands) → (effect_of (row_of opcode).operation opcode o).cpu.state ≡ o.cpu.state
unfolding effect_of
row_stays opcode h sleeps stops o =
    let left = row_awake opcode h sleeps stops in
    ⊎_elim (λ e. e) (⊎_elim (λ e. absurd (rw e at left)) (λ e. absurd (rw e at left))) (made_stays opcode o (row_of opcode).operation)

-- and those two leave their own.
row_state : (opcode : ℕ) → opcode < 256 → (o : Operands)
    → (effect_of (row_of opcode).operation opcode o).cpu.state ≡ state_after opcode o.cpu.state
unfolding rows effect_of
row_state opcode h o = go (ℕ_discrete opcode 0xEF) (ℕ_discrete opcode 0xFF)
  where
    go : Dec (opcode ≡ 0xEF) → Dec (opcode ≡ 0xFF)
        → (effect_of (row_of opcode).operation opcode o).cpu.state ≡ state_after opcode o.cpu.state
    go (yes e) d = rw e
    go (no n) (yes e) = rw e
    go (no n) (no m) = rw (ne_eqb _ _ n, ne_eqb _ _ m) (row_stays opcode h n m o)

-- ---- the whole step

-- no store and no branch touches the state
abbrev In : State → Processor → Type 0
In s cpu = cpu.state ≡ s

commit_stays : (s : Stores) (cpu : Processor) → Ends (In cpu.state) (commit_of s cpu)
unfolding commit_of push push_word called then
commit_stays Nothing cpu = refl
commit_stays (Byte at byte) cpu = refl
commit_stays (Word at low next high) cpu = refl
commit_stays (Push byte) cpu = refl
commit_stays (Call target) cpu = refl
commit_stays (Break byte target) cpu = refl

branch_stays : (taken : Bool) (cpu : Processor) → Ends (In cpu.state) (branch_of taken cpu)
unfolding branch_of branched fetch then
branch_stays true cpu = λ byte. refl
branch_stays false cpu = refl

finish_stays : (e : Effect) → Ends (In e.cpu.state) (finish_of e)
unfolding finish_of
finish_stays e =
    ends_then (In e.cpu.state) (In e.cpu.state) (commit_of e.stores e.cpu) (branch_of e.taken) (commit_stays e.stores e.cpu)
    (λ cpu same. subst (λ (s : State). Ends (In s) (branch_of e.taken cpu)) same (branch_stays e.taken cpu))

-- What follows an opcode leaves the state that the opcode says.
module _ (edition : Edition) (cpu : Processor) (opcode : ℕ) (h : opcode < 256) where
  abbrev Gathered : Operands → Type 0
  Gathered o = o.cpu.state ≡ cpu.state

  abbrev Read : Begun → Type 0
  Read b = (b.opcode ≡ opcode) × Gathered b.operands

  read_stays : Ends Read (read_for edition (produced (onward cpu) opcode))
  unfolding read_for
  read_stays =
      let gather = gather_of edition (row_of opcode).mode opcode (onward cpu) in
      ends_then Gathered Read gather (λ o. done (record { opcode = opcode; operands = o }))
      (only_reads_end Gathered gather (mode_reads edition (row_of opcode).mode opcode (onward cpu)))
      (λ o same. (refl, same))

  made_state : (b : Begun) → Read b → (made_of b).cpu.state ≡ state_after opcode cpu.state
  made_state b read =
      row_state b.opcode (rw read.0 h) b.operands ∙ rw (read.0, read.1)

  pub after_opcode_lem : Ends (In (state_after opcode cpu.state)) (after_opcode edition cpu opcode)
  after_opcode_lem =
      ends_then Read (In (state_after opcode cpu.state)) (read_for edition (produced (onward cpu) opcode)) (λ b. finish_of (made_of b)) read_stays
      (λ b read. subst (λ (s : State). Ends (In s) (finish_of (made_of b))) (made_state b read) (finish_stays (made_of b)))
