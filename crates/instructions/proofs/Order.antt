-- A step reads first: its mode only reads, and its effect stores nothing or takes no branch, which one computed test over the table shows
-- of every opcode but DBNZ d,rel.
-- Assumes nothing.
use Prim.Native.Nat.{ℕ, ◌<◌}
use mathlib.Core.Path.{◌≡◌, refl}
use mathlib.Core.Bool.{Bool, true, false, not, ◌||◌}
use mathlib.Core.List.{[], ◌∷◌}
use lib.Dec.{T}
use Rattle.laws.specs.Dispatch.{none_then}
use Rattle.memory.specs.Access.{Access, then}
use Rattle.memory.specs.Access.Access.{done, read_at, store_at}
use Rattle.memory.specs.Words.{read_word}
use Rattle.processor.specs.declared.Processor.{Processor}
use Rattle.editions.specs.declared.Edition.{Edition}
use Rattle.modes.specs.Addresses.{onward}
use Rattle.modes.specs.Branches.{branched}
use Rattle.modes.specs.Modes as mode
use Rattle.modes.specs.Stack.{push, push_word, pull, pull_word, called}
use Rattle.instructions.specs.Rows.{Mode, rows, row_of}
use Rattle.instructions.specs.Rows.Mode.{implied, immediate, direct, direct_x, direct_y, absolute, absolute_x, absolute_y, at_x, pointer_x, pointer_y, to_direct, to_direct_x, to_direct_y, to_absolute, to_absolute_x, to_absolute_y, to_x, to_pointer_x, to_pointer_y, direct_direct, direct_immediate, at_x_at_y, direct_to_direct, immediate_to_direct, direct_word, to_direct_word, memory_bit, word, word_at_x, upper_page, table_vector, break_vector, pulled, pulled_word, pulled_three}
use Rattle.instructions.specs.Gather.{loaded, both_loaded, source_loaded, vector, gather_of}
use Rattle.instructions.specs.Effects.{effect, effect_of}
use Rattle.instructions.specs.Step.{commit_of, branch_of, read_for, made_of, finish_of}
use Rattle.instructions.specs.Order.{ReadsFirst, after_opcode}
use Rattle.instructions.specs.declared.Effect.{Effect}
use Rattle.instructions.specs.declared.Operands.{Operands}
use Rattle.instructions.specs.declared.Stores.{Stores}
use Rattle.instructions.specs.declared.Stores.TheVariants.{Nothing, Byte, Word, Push, Call, Break}

-- ---- what a mode reads

-- nothing is stored, and the result passes
abbrev pub OnlyReads : {R : Type 0} → (R → Type 0) → Access R → Type 0
OnlyReads P (done x) = P x
OnlyReads P (read_at a p) = (byte : ℕ) → OnlyReads P (p byte)
OnlyReads P (store_at a byte p) = ⊥

-- Reads alone, and then what reads first by what they gave, read first.
reads_then : {Q R S : Type 0} (P : Q → Type 0) (p : Access Q) (g : Q → S) (k : S → Access R) → OnlyReads P p
    → ((x : Q) → ReadsFirst (k (g x))) → ReadsFirst (then (then p (λ x. done (g x))) k)
unfolding then
reads_then P (done x) g k h f = f x
reads_then P (read_at a p) g k h f = λ byte. reads_then P (p byte) g k (h byte) f
reads_then P (store_at a byte p) g k h f = absurd h

-- Every mode only reads, a λ for each byte that it reads, and leaves the record's state as it was.
pub mode_reads : (edition : Edition) (m : Mode) (opcode : ℕ) (cpu : Processor)
    → OnlyReads (λ (o : Operands). o.cpu.state ≡ cpu.state) (gather_of edition m opcode cpu)
unfolding gather_of loaded both_loaded source_loaded vector read_word pull pull_word mode.fetch mode.fetch_word mode.direct mode.direct_word mode.pointed mode.pointer_x mode.pointer_y mode.absolute mode.absolute_pointer mode.bit_operand then
mode_reads edition implied opcode cpu = refl
mode_reads edition immediate opcode cpu = λ _. refl
mode_reads edition direct opcode cpu = λ _ _. refl
mode_reads edition direct_x opcode cpu = λ _ _. refl
mode_reads edition direct_y opcode cpu = λ _ _. refl
mode_reads edition absolute opcode cpu = λ _ _ _. refl
mode_reads edition absolute_x opcode cpu = λ _ _ _. refl
mode_reads edition absolute_y opcode cpu = λ _ _ _. refl
mode_reads edition at_x opcode cpu = λ _. refl
mode_reads edition pointer_x opcode cpu = λ _ _ _ _. refl
mode_reads edition pointer_y opcode cpu = λ _ _ _ _. refl
mode_reads edition to_direct opcode cpu = λ _. refl
mode_reads edition to_direct_x opcode cpu = λ _. refl
mode_reads edition to_direct_y opcode cpu = λ _. refl
mode_reads edition to_absolute opcode cpu = λ _ _. refl
mode_reads edition to_absolute_x opcode cpu = λ _ _. refl
mode_reads edition to_absolute_y opcode cpu = λ _ _. refl
mode_reads edition to_x opcode cpu = refl
mode_reads edition to_pointer_x opcode cpu = λ _ _ _. refl
mode_reads edition to_pointer_y opcode cpu = λ _ _ _. refl
mode_reads edition direct_direct opcode cpu = λ _ _ _ _. refl
mode_reads edition direct_to_direct opcode cpu = λ _ _ _. refl
mode_reads edition direct_immediate opcode cpu = λ _ _ _. refl
mode_reads edition immediate_to_direct opcode cpu = λ _ _. refl
mode_reads edition at_x_at_y opcode cpu = λ _ _. refl
mode_reads edition direct_word opcode cpu = λ _ _ _. refl
mode_reads edition to_direct_word opcode cpu = λ _. refl
mode_reads edition memory_bit opcode cpu = λ _ _ _. refl
mode_reads edition word opcode cpu = λ _ _. refl
mode_reads edition word_at_x opcode cpu = λ _ _ _ _. refl
mode_reads edition upper_page opcode cpu = λ _. refl
mode_reads edition table_vector opcode cpu = λ _ _. refl
mode_reads edition break_vector opcode cpu = λ _ _. refl
mode_reads edition pulled opcode cpu = λ _. refl
mode_reads edition pulled_word opcode cpu = λ _ _. refl
mode_reads edition pulled_three opcode cpu = λ _ _ _. refl

-- ---- the stores, and then the displacement

stores_nothing : Stores → Bool
stores_nothing Nothing = true
stores_nothing (Byte at byte) = false
stores_nothing (Word at low next high) = false
stores_nothing (Push byte) = false
stores_nothing (Call target) = false
stores_nothing (Break byte target) = false

-- an effect that stores nothing or takes no branch
abbrev not_both : Effect → Bool
not_both e = stores_nothing e.stores || not e.taken

-- Such an effect reads its displacement, or stores, or neither.
finish_reads_first : (cpu : Processor) (s : Stores) (taken : Bool) → T (not_both (effect cpu s taken))
    → ReadsFirst (finish_of (effect cpu s taken))
unfolding finish_of commit_of branch_of branched mode.fetch push push_word called stores_nothing then
finish_reads_first cpu Nothing true t = λ _. tt
finish_reads_first cpu Nothing false t = tt
finish_reads_first cpu (Byte at byte) false t = tt
finish_reads_first cpu (Word at low next high) false t = tt
finish_reads_first cpu (Push byte) false t = tt
finish_reads_first cpu (Call target) false t = tt
finish_reads_first cpu (Break byte target) false t = tt
finish_reads_first cpu (Byte at byte) true t = absurd t
finish_reads_first cpu (Word at low next high) true t = absurd t
finish_reads_first cpu (Push byte) true t = absurd t
finish_reads_first cpu (Call target) true t = absurd t
finish_reads_first cpu (Break byte target) true t = absurd t

-- ---- the table

-- Every row but DBNZ d,rel has such an effect.
row_not_both : (opcode : ℕ) → opcode < 256 → (opcode ≡ 0x6E → ⊥) → (o : Operands) → T (not_both (effect_of (row_of opcode).operation opcode o))
unfolding rows effect_of stores_nothing
row_not_both opcode h other o =
    none_then 256 (λ k. not_both (effect_of (row_of k).operation k o)) (λ k. k) ((0x6E ∷ []) ∷ []) opcode h (tt, other) tt

-- What follows an opcode in a step reads first, but for DBNZ d,rel.
pub reads_first : (edition : Edition) (cpu : Processor) (opcode : ℕ) → opcode < 256 → (opcode ≡ 0x6E → ⊥)
    → ReadsFirst (after_opcode edition cpu opcode)
unfolding read_for
reads_first edition cpu opcode h other =
    reads_then (λ (o : Operands). o.cpu.state ≡ cpu.state)
    (gather_of edition (row_of opcode).mode opcode (onward cpu)) (λ o. record { opcode = opcode; operands = o }) (λ b. finish_of (made_of b))
    (mode_reads edition (row_of opcode).mode opcode (onward cpu))
    (λ o. let e = effect_of (row_of opcode).operation opcode o in finish_reads_first e.cpu e.stores e.taken (row_not_both opcode h other o))
