-- What the code of a column has read is what the table says of its rows: a law for each way in which an arm names opcodes, computed over
-- the table at its use. What a law asks of the opcode stands last, so that `search` finds it among the facts of the arm.
-- Assumes nothing.
use Prim.Native.Nat.{ℕ, ◌<◌, ◌≤◌}
use mathlib.Core.Path.{◌≡◌}
use mathlib.Core.Bool.{Bool, true, false, cond, not, ◌&&◌, ◌||◌}
use mathlib.Core.List.{List}
use lib.Bits.{bit_and}
use lib.Dec.{T, eqb, ltb, eqb_refl, eqb→eq}
use borrow.Author.Tests.{lt-ltb, le-ltb}
use mir.Facts.{yes_and}
use mir.Syntax.{w8}
use mir.Val.{Fits, has_key}
use types.Run.{OneOf}
use Rattle.laws.specs.Below.{below}
use Rattle.laws.specs.Dispatch.{NoneIn, has_in, held, none_then}
use Rattle.laws.specs.Table.{table_of, where_same}
use Rattle.memory.specs.World.{World}
use Rattle.memory.specs.Access.{Access, Outcome, Does, then}
use Rattle.processor.specs.declared.Processor.{Processor}
use Rattle.editions.specs.declared.Edition.{Edition}
use Rattle.modes.specs.declared.Addressed.{Addressed}
use Rattle.instructions.specs.Rows.{Mode, row_of}
use Rattle.instructions.specs.Rows.Mode.{implied}
use Rattle.instructions.specs.Gather.{target, loaded, gather_of}
use Rattle.instructions.specs.declared.Operands.{Operands}
use Rattle.gather.specs.Columns.{store_row, placed}

-- every opcode that passes p has the mode that m gives it
abbrev pub AllHave : (ℕ → Bool) → (ℕ → Mode) → Type 0
AllHave p m = table_of 256 (λ k. cond (p k) (row_of k).mode implied) ≡ table_of 256 (λ k. cond (p k) (m k) implied)

has_mode : (p : ℕ → Bool) (m : ℕ → Mode) → AllHave p m → {k : ℕ} → Fits w8 k → T (p k) → (row_of k).mode ≡ m k
has_mode p m e {k} h t = where_same 256 p implied (λ k. (row_of k).mode) m e k h.fits t

-- what was read by a row's mode was read by the row
by_mode : {m : Mode} (edition : Edition) (k : ℕ) (cpu : Processor) {w : World} {o : Outcome World Operands}
    → (row_of k).mode ≡ m → Does (gather_of edition m k cpu) w o → Does (gather_of edition (row_of k).mode k cpu) w o
by_mode edition k cpu e does = rw e does

-- an opcode of a column
abbrev pub in_column : ℕ → ℕ → Bool
in_column c k = eqb (bit_and k 31) c

within : (c k : ℕ) → bit_and k 31 ≡ c → T (in_column c k)
within c k e = rw e (eqb_refl c)

-- the column that no arm names
pub left_over : (columns : List (List ℕ)) (c : ℕ) → T (below 256 (λ k. has_in columns (bit_and k 31) || in_column c k)) →
    {k : ℕ} → Fits w8 k → NoneIn columns (bit_and k 31) → bit_and k 31 ≡ c
left_over columns c t {k} h none = eqb→eq _ _ (none_then 256 (in_column c) (λ k. bit_and k 31) columns k h.fits none t)

-- ---- rows that have one mode

-- a whole column
pub column : (c : ℕ) (m : Mode) → AllHave (in_column c) (λ k. m)
    → (edition : Edition) (k : ℕ) (cpu : Processor) {w : World} {o : Outcome World Operands} → Fits w8 k → bit_and k 31 ≡ c
    → Does (gather_of edition m k cpu) w o → Does (gather_of edition (row_of k).mode k cpu) w o
column c m e edition k cpu h here = by_mode edition k cpu (has_mode (in_column c) (λ k. m) e h (within c k here))

-- opcodes named in a column's arm
pub opcodes : (js : List ℕ) (m : Mode) → AllHave (has_key js) (λ k. m)
    → (edition : Edition) (k : ℕ) (cpu : Processor) {w : World} {o : Outcome World Operands} → Fits w8 k → OneOf js k
    → Does (gather_of edition m k cpu) w o → Does (gather_of edition (row_of k).mode k cpu) w o
opcodes js m e edition k cpu h one = by_mode edition k cpu (has_mode (has_key js) (λ k. m) e h (held js k one))

-- the others of the column
pub others : (c : ℕ) (kss : List (List ℕ)) (m : Mode) → AllHave (λ k. in_column c k && not (has_in kss k)) (λ k. m)
    → T (below 256 (λ k. has_in kss k || not (has_in kss k)))
    → (edition : Edition) (k : ℕ) (cpu : Processor) {w : World} {o : Outcome World Operands} → Fits w8 k → bit_and k 31 ≡ c → NoneIn kss k
    → Does (gather_of edition m k cpu) w o → Does (gather_of edition (row_of k).mode k cpu) w o
others c kss m e t edition k cpu h here none =
    by_mode edition k cpu
    (has_mode (λ k. in_column c k && not (has_in kss k)) (λ k. m) e h
    (yes_and (in_column c k) (not (has_in kss k)) (within c k here) (none_then 256 (λ k. not (has_in kss k)) (λ k. k) kss k h.fits none t)))

-- the rows of a column above those of MOV
pub first_six : (c : ℕ) (m : Mode) → AllHave (λ k. in_column c k && ltb k 192) (λ k. m)
    → (edition : Edition) (k : ℕ) (cpu : Processor) {w : World} {o : Outcome World Operands} → Fits w8 k → bit_and k 31 ≡ c → k < 192
    → Does (gather_of edition m k cpu) w o → Does (gather_of edition (row_of k).mode k cpu) w o
first_six c m e edition k cpu h here less =
    by_mode edition k cpu
    (has_mode (λ k. in_column c k && ltb k 192) (λ k. m) e h
    (yes_and (in_column c k) (ltb k 192) (within c k here) (rw (lt-ltb k 192 less) tt)))

-- ---- rows of which one stores: there the mode finds an address alone, in every other row the byte at it

-- a way to find an address, and its two modes
pub record Place : Type 0 where
  pub find : Edition → Processor → Access Addressed
  pub to : Mode
  pub from : Mode
  pub stores : (edition : Edition) (k : ℕ) (cpu : Processor) → gather_of edition to k cpu ≡ then (find edition cpu) target
  pub loads : (edition : Edition) (k : ℕ) (cpu : Processor) → gather_of edition from k cpu ≡ then (find edition cpu) loaded

-- the mode that a row of it has
abbrev pub mode_of : Place → ℕ → Mode
mode_of place k = cond (store_row k) place.to place.from

by_row : (place : Place) (b : Bool) (edition : Edition) (k : ℕ) (cpu : Processor)
    → gather_of edition (cond b place.to place.from) k cpu ≡ then (place.find edition cpu) (λ found. cond b (target found) (loaded found))
by_row place true edition k cpu = place.stores edition k cpu
by_row place false edition k cpu = place.loads edition k cpu

-- opcodes that pass q
by_table : (q : ℕ → Bool) (place : Place) → AllHave q (mode_of place)
    → (edition : Edition) (k : ℕ) (cpu : Processor) {w : World} {o : Outcome World Operands} → Fits w8 k → T (q k)
    → Does (then (place.find edition cpu) (placed k)) w o → Does (gather_of edition (row_of k).mode k cpu) w o
by_table q place e edition k cpu h t does = by_mode edition k cpu (has_mode q (mode_of place) e h t) (rw (by_row place (store_row k) edition k cpu) does)

-- a whole column
pub places : (c : ℕ) (place : Place) → AllHave (in_column c) (mode_of place)
    → (edition : Edition) (k : ℕ) (cpu : Processor) {w : World} {o : Outcome World Operands} → Fits w8 k → bit_and k 31 ≡ c
    → Does (then (place.find edition cpu) (placed k)) w o → Does (gather_of edition (row_of k).mode k cpu) w o
places c place e edition k cpu h here = by_table (in_column c) place e edition k cpu h (within c k here)

-- the last two rows of a column, a store and a load
pub last_two : (c : ℕ) (place : Place) → AllHave (λ k. in_column c k && not (ltb k 192)) (mode_of place)
    → (edition : Edition) (k : ℕ) (cpu : Processor) {w : World} {o : Outcome World Operands} → Fits w8 k → bit_and k 31 ≡ c → 192 ≤ k
    → Does (then (place.find edition cpu) (placed k)) w o → Does (gather_of edition (row_of k).mode k cpu) w o
last_two c place e edition k cpu h here more =
    by_table (λ k. in_column c k && not (ltb k 192)) place e edition k cpu h
    (yes_and (in_column c k) (not (ltb k 192)) (within c k here) (rw (le-ltb k 192 more) tt))
