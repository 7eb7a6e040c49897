-- What a `match` on an opcode's low five bits says of the opcode's row: a law for each way in which an arm names them, computed over the
-- table at its use. What a law asks of the opcode stands last, so that `search` finds it among the facts of the arm.
-- Assumes nothing.
use Rattle.std.proofs.Common.{◌≡◌, ℕ, ◌<◌, ◌≤◌, Bool, true, false, cond, not, ◌&&◌, ◌||◌, T, ltb, leb, List, [], ◌∷◌, arith, le→leb, lt→ltb, w8, Fits}
use lib.Bits.{bit_and, and_le_r}
use mir.Facts.{yes_and}
use mir.Val.{has_key}
use types.Run.{OneOf, hit}
use Rattle.laws.specs.Below.{below, below_at}
use Rattle.laws.specs.Dispatch.{when, NoneIn, has_in, held}
use Rattle.laws.specs.Table.{table_of, where_same}
use Rattle.instructions.specs.Rows.Operation.{nop}
use Rattle.instructions.specs.Effects.{effect_of}
use Rattle.instructions.specs.declared.Operands.{Operands}
use Rattle.instructions.specs.declared.Effect.{Effect}
use Rattle.effects.proofs.Arms.{row}

-- ---- the ways

-- an arm names ks
abbrev pub named : List ℕ → ℕ → Bool
named ks k = has_key ks (bit_and k 31)

-- what no arm names, from `least` on below `most`
abbrev pub left : List (List ℕ) → ℕ → ℕ → ℕ → Bool
left kss least most k = not (has_in kss (bit_and k 31)) && (leb least (bit_and k 31) && ltb (bit_and k 31) most)

has_none : (kss : List (List ℕ)) (x : ℕ) → NoneIn kss x → T (not (has_in kss x))
has_none [] x none = tt
has_none (ks ∷ kss) x none = neither (has_key ks x) (has_in kss x) (λ t. none.1 (hit ks x t)) (has_none kss x none.0)
  where
    neither : (a b : Bool) → (T a → ⊥) → T (not b) → T (not (a || b))
    neither true b f t = absurd (f tt)
    neither false b f t = t

is_left : (kss : List (List ℕ)) (least most k : ℕ)
    → NoneIn kss (bit_and k 31) → least ≤ bit_and k 31 → bit_and k 31 < most → T (left kss least most k)
is_left kss least most k none l m =
    let x = bit_and k 31 in
    yes_and (not (has_in kss x)) (leb least x && ltb x most) (has_none kss x none)
    (yes_and (leb least x) (ltb x most) (le→leb least x l) (lt→ltb x most m))

-- the low five bits are below 32: the end of the last range
pub low_five : (k : ℕ) → bit_and k 31 < 32
low_five k = omega (arith, and_le_r k 31)

-- ---- the effect of the row

-- every opcode that passes p has the effect g
abbrev pub AllHave : (ℕ → Bool) → (ℕ → Operands → Effect) → Type 0
AllHave p g = table_of 256 (λ k. cond (p k) (g k) (effect_of nop 0)) ≡ table_of 256 (λ k. cond (p k) (row k) (effect_of nop 0))

-- what has that effect has the row's
by_row : (p : ℕ → Bool) (g : ℕ → Operands → Effect) → AllHave p g → (k : ℕ) (o : Operands) {r : Effect}
    → Fits w8 k → T (p k) → r ≡ g k o → r ≡ row k o
by_row p g e k o h t f = rw (← where_same 256 p (effect_of nop 0) g row e k h.fits t) f

-- where an arm names the bits; where they are left in a range
pub named_row : (ks : List ℕ) (g : ℕ → Operands → Effect) → AllHave (named ks) g → (k : ℕ) (o : Operands) {r : Effect}
    → Fits w8 k → OneOf ks (bit_and k 31) → r ≡ g k o → r ≡ row k o
named_row ks g e k o h one = by_row (named ks) g e k o h (held ks (bit_and k 31) one)

pub left_row : (kss : List (List ℕ)) (least most : ℕ) (g : ℕ → Operands → Effect) → AllHave (left kss least most) g
    → (k : ℕ) (o : Operands) {r : Effect}
    → Fits w8 k → NoneIn kss (bit_and k 31) → least ≤ bit_and k 31 → bit_and k 31 < most → r ≡ g k o → r ≡ row k o
left_row kss least most g e k o h none l m = by_row (left kss least most) g e k o h (is_left kss least most k none l m)

-- ---- a test that the opcode passes

-- every opcode that passes p passes q
abbrev pub AllPass : (ℕ → Bool) → (ℕ → Bool) → Type 0
AllPass p q = T (below 256 (λ k. when (p k) (q k)))

-- what passes p passes q
by_test : (p q : ℕ → Bool) → AllPass p q → (k : ℕ) → Fits w8 k → T (p k) → T (q k)
by_test p q e k h = met (p k) (q k) (below_at 256 (λ k. when (p k) (q k)) e k h.fits)
  where
    met : (a b : Bool) → T (when a b) → T a → T b
    met true b t s = t
    met false b t s = absurd s

-- where an arm names the bits; where they are left in a range
pub named_test : (ks : List ℕ) (q : ℕ → Bool) → AllPass (named ks) q → (k : ℕ) → Fits w8 k → OneOf ks (bit_and k 31) → T (q k)
named_test ks q e k h one = by_test (named ks) q e k h (held ks (bit_and k 31) one)

pub left_test : (kss : List (List ℕ)) (least most : ℕ) (q : ℕ → Bool) → AllPass (left kss least most) q
    → (k : ℕ) → Fits w8 k → NoneIn kss (bit_and k 31) → least ≤ bit_and k 31 → bit_and k 31 < most → T (q k)
left_test kss least most q e k h none l m = by_test (left kss least most) q e k h (is_left kss least most k none l m)
