-- What `search` goes by at an arm of a `match` that has one number: the number picks its operation. A fact that a law asks for is one of its
-- premises, so that it is found by what it says.
-- Assumes nothing.
use Rattle.std.proofs.Common.{◌≡◌, ℕ, zero, suc, ◌<◌, Bool, true, false, not, ◌&&◌, T, eqb, List, [], ◌∷◌, get_or, refl, arith, w8, Fits, eqb-true}
use native.Mathlib.Decide.{ℕ_discrete}
use mir.Facts.{yes_and}
use Rattle.laws.specs.Dispatch.{NoneIn}
use Rattle.instructions.specs.Rows.{Operation, row_of}
use Rattle.instructions.specs.Rows.Operation.{nop}
use Rattle.instructions.specs.Effects.{effect_of}
use Rattle.instructions.specs.declared.Operands.{Operands}
use Rattle.instructions.specs.declared.Effect.{Effect}
use Rattle.effects.proofs.Made.{kinds}

-- the effect of an opcode's row; of a group's operation
abbrev pub row : ℕ → Operands → Effect
row k = effect_of (row_of k).operation k

abbrev pub group : List Operation → ℕ → Operands → Effect
group operations k = effect_of (get_or operations k nop) 0

-- ---- an arm that names its number: the effect is that of the number

pub at_opcode : (k : ℕ) (o : Operands) {n : ℕ} {r : Effect} → k ≡ n → r ≡ row n o → r ≡ row k o
at_opcode k o e f = rw e f

pub at_group : (operations : List Operation) (k : ℕ) (o : Operands) {n : ℕ} {r : Effect}
    → k ≡ n → r ≡ group operations n o → r ≡ group operations k o
at_group operations k o e f = rw e f

-- ---- the last arm, where each other arm names one number

abbrev put : Bool → ℕ → List (List ℕ) → List (List ℕ)
put true k kss = (k ∷ []) ∷ kss
put false k kss = kss

-- the numbers below n that pass p, the highest first
abbrev numbers : (ℕ → Bool) → ℕ → List (List ℕ)
numbers p zero = []
numbers p (suc n) = put (p n) n (numbers p n)

none_left : (p : ℕ → Bool) (n x : ℕ) → x < n → T (p x) → NoneIn (numbers p n) x → ⊥
none_left p zero x h t none = omega arith
none_left p (suc n) x h t none = go (p n) refl none (λ h none. none_left p n x h t none) (ℕ_discrete x n)
  where
    go : (b : Bool) → p n ≡ b → NoneIn (put b n (numbers p n)) x → (x < n → NoneIn (numbers p n) x → ⊥) → Dec (x ≡ n) → ⊥
    go true e none more (yes q) = none.1 q
    go true e none more (no q) = more (omega arith) none.0
    go false e none more (yes q) = rw (q, e) at t
    go false e none more (no q) = more (omega arith) none

-- the numbers of the other arms
abbrev pub other_than : ℕ → (ℕ → Bool) → ℕ → List (List ℕ)
other_than last p n = numbers (λ k. p k && not (eqb k last)) n

-- a number that passes p, and is none of the others that do, is the one left
the_last : (last : ℕ) (p : ℕ → Bool) (n x : ℕ) → x < n → T (p x) → NoneIn (other_than last p n) x → x ≡ last
the_last last p n x h t none = go (eqb x last) refl
  where
    go : (b : Bool) → eqb x last ≡ b → x ≡ last
    go true e = eqb-true x last e
    go false e =
        absurd (none_left (λ k. p k && not (eqb k last)) n x h (yes_and (p x) (not (eqb x last)) t (rw e tt)) none)

-- so the effect is that of the one left: among the opcodes that pass p; among the groups
pub last_opcode : (last : ℕ) (p : ℕ → Bool) (k : ℕ) (o : Operands) {r : Effect}
    → Fits w8 k → T (p k) → NoneIn (other_than last p 256) k → r ≡ row last o → r ≡ row k o
last_opcode last p k o h t none f = rw (the_last last p 256 k h.fits t none) f

pub last_group : (operations : List Operation) (k : ℕ) (o : Operands) {r : Effect}
    → k < 8 → NoneIn (other_than 7 (λ j. true) 8) k → r ≡ group operations 7 o → r ≡ group operations k o
last_group operations k o h none f = rw (the_last 7 (λ j. true) 8 k h tt none) f

-- An arm that names one number is proved by `search arms`; the last one by `last_opcode` or `last_group` besides.
pub ruleset arms = (at_opcode, at_group, kinds)
