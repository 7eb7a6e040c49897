-- What holds of unnamed bytes and of files with their defaults: for the theorems, and for the code, which goes by their stretches.
-- Assumes nothing.
use Rattle.std.specs.Prelude.{ℕ, zero, suc, ◌+◌, ◌-◌, ◌<◌, ◌≤◌, ◌≡◌, refl, Bool, cond, length, get_or, set, take, leb}
use Rattle.std.proofs.Common.{sym, ap, ◌∙◌, zero-add, add-zero, suc-add, add-suc, arith, length-take, ext_get_or, get_or-take, le-leb}
use Rattle.std.proofs.Math.Bool.{true, false}
use mathlib.Core.List.{List, [], ◌∷◌, List-discrete}
use Rattle.std.proofs.Math.Logic.{if_pos, if_neg}
use Rattle.std.proofs.Math.Decide.{ℕ_discrete, dec_le}
use Rattle.std.proofs.lemmas.Bool.{lt-leb}
use Rattle.std.proofs.lemmas.Bool.Decides.{nat_tests}
use Rattle.conversion.specs.Unnamed.{Place, named, unnamed, first_four, place_at, Unnamed}
use Rattle.conversion.specs.Unnamed.{or_default, defaults_from, with_defaults, all_default, EachDefault}

-- ---- unnamed bytes

-- What holds of both places that a test picks from holds of the one it picks.
picked : (P : Place → Type 0) (at last : ℕ) {first second : Place} → (at ≤ last → P first) → (last < at → P second)
    → P (cond (leb at last) first second)
picked P at last a b = elim (dec_le at last) [ yes h ↦ rw (le-leb _ _ h) (a h) | no n ↦ rw (lt-leb at last (omega arith)) (b (omega arith)) ]

-- What holds in each of the six stretches holds at every offset.
pub each_stretch : (P : Place → Type 0) (at : ℕ)
    → (at ≤ 32 → P named)
    → (33 ≤ at → at ≤ 36 → P (unnamed (get_or first_four (at - 33) 0)))
    → (37 ≤ at → at ≤ 43 → P named)
    → (44 ≤ at → at ≤ 255 → P (unnamed 0))
    → (256 ≤ at → at ≤ 65791 → P named)
    → (65792 ≤ at → P (unnamed 0))
    → P (place_at at)
unfolding place_at
each_stretch P at signature four registers zeros memory last =
    picked P at 32 signature (λ a. picked P at 36 (four a) (λ b. picked P at 43 (registers b) (λ c.
    picked P at 255 (zeros c) (λ d. picked P at 65791 (memory d) last))))

-- Where none of the three stretches of unnamed bytes is, there is a name.
pub named_at : (at : ℕ) → (33 ≤ at → at ≤ 36 → ⊥) → (44 ≤ at → at ≤ 255 → ⊥) → (65792 ≤ at → ⊥) → place_at at ≡ named
unfolding place_at
named_at at four zeros last = grind (arith, nat_tests)

-- Outside of signature, record and memory a byte is unnamed.
pub unnamed_at : (at : ℕ) → (at ≤ 32 → ⊥) → (37 ≤ at → at ≤ 43 → ⊥) → (256 ≤ at → at ≤ 65791 → ⊥) → Unnamed (place_at at)
unnamed_at at signature registers memory =
    each_stretch Unnamed at
    (λ a. absurd (signature a))
    (λ a b. record { default = _; is = refl })
    (λ a b. absurd (registers a b))
    (λ a b. record { default = 0; is = refl })
    (λ a b. absurd (memory a b))
    (λ a. record { default = 0; is = refl })

pub not_both : {default : ℕ} → named ≡ unnamed default → ⊥
not_both e = cc

-- ---- a file with its defaults

pub length_defaults : (from : ℕ) (file : List ℕ) → length (defaults_from from file) ≡ length file
unfolding defaults_from
length_defaults from [] = refl
length_defaults from (x ∷ xs) = ap suc (length_defaults (suc from) xs)

defaulted : (from : ℕ) (file : List ℕ) (i : ℕ) → i < length file
    → get_or (defaults_from from file) i 0 ≡ or_default (place_at (from + i)) (get_or file i 0)
unfolding defaults_from
defaulted from [] i h = absurd (omega arith)
defaulted from (x ∷ xs) zero h = rw add-zero
defaulted from (x ∷ xs) (suc i) h = rw (add-suc, ← suc-add) (defaulted (suc from) xs i (omega arith))

module _ (file : List ℕ) (at : ℕ) (h : at < length file) where
  pub in_place : get_or (with_defaults file) at 0 ≡ or_default (place_at at) (get_or file at 0)
  in_place = rw zero-add at (defaulted 0 file at h)

  pub unnamed_byte : {default : ℕ} → place_at at ≡ unnamed default → get_or (with_defaults file) at 0 ≡ default
  unnamed_byte e = rw e at in_place

  pub named_byte : place_at at ≡ named → get_or (with_defaults file) at 0 ≡ get_or file at 0
  named_byte e = rw e at in_place

-- What is stored in an unnamed byte makes no difference.
pub set_unnamed : (file : List ℕ) (at byte : ℕ) → Unnamed (place_at at) → with_defaults (set file at byte) ≡ with_defaults file
unfolding defaults_from
set_unnamed file at byte u = go 0 file at (rw zero-add u.is)
  where
    go : (from : ℕ) (file : List ℕ) (i : ℕ) → place_at (from + i) ≡ unnamed u.default
        → defaults_from from (set file i byte) ≡ defaults_from from file
    go from [] i e = refl
    go from (x ∷ xs) zero e = let here = rw add-zero at e in rw here
    go from (x ∷ xs) (suc i) e =
        ap (λ (l : List ℕ). or_default (place_at from) x ∷ l) (go (suc from) xs i (rw (suc-add, ← add-suc) e))

-- ---- which files have them

module _ (file : List ℕ) where
  -- Such a file is the one with its defaults,
  pub keeps : EachDefault file → with_defaults file ≡ file
  keeps has =
      ext_get_or 0 (with_defaults file) file (length_defaults 0 file) (λ i h. at_each i (omega (arith, length_defaults 0 file)))
    where
      as_it_is : {byte : ℕ} (p : Place) → ((default : ℕ) → p ≡ unnamed default → byte ≡ default) → or_default p byte ≡ byte
      as_it_is named f = refl
      as_it_is (unnamed default) f = sym (f default refl)

      at_each : (i : ℕ) → i < length file → get_or (with_defaults file) i 0 ≡ get_or file i 0
      at_each i h = in_place file i h ∙ as_it_is (place_at i) (λ default e. has i default h e)

  -- and no other file is.
  pub kept : with_defaults file ≡ file → EachDefault file
  kept e at default h p = ap (λ (l : List ℕ). get_or l at 0) (sym e) ∙ unnamed_byte file at h p

  pub yes_all : with_defaults file ≡ file → all_default file ≡ true
  unfolding all_default
  yes_all e = if_pos (List-discrete ℕ_discrete (with_defaults file) file) e true false

  pub not_all : (with_defaults file ≡ file → ⊥) → all_default file ≡ false
  unfolding all_default
  not_all n = if_neg {C = Bool} (List-discrete ℕ_discrete (with_defaults file) file) n true false

  -- With its defaults, every file has them,
  pub has_them : EachDefault (with_defaults file)
  has_them at default h p = unnamed_byte file at (omega (arith, length_defaults 0 file)) p

  -- and begins as before.
  pub begins_as_before : take 33 (with_defaults file) ≡ take 33 file
  begins_as_before =
      ext_get_or 0 (take 33 (with_defaults file)) (take 33 file) (rw (length-take 33 (with_defaults file), length-take 33 file, length_defaults))
      (λ i h. let size = length-take 33 (with_defaults file) in go i (omega arith) (omega (arith, length_defaults 0 file)))
    where
      go : (i : ℕ) → i < 33 → i < length file → get_or (take 33 (with_defaults file)) i 0 ≡ get_or (take 33 file) i 0
      go i h k =
          get_or-take 33 (with_defaults file) i 0 h
          ∙ named_byte file i k (named_at i (λ a b. omega arith) (λ a b. omega arith) (λ a. omega arith))
          ∙ sym (get_or-take 33 file i 0 h)
