-- The blanked image address by address, for the theorems and proofs.
-- Assumes nothing.
use Prim.Native.Nat.{ℕ, zero, suc, ◌+◌, ◌<◌}
use Rattle.std.proofs.Math.Path.{◌≡◌, refl, ap}
use Rattle.std.proofs.Common.{sym, ◌∙◌, zero-add, suc-add, add-suc, ext_get_or, ne_eqb}
use Rattle.std.specs.Prelude.{Bool, true, false, cond, length, get_or, Option, None, Some, Result, Err}
use mathlib.Core.List.{List, [], ◌∷◌}
use Rattle.std.proofs.Math.Nat.{add-zero}
use Rattle.std.proofs.Math.Decide.{ℕ_discrete}
use native.Mathlib.Omega.{arith}
use Rattle.laws.specs.Filled.{Filled, filled}
use Rattle.marks.specs.Maps.{is_marked}
use Rattle.refusals.specs.declared.Refusal.{Refusal}
use Rattle.refusals.specs.declared.Refusal.TheVariants.{Memory}
use Rattle.blanking.specs.Calls.{blanked_from, blanked_image, refusal_of, accepted, outcome, blank_of}

module _ (map : List ℕ) (byte : ℕ) where
  length_from : (at : ℕ) (image : List ℕ) → length (blanked_from map byte at image) ≡ length image
  unfolding blanked_from
  length_from at [] = refl
  length_from at (own ∷ rest) = ap suc (length_from (suc at) rest)

  get_from : (at : ℕ) (image : List ℕ) (k : ℕ) → k < length image
      → get_or (blanked_from map byte at image) k 0 ≡ cond (is_marked map (at + k)) (get_or image k 0) byte
  unfolding blanked_from
  get_from at [] k h = absurd (omega arith)
  get_from at (own ∷ rest) zero h = rw add-zero
  get_from at (own ∷ rest) (suc k) h = rw (add-suc, ← suc-add) (get_from (suc at) rest k (omega arith))

  module _ (image : List ℕ) where
    -- It has the image's length, and at each address the image's byte or the chosen one, as the map says;
    pub length_blanked : length (blanked_image map byte image) ≡ length image
    length_blanked = length_from 0 image

    pub get_blanked : (k : ℕ) → k < length image
        → get_or (blanked_image map byte image) k 0 ≡ cond (is_marked map k) (get_or image k 0) byte
    get_blanked k h = simp zero-add at (get_from 0 image k h)

    -- and what has both is the blanked image.
    pub only_blanked : (other : List ℕ) → length other ≡ length image
        → ((k : ℕ) → k < length image → get_or other k 0 ≡ cond (is_marked map k) (get_or image k 0) byte) → other ≡ blanked_image map byte image
    only_blanked other size each =
        ext_get_or 0 other (blanked_image map byte image) (size ∙ sym length_blanked)
        (λ k h. each k (omega arith) ∙ sym (get_blanked k (omega arith)))

    pub marked_kept : (k : ℕ) → k < length image → is_marked map k ≡ true → get_or image k 0 ≡ get_or (blanked_image map byte image) k 0
    marked_kept k h e = sym (get_blanked k h ∙ rw e)

    -- A second image that agrees at the marked addresses has the same blanked image.
    pub same_blanked : (second : List ℕ) → length second ≡ length image
        → ((k : ℕ) → k < length image → is_marked map k ≡ true → get_or image k 0 ≡ get_or second k 0)
        → blanked_image map byte second ≡ blanked_image map byte image
    same_blanked second size agree =
        only_blanked (blanked_image map byte second) (length_from 0 second ∙ size)
        (λ k h. simp zero-add at (get_from 0 second k (omega arith)) ∙ go k h (is_marked map k) refl)
      where
        go : (k : ℕ) → k < length image → (b : Bool) → is_marked map k ≡ b → cond b (get_or second k 0) byte ≡ cond b (get_or image k 0) byte
        go k h true e = sym (agree k h e)
        go k h false e = refl

    -- What holds of each outcome holds of the one that there is; which one it is goes by the lengths.
    pub either : (P : Filled (Result ℕ Refusal) → Type 0) → (refusal_of map image ≡ None → P (filled (accepted map) (blanked_image map byte image)))
        → ((refusal : Refusal) → refusal_of map image ≡ Some refusal → P (filled (Err refusal) image)) → P (blank_of map byte image)
    either P taken not_taken = go (refusal_of map image) taken not_taken
      where
        go : (r : Option Refusal) → (r ≡ None → P (filled (accepted map) (blanked_image map byte image)))
            → ((refusal : Refusal) → r ≡ Some refusal → P (filled (Err refusal) image)) → P (outcome r map byte image)
        go None taken not_taken = taken refl
        go (Some refusal) taken not_taken = not_taken refusal refl

    -- An image that is not refused has 65,536 bytes.
    pub right_size : refusal_of map image ≡ None → length image ≡ 65536
    unfolding refusal_of
    right_size z = elim (ℕ_discrete (length image) 65536) [ yes e ↦ e | no n ↦ absurd (wrong n) ]
      where
        wrong : (length image ≡ 65536 → ⊥) → ⊥
        wrong n = let some : Some Memory ≡ None = rw (ne_eqb _ _ n) at z in cc

    pub same_refusal : (other : List ℕ) → length other ≡ length image → refusal_of map other ≡ refusal_of map image
    unfolding refusal_of
    same_refusal other e = rw e
