-- An array that `map` made by calls that each give what h gives, and leave the closure as it was, is that of h.
-- Assumes nothing.
use Rattle.std.proofs.Common.{◌≡◌, ℕ, zero, suc, ◌+◌, ◌<◌, ◌≤◌, List, map, length, get_or, refl, sym, ◌∙◌, ap, subst, ⊎_elim, arith}
use Rattle.std.proofs.lemmas.Bool.{cases_lt}
use Rattle.std.proofs.lemmas.List.{ext_get_or, get_or-map, length-map}
use Rattle.std.specs.Array.{MapsFrom, IsMapOf}
use Rattle.std.specs.Fn.{Called}
use denote.Param.Members.{Mut}

module _ {A B F : Type 0} (h : A → B) (g : Mut F (A × Unit {0}) B) (f : F)
    (each : (x : A) (y : B) (left : F) → Called g f (x, tt) y left → (y ≡ h x) × (left ≡ f)) (xs : List A) (ys : List B) (d : A) (e : B) where
  at_each : (n i : ℕ) (now : F) → now ≡ f → MapsFrom g now xs ys i n → (k : ℕ) → i ≤ k → k < i + n → get_or ys k e ≡ h (get_or xs k d)
  at_each zero i now same calls k low high = absurd (omega arith)
  at_each (suc n) i now same calls k low high =
      let x = calls.1 in
      let y = calls.2 in
      let one = each x y calls.0 (subst (λ (q : F). Called g q (x, tt) y calls.0) same calls.5) in
      ⊎_elim
      (λ (later : i < k). at_each n (i + 1) calls.0 one.1 calls.6 k (omega arith) (omega arith))
      (λ (here : k ≤ i). let at : k ≡ i = omega arith in rw at (calls.4.1 e ∙ one.0 ∙ ap h (sym (calls.3.1 d))))
      (cases_lt i k)

  pub mapped : {n : ℕ} → length xs ≡ n → IsMapOf g f xs ys n → ys ≡ map h xs
  mapped {n} long made =
      ext_get_or e ys (map h xs) (rw length-map (made.long ∙ sym long))
      (λ k low. rw (get_or-map h xs k d e (omega (arith, made.long))) (at_each n 0 f refl made.each k (omega arith) (omega (arith, made.long))))
