-- Twice a number, times half of another, is the first times the other, less the first once more where the other is odd. And a product by the
-- bits of one factor: y at the place of each bit that is set in a, summed.
-- Assumes nothing.
use Rattle.std.proofs.Common.{◌≡◌, refl, ℕ, ◌+◌, ◌*◌, ◌/◌, ◌%◌, ◌^◌, ◌≤◌, ap, sym, ◌∙◌, add_comm, mul_comm, mul_assoc, mul-add, mul_left_comm, arith}
use lib.Pow.{split, mod-pow-add}

pub odd : (s bits : ℕ) → bits % 2 ≡ 1 → s + (s + s) * (bits / 2) ≡ s * bits
odd s bits one = let e : s * (2 * (bits / 2) + 1) ≡ s * bits = ap (λ (n : ℕ). s * n) (omega arith) in omega (arith, e)

pub even : (s bits : ℕ) → (bits % 2 ≡ 1 → ⊥) → (s + s) * (bits / 2) ≡ s * bits
even s bits other = let e : s * (2 * (bits / 2)) ≡ s * bits = ap (λ (n : ℕ). s * n) (omega arith) in omega (arith, e)

-- With one bit more: y times the low k + 1 bits of a is y times the low k bits, and y at the place of bit k if that bit is set.
pub product_bit : (y a k : ℕ) → y * (a % 2 ^ (k + 1)) ≡ y * (a % 2 ^ k) + (a / 2 ^ k % 2) * (y * 2 ^ k)
product_bit y a k = rw (add_comm k 1, mod-pow-add a 1 k, mul-add, mul_left_comm y (a / 2 ^ k % 2) (2 ^ k), add_comm (y * (a % 2 ^ k)))

-- After k bits the sum is y times the low k bits of a; y is shifted to the place of bit k, and the bits that are left are those of a from
-- there on.
pub record Summed (y a sum shifted bits : ℕ) : Type 0 where
  pub k : ℕ
  pub within : k ≤ 8
  pub sum_is : sum ≡ y * (a % 2 ^ k)
  pub shifted_is : shifted ≡ y * 2 ^ k
  pub bits_are : bits ≡ a / 2 ^ k

-- So it is by the loop's invariant (what is summed, and what is left to sum, are the product), which does not count bits.
pub summed : (y a k sum : ℕ) → k ≤ 8 → sum + y * 2 ^ k * (a / 2 ^ k) ≡ y * a → Summed y a sum (y * 2 ^ k) (a / 2 ^ k)
summed y a k sum h e =
    let parts : y * (a / 2 ^ k * 2 ^ k) + y * (a % 2 ^ k) ≡ y * a = sym (mul-add y (a / 2 ^ k * 2 ^ k) (a % 2 ^ k)) ∙ ap (λ (n : ℕ). y * n) (split a k) in
    let left : y * 2 ^ k * (a / 2 ^ k) ≡ y * (a / 2 ^ k * 2 ^ k) =
    mul_assoc y (2 ^ k) (a / 2 ^ k) ∙ ap (λ (n : ℕ). y * n) (mul_comm (2 ^ k) (a / 2 ^ k)) in
    record { k = k; within = h; sum_is = omega (arith, e, parts, left); shifted_is = refl; bits_are = refl }
