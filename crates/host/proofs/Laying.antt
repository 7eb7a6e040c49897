-- A loop that stores a row of bytes from an address on: so far, the first k of them.
-- Assumes nothing.
use Rattle.std.proofs.Common.{◌≡◌, ℕ, zero, suc, ◌+◌, ◌<◌, ◌≤◌, List, [], ◌∷◌, length, get_or, set, take, refl, arith, ap, ◌∙◌, add-one, add-zero}
use Rattle.std.proofs.lemmas.List.Edits.{sets}

one_more : (vs l : List ℕ) (i k : ℕ) → k < length vs → set (sets l i (take k vs)) (i + k) (get_or vs k 0) ≡ sets l i (take (suc k) vs)
one_more [] l i k h = absurd (omega arith)
one_more (v ∷ vs) l i zero h = rw add-zero
one_more (v ∷ vs) l i (suc k) h =
    let same : i + suc k ≡ suc i + k = omega arith in
    rw same (one_more vs (set l i v) (suc i) k (omega arith))

take_all : (vs : List ℕ) (k : ℕ) → length vs ≤ k → take k vs ≡ vs
take_all [] zero h = refl
take_all [] (suc k) h = refl
take_all (v ∷ vs) zero h = absurd (omega arith)
take_all (v ∷ vs) (suc k) h = ap (λ ws. v ∷ ws) (take_all vs k (omega arith))

module _ (at : ℕ) (bytes before : List ℕ) where
  pub record Laying (now : List ℕ) (k : ℕ) : Type 0 where
    pub same : now ≡ sets before at (take k bytes)

  pub begun : Laying before 0
  begun = record { same = refl }

  pub one_laid : {now : List ℕ} {k : ℕ} → Laying now k → k < length bytes → {byte : ℕ} → byte ≡ get_or bytes k 0 → {after : List ℕ}
      → after ≡ set now (at + k) byte → Laying after (k + 1)
  one_laid {k = k} so h b e = record { same = rw (e, b, so.same, add-one) (one_more bytes before at k h) }

  pub all_laid : {now : List ℕ} {k : ℕ} → Laying now k → length bytes ≤ k → now ≡ sets before at bytes
  all_laid {k = k} so h = so.same ∙ ap (sets before at) (take_all bytes k h)
