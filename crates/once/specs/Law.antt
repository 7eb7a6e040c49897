-- A contract that decides its call: whatever the arguments are, the result and the lent memory can come out in one way only.
-- Assumes nothing.
use Rattle.std.specs.Prelude.{ℕ, ◌≡◌, List, []}
use denote.Ref.{Bor, MutBor}

abbrev pub nothing : List ℕ
nothing = []

-- `post` is a function's contract as the toolchain reads it off the source, less what it asks of the arguments: it speaks of the
-- call's lifetimes, its arguments, its result and its parameters at exit. `lent` is the content at exit of all that the function
-- may write to; of what a struct borrows, as a bus, also which it is then (Forms: `lent_bus` and the like), since another loan could be put there.
module _ {K : Type 0} {A R E : K → Type 0} where
  -- Two outcomes that meet the contract for the same arguments coincide.
  pub record One {X : Type 0} (post : (κ : K) → A κ → R κ → E κ → Type 0) (lent : (κ : K) → E κ → X) : Type 0 where
    pub same : {κ : K} {a : A κ} {x y : R κ} {e f : E κ} → post κ a x e → post κ a y f → (x ≡ y) × (lent κ e ≡ lent κ f)

  -- the law for a function that writes to nothing
  abbrev pub Answers : ((κ : K) → A κ → R κ → E κ → Type 0) → Type 0
  Answers post = One post (λ κ e. nothing)

-- ---- the content at exit of a parameter by its place, which is lent

abbrev pub first : {X A : Type 0} → MutBor X × A → X
first e = e.0.now

abbrev pub second : {X A B : Type 0} → A × (MutBor X × B) → X
second e = e.1.0.now

abbrev pub third : {X A B C : Type 0} → A × (B × (MutBor X × C)) → X
third e = e.1.1.0.now

abbrev pub fourth : {X A B C D : Type 0} → A × (B × (C × (MutBor X × D))) → X
fourth e = e.1.1.1.0.now

abbrev pub fifth : {X A B C D E : Type 0} → A × (B × (C × (D × (MutBor X × E)))) → X
fifth e = e.1.1.1.1.0.now

abbrev pub sixth : {X A B C D E F : Type 0} → A × (B × (C × (D × (E × (MutBor X × F))))) → X
sixth e = e.1.1.1.1.1.0.now

abbrev pub seventh : {X A B C D E F G : Type 0} → A × (B × (C × (D × (E × (F × (MutBor X × G)))))) → X
seventh e = e.1.1.1.1.1.1.0.now

abbrev pub eighth : {X A B C D E F G H : Type 0} → A × (B × (C × (D × (E × (F × (G × (MutBor X × H))))))) → X
eighth e = e.1.1.1.1.1.1.1.0.now

abbrev pub ninth : {X A B C D E F G H I : Type 0} → A × (B × (C × (D × (E × (F × (G × (H × (MutBor X × I)))))))) → X
ninth e = e.1.1.1.1.1.1.1.1.0.now

abbrev pub tenth : {X A B C D E F G H I J : Type 0} → A × (B × (C × (D × (E × (F × (G × (H × (I × (MutBor X × J))))))))) → X
tenth e = e.1.1.1.1.1.1.1.1.1.0.now

abbrev pub eleventh : {X A B C D E F G H I J K : Type 0} → A × (B × (C × (D × (E × (F × (G × (H × (I × (J × (MutBor X × K)))))))))) → X
eleventh e = e.1.1.1.1.1.1.1.1.1.1.0.now

abbrev pub twelfth : {X A B C D E F G H I J K L : Type 0} → A × (B × (C × (D × (E × (F × (G × (H × (I × (J × (K × (MutBor X × L))))))))))) → X
twelfth e = e.1.1.1.1.1.1.1.1.1.1.1.0.now

abbrev pub thirteenth : {X A B C D E F G H I J K L M : Type 0} → A × (B × (C × (D × (E × (F × (G × (H × (I × (J × (K × (L × (MutBor X × M)))))))))))) → X
thirteenth e = e.1.1.1.1.1.1.1.1.1.1.1.1.0.now

abbrev pub fourteenth : {X A B C D E F G H I J K L M N : Type 0} → A × (B × (C × (D × (E × (F × (G × (H × (I × (J × (K × (L × (M × (MutBor X × N))))))))))))) → X
fourteenth e = e.1.1.1.1.1.1.1.1.1.1.1.1.1.0.now

abbrev pub fifteenth : {X A B C D E F G H I J K L M N O : Type 0} → A × (B × (C × (D × (E × (F × (G × (H × (I × (J × (K × (L × (M × (N × (MutBor X × O)))))))))))))) → X
fifteenth e = e.1.1.1.1.1.1.1.1.1.1.1.1.1.1.0.now

-- ---- a function that answers a part of a slice

-- Two outcomes that meet the contract for the same arguments show the same.
pub record Shows {T K : Type 0} {A E : K → Type 0} (post : (κ : K) → A κ → Bor (List T) → E κ → Type 0) : Type 0 where
  pub same : {κ : K} {a : A κ} {x y : Bor (List T)} {e f : E κ} → post κ a x e → post κ a y f → x.now ≡ y.now
