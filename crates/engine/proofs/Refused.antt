-- What the tests of a call say of the definition's refusal.
-- Assumes nothing.
use Rattle.std.specs.Prelude.{ℕ, ◌≡◌, refl, Bool, true, false, cond, length, Some, None, Result, Ok, Err}
use Rattle.std.proofs.Common.{eq-eqb, ne_eqb, arith}
use Rattle.refusals.specs.declared.Refusal.{Refusal}
use Rattle.refusals.specs.declared.Refusal.TheVariants as reason
use Rattle.memory.specs.World.{World}
use Rattle.editions.specs.Editions.{is_edition, edition_of, edition_named}
use Rattle.editions.specs.declared.Edition.{Edition}
use Rattle.engine.specs.Entry.{refusal_of}

-- ---- a test by itself

module _ {A : Type 0} where
  pub when_ok : (b : Bool) (x y : A) (r : Refusal) → ◌≡◌ {A = Result A Refusal} (Ok y) (cond b (Ok x) (Err r)) → (b ≡ true) × (y ≡ x)
  when_ok true x y r h = (refl, grind (arith, h))
  when_ok false x y r h = absurd (grind (arith, h))

  pub when_err : (b : Bool) (x : A) (e r : Refusal) → ◌≡◌ {A = Result A Refusal} (Err e) (cond b (Ok x) (Err r)) → (b ≡ false) × (e ≡ r)
  when_err true x e r h = absurd (grind (arith, h))
  when_err false x e r h = (refl, grind (arith, h))

-- the edition that a number names
pub edition_ok : (number : ℕ) {edition : Edition} → Ok edition ≡ edition_named number
    → (is_edition number ≡ true) × (edition ≡ edition_of number)
edition_ok number {edition} h = when_ok (is_edition number) (edition_of number) edition reason.Edition h

pub edition_err : (number : ℕ) {e : Refusal} → Err e ≡ edition_named number → (is_edition number ≡ false) × (e ≡ reason.Edition)
edition_err number {e} h = when_err (is_edition number) (edition_of number) e reason.Edition h

-- ---- the refusal

module _ (number : ℕ) (w : World) where
  -- no edition
  pub no_edition : {e : Refusal} → Err e ≡ edition_named number → refusal_of number w ≡ Some e
  unfolding refusal_of
  no_edition h = let n = edition_err number h in rw (n.0, n.1)

  module _ {edition : Edition} (h : Ok edition ≡ edition_named number) where
    named : is_edition number ≡ true
    named = (edition_ok number h).0

    -- the first length that is another
    pub no_memory : (length w.memory ≡ 65536 → ⊥) → refusal_of number w ≡ Some reason.Memory
    unfolding refusal_of
    no_memory m = rw (named, ne_eqb _ _ m)

    pub no_reads : length w.memory ≡ 65536 → (length w.reads ≡ 8192 → ⊥) → refusal_of number w ≡ Some reason.Map
    unfolding refusal_of
    no_reads m r = rw (named, eq-eqb _ _ m, ne_eqb _ _ r)

    pub no_writes : length w.memory ≡ 65536 → length w.reads ≡ 8192 → (length w.writes ≡ 8192 → ⊥) → refusal_of number w ≡ Some reason.Map
    unfolding refusal_of
    no_writes m r s = rw (named, eq-eqb _ _ m, eq-eqb _ _ r, ne_eqb _ _ s)

    -- all are right
    pub accepts : length w.memory ≡ 65536 → length w.reads ≡ 8192 → length w.writes ≡ 8192 → refusal_of number w ≡ None
    unfolding refusal_of
    accepts m r s = rw (named, eq-eqb _ _ m, eq-eqb _ _ r, eq-eqb _ _ s)
