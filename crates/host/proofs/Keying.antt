-- The invariant of the loop over voices: to key on those that are left from here on gives what keying all of them on gives.
-- Assumes nothing.
use Rattle.std.proofs.Common.{◌≡◌, ℕ, suc, ◌+◌, ◌-◌, ◌*◌, ◌/◌, ◌%◌, ◌^◌, ◌<◌, ◌≤◌, cond, eqb, List, get_or, set, sym, ◌∙◌, arith, eq-eqb, ne_eqb, div-one, shr-shr}
use Rattle.host.specs.Chip.{keyed}

-- a row in which the sample of a voice is noted
abbrev noted : ℕ → List ℕ → List ℕ
noted voice chip = set chip (256 + get_or chip (16 * voice + 4) 0) 1

-- `total` voices: a number like any other here.
module _ (total bits : ℕ) (before : List ℕ) where
  pub record Keying (chip : List ℕ) (voice : ℕ) : Type 0 where
    pub same : keyed (total - voice) voice (bits / 2 ^ voice) chip ≡ keyed total 0 bits before

  pub begun : Keying before 0
  begun = record { same = let all : total - 0 ≡ total = omega arith in rw (all, div-one) }

  module _ {chip : List ℕ} {voice : ℕ} (so : Keying chip voice) where
    -- One voice more is done where its bit is set and its sample is noted, or its bit is clear and all stays.
    module _ (h : voice < total) {after : List ℕ} where
      next : after ≡ cond (eqb (bits / 2 ^ voice % 2) 1) (noted voice chip) chip → Keying after (voice + 1)
      unfolding keyed
      next e = record {
        same =
            let one : total - voice ≡ suc (total - (voice + 1)) = omega arith in
            let rest : bits / 2 ^ (voice + 1) ≡ bits / 2 ^ voice / 2 = sym (shr-shr bits voice 1) in
            rw (e, rest) (rw one at so.same);
      }

      pub one_keyed : bits / 2 ^ voice % 2 ≡ 1 → after ≡ noted voice chip → Keying after (voice + 1)
      one_keyed t e = next (e ∙ rw (eq-eqb _ _ t))

      pub none_keyed : (bits / 2 ^ voice % 2 ≡ 1 → ⊥) → after ≡ chip → Keying after (voice + 1)
      none_keyed n e = next (e ∙ rw (ne_eqb _ _ n))

    pub all_keyed : total ≤ voice → chip ≡ keyed total 0 bits before
    unfolding keyed
    all_keyed h = let none : total - voice ≡ 0 = omega arith in rw none at so.same
