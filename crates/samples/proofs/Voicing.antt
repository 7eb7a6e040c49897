-- The invariant of the loop over voices: to mark the samples of the voices that are left from here on gives what marking those of all voices
-- gives.
-- Assumes nothing.
use Rattle.std.proofs.Common.{◌≡◌, ℕ, suc, ◌+◌, ◌-◌, ◌*◌, ◌/◌, ◌%◌, ◌^◌, ◌<◌, ◌≤◌, cond, eqb, List, get_or, sym, ◌∙◌, arith, eq-eqb, ne_eqb, div-one, shr-shr}
use Rattle.samples.specs.Fetched.{sample, voices}

-- the sample that a voice plays
abbrev sample_of : List ℕ → ℕ → List ℕ → List ℕ → List ℕ → List ℕ
sample_of chip voice = sample (get_or chip 0x5D 0) (get_or chip (16 * voice + 4) 0)

-- `total` voices: a number like any other here.
module _ (total bits : ℕ) (chip memory writes before : List ℕ) where
  pub record Voicing (map : List ℕ) (voice : ℕ) : Type 0 where
    pub same : voices (total - voice) voice (bits / 2 ^ voice) chip memory writes map ≡ voices total 0 bits chip memory writes before

  pub begun : Voicing before 0
  begun = record { same = let all : total - 0 ≡ total = omega arith in rw (all, div-one) }

  module _ {map : List ℕ} {voice : ℕ} (so : Voicing map voice) where
    -- One voice more is done where its bit is set and its sample is marked, or its bit is clear and all stays.
    module _ (h : voice < total) {after : List ℕ} where
      next : after ≡ cond (eqb (bits / 2 ^ voice % 2) 1) (sample_of chip voice memory writes map) map → Voicing after (voice + 1)
      unfolding voices
      next e = record {
        same =
            let one : total - voice ≡ suc (total - (voice + 1)) = omega arith in
            let rest : bits / 2 ^ (voice + 1) ≡ bits / 2 ^ voice / 2 = sym (shr-shr bits voice 1) in
            rw (e, rest) (rw one at so.same);
      }

      pub one_voiced : bits / 2 ^ voice % 2 ≡ 1 → after ≡ sample_of chip voice memory writes map → Voicing after (voice + 1)
      one_voiced t e = next (e ∙ rw (eq-eqb _ _ t))

      pub one_silent : (bits / 2 ^ voice % 2 ≡ 1 → ⊥) → after ≡ map → Voicing after (voice + 1)
      one_silent n e = next (e ∙ rw (ne_eqb _ _ n))

    pub all_voiced : total ≤ voice → map ≡ voices total 0 bits chip memory writes before
    unfolding voices
    all_voiced h = let none : total - voice ≡ 0 = omega arith in rw none at so.same
