-- However much is fetched, no mark goes, and none comes where the processor has stored.
-- Assumes nothing.
use Rattle.std.specs.Prelude.{◌≡◌, ℕ, zero, suc, ◌+◌, ◌/◌, ◌%◌, ◌<◌, Bool, true, false, cond, ◌⊎◌, List, length, ◌==◌, nat_eq, slice_index}
use Rattle.std.proofs.Common.{◌∙◌, inl, inr, ⊎_elim}
use Rattle.marks.specs.Maps.{is_marked, marked_unless}
use Rattle.samples.specs.Fetched.{fetched, blocks, entry_of, sample, voices}
use Rattle.samples.specs.Lengths.{length_marked_unless, length_fetched, length_blocks, length_voice}
use Rattle.samples.proofs.Exact.{adds_one}

module _ (writes : List ℕ) where
  -- A map that has all the marks of another, and others only where nothing is stored.
  pub record Stays (before after : List ℕ) : Type 0 where
    pub marks : (k : ℕ) → k < 65536 → is_marked before k ≡ true → is_marked after k ≡ true
    pub others : (k : ℕ) → k < 65536 → is_marked after k ≡ true → (is_marked before k ≡ true) ⊎ (is_marked writes k ≡ false)

  itself : (map : List ℕ) → Stays map map
  itself map = record { marks = λ k h t. t; others = λ k h t. inl t }

  then : {a b c : List ℕ} → Stays a b → Stays b c → Stays a c
  then f g = record {
    marks = λ k h t. g.marks k h (f.marks k h t);
    others = λ k h t. ⊎_elim (f.others k h) (λ u. inr u) (g.others k h t);
  }

  either : {before one other : List ℕ} (b : Bool) → Stays before one → Stays before other → Stays before (cond b one other)
  either true f g = f
  either false f g = g

  one_stays : (at : ℕ) (map : List ℕ) → length map ≡ 8192 → Stays map (marked_unless map writes at)
  one_stays at map size = record {
    marks = λ k h t. ((adds_one writes map at size).exact k h).1 (inl t);
    others = λ k h t. ⊎_elim (λ u. inl u) (λ p. inr p.1) (((adds_one writes map at size).exact k h).0 t);
  }

  fetched_stays : (n at : ℕ) (map : List ℕ) → length map ≡ 8192 → Stays map (fetched n at writes map)
  unfolding fetched
  fetched_stays zero at map size = itself map
  fetched_stays (suc n) at map size =
      then (one_stays at map size) (fetched_stays n ((at + 1) % 65536) _ (length_marked_unless map writes at ∙ size))

  module _ (memory : List ℕ) where
    blocks_stays : (n at : ℕ) (map : List ℕ) → length map ≡ 8192 → Stays map (blocks n at memory writes map)
    unfolding blocks
    blocks_stays zero at map size = itself map
    blocks_stays (suc n) at map size =
        let nine = fetched_stays 9 at map size in
        either (slice_index memory at % 2 == 1) nine
        (then nine (blocks_stays n ((at + 9) % 65536) _ (length_fetched 9 at writes map ∙ size)))

    pub sample_stays : (directory number : ℕ) (map : List ℕ) → length map ≡ 8192 → Stays map (sample directory number memory writes map)
    unfolding sample
    sample_stays directory number map size =
        let entry = length_fetched 4 (entry_of directory number) writes map ∙ size in
        then (then (fetched_stays 4 _ map size) (blocks_stays 65536 _ _ entry))
        (blocks_stays 65536 _ _ (length_blocks memory writes 65536 _ _ ∙ entry))

    pub voices_stays : (chip : List ℕ) (n voice bits : ℕ) (map : List ℕ) → length map ≡ 8192
        → Stays map (voices n voice bits chip memory writes map)
    unfolding voices
    voices_stays chip zero voice bits map size = itself map
    voices_stays chip (suc n) voice bits map size =
        let set = nat_eq (bits % 2) 1 in
        then (either set (sample_stays _ _ map size) (itself map))
        (voices_stays chip n (voice + 1) (bits / 2) _ (length_voice memory writes _ _ set map ∙ size))
