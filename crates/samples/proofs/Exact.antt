-- What marking adds to a map: marks at some addresses, but at none that is stored to. So it is with one address, and with any number of
-- addresses or blocks.
-- Assumes nothing.
use Rattle.std.specs.Prelude.{◌≡◌, ℕ, zero, suc, ◌+◌, ◌*◌, ◌%◌, ◌<◌, Bool, true, false, cond, ◌||◌, ◌⊎◌, ◌↔◌, List, length, ◌==◌}
use Rattle.std.proofs.Math.Path.{refl}
use Rattle.std.proofs.Common.{sym, ◌∙◌, true≢false, inl, inr, ⊎_elim, arith, eq-eqb, eqb-true}
use Rattle.std.proofs.Math.Bool.{or-true}
use Rattle.marks.specs.Maps.{is_marked, marked, marked_unless}
use Rattle.marks.proofs.Laws.{marked_is}
use Rattle.samples.specs.Fetched.{fetched, blocks}
use Rattle.samples.specs.Lengths.{length_marked_unless, length_fetched}
use Rattle.samples.specs.Addresses.{Among, is_last, NoneLast, Block, InBlocks}

-- ---- one address or block more

module _ (at : ℕ) (a : at < 65536) where
  more_among : (n k : ℕ) → k < 65536 → ((at ≡ k) ⊎ Among n ((at + 1) % 65536) k) ↔ Among (suc n) at k
  more_among n k h = (
    ⊎_elim (λ e. record { place = 0; within = omega arith; there = omega arith })
        (λ m. record { place = suc m.place; within = omega (arith, m.within); there = omega (arith, m.there) }),
    λ m. go m.place m.within m.there,
  )
    where
      go : (i : ℕ) → i < suc n → k ≡ (at + i) % 65536 → (at ≡ k) ⊎ Among n ((at + 1) % 65536) k
      go zero w e = inl (omega arith)
      go (suc i) w e = inr (record { place = i; within = omega arith; there = omega arith })

  -- the blocks after the one at hand
  pub next_block : (i : ℕ) → ((at + 9) % 65536 + 9 * i) % 65536 ≡ (at + 9 * suc i) % 65536
  next_block i = omega arith

  at_hand : (at + 9 * 0) % 65536 ≡ at
  at_hand = omega arith

  module _ (memory : List ℕ) where
    pub none_last : (n : ℕ) → is_last memory at ≡ false → NoneLast memory n ((at + 9) % 65536) → NoneLast memory (suc n) at
    none_last n on rest zero h = rw at_hand on
    none_last n on rest (suc i) h = rw (← next_block i) (rest i (omega arith))

    module _ (n k : ℕ) where
      first_block : Among 9 at k → InBlocks memory (suc n) at k
      first_block m = record {
        number = 0;
        within = omega arith;
        first = at;
        block = record { there = omega arith; going_on = λ i h. absurd (omega arith) };
        inside = m;
      }

      in_first : (first : ℕ) → Block memory at 0 first → Among 9 first k → Among 9 at k
      in_first first b m = let same : first ≡ at = omega (arith, b.there) in rw (← same) m

      -- where the first is a last one, there is no other
      only_block : is_last memory at ≡ true → Among 9 at k ↔ InBlocks memory (suc n) at k
      only_block last = (first_block, λ m. go m.number m.first m.block m.inside)
        where
          go : (i first : ℕ) → Block memory at i first → Among 9 first k → Among 9 at k
          go zero first b m = in_first first b m
          go (suc i) first b m = absurd (true≢false (sym last ∙ rw at_hand at (b.going_on 0 (omega arith))))

      -- and otherwise the others follow
      more_blocks : is_last memory at ≡ false → (Among 9 at k ⊎ InBlocks memory n ((at + 9) % 65536) k) ↔ InBlocks memory (suc n) at k
      more_blocks on = (⊎_elim first_block after, λ m. go m.number m.within m.first m.block m.inside)
        where
          after : InBlocks memory n ((at + 9) % 65536) k → InBlocks memory (suc n) at k
          after m = record {
            number = suc m.number;
            within = omega (arith, m.within);
            first = m.first;
            block = record {
              there = m.block.there ∙ next_block m.number;
              going_on = none_last m.number on m.block.going_on;
            };
            inside = m.inside;
          }

          go : (i : ℕ) → i < suc n → (first : ℕ) → Block memory at i first → Among 9 first k
              → Among 9 at k ⊎ InBlocks memory n ((at + 9) % 65536) k
          go zero w first b m = inl (in_first first b m)
          go (suc i) w first b m =
              inr
              (record {
                number = i;
                within = omega arith;
                first = first;
                block = record {
                  there = b.there ∙ sym (next_block i);
                  going_on = λ j h. rw (next_block j) (b.going_on (suc j) (omega arith));
                };
                inside = m;
              })

-- ---- what is added

-- An address is marked afterwards exactly where it was before, or where it is one of these and is not stored to.
abbrev pub Exactly : List ℕ → List ℕ → List ℕ → (ℕ → Type 0) → ℕ → Type 0
Exactly writes before after These k = (is_marked after k ≡ true) ↔ ((is_marked before k ≡ true) ⊎ (These k × (is_marked writes k ≡ false)))

module _ (writes : List ℕ) where
  pub record Adds (before after : List ℕ) (These : ℕ → Type 0) : Type 0 where
    pub exact : (k : ℕ) → k < 65536 → Exactly writes before after These k

  adds_none : (map : List ℕ) → Adds map map (λ k. ⊥)
  adds_none map = record { exact = λ k h. (λ t. inl t, ⊎_elim (λ t. t) (λ p. absurd p.0)) }

  pub adds_one : (map : List ℕ) (at : ℕ) → length map ≡ 8192 → Adds map (marked_unless map writes at) (λ k. at ≡ k)
  adds_one map at size = record { exact = λ k h. go (is_marked writes at) refl k h }
    where
      or_cases : (a b : Bool) → (a || b) ≡ true → (a ≡ true) ⊎ (b ≡ true)
      or_cases true b e = inl refl
      or_cases false b e = inr e

      go : (b : Bool) → is_marked writes at ≡ b → (k : ℕ) → k < 65536 → Exactly writes map (cond b map (marked map at)) (λ k. at ≡ k) k
      go true w k h = (λ t. inl t, ⊎_elim (λ t. t) (λ p. cc))
      go false w k h =
          let is = marked_is map at k size h in (
            λ t.
                ⊎_elim (λ e. inr (eqb-true at k e, rw (eqb-true at k e) at w)) (λ u. inl u)
                (or_cases (at == k) (is_marked map k) (sym is ∙ t)),
            ⊎_elim (λ t. is ∙ rw t (or-true (at == k))) (λ p. is ∙ rw (eq-eqb at k p.0)),
          )

  -- one after the other
  adds_both : {a b c : List ℕ} {These Those : ℕ → Type 0} → Adds a b These → Adds b c Those → Adds a c (λ k. These k ⊎ Those k)
  adds_both f g = record {
    exact = λ k h.
        let one = f.exact k h in
        let two = g.exact k h in (
          λ t.
              ⊎_elim (λ u. ⊎_elim (λ v. inl v) (λ p. inr (inl p.0, p.1)) (one.0 u)) (λ p. inr (inr p.0, p.1))
              (two.0 t),
          ⊎_elim (λ t. two.1 (inl (one.1 (inl t))))
              (λ p. ⊎_elim (λ q. two.1 (inl (one.1 (inr (q, p.1))))) (λ q. two.1 (inr (q, p.1))) p.0),
        );
  }

  -- the same addresses, otherwise told
  adds_same : {a b : List ℕ} {These Those : ℕ → Type 0} → ((k : ℕ) → k < 65536 → These k ↔ Those k) → Adds a b These → Adds a b Those
  adds_same s f = record {
    exact = λ k h.
        let one = f.exact k h in (
          λ t. ⊎_elim (λ u. inl u) (λ p. inr ((s k h).0 p.0, p.1)) (one.0 t),
          ⊎_elim (λ t. one.1 (inl t)) (λ p. one.1 (inr ((s k h).1 p.0, p.1))),
        );
  }

  pub adds_fetched : (n at : ℕ) (map : List ℕ) → at < 65536 → length map ≡ 8192 → Adds map (fetched n at writes map) (Among n at)
  unfolding fetched
  adds_fetched zero at map a size = adds_same (λ k h. (λ e. absurd e, λ m. omega (arith, m.within))) (adds_none map)
  adds_fetched (suc n) at map a size =
      adds_same (more_among at a n)
      (adds_both (adds_one map at size)
      (adds_fetched n ((at + 1) % 65536) _ (omega arith) (length_marked_unless map writes at ∙ size)))

  pub adds_blocks : (memory : List ℕ) (n at : ℕ) (map : List ℕ) → at < 65536 → length map ≡ 8192
      → Adds map (blocks n at memory writes map) (InBlocks memory n at)
  unfolding blocks
  adds_blocks memory zero at map a size = adds_same (λ k h. (λ e. absurd e, λ m. omega (arith, m.within))) (adds_none map)
  adds_blocks memory (suc n) at map a size =
      go (is_last memory at) refl (adds_fetched 9 at map a size)
      (adds_blocks memory n ((at + 9) % 65536) _ (omega arith) (length_fetched 9 at writes map ∙ size))
    where
      go : {more all : List ℕ} (b : Bool) → is_last memory at ≡ b → Adds map more (Among 9 at)
          → Adds more all (InBlocks memory n ((at + 9) % 65536)) → Adds map (cond b more all) (InBlocks memory (suc n) at)
      go true e nine rest = adds_same (λ k h. only_block at a memory n k e) nine
      go false e nine rest = adds_same (λ k h. more_blocks at a memory n k e) (adds_both nine rest)
