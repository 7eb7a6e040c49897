-- Blocks that have no last one go all round: 65,536 of them begin at every address, so that all is marked that ever will be.
-- Assumes nothing.
use Rattle.std.specs.Prelude.{◌≡◌, ℕ, zero, suc, ◌+◌, ◌-◌, ◌*◌, ◌/◌, ◌%◌, ◌^◌, ◌<◌, Bool, true, false, cond, ◌⊎◌, List, length, bit_and, bit_or, slice_index}
use Rattle.std.proofs.Math.Path.{refl}
use Rattle.std.proofs.Common.{ap, ◌∙◌, zero-add, one-add, eqb-true}
use Rattle.std.proofs.Math.Logic.{inl, inr, ⊎_elim}
use native.Mathlib.Omega.{arith}
use Rattle.std.specs.Int.Bits.{or_add_and}
use Rattle.std.proofs.lemmas.Nat.Bits.{and_high}
use Rattle.std.proofs.lemmas.List.{set-get_or}
use Rattle.marks.specs.Maps.{is_marked, marked, marked_unless}
use Rattle.samples.specs.Fetched.{fetched, blocks}
use Rattle.samples.specs.Addresses.{is_last, NoneLast, InBlocks}
use Rattle.samples.proofs.Exact.{adds_blocks, next_block, none_last}

-- ---- nine is odd

-- 36,409 times nine is one more than five times 65,536, and so there is a block at each distance.
turn : (start k : ℕ) → start < 65536 → k < 65536 → k ≡ (start + 9 * (36409 * (k + 65536 - start) % 65536)) % 65536
turn start k a h = go (k + 65536 - start) _ (36409 * (k + 65536 - start) / 65536) (omega arith) (omega arith)
  where
    go : (d n q : ℕ) → start + d ≡ k + 65536 → 36409 * d ≡ 65536 * q + n → k ≡ (start + 9 * n) % 65536
    go d n q e f = let rounds : start + 9 * n ≡ k + 65536 * (1 + 5 * d - 9 * q) = omega arith in omega arith

-- ---- to mark what is marked changes nothing

marked_again : (map : List ℕ) (at : ℕ) → is_marked map at ≡ true → marked map at ≡ map
marked_again map at e = rw (same (slice_index map (at / 8)) (at % 8) (eqb-true _ _ e)) (set-get_or map (at / 8) 0)
  where
    same : (n j : ℕ) → n / 2 ^ j % 2 ≡ 1 → bit_or n (2 ^ j) ≡ n
    same n j e =
        let power : 2 ^ j ≡ 2 ^ (1 + j) - 2 ^ j = rw one-add (omega arith) in
        let bit : bit_and n (2 ^ j) ≡ 1 * 2 ^ j = ap (bit_and n) power ∙ and_high n 1 j ∙ rw e in
        omega (arith, or_add_and n (2 ^ j))

module _ (writes : List ℕ) where
  -- every address is marked, or stored to
  record Full (map : List ℕ) : Type 0 where
    all : (k : ℕ) → k < 65536 → (is_marked map k ≡ true) ⊎ (is_marked writes k ≡ true)

  module _ (map : List ℕ) (full : Full map) where
    unless_again : (at : ℕ) → at < 65536 → marked_unless map writes at ≡ map
    unless_again at h = ⊎_elim (λ e. go (is_marked writes at) e) (λ e. rw e) (full.all at h)
      where
        go : (b : Bool) → is_marked map at ≡ true → cond b map (marked map at) ≡ map
        go true e = refl
        go false e = marked_again map at e

    fetched_again : (n at : ℕ) → at < 65536 → fetched n at writes map ≡ map
    unfolding fetched
    fetched_again zero at h = refl
    fetched_again (suc n) at h = rw (unless_again at h) (fetched_again n ((at + 1) % 65536) (omega arith))

    blocks_again : (memory : List ℕ) (n at : ℕ) → at < 65536 → blocks n at memory writes map ≡ map
    unfolding blocks
    blocks_again memory zero at h = refl
    blocks_again memory (suc n) at h =
        rw (fetched_again 9 at h, blocks_again memory n ((at + 9) % 65536) (omega arith)) (go (is_last memory at))
      where
        go : (b : Bool) → cond b map map ≡ map
        go true = refl
        go false = refl

  module _ (memory : List ℕ) where
    full_round : (n start : ℕ) (map : List ℕ) → n ≡ 65536 → start < 65536 → length map ≡ 8192 → NoneLast memory n start
        → Full (blocks n start memory writes map)
    full_round n start map is a size on = record { all = λ k h. go k h (is_marked writes k) refl }
      where
        there : (k : ℕ) → k < 65536 → InBlocks memory n start k
        there k h = record {
          number = 36409 * (k + 65536 - start) % 65536;
          within = omega arith;
          first = k;
          block = record { there = turn start k a h; going_on = λ i less. on i (omega arith) };
          inside = record { place = 0; within = omega arith; there = omega arith };
        }

        go : (k : ℕ) → k < 65536 → (b : Bool) → is_marked writes k ≡ b
            → (is_marked (blocks n start memory writes map) k ≡ true) ⊎ (is_marked writes k ≡ true)
        go k h true e = inr e
        go k h false e = inl (((adds_blocks writes memory n start map a size).exact k h).1 (inr (there k h, e)))

    -- Either a last block is met among the first n, or the others are marked on top of these.
    further : (n m start : ℕ) (map : List ℕ) → start < 65536
        → (blocks (n + m) start memory writes map ≡ blocks n start memory writes map)
        ⊎ (NoneLast memory n start
        × (blocks (n + m) start memory writes map ≡ blocks m ((start + 9 * n) % 65536) memory writes (blocks n start memory writes map)))
    unfolding blocks
    further zero m start map a =
        let same : (start + 9 * 0) % 65536 ≡ start = omega arith in inr (λ i h. absurd (omega arith), rw (zero-add, same))
    further (suc n) m start map a =
        let next : suc n + m ≡ suc (n + m) = omega arith in
        rw (next, ← next_block start a n)
        (go _ _ _ (blocks m (((start + 9) % 65536 + 9 * n) % 65536) memory writes) (is_last memory start) refl
        (further n m ((start + 9) % 65536) (fetched 9 start writes map) (omega arith)))
      where
        go : (more few all : List ℕ) (rest : List ℕ → List ℕ) (b : Bool) → is_last memory start ≡ b
            → (all ≡ few) ⊎ (NoneLast memory n ((start + 9) % 65536) × (all ≡ rest few))
            → (cond b more all ≡ cond b more few) ⊎ (NoneLast memory (suc n) start × (cond b more all ≡ rest (cond b more few)))
        go more few all rest true e f = inl refl
        go more few all rest false e f = ⊎_elim (λ g. inl g) (λ p. inr (none_last start a memory n e p.0, p.1)) f

    pub no_more : (n m start : ℕ) (map : List ℕ) → n ≡ 65536 → start < 65536 → length map ≡ 8192
        → blocks (n + m) start memory writes map ≡ blocks n start memory writes map
    no_more n m start map is a size =
        ⊎_elim (λ e. e)
        (λ p. p.1 ∙ blocks_again _ (full_round n start map is a size p.0) memory m ((start + 9 * n) % 65536) (omega arith))
        (further n m start map a)
