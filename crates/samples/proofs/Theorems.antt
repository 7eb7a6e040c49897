-- What is marked when the sound chip's fetches are followed.
--
-- The words: `fetched n at writes map` is the map with n addresses from `at` on marked, `blocks m start memory writes map` that with the
-- blocks of a sample from `start` on, up to a last one or m of them; `sample` and `voices` are made of these, and the contract of
-- `samples::fetch_voices` says that the code leaves `voices 8 0 bits ..` (Fetched). `is_marked map k`: the map marks the address k.
-- `Among n at k`: k is one of the n addresses from `at` on. `Block memory start n b`: b is the address of the n-th block from `start` on,
-- and none before it is a last one. `InBlocks memory m start k`: k is one of the nine addresses of one of the first m blocks (Addresses).
-- Assumes nothing.
use Rattle.std.specs.Prelude.{◌≡◌, ℕ, ◌+◌, ◌<◌, Bool, true, false, ◌⊎◌, ◌↔◌, List, length, refl}
use Rattle.std.proofs.Common.{sym, ◌∙◌, ⊎_elim}
use Rattle.marks.specs.Maps.{is_marked}
use Rattle.samples.specs.Fetched.{fetched, blocks, sample, voices}
use Rattle.samples.specs.Lengths.{length_voices}
use Rattle.samples.specs.Addresses.{Among, InBlocks}
use Rattle.samples.proofs.Exact.{adds_fetched, adds_blocks}
use Rattle.samples.proofs.Round.{no_more}
use Rattle.samples.proofs.Staying.{sample_stays, voices_stays}

-- With any written map, and a map of 8,192 bytes.
module _ (writes map : List ℕ) (size : length map ≡ 8192) where
  -- After n addresses from `at` on, an address is marked exactly where it was marked before, or where it is one of these n and the written
  -- map does not mark it.
  pub fetched_exact : (n at k : ℕ) → at < 65536 → k < 65536
      → (is_marked (fetched n at writes map) k ≡ true) ↔ ((is_marked map k ≡ true) ⊎ (Among n at k × (is_marked writes k ≡ false)))
  fetched_exact n at k a = (adds_fetched writes n at map a size).exact k

  -- Also with any memory.
  module _ (memory : List ℕ) where
    -- After m blocks from `start` on, an address is marked exactly where it was marked before, or where it lies in one of these blocks, up
    -- to the first that is a last one, and the written map does not mark it.
    pub blocks_exact : (m start k : ℕ) → start < 65536 → k < 65536
        → (is_marked (blocks m start memory writes map) k ≡ true)
        ↔ ((is_marked map k ≡ true) ⊎ (InBlocks memory m start k × (is_marked writes k ≡ false)))
    blocks_exact m start k a = (adds_blocks writes memory m start map a size).exact k

    -- 65,536 blocks are enough: more of them mark nothing more.
    pub enough_blocks : (m start : ℕ) → start < 65536
        → blocks (65536 + m) start memory writes map ≡ blocks 65536 start memory writes map
    enough_blocks m start a = no_more writes memory 65536 m start map refl a size

    -- When a sample is fetched, what was marked before stays marked.
    pub marks_stay_sample : (directory number k : ℕ) → k < 65536 → is_marked map k ≡ true
        → is_marked (sample directory number memory writes map) k ≡ true
    marks_stay_sample directory number = (sample_stays writes memory directory number map size).marks

    -- Also with any sound registers, of any voices.
    module _ (chip : List ℕ) (n voice bits : ℕ) where
      -- The same when the samples of voices are fetched.
      pub marks_stay : (k : ℕ) → k < 65536 → is_marked map k ≡ true → is_marked (voices n voice bits chip memory writes map) k ≡ true
      marks_stay = (voices_stays writes memory chip n voice bits map size).marks

      -- An address that the written map marks, and that was not marked before, is not marked afterwards.
      pub stored_stay_out : (k : ℕ) → k < 65536 → is_marked writes k ≡ true → is_marked map k ≡ false
          → is_marked (voices n voice bits chip memory writes map) k ≡ false
      stored_stay_out k h w before = go (is_marked (voices n voice bits chip memory writes map) k) refl
        where
          go : (b : Bool) → is_marked (voices n voice bits chip memory writes map) k ≡ b → b ≡ false
          go true t =
              ⊎_elim (λ e. sym e ∙ before) (λ e. sym w ∙ e) ((voices_stays writes memory chip n voice bits map size).others k h t)
          go false t = refl

-- Whatever the lengths are, the map keeps its own.
pub same_length : (chip memory writes map : List ℕ) (n voice bits : ℕ) → length (voices n voice bits chip memory writes map) ≡ length map
same_length chip memory writes map n voice bits = length_voices memory writes chip n voice bits map
