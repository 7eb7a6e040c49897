-- The loop's invariant: below an address all is blanked and counted, from there on all is as it was.
-- Assumes nothing.
use Prim.Native.Nat.{ℕ, suc, ◌+◌, ◌<◌, ◌≤◌}
use mathlib.Core.Path.{◌≡◌, refl, sym, ◌∙◌}
use mathlib.Core.Bool.{Bool, true, false, cond, not}
use mathlib.Core.List.{List}
use native.Mathlib.Nat.{zero-add}
use native.Mathlib.Decide.{dec_lt}
use native.Mathlib.Omega.{arith}
use lib.ListN.{length, get_or, set, length-set}
use lib.Seq.{get_or-set_same, get_or-set_other}
use mir.Syntax.{w32}
use mir.Val.{Fits}
use borrow.Author.Tests.{eq-eqb, ne_eqb}
use Rattle.std.specs.Prelude.{Ok, Err}
use Rattle.refusals.specs.declared.Refusal.TheVariants.{Memory, Map}
use Rattle.laws.specs.Filled.{filled}
use Rattle.marks.specs.Maps.{is_marked}
use Rattle.marks.specs.Counts.{how_many}
use Rattle.marks.specs.HowMany.{at_most}
use Rattle.blanking.specs.Calls.{refusal_of, blank_of}
use Rattle.blanking.specs.Image.{only_blanked}

module _ (map : List ℕ) (byte : ℕ) (image : List ℕ) where
  -- What a memory has at each address once those below `at` are done.
  pub record SoFar (memory : List ℕ) (blanked at : ℕ) : Type 0 where
    pub within : at ≤ 65536
    pub size : length memory ≡ 65536
    pub done : (k : ℕ) → k < at → get_or memory k 0 ≡ cond (is_marked map k) (get_or image k 0) byte
    pub ahead : (k : ℕ) → at ≤ k → get_or memory k 0 ≡ get_or image k 0
    pub counted : blanked ≡ how_many at (λ k. not (is_marked map k))

  -- ---- refused

  pub wrong_memory : (length image ≡ 65536 → ⊥) → filled (Err Memory) image ≡ blank_of map byte image
  unfolding refusal_of
  wrong_memory n = rw (ne_eqb _ _ n)

  module _ (size : length image ≡ 65536) where
    pub wrong_map : (length map ≡ 8192 → ⊥) → filled (Err Map) image ≡ blank_of map byte image
    unfolding refusal_of
    wrong_map n = rw (eq-eqb _ _ size, ne_eqb _ _ n)

    -- ---- the walk

    pub begin : SoFar image 0 0
    unfolding how_many
    begin = record {
      within = omega arith;
      size = size;
      done = λ k h. absurd (omega arith);
      ahead = λ k h. refl;
      counted = refl;
    }

    module _ {memory : List ℕ} {blanked at : ℕ} (so : SoFar memory blanked at) where
      -- by what the test of its mark told
      module _ (h : at < 65536) {told : Bool} (is : told ≡ is_marked map at) where
        -- One address more is done: it is given what it is to have, is counted, and every other one stays.
        next : {own : ℕ} {after : List ℕ} {count : ℕ} → after ≡ set memory at own → own ≡ cond told (get_or image at 0) byte
            → count ≡ cond (not told) 1 0 + blanked → SoFar after count (at + 1)
        unfolding how_many
        next {own} {after} stored here more = record {
          within = omega arith;
          size = rw (stored, length-set) so.size;
          done = λ k q. go k q (dec_lt k at);
          ahead = λ k q. others k (omega arith) ∙ so.ahead k (omega arith);
          counted = let one : at + 1 ≡ suc at = omega arith in more ∙ rw (so.counted, is, one);
        }
          where
            others : (k : ℕ) → (k ≡ at → ⊥) → get_or after k 0 ≡ get_or memory k 0
            others k other = rw stored (get_or-set_other memory at k own 0 other)

            go : (k : ℕ) → k < at + 1 → Dec (k < at) → get_or after k 0 ≡ cond (is_marked map k) (get_or image k 0) byte
            go k q (yes before) = others k (omega arith) ∙ so.done k before
            go k q (no behind) =
                let there : k ≡ at = omega arith in
                rw (there, stored, ← is, ← here) (get_or-set_same memory at own 0 (omega (arith, so.size)))

        -- A marked address stays as it is,
        pub one_kept : {after : List ℕ} {count : ℕ} → told ≡ true → after ≡ set memory at (get_or memory at 0) → count ≡ blanked
            → SoFar after count (at + 1)
        one_kept e stored c = next stored (rw e (so.ahead at (omega arith))) (rw (e, zero-add) c)

        -- and another one is given the byte.
        pub one_blanked : {after : List ℕ} {count : ℕ} → told ≡ false → after ≡ set memory at byte → count ≡ blanked + 1
            → SoFar after count (at + 1)
        one_blanked e stored c = next stored (rw e) (rw (e, c) (omega arith))

      pub count_fits : Fits w32 (blanked + 1)
      count_fits = omega (arith, so.within, so.counted, at_most at (λ k. not (is_marked map k)))

      -- After the last address all is blanked.
      pub all_blanked : length map ≡ 8192 → 65536 ≤ at → filled (Ok blanked) memory ≡ blank_of map byte image
      unfolding refusal_of
      all_blanked map-size h =
          let end : at ≡ 65536 = omega (arith, so.within) in
          let is = only_blanked map byte image memory (so.size ∙ sym size) (λ k q. so.done k (omega arith)) in
          let number : blanked ≡ how_many 65536 (λ k. not (is_marked map k)) = rw (← end) so.counted in
          rw (eq-eqb _ _ size, eq-eqb _ _ map-size, is, number)
