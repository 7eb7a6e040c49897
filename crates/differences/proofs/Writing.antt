-- The writing, one stretch at a time: to store what is left from here on leaves the row that storing all of it in the lent row leaves.
-- Assumes nothing.
use Rattle.std.proofs.Common.{ℕ, suc, ◌+◌, ◌*◌, ◌<◌, ◌≤◌, ◌≡◌, refl, ◌∙◌, List, [], ◌∷◌, length, zero-add, arith}
use Rattle.std.proofs.Math.ListN.{set, length-set}
use Rattle.std.proofs.Math.Seq.{sets, sets-eq}
use Rattle.differences.specs.declared.Stretch.{Stretch}
use Rattle.differences.specs.Calls.{numbers_of, written}

two_each : (stretches : List Stretch) → length (numbers_of stretches) ≡ 2 * length stretches
unfolding numbers_of
two_each [] = refl
two_each (s ∷ rest) = omega (arith, two_each rest)

nothing : (stretches : List Stretch) → length stretches ≡ 0 → stretches ≡ []
nothing [] h = refl
nothing (s ∷ rest) h = absurd (omega arith)

-- So many stretches were written into a lent row that has room for all.
pub record Writing (all : List Stretch) (lent row : List ℕ) (so_many : ℕ) (left : List Stretch) : Type 0 where
  pub counted : so_many + length left ≡ length all
  pub room : 2 * length all ≤ length lent
  pub size : length row ≡ length lent
  pub same : sets row (2 * so_many) (numbers_of left) ≡ sets lent 0 (numbers_of all)

module _ {all : List Stretch} {lent : List ℕ} where
  pub begin_write : 2 * length all ≤ length lent → Writing all lent lent 0 all
  begin_write h = record { counted = zero-add _; room = h; size = refl; same = refl }

  module _ {row : List ℕ} {so_many : ℕ} {left : List Stretch} (w : Writing all lent row so_many left) where
    pub all_written : left ≡ [] → row ≡ written all lent
    unfolding numbers_of written
    all_written none =
        let w = rw none at w in
        w.same ∙ sets-eq (numbers_of all) lent 0 (omega (arith, w.room, two_each all)) ∙ rw (zero-add, two_each all)

    pub many_written : length all ≤ so_many → row ≡ written all lent
    many_written h = all_written (nothing left (omega (arith, w.counted)))

    module _ {s : Stretch} {rest : List Stretch} {i : ℕ} (here : i ≡ so_many) (one : left ≡ s ∷ rest) where
      pub two_places : 2 * i + 1 < length row
      two_places = let w = rw one at w in omega (arith, w.counted, w.room, w.size)

      pub one_written : {next : ℕ} → next ≡ so_many + 1 → Writing all lent (set (set row (2 * i) s.first) (2 * i + 1) s.last) next rest
      unfolding numbers_of
      one_written e =
          let w = rw one at w in
          let next : 2 * so_many + 1 ≡ suc (2 * so_many) = omega arith in
          let two : 2 * (so_many + 1) ≡ suc (suc (2 * so_many)) = omega arith in
          rw (here, e)
          (record {
            counted = omega (arith, w.counted);
            room = w.room;
            size = rw (length-set, length-set) w.size;
            same = rw (next, two) w.same;
          })
