-- The last bytes are copied, and zeros take their place.
-- Assumes nothing.
use Prim.Native.Nat.{ℕ}
use mathlib.Core.Path.{◌≡◌, ◌∙◌}
use mathlib.Core.List.{List, ◌++◌}
use lib.ListN.{length, take, replicate}
use borrow.Rule.Slice.PartMut.{mid_of, put_mid}
use Rattle.boot_rom.proofs.Part.{eight_last, last_of, put_last}
use Rattle.boot_rom.proofs.set_aside.Goals as goal

cleared : (map : List ℕ) → length map ≡ 8192 → {zeros : List ℕ} → zeros ≡ replicate (length (mid_of 8184 8 map)) 0
    → put_mid 8184 8 map zeros ≡ take 8184 map ++ replicate 8 0
cleared map size e = rw (put_last map size, e, eight_last map size)

pub returns : goal.returns
returns c = record {
  size = c.told-map;
  bytes = c.fits-map;
  own = c.copy_from_slice.ensures.after ∙ last_of _ c.told-map;
  bare = cleared _ c.told-map (c.fill.ensures.after (λ y e. e));
}
