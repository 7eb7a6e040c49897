-- The part of the map is its last eight bytes, so nothing is left behind it.
-- Assumes nothing.
use Rattle.std.proofs.lemmas.Option.{MatchOption-at_some}
use Rattle.boot_rom.proofs.put_stores_back.Goals as goal

pub returns : goal.returns
returns c =
    let last = (MatchOption-at_some _ _ _ c.unwrap-last.ensures c.last_chunk_mut.ensures.cases).1 in
    rw (c.join.ensures, last.same, c.told-map)
