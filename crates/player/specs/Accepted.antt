-- Which packets are accepted.
-- Assumes nothing.
use Rattle.std.specs.Prelude.{◌≤◌, ◌≡◌, refl, Bool, true, false, cond, ◌&&◌, length, Result, Ok, Err}
use Rattle.std.proofs.Common.{sym, true≢false, arith}
use borrow.Author.Tests.{eq-eqb, eqb-true, le-leb, leb-true}
use Rattle.refusals.specs.declared.Refusal.{Refusal}
use Rattle.memory.specs.World.{Sized}
use Rattle.editions.specs.Editions.{is_edition}
use Rattle.state.specs.Registers.{is_whole}
use Rattle.player.specs.Head.{edition_in, until_in, registers_in}
use Rattle.player.specs.Packet.{Packet, refusal_of}

-- It has its lengths, its registers are a whole record, its cycles can be counted, and there is its edition.
pub record Accepted (p : Packet) : Type 0 where
  pub head : length p.head ≡ 64
  pub chip : length p.chip ≡ 512
  pub whole : is_whole (registers_in p.head) ≡ true
  pub near : until_in p.head ≤ 4294967280
  pub named : is_edition (edition_in p.head) ≡ true
  pub sized : Sized p.world
  pub fetched : length p.fetched ≡ 8192
  pub made : length p.made ≡ 8192

both : (a b : Bool) → (a && b) ≡ true → (a ≡ true) × (b ≡ true)
both true b e = (refl, e)
both false b e = absurd (true≢false (sym e))

-- A test whose refusal did not come was passed.
passed : (b : Bool) (rest : Result Unit Refusal) (r : Refusal) → cond b rest (Err r) ≡ Ok tt → (b ≡ true) × (rest ≡ Ok tt)
passed true rest r z = (refl, z)
passed false rest r z = absurd (grind (arith, z))

module _ (p : Packet) where
  -- Such a packet is accepted,
  pub accepts : Accepted p → refusal_of p ≡ Ok tt
  unfolding refusal_of
  accepts a =
      let sized = a.sized in
      let near = le-leb _ _ a.near in
      rw (
        eq-eqb _ _ a.head,
        eq-eqb _ _ a.chip,
        a.whole,
        near,
        a.named,
        eq-eqb _ _ sized.memory,
        eq-eqb _ _ sized.reads,
        eq-eqb _ _ sized.writes,
        eq-eqb _ _ a.fetched,
        eq-eqb _ _ a.made,
      )

  -- and no other one is.
  pub accepted : refusal_of p ≡ Ok tt → Accepted p
  unfolding refusal_of
  accepted z =
      let asked = passed _ _ _ z in
      let named = passed _ _ _ asked.1 in
      let memory = passed _ _ _ named.1 in
      let maps = passed _ _ _ memory.1 in
      let near = both _ _ asked.0 in
      let whole = both _ _ near.0 in
      let rows = both _ _ whole.0 in
      let made = both _ _ maps.0 in
      let fetched = both _ _ made.0 in
      let two = both _ _ fetched.0 in
      record {
        head = eqb-true _ _ rows.0;
        chip = eqb-true _ _ rows.1;
        whole = whole.1;
        near = leb-true _ _ near.1;
        named = named.0;
        sized = record { memory = eqb-true _ _ memory.0; reads = eqb-true _ _ two.0; writes = eqb-true _ _ two.1 };
        fetched = eqb-true _ _ fetched.1;
        made = eqb-true _ _ made.1;
      }
