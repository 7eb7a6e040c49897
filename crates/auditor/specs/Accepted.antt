-- Which packets are accepted.
-- Assumes nothing.
use Rattle.std.specs.Prelude.{ℕ, Bool, cond, ◌&&◌, List, length, Some, None}
use Rattle.std.proofs.Math.Path.{◌≡◌, refl}
use Rattle.std.proofs.Math.Bool.{true, false}
use Rattle.std.proofs.Common.{sym}
use Rattle.std.proofs.lemmas.Option.{none-some}
use Rattle.std.proofs.Math.Dec.{eqb}
use borrow.Author.Tests.{eq-eqb, eqb-true}
use Rattle.refusals.specs.declared.Refusal.TheVariants as reason
use Rattle.editions.specs.Editions.{is_edition}
use Rattle.state.specs.Registers.{is_whole}
use Rattle.auditor.specs.Packet.{edition_in, registers_in}
use Rattle.auditor.specs.Audit.{refusal_of}

-- It has its length, its registers are a whole record, and there is its edition.
pub record Accepted (packet : List ℕ) : Type 0 where
  pub size : length packet ≡ 155712
  pub whole : is_whole (registers_in packet) ≡ true
  pub named : is_edition (edition_in packet) ≡ true

module _ (packet : List ℕ) where
  -- Such a packet is accepted,
  pub accepts : Accepted packet → refusal_of packet ≡ None
  unfolding refusal_of
  accepts a = rw (eq-eqb _ _ a.size, a.whole, a.named)

  -- and no other one is.
  pub accepted : refusal_of packet ≡ None → Accepted packet
  unfolding refusal_of
  accepted z = go (eqb (length packet) 155712) (is_whole (registers_in packet)) (is_edition (edition_in packet)) refl refl refl z
    where
      go : (s w e : Bool) → eqb (length packet) 155712 ≡ s → is_whole (registers_in packet) ≡ w → is_edition (edition_in packet) ≡ e
          → cond (s && w) (cond e None (Some reason.Edition)) (Some reason.Form) ≡ None → Accepted packet
      go true true true a b c z = record { size = eqb-true _ _ a; whole = b; named = c }
      go true true false a b c z = absurd (none-some _ (sym z))
      go true false e a b c z = absurd (none-some _ (sym z))
      go false w e a b c z = absurd (none-some _ (sym z))
