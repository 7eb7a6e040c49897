-- A turn keeps the lengths: of memory, of the maps, and of the sound chip's row.
-- Assumes nothing.
use Prim.Native.Nat.{ℕ, zero, suc, ◌+◌, ◌*◌, ◌/◌, ◌%◌}
use Rattle.std.specs.Prelude.{◌≡◌, refl, Bool, true, false, cond, List, ◌∷◌, eqb, leb, length, set}
use Rattle.std.proofs.Common.{◌∙◌, length-set}
use Rattle.std.proofs.Math.ListN.{get_or}
use Rattle.std.proofs.Math.Seq.{length-sets}
use Rattle.std.proofs.lemmas.List.Edits.{sets}
use Rattle.memory.specs.World.{Sized}
use Rattle.editions.specs.declared.Edition.{Edition}
use Rattle.engine.specs.Theorems.{step_keeps}
use Rattle.watch.proofs.Maps.{length_with}
use Rattle.devices.specs.Devices.{bit}
use Rattle.devices.specs.declared.Devices.{Devices}
use Rattle.samples.specs.Lengths.{length_voices}
use Rattle.host.specs.Chip.{Sound, sound, asked, keyed, keyed_on, stored_to, heard}
use Rattle.host.specs.Turn.{Playing, sent, counts, laid_out, ready, turn_of}

-- The lengths of a playing.
pub record Whole (p : Playing) : Type 0 where
  pub world : Sized p.world
  pub chip : length p.chip ≡ 512
  pub fetched : length p.fetched ≡ 8192

-- ---- before the step

-- Laid out, memory is as long as it was.
pub length_laid_out : (d : Devices) (chip memory : List ℕ) → length (laid_out d chip memory) ≡ length memory
unfolding laid_out
length_laid_out d chip memory =
    let answers = get_or chip (get_or memory 0xF2 0 % 128) 0 ∷ sent d in
    length-sets (sets memory 0xF3 answers) 0xFD (counts d) ∙ length-sets memory 0xF3 answers

pub ready_sized : (p : Playing) → Sized p.world → Sized (ready p)
ready_sized p size = record {
  memory = length_laid_out p.player.devices p.chip p.world.memory ∙ size.memory;
  reads = length_with p.world.reads 0 ∙ size.reads;
  writes = length_with p.world.writes 0 ∙ size.writes;
}

-- ---- behind it

-- a row and a map of the same lengths
record SameLengths (s after : Sound) : Type 0 where
  chip : length after.chip ≡ length s.chip
  fetched : length after.fetched ≡ length s.fetched

length_keyed : (n voice bits : ℕ) (chip : List ℕ) → length (keyed n voice bits chip) ≡ length chip
unfolding keyed
length_keyed zero voice bits chip = refl
length_keyed (suc n) voice bits chip = length_keyed n (voice + 1) (bits / 2) _ ∙ go (eqb (bits % 2) 1)
  where
    go : (b : Bool) → length (cond b (set chip (256 + get_or chip (16 * voice + 4) 0) 1) chip) ≡ length chip
    go true = length-set chip _ 1
    go false = refl

module _ (memory writes chip fetched : List ℕ) where
  stored_keeps : SameLengths (sound chip fetched) (stored_to memory writes chip fetched)
  unfolding stored_to
  stored_keeps = go (leb 128 register) (eqb register 0x4C)
    where
      register : ℕ
      register = get_or memory 0xF2 0

      byte : ℕ
      byte = get_or memory 0xF3 0

      changed : List ℕ
      changed = set chip register byte

      go : (none key : Bool)
          → SameLengths (sound chip fetched)
          (cond none (sound chip fetched) (cond key (keyed_on byte memory writes changed fetched) (sound changed fetched)))
      go true key = record { chip = refl; fetched = refl }
      go false true = record {
        chip = length_keyed 8 0 byte changed ∙ length-set chip register byte;
        fetched = length_voices memory writes (keyed 8 0 byte changed) 8 0 byte fetched;
      }
      go false false = record { chip = length-set chip register byte; fetched = refl }

heard_keeps : (read stored name : ℕ) (memory writes : List ℕ) (s : Sound) → SameLengths s (heard read stored name memory writes s)
unfolding heard
heard_keeps read stored name memory writes s = go (bit read 3) (bit stored 3)
  where
    length_asked : (b : Bool) → length (cond b (asked name s.chip) s.chip) ≡ length s.chip
    length_asked true = length-set s.chip _ 1
    length_asked false = refl

    go : (asks stores : Bool)
        → let chip = cond asks (asked name s.chip) s.chip in
        SameLengths s (cond stores (stored_to memory writes chip s.fetched) (sound chip s.fetched))
    go asks true =
        let more = stored_keeps memory writes (cond asks (asked name s.chip) s.chip) s.fetched in
        record { chip = more.chip ∙ length_asked asks; fetched = more.fetched }
    go asks false = record { chip = length_asked asks; fetched = refl }

-- ---- all of it

-- A turn of a playing with the right lengths leaves one with the right lengths.
pub turn_keeps : (edition : Edition) (p : Playing) → Whole p → Whole (turn_of edition p)
unfolding turn_of
turn_keeps edition p size =
    let heard = heard_keeps _ _ _ _ _ (sound p.chip p.fetched) in record {
      world = (step_keeps edition p.player.cpu (ready p) (ready_sized p size.world)).sized;
      chip = heard.chip ∙ size.chip;
      fetched = heard.fetched ∙ size.fetched;
    }
