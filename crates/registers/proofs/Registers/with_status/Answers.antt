-- Each flag stands in its place of the byte, or of its double, or of eight times it: one computed test over all 256 bytes.
-- Assumes nothing.
use Rattle.std.proofs.Common.{◌≡◌, ℕ, ◌-◌, ◌*◌, ◌/◌, ◌%◌, ◌<◌, refl, arith}
use Rattle.laws.specs.Table.{same_table}
use Rattle.psw.specs.Status.{flags_of}
use Rattle.registers.specs.declared.Registers.{Registers}
use Rattle.registers.specs.Flat.{flags_in}
use Rattle.registers.specs.Fields.{set_nz, set_vh, set_c, set_page, set_rest}
use Rattle.registers.proofs.Registers.with_status.Goals as goal

-- the registers with the flags of a byte, as the code sets them
abbrev flagged : Registers → ℕ → Registers
flagged r b = set_rest b (set_page (b * 8) (set_c b (set_vh (b % 128 * 2) (b % 128 * 2) (set_nz b (2 - b / 2 % 2 * 2) r))))

flags_tell : (r : Registers) (byte : ℕ) → byte < 256 → flags_in (flagged r byte) ≡ flags_of byte
unfolding flags_of
flags_tell r = same_table 256 (λ b. flags_in (flagged r b)) flags_of refl

pub returns : goal.returns
returns c = let given = c.args in
    rw (
      c.with_rest.ensures,
      c.with_page.ensures,
      c.with_c-flags.ensures,
      c.with_vh.ensures,
      c.with_nz.ensures,
      ← flags_tell given.self given.byte (omega arith),
    )
