-- Three families of the table that are alike in every second row: the opcode's top three bits pick the operation. The code goes by them;
-- the definition of the instructions does not rest on this page.
use Rattle.std.specs.Prelude.{ℕ, [], ◌∷◌, get_or}
use Rattle.instructions.specs.Rows.{Operation}
use Rattle.instructions.specs.Rows.Operation.{nop, or_a, and_a, eor_a, cmp_a, adc_a, sbc_a, store_a, load_a, or_m, and_m, eor_m, cmp_m, adc_m, sbc_m, store_x, load_x, asl_m, rol_m, lsr_m, ror_m, dec_m, inc_m, store_y, load_y}

abbrev pub accumulator_group : ℕ → Operation
accumulator_group group = get_or (or_a ∷ and_a ∷ eor_a ∷ cmp_a ∷ adc_a ∷ sbc_a ∷ store_a ∷ load_a ∷ []) group nop

abbrev pub pair_group : ℕ → Operation
pair_group group = get_or (or_m ∷ and_m ∷ eor_m ∷ cmp_m ∷ adc_m ∷ sbc_m ∷ store_x ∷ load_x ∷ []) group nop

abbrev pub shift_group : ℕ → Operation
shift_group group = get_or (asl_m ∷ rol_m ∷ lsr_m ∷ ror_m ∷ dec_m ∷ inc_m ∷ store_y ∷ load_y ∷ []) group nop
