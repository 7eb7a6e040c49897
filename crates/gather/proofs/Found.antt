-- The ways to find an address that rows of loads and stores have: each with its two modes, which find it so by computation.
-- Assumes nothing.
use mathlib.Core.Path.{◌≡◌, refl}
use Prim.Native.Nat.{ℕ}
use Rattle.memory.specs.World.{World}
use Rattle.memory.specs.Access.{then, Outcome, outcome, Does}
use Rattle.memory.specs.Access.Access.{done}
use Rattle.modes.specs.Modes as mode
use Rattle.instructions.specs.Rows.Mode.{direct, to_direct, direct_x, to_direct_x, direct_y, to_direct_y, absolute, to_absolute, absolute_x, to_absolute_x, absolute_y, to_absolute_y, pointer_x, to_pointer_x, pointer_y, to_pointer_y, at_x, to_x}
use Rattle.memory.proofs.Laws.{ends_at}
use Rattle.modes.specs.declared.Addressed.{Addressed}
use Rattle.instructions.specs.Gather.{operands, target, gather_of}
use Rattle.instructions.specs.declared.Operands.{Operands}
use Rattle.gather.specs.Columns.{placed}
use Rattle.gather.proofs.Table.{Place}

unfoldable pub in_direct : Place
unfolding gather_of then
in_direct = record { find = λ edition cpu. mode.direct 0 cpu; to = to_direct; from = direct; stores = λ edition k cpu. refl; loads = λ edition k cpu. refl }

unfoldable pub in_direct_x : Place
unfolding gather_of then
in_direct_x = record { find = λ edition cpu. mode.direct cpu.x cpu; to = to_direct_x; from = direct_x; stores = λ edition k cpu. refl; loads = λ edition k cpu. refl }

unfoldable pub in_direct_y : Place
unfolding gather_of then
in_direct_y = record { find = λ edition cpu. mode.direct cpu.y cpu; to = to_direct_y; from = direct_y; stores = λ edition k cpu. refl; loads = λ edition k cpu. refl }

unfoldable pub at_absolute : Place
unfolding gather_of then
at_absolute = record { find = λ edition cpu. mode.absolute 0 cpu; to = to_absolute; from = absolute; stores = λ edition k cpu. refl; loads = λ edition k cpu. refl }

unfoldable pub at_absolute_x : Place
unfolding gather_of then
at_absolute_x = record { find = λ edition cpu. mode.absolute cpu.x cpu; to = to_absolute_x; from = absolute_x; stores = λ edition k cpu. refl; loads = λ edition k cpu. refl }

unfoldable pub at_absolute_y : Place
unfolding gather_of then
at_absolute_y = record { find = λ edition cpu. mode.absolute cpu.y cpu; to = to_absolute_y; from = absolute_y; stores = λ edition k cpu. refl; loads = λ edition k cpu. refl }

unfoldable pub at_pointer_x : Place
unfolding gather_of then
at_pointer_x = record { find = mode.pointer_x; to = to_pointer_x; from = pointer_x; stores = λ edition k cpu. refl; loads = λ edition k cpu. refl }

unfoldable pub at_pointer_y : Place
unfolding gather_of then
at_pointer_y = record { find = mode.pointer_y; to = to_pointer_y; from = pointer_y; stores = λ edition k cpu. refl; loads = λ edition k cpu. refl }

unfoldable pub at_register_x : Place
unfolding gather_of then
at_register_x = record { find = λ edition cpu. done (mode.indirect cpu.x cpu); to = to_x; from = at_x; stores = λ edition k cpu. refl; loads = λ edition k cpu. refl }

-- ---- an address that is known by an equation

pub placed_by : (k : ℕ) (f g : Addressed) {w : World} {o : Outcome World Operands} → f ≡ g → Does (placed k f) w o → Does (placed k g) w o
placed_by k f g e does = rw (← e) does

pub aimed_by : (f g : Addressed) {r : Operands} {w : World}
    → f ≡ g → r ≡ operands f.cpu f.at 0 0 0 → Does (target g) w (outcome r w)
aimed_by f g e is = rw (← e) (ends_at is)
