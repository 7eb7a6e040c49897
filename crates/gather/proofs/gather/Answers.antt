-- Each arm reads what the modes of its column say; that the rows of a column have these modes is computed over the table.
-- Assumes nothing.
use Prim.Native.Nat.{ℕ}
use mathlib.Core.Path.{refl}
use mathlib.Core.List.{List, [], ◌∷◌}
use Rattle.memory.specs.Access.{then}
use Rattle.memory.proofs.Laws.{accesses}
use Rattle.instructions.specs.Rows.{rows}
use Rattle.instructions.specs.Rows.Mode.{direct, immediate, implied, memory_bit, table_vector}
use Rattle.instructions.specs.Gather.{gather_of}
use Rattle.gather.proofs.Table.{column, left_over, places}
use borrow.Author.Rules.{rules}
use Rattle.gather.proofs.Found.{in_direct, in_direct_x, at_absolute, at_absolute_x, at_absolute_y, at_pointer_x, at_pointer_y, at_register_x, placed_by}
use Rattle.gather.proofs.gather.Goals as goal

-- the columns that arms name, the last arm first
abbrev columns : List (List ℕ)
columns = (29 ∷ []) ∷ (28 ∷ []) ∷ (27 ∷ []) ∷ (23 ∷ []) ∷ (22 ∷ []) ∷ (21 ∷ []) ∷ (20 ∷ []) ∷ (19 ∷ []) ∷ (18 ∷ []) ∷ (17 ∷ []) ∷ (16 ∷ []) ∷ (12 ∷ []) ∷ (11 ∷ []) ∷ (10 ∷ []) ∷ (8 ∷ []) ∷ (7 ∷ []) ∷ (6 ∷ []) ∷ (5 ∷ []) ∷ (4 ∷ []) ∷ (3 ∷ []) ∷ (2 ∷ []) ∷ (1 ∷ []) ∷ (0 ∷ []) ∷ (30 ∷ []) ∷ (26 ∷ []) ∷ (25 ∷ []) ∷ (24 ∷ []) ∷ (15 ∷ []) ∷ (14 ∷ []) ∷ (13 ∷ []) ∷ (9 ∷ []) ∷ []

pub column_1f-requires : goal.column_1f-requires
column_1f-requires c = search (rules, left_over columns 31 tt)

pub returns-in-9 : goal.returns-in-9
returns-in-9 c = search (rules, c.column_09.ensures)

pub returns-in-13 : goal.returns-in-13
returns-in-13 c = search (rules, c.column_0d.ensures)

pub returns-in-14 : goal.returns-in-14
returns-in-14 c = search (rules, c.column_0e.ensures)

pub returns-in-15 : goal.returns-in-15
returns-in-15 c = search (rules, c.column_0f.ensures)

pub returns-in-24 : goal.returns-in-24
returns-in-24 c = search (rules, c.column_18.ensures)

pub returns-in-25 : goal.returns-in-25
returns-in-25 c = search (rules, c.column_19.ensures)

pub returns-in-26 : goal.returns-in-26
returns-in-26 c = search (rules, c.column_1a.ensures)

pub returns-in-30 : goal.returns-in-30
returns-in-30 c = search (rules, c.column_1e.ensures)

pub returns-in-0 : goal.returns-in-0
unfolding rows gather_of
returns-in-0 c = search (accesses, column 0 implied refl)

pub returns-in-1 : goal.returns-in-1
unfolding rows gather_of
returns-in-1 c = search (accesses, column 1 table_vector refl)

pub returns-in-2 : goal.returns-in-2
unfolding rows gather_of
returns-in-2 c = search (accesses, column 2 direct refl)

pub returns-in-3 : goal.returns-in-3
unfolding rows gather_of
returns-in-3 c = search (accesses, column 3 direct refl)

pub returns-in-4 : goal.returns-in-4
unfolding rows in_direct
returns-in-4 c = search (accesses, places 4 in_direct refl)

pub returns-in-5 : goal.returns-in-5
unfolding rows at_absolute
returns-in-5 c = search (accesses, places 5 at_absolute refl)

pub returns-in-6 : goal.returns-in-6
unfolding rows at_register_x then
returns-in-6 c = search (accesses, places 6 at_register_x refl, placed_by)

pub returns-in-7 : goal.returns-in-7
unfolding rows at_pointer_x
returns-in-7 c = search (accesses, places 7 at_pointer_x refl)

pub returns-in-8 : goal.returns-in-8
unfolding rows gather_of
returns-in-8 c = search (accesses, column 8 immediate refl)

pub returns-in-10 : goal.returns-in-10
unfolding rows gather_of
returns-in-10 c = search (accesses, column 10 memory_bit refl)

pub returns-in-11 : goal.returns-in-11
unfolding rows in_direct
returns-in-11 c = search (accesses, places 11 in_direct refl)

pub returns-in-12 : goal.returns-in-12
unfolding rows at_absolute
returns-in-12 c = search (accesses, places 12 at_absolute refl)

pub returns-in-16 : goal.returns-in-16
unfolding rows gather_of
returns-in-16 c = search (accesses, column 16 implied refl)

pub returns-in-17 : goal.returns-in-17
unfolding rows gather_of
returns-in-17 c = search (accesses, column 17 table_vector refl)

pub returns-in-18 : goal.returns-in-18
unfolding rows gather_of
returns-in-18 c = search (accesses, column 18 direct refl)

pub returns-in-19 : goal.returns-in-19
unfolding rows gather_of
returns-in-19 c = search (accesses, column 19 direct refl)

pub returns-in-20 : goal.returns-in-20
unfolding rows in_direct_x
returns-in-20 c = search (accesses, places 20 in_direct_x refl)

pub returns-in-21 : goal.returns-in-21
unfolding rows at_absolute_x
returns-in-21 c = search (accesses, places 21 at_absolute_x refl)

pub returns-in-22 : goal.returns-in-22
unfolding rows at_absolute_y
returns-in-22 c = search (accesses, places 22 at_absolute_y refl)

pub returns-in-23 : goal.returns-in-23
unfolding rows at_pointer_y
returns-in-23 c = search (accesses, places 23 at_pointer_y refl)

pub returns-in-27 : goal.returns-in-27
unfolding rows in_direct_x
returns-in-27 c = search (accesses, places 27 in_direct_x refl)

pub returns-in-28 : goal.returns-in-28
unfolding rows gather_of
returns-in-28 c = search (accesses, column 28 implied refl)

pub returns-in-29 : goal.returns-in-29
unfolding rows gather_of
returns-in-29 c = search (accesses, column 29 implied refl)

pub returns-in_default : goal.returns-in_default
returns-in_default c = search (rules, c.column_1f.ensures)
