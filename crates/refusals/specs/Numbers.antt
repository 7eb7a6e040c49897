-- The number of each refusal. 11 and 13 are left for recordings and for windows.
use Rattle.std.specs.Prelude.{ℕ}
use Rattle.refusals.specs.declared.Refusal.{Refusal}
use Rattle.refusals.specs.declared.Refusal.TheVariants.{Memory, Map, Room, Operands, Count, Form, File, Signature, Edition, Unnamed, Asleep}

abbrev pub number_of : Refusal → ℕ
number_of Memory = 1
number_of Map = 2
number_of Room = 3
number_of Operands = 4
number_of Count = 5
number_of Form = 6
number_of File = 7
number_of Signature = 8
number_of Edition = 9
number_of Unnamed = 10
number_of Asleep = 12
