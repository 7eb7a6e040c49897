-- Where things stand in a packet of 155,712 bytes. It is asked and answered in the same bytes.
use Rattle.std.specs.Prelude.{ℕ, ◌+◌, ◌*◌, List, get_or, take, drop}

-- n bytes from a place on
abbrev pub bytes_at : ℕ → ℕ → List ℕ → List ℕ
bytes_at at n packet = take n (drop at packet)

-- A number of four bytes, low first.
abbrev pub number_at : ℕ → List ℕ → ℕ
number_at at packet =
    get_or packet at 0 + 256 * get_or packet (at + 1) 0 + 65536 * get_or packet (at + 2) 0 + 16777216 * get_or packet (at + 3) 0

-- What is asked: the number of the edition, the budget, the byte to blank with;
abbrev pub edition_in : List ℕ → ℕ
edition_in packet = get_or packet 0 0

abbrev pub budget_in : List ℕ → ℕ
budget_in packet = number_at 1 packet

abbrev pub byte_in : List ℕ → ℕ
byte_in packet = get_or packet 5 0

-- the registers, A X Y SP PC-low PC-high PSW and the number of the state; the memory; the map of what was read and that of what was stored:
-- of a run that begins, the image and clear maps, and of one that goes on, what the part before it has left;
abbrev pub registers_in : List ℕ → List ℕ
registers_in packet = bytes_at 6 8 packet

abbrev pub memory_in : List ℕ → List ℕ
memory_in packet = bytes_at 64 65536 packet

abbrev pub reads_in : List ℕ → List ℕ
reads_in packet = bytes_at 131136 8192 packet

abbrev pub writes_in : List ℕ → List ℕ
writes_in packet = bytes_at 139328 8192 packet

-- the device addresses that earlier parts have read: the bit of value 2^j, of two bytes, low first, stands for 00F0 + j;
abbrev pub devices_in : List ℕ → ℕ
devices_in packet = get_or packet 35 0 + 256 * get_or packet 36 0

-- the image that is to be blanked, and a map of what is to be kept in it, whether it is read or not.
abbrev pub image_in : List ℕ → List ℕ
image_in packet = bytes_at 65600 65536 packet

abbrev pub kept_in : List ℕ → List ℕ
kept_in packet = bytes_at 147520 8192 packet
