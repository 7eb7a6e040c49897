-- What the sound chip may fetch of an image: which bytes belong to a sample.
--
-- The map of it is kept as the read map is: an address is marked where it may be fetched before the processor has stored there.
use Rattle.std.specs.Prelude.{ℕ, zero, suc, ◌+◌, ◌*◌, ◌/◌, ◌%◌, cond, List, ◌==◌, slice_index}
use Rattle.marks.specs.Maps.{marked_unless}
use Rattle.processor.specs.Record.{word_of}

-- so many addresses from `at` on; behind FFFF comes 0000
unfoldable pub fetched : ℕ → ℕ → List ℕ → List ℕ → List ℕ
fetched zero at writes map = map
fetched (suc n) at writes map = fetched n ((at + 1) % 65536) writes (marked_unless map writes at)

-- The blocks of a sample from `at` on, nine bytes each: up to one in whose first byte bit 0 is set, which is the last, or so many.
unfoldable pub blocks : ℕ → ℕ → List ℕ → List ℕ → List ℕ → List ℕ
blocks zero at memory writes map = map
blocks (suc n) at memory writes map =
    let more = fetched 9 at writes map in
    cond (slice_index memory at % 2 == 1) more (blocks n ((at + 9) % 65536) memory writes more)

-- the word at an address, low byte first
abbrev pub word_at : List ℕ → ℕ → ℕ
word_at memory at = word_of (slice_index memory at) (slice_index memory ((at + 1) % 65536))

-- The entry of a sample in the directory: four bytes, at 256 times the directory's page plus four times the sample's number.
abbrev pub entry_of : ℕ → ℕ → ℕ
entry_of directory number = (256 * directory + 4 * number) % 65536

-- A sample: its entry, the blocks from its start, which the entry names first, and those from its loop, which it names then. There are no
-- more than 65,536 blocks, since as many begin at every address (Theorems).
unfoldable pub sample : ℕ → ℕ → List ℕ → List ℕ → List ℕ → List ℕ
sample directory number memory writes map =
    let entry = entry_of directory number in
    let start = word_at memory entry in
    let loop = word_at memory ((entry + 2) % 65536) in
    blocks 65536 loop memory writes (blocks 65536 start memory writes (fetched 4 entry writes map))

-- The samples of so many voices from `voice` on, of those whose bit is set, the first one's in the lowest: voice v plays the sample whose
-- number is in the sound register 16 v + 4, out of the directory whose page is in 5D.
unfoldable pub voices : ℕ → ℕ → ℕ → List ℕ → List ℕ → List ℕ → List ℕ → List ℕ
voices zero voice bits chip memory writes map = map
voices (suc n) voice bits chip memory writes map =
    voices n (voice + 1) (bits / 2) chip memory writes
    (cond (bits % 2 == 1) (sample (slice_index chip 0x5D) (slice_index chip (16 * voice + 4)) memory writes map) map)
