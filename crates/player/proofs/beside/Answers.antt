-- Nothing is stored before all tests are passed.
-- Assumes nothing.
use Rattle.std.proofs.Common.{◌∙◌}
use Rattle.std.proofs.lemmas.Result.{err_from_is_err_and}
use Rattle.player.proofs.Refused.{near, no_head, no_chip, no_memory, no_reads, no_writes, no_fetched, no_made, not_asked, taken, first_refused, first_accepted}
use Rattle.player.proofs.beside.Goals as goal

pub returns-in_default : goal.returns-in_default
returns-in_default c =
    first_refused _ _ (no_head _ c.in_default.ensures.cases)

pub returns-in_default-as_mut_array : goal.returns-in_default-as_mut_array
returns-in_default-as_mut_array c =
    let head = c.in-Some.ensures.cases in
    rw (head.same)
    (first_refused _ _ (no_chip _ head.long c.in_default-as_mut_array.ensures.cases))

pub returns-in_default-as_mut_array-2 : goal.returns-in_default-as_mut_array-2
returns-in_default-as_mut_array-2 c =
    let head = c.in-Some.ensures.cases in
    let chip = c.in-Some-as_mut_array.ensures.cases in
    rw (head.same, chip.same)
    (first_refused _ _ (no_memory _ head.long chip.long (rw head.same at c.in_ok-asked.ensures) c.in_default-as_mut_array-2.ensures.cases))

pub returns-in_default-as_mut_array-3 : goal.returns-in_default-as_mut_array-3
returns-in_default-as_mut_array-3 c =
    let head = c.in-Some.ensures.cases in
    let chip = c.in-Some-as_mut_array.ensures.cases in
    let memory = c.in-Some-as_mut_array-2.ensures.cases in
    rw (head.same, chip.same, memory.same)
    (first_refused _ _ (no_reads _ head.long chip.long (rw head.same at c.in_ok-asked.ensures) memory.long c.in_default-as_mut_array-3.ensures.cases))

pub returns-in_default-as_mut_array-4 : goal.returns-in_default-as_mut_array-4
returns-in_default-as_mut_array-4 c =
    let head = c.in-Some.ensures.cases in
    let chip = c.in-Some-as_mut_array.ensures.cases in
    let memory = c.in-Some-as_mut_array-2.ensures.cases in
    let reads = c.in-Some-as_mut_array-3.ensures.cases in
    rw (head.same, chip.same, memory.same, reads.same)
    (first_refused _ _ (no_writes _ head.long chip.long (rw head.same at c.in_ok-asked.ensures) memory.long reads.long c.in_default-as_mut_array-4.ensures.cases))

pub returns-in_default-as_mut_array-5 : goal.returns-in_default-as_mut_array-5
returns-in_default-as_mut_array-5 c =
    let head = c.in-Some.ensures.cases in
    let chip = c.in-Some-as_mut_array.ensures.cases in
    let memory = c.in-Some-as_mut_array-2.ensures.cases in
    let reads = c.in-Some-as_mut_array-3.ensures.cases in
    let writes = c.in-Some-as_mut_array-4.ensures.cases in
    rw (head.same, chip.same, memory.same, reads.same, writes.same)
    (first_refused _ _ (no_fetched _ head.long chip.long (rw head.same at c.in_ok-asked.ensures) memory.long reads.long writes.long c.in_default-as_mut_array-5.ensures.cases))

pub returns-in_default-as_mut_array-6 : goal.returns-in_default-as_mut_array-6
returns-in_default-as_mut_array-6 c =
    let head = c.in-Some.ensures.cases in
    let chip = c.in-Some-as_mut_array.ensures.cases in
    let memory = c.in-Some-as_mut_array-2.ensures.cases in
    let reads = c.in-Some-as_mut_array-3.ensures.cases in
    let writes = c.in-Some-as_mut_array-4.ensures.cases in
    let fetched = c.in-Some-as_mut_array-5.ensures.cases in
    rw (head.same, chip.same, memory.same, reads.same, writes.same, fetched.same)
    (first_refused _ _ (no_made _ head.long chip.long (rw head.same at c.in_ok-asked.ensures) memory.long reads.long writes.long fetched.long c.in_default-as_mut_array-6.ensures.cases))

pub returns-in_err-asked : goal.returns-in_err-asked
returns-in_err-asked c =
    let head = c.in-Some.ensures.cases in
    let chip = c.in-Some-as_mut_array.ensures.cases in
    let p = err_from_is_err_and c.from_residual.result c.from_residual.ensures.1 in
    rw (p.1, p.2, head.same, chip.same) (first_refused _ _ (not_asked _ head.long chip.long (rw head.same at c.in_err-asked.ensures)))

pub play_second-requires : goal.play_second-requires
play_second-requires c =
    let head = c.in-Some.ensures.cases in near c.args.head.now (rw head.same at c.in_ok-asked.ensures)

pub returns : goal.returns
returns c =
    let head = c.in-Some.ensures.cases in
    let chip = c.in-Some-as_mut_array.ensures.cases in
    let memory = c.in-Some-as_mut_array-2.ensures.cases in
    let reads = c.in-Some-as_mut_array-3.ensures.cases in
    let writes = c.in-Some-as_mut_array-4.ensures.cases in
    let fetched = c.in-Some-as_mut_array-5.ensures.cases in
    let made = c.in-Some-as_mut_array-6.ensures.cases in
    first_accepted _ _ (taken _ head.long chip.long (rw head.same at c.in_ok-asked.ensures) memory.long reads.long writes.long fetched.long made.long)
    (c.play_second.ensures ∙ rw (head.same, chip.same, memory.same, reads.same, writes.same, fetched.same, made.same))
