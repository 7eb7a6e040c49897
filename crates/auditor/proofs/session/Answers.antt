-- The packet is cut into its parts; where one is missing, or the registers or the edition are none, it is as it was.
-- Assumes nothing.
use Rattle.std.proofs.Common.{refl, arith}
use Rattle.std.proofs.lemmas.Result.{err_from_is_err_and}
use Rattle.auditor.proofs.Packet.{cut, again, short, no_record, no_edition, taken}
use Rattle.auditor.proofs.session.Goals as goal

pub both_some-rest-in-Some-split_first_chunk_mut-4 : goal.both_some-rest-in-Some-split_first_chunk_mut-4
both_some-rest-in-Some-split_first_chunk_mut-4 c = rw c.in-Some-split_first_chunk_mut-3.is refl

pub returns-in_default : goal.returns-in_default
returns-in_default c = short refl (λ e. omega (arith, c.in_default.ensures.cases))

pub returns-in_default-split_first_chunk_mut : goal.returns-in_default-split_first_chunk_mut
returns-in_default-split_first_chunk_mut c =
    let head = cut c.in-Some.ensures.cases in short (again head) (λ e. omega (arith, head.long, c.in_default-split_first_chunk_mut.ensures.cases))

pub returns-in_default-split_first_chunk_mut-2 : goal.returns-in_default-split_first_chunk_mut-2
returns-in_default-split_first_chunk_mut-2 c =
    let head = cut c.in-Some.ensures.cases in
    let memory = cut c.in-Some-split_first_chunk_mut.ensures.cases in
    short (rw (again memory, again head)) (λ e. omega (arith, head.long, memory.long, c.in_default-split_first_chunk_mut-2.ensures.cases))

pub returns-in_default-split_first_chunk_mut-3 : goal.returns-in_default-split_first_chunk_mut-3
returns-in_default-split_first_chunk_mut-3 c =
    let head = cut c.in-Some.ensures.cases in
    let memory = cut c.in-Some-split_first_chunk_mut.ensures.cases in
    let image = cut c.in-Some-split_first_chunk_mut-2.ensures.cases in
    short (rw (again image, again memory, again head))
    (λ e. omega (arith, head.long, memory.long, image.long, c.in_default-split_first_chunk_mut-3.ensures.cases))

pub returns-in_default-split_first_chunk_mut-4 : goal.returns-in_default-split_first_chunk_mut-4
returns-in_default-split_first_chunk_mut-4 c =
    let head = cut c.in-Some.ensures.cases in
    let memory = cut c.in-Some-split_first_chunk_mut.ensures.cases in
    let image = cut c.in-Some-split_first_chunk_mut-2.ensures.cases in
    let reads = cut c.in-Some-split_first_chunk_mut-3.ensures.cases in
    short (rw (again reads, again image, again memory, again head))
    (λ e. omega (arith, head.long, memory.long, image.long, reads.long, c.in_default-split_first_chunk_mut-4.ensures.cases))

pub returns-in_default-as_mut_array : goal.returns-in_default-as_mut_array
returns-in_default-as_mut_array c =
    let head = cut c.in-Some.ensures.cases in
    let memory = cut c.in-Some-split_first_chunk_mut.ensures.cases in
    let image = cut c.in-Some-split_first_chunk_mut-2.ensures.cases in
    let reads = cut c.in-Some-split_first_chunk_mut-3.ensures.cases in
    let writes = cut c.in-Some-split_first_chunk_mut-4.ensures.cases in
    short (rw (again writes, again reads, again image, again memory, again head))
    (λ e. c.in_default-as_mut_array.ensures.cases (omega (arith, e, head.long, memory.long, image.long, reads.long, writes.long)))

pub returns-in_err-cpu : goal.returns-in_err-cpu
returns-in_err-cpu c =
    let p = err_from_is_err_and c.from_residual.result c.from_residual.ensures.1 in
    let kept = c.in-Some-as_mut_array.ensures.cases in
    rw (p.1, p.2, kept.same)
    (no_record (cut c.in-Some.ensures.cases) (cut c.in-Some-split_first_chunk_mut.ensures.cases)
    (cut c.in-Some-split_first_chunk_mut-2.ensures.cases) (cut c.in-Some-split_first_chunk_mut-3.ensures.cases)
    (cut c.in-Some-split_first_chunk_mut-4.ensures.cases) kept.long c.in_err-cpu.ensures)

pub returns-in_err-edition : goal.returns-in_err-edition
returns-in_err-edition c =
    let p = err_from_is_err_and c.from_residual-in_err-edition.result c.from_residual-in_err-edition.ensures.1 in
    let kept = c.in-Some-as_mut_array.ensures.cases in
    rw (p.1, p.2, kept.same)
    (no_edition (cut c.in-Some.ensures.cases) (cut c.in-Some-split_first_chunk_mut.ensures.cases)
    (cut c.in-Some-split_first_chunk_mut-2.ensures.cases) (cut c.in-Some-split_first_chunk_mut-3.ensures.cases)
    (cut c.in-Some-split_first_chunk_mut-4.ensures.cases) kept.long c.in_ok-cpu.ensures c.in_err-edition.ensures)

pub returns : goal.returns
returns c =
    let kept = c.in-Some-as_mut_array.ensures.cases in
    taken (cut c.in-Some.ensures.cases) (cut c.in-Some-split_first_chunk_mut.ensures.cases)
    (cut c.in-Some-split_first_chunk_mut-2.ensures.cases) (cut c.in-Some-split_first_chunk_mut-3.ensures.cases)
    (cut c.in-Some-split_first_chunk_mut-4.ensures.cases) kept.long c.in_ok-cpu.ensures c.in_ok-edition.ensures
    (rw c.budget-budget.ensures at c.run_within-watched.ensures) (rw kept.same at c.keep-blanked.ensures) c.tell.ensures
