-- The invariant is `SoFar`: each address is either kept or blanked and counted.
-- Assumes nothing.
use Rattle.std.proofs.Common.{rules, arith}
use Rattle.std.proofs.lemmas.Result.{err_from_is_err_and}
use Rattle.blanking.proofs.Walk.{wrong_memory, wrong_map, begin, count_fits, one_kept, one_blanked, all_blanked}
use Rattle.blanking.proofs.blank.Goals as goal
use Rattle.blanking.proofs.blank.Goals.{then-not-kept, else-not-kept}

pub returns-then-memory-ne65536 : goal.returns-then-memory-ne65536
returns-then-memory-ne65536 c = search (rules, wrong_memory)

pub returns-in_err-map : goal.returns-in_err-map
returns-in_err-map c =
    let p = err_from_is_err_and c.from_residual.result c.from_residual.ensures.1 in
    let e = c.in_err-map.ensures in
    rw (p.1, p.2, e.0) (search (rules, wrong_map, e.1))

pub loop-at-init : goal.loop-at-init
loop-at-init c = search (rules, begin)

pub overflow_add-blanked : goal.overflow_add-blanked
overflow_add-blanked c = search (rules, count_fits)

pub loop-at-preserved : goal.loop-at-preserved
loop-at-preserved c =
    let size = c.if-memory-ne65536.false in
    let so = c.loop-at.invariant in
    let is = c.is_marked-kept.ensures in
    elim c.if-not-kept.branch [
      | then-not-kept t ↦ one_blanked _ _ _ size so (omega arith) is t.if-not-kept.true t.memory-is t.blanked-is
      | else-not-kept t ↦ one_kept _ _ _ size so (omega arith) is t.if-not-kept.false t.memory-is t.blanked-is
    ]

pub returns : goal.returns
returns c =
    let e = c.in_ok-map.ensures in
    let so = rw e.0 at c.loop-at.invariant in
    search (rules, all_blanked, e.1, so)
