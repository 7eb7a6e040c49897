-- Past the lengths it is the count that decides whether the row has room; only then is anything written.
-- Assumes nothing.
use Rattle.std.proofs.Common.{ℕ, ◌*◌, ◌<◌, ◌≤◌, ◌≡◌, true, false, List, Option, length}
use Rattle.std.specs.Option.{option_copied, unwrap_or}
use Rattle.std.proofs.lemmas.Result.{err_from_is_err_and}
use Rattle.differences.specs.Calls.{differ, stretches_of}
use Rattle.differences.specs.Walk.{Sought, left_from}
use Rattle.differences.proofs.Walks.{all_behind}
use Rattle.differences.proofs.Refusals.{wrong_first, wrong_second, wrong_map, short_row, none_wrong}
use Rattle.differences.proofs.between.Goals as goal

pub returns-in_err-first : goal.returns-in_err-first
returns-in_err-first c =
    let p = err_from_is_err_and c.from_residual.result c.from_residual.ensures.1 in
    rw (p.1, p.2, c.in_err-first.ensures.0, wrong_first _ _ _ _ c.in_err-first.ensures.1)

pub returns-in_err-second : goal.returns-in_err-second
returns-in_err-second c =
    let p = err_from_is_err_and c.from_residual-in_err-second.result c.from_residual-in_err-second.ensures.1 in
    rw (p.1, p.2, c.in_err-second.ensures.0, wrong_second _ _ _ _ c.in_ok-first.ensures.1 c.in_err-second.ensures.1)

pub returns-in_err-map : goal.returns-in_err-map
returns-in_err-map c =
    let p = err_from_is_err_and c.from_residual-in_err-map.result c.from_residual-in_err-map.ensures.1 in
    rw (p.1, p.2, c.in_err-map.ensures.0, wrong_map _ _ _ _ c.in_ok-first.ensures.1 c.in_ok-second.ensures.1 c.in_err-map.ensures.1)

-- All stretches are left where the walks begin.
begins : (first second : List ℕ) {from : ℕ} (sought : Option ℕ) → from ≡ unwrap_or sought 65536
    → Sought (differ first second) true false 0 sought → left_from first second from ≡ stretches_of first second
begins first second sought is e = rw is (all_behind (differ first second) sought e)

pub returns-then-row-many : goal.returns-then-row-many
returns-then-row-many c =
    let sought = rw (c.in_ok-first.ensures.0, c.in_ok-second.ensures.0) at c.first_from.ensures in
    let all = begins _ _ c.first_from.result c.unwrap_or-from.ensures sought in
    let found = rw (c.in_ok-first.ensures.0, c.in_ok-second.ensures.0, all) at c.count-found.ensures in
    let less : length c.args.row.now < 2 * length (stretches_of c.args.first.now c.args.second.now) = rw found at c.if-row-many.true in
    rw (short_row _ _ _ _ c.in_ok-first.ensures.1 c.in_ok-second.ensures.1 c.in_ok-map.ensures.1 less)

pub returns : goal.returns
returns c =
    let first = c.args.first.now in
    let second = c.args.second.now in
    let sought = rw (c.in_ok-first.ensures.0, c.in_ok-second.ensures.0) at c.first_from.ensures in
    let all = begins _ _ c.first_from.result c.unwrap_or-from.ensures sought in
    let found = rw (c.in_ok-first.ensures.0, c.in_ok-second.ensures.0, c.in_ok-map.ensures.0, all) at c.count-found.ensures in
    let left = rw (c.in_ok-first.ensures.0, c.in_ok-second.ensures.0, all) at c.write.ensures in
    let enough : 2 * length (stretches_of first second) ≤ length c.args.row.now = rw found at c.if-row-many.false in
    rw (
      found,
      left,
      none_wrong first second (option_copied c.args.map) c.args.row.now c.in_ok-first.ensures.1 c.in_ok-second.ensures.1
          c.in_ok-map.ensures.1 enough,
    )
