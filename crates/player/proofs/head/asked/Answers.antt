-- The tests are the definition's, in its order.
-- Assumes nothing.
use Rattle.std.specs.Prelude.{◌≡◌, ℕ, ◌≤◌, Bool, true, List, Ok}
use Rattle.std.proofs.Common.{sym, ◌∙◌}
use borrow.Author.Tests.{le-leb}
use Rattle.editions.specs.Editions.{edition_named}
use Rattle.editions.specs.declared.Edition.{Edition}
use Rattle.engine.proofs.Refused.{edition_ok}
use Rattle.state.specs.Registers.{is_whole}
use Rattle.player.specs.Head.{edition_in, until_in, budget_in, registers_in, asked_in}
use Rattle.player.proofs.head.asked.Goals as goal

all_asked : (head : List ℕ) {w : Bool} {first until budget : ℕ} {e : Edition}
    → w ≡ is_whole (registers_in head) → w ≡ true → first ≡ until_in head → first ≤ 4294967280
    → Ok e ≡ edition_named (edition_in head) → until ≡ until_in head → budget ≡ budget_in head
    → Ok (record { edition = e; until = until; budget = budget }) ≡ asked_in head
all_asked head {w} whole n f l e u b =
    let named = edition_ok (edition_in head) e in
    let all : is_whole (registers_in head) ≡ true = sym whole ∙ n in
    rw (all, le-leb _ _ (rw f at l), named.0, named.1, u, b)

pub returns : goal.returns
returns c =
    all_asked c.args.head.now c.is_whole.ensures c.if-not-is_whole.false c.until.ensures c.if-until-gt4294967280.false
    c.in_ok-try_from.ensures c.until-2.ensures c.budget.ensures
