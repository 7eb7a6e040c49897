-- The low byte wraps by the sum in eight bits, and the page is chosen by the definition's own flag.
-- Assumes nothing.
use Rattle.std.proofs.Common.{◌≡◌, ℕ, ◌+◌, Bool, true, false, cond, zero-add, rules}
use Rattle.modes.proofs.addresses.page.Goals as goal

page_one : (p : Bool) (low place : ℕ) → p ≡ true → low ≡ place → 0x100 + low ≡ cond p 0x100 0 + place
page_one p low place e g = rw (e, g)

page_zero : (p : Bool) (low place : ℕ) → p ≡ false → low ≡ place → low ≡ cond p 0x100 0 + place
page_zero p low place e g = rw (e, g, zero-add)

pub returns-then-psw : goal.returns-then-psw
returns-then-psw c = search (rules, page_one)

pub returns-else-psw : goal.returns-else-psw
returns-else-psw c = search (rules, page_zero)
