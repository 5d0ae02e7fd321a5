-- The pages that a CPU may use lie side by side.
use Rattle.std.proofs.Common.{sym, arith}
use Rattle.std.proofs.lemmas.Bool.Decides.{nat_tests}
use Rattle.z_touch.proofs.SmallRanges.{any-without, any-with}
use Rattle.z_touch.proofs.pages.is_accessible.Goals as goal

pub returns-in-Some : goal.returns-in-Some
returns-in-Some c = rw c.in-Some.is (sym (any-with c.in-Some.field-0 c.args.page))

pub returns-then-page-ge2 : goal.returns-then-page-ge2
returns-then-page-ge2 c = rw c.in-None.is (grind (arith, nat_tests, any-without c.args.page))

pub returns-else-page-ge2 : goal.returns-else-page-ge2
returns-else-page-ge2 c = rw c.in-None.is (grind (arith, nat_tests, any-without c.args.page))
