-- A page is in the list of the guard's pages where the guard has it.
use Rattle.std.proofs.Common.{◌+◌, ◌-◌, ◌/◌, ap, sym, ◌∙◌}
use Rattle.std.specs.FinSet.{contains}
use Rattle.std.proofs.lemmas.Bool.{not-true}
use Rattle.z_touch.proofs.SmallRanges.{any-items}
use Rattle.tx_cpu.proofs.paired.is_free.Goals as goal

pub returns-then-not-has-clause-first : goal.returns-then-not-has-clause-first
returns-then-not-has-clause-first c so =
    any-items c.args.guard.now (c.args.first / 4096) ∙ sym c.has.ensures.there ∙ c.if-not-has.true

pub returns-then-not-has-clause-last : goal.returns-then-not-has-clause-last
returns-then-not-has-clause-last c so =
    let g = c.args.guard.now in
    any-items g ((c.args.first + c.args.size - 1) / 4096)
    ∙ sym (c.has-then-not-has.ensures.there ∙ ap (λ n. contains g ((c.args.first + n - 1) / 4096)) c.from.ensures)
    ∙ not-true c.has-then-not-has.result so
