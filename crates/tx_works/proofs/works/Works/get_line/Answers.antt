-- The line is there already, or all that stand against the request are asked before it is granted.
use Rattle.std.proofs.Common.{length, refl, sym, ap, ◌∙◌}
use Rattle.tx_works.specs.Works.{kept_by}
use Rattle.tx_works.specs.Asks.{asked_by, rejected_in}
use Rattle.tx_works.proofs.Questions.{some_rejected, none_rejected}
use Rattle.tx_works.proofs.Granted.{there_already, line_refused, line_granted, grant_leaves, still_few}
use Rattle.tx_needs.proofs.NeededLines.{mapped_lines}
use Rattle.tx_works.proofs.Granted.{some_needs}
use Rattle.line_table.specs.declared.table.Mode.TheVariants.{Shared}
use Rattle.tx_works.proofs.works.Works.get_line.Goals as goal

pub returns-then-is_there-clause-kept : goal.returns-then-is_there-clause-kept
returns-then-is_there-clause-kept c rest m needs cpus those =
    there_already m c.args.cpu needs c.args.need (kept_by rest c.args.self.now)
    (sym c.if-is_there.true ∙ c.is_there.ensures)

pub returns-then-is_some-clause-kept : goal.returns-then-is_some-clause-kept
returns-then-is_some-clause-kept c rest m needs cpus those =
    line_refused m c.args.cpu needs c.args.need (kept_by rest c.args.self.now)
    (length c.args.self.now.slots) cpus
    (sym c.if-is_there.false ∙ c.is_there.ensures) (kept_by rest c.ask_all-refused.new.self)
    (rejected_in c.ask_all-refused.result)
    (some_rejected c.ask_all-refused.result ∙ sym c.is_some.ensures ∙ c.if-is_some.true)
    (c.ask_all-refused.ensures.kept rest)

pub take_line-requires-clause-few : goal.take_line-requires-clause-few
take_line-requires-clause-few c rest =
    still_few (length c.args.self.now.slots) 16 c.args.cpu c.args.needed.now (kept_by rest c.args.self.now)
    (kept_by rest c.ask_all-refused.new.self) (c.ask_all-refused.ensures.leaves rest) (c.requires.few rest)

pub returns-clause-kept : goal.returns-clause-kept
returns-clause-kept c rest m needs cpus those =
    line_granted m c.args.cpu needs c.args.need (kept_by rest c.args.self.now)
    (length c.args.self.now.slots) cpus
    (sym c.if-is_there.false ∙ c.is_there.ensures) (kept_by rest c.ask_all-refused.new.self)
    (kept_by rest c.take_line.new.self)
    (ap (λ r. asked_by rest c.ask_all-refused.new.self r)
    (sym (none_rejected c.ask_all-refused.result (sym c.is_some.ensures ∙ c.if-is_some.false)))
    ∙ c.ask_all-refused.ensures.kept rest)
    (c.take_line.ensures.kept rest needs those)

pub returns-clause-leaves : goal.returns-clause-leaves
returns-clause-leaves c rest =
    grant_leaves (length c.args.self.now.slots) 16 c.args.cpu (some_needs c.args.needed.now) c.args.need
    (kept_by rest c.args.self.now) (kept_by rest c.ask_all-refused.new.self)
    (kept_by rest c.take_line.new.self)
    (c.ask_all-refused.ensures.leaves rest)
    (c.take_line.ensures.kept rest (some_needs c.args.needed.now)
    (mapped_lines (λ line. record { line = line; mode = Shared }) (λ line. refl) c.args.needed.now))
