-- Without a prefix operands stand where their addresses say; else they are needed by absolute addresses.
use Rattle.std.proofs.Common.{◌≡◌, ℕ, sym, ap, subst, ◌∙◌, List, Option}
use Rattle.z_regs.specs.Absolute.{absolute_ranges}
use Rattle.z_regs.specs.declared.ranges.Range.{Range}
use Rattle.tx_meaning.specs.Needs.{needs_of}
use Rattle.tx_keeping.specs.Asking.{k_get_lines}
use Rattle.tx_works.specs.Ready.{MayHold}
use Rattle.tx_works.specs.Works.{kept_by}
use Rattle.tx_works.proofs.Seats.{no_seat}
use Rattle.tx_works.proofs.Lined.{bare-ranges, bare-small, bare-inside, nothing-got}
use Rattle.tx_works.proofs.works.Works.get_operands.Goals as goal

pub returns-then-count-eq0-clause-kept : goal.returns-then-count-eq0-clause-kept
returns-then-count-eq0-clause-kept c rest m cpus =
    let k = kept_by rest c.args.self.now in
    nothing-got m c.args.cpu k (k.locals c.args.cpu).attempt.cpu.prefix c.args.need.now
    (sym c.count.ensures.value ∙ c.if-count-eq0.true)

-- ---- without a prefix

pub get_lines-requires-clause-small : goal.get_lines-requires-clause-small
get_lines-requires-clause-small c =
    bare-small c.prefix-prefix.result _ c.args.need.now (c.prefix-prefix.ensures.value no_seat)
    (c.requires.reach no_seat) c.prefix-prefix.ensures.prefix_in c.in-None.is

pub get_lines-requires-clause-in_storage : goal.get_lines-requires-clause-in_storage
get_lines-requires-clause-in_storage c =
    bare-inside c.prefix-prefix.result _ c.args.need.now (c.prefix-prefix.ensures.value no_seat)
    (c.requires.reach no_seat) c.prefix-prefix.ensures.prefix_in c.in-None.is

pub get_lines-requires-clause-holds : goal.get_lines-requires-clause-holds
get_lines-requires-clause-holds c rest =
    let k = kept_by rest c.args.self.now in
    let places : c.args.need.now ≡ absolute_ranges (k.locals c.args.cpu).attempt.cpu.prefix c.args.need.now =
    bare-ranges c.prefix-prefix.result c.args.need.now c.in-None.is
    ∙ ap (λ (p : Option ℕ). absolute_ranges p c.args.need.now) (c.prefix-prefix.ensures.value rest) in
    subst (λ (rs : List Range). MayHold c.args.cpu (needs_of rs) k) (sym places) (c.requires.holds rest)

pub returns-in-None-clause-kept : goal.returns-in-None-clause-kept
returns-in-None-clause-kept c rest m cpus =
    let k = kept_by rest c.args.self.now in
    let places : c.args.need.now ≡ absolute_ranges (k.locals c.args.cpu).attempt.cpu.prefix c.args.need.now =
    bare-ranges c.prefix-prefix.result c.args.need.now c.in-None.is
    ∙ ap (λ (p : Option ℕ). absolute_ranges p c.args.need.now) (c.prefix-prefix.ensures.value rest) in
    c.get_lines.ensures.kept rest m cpus
    ∙ ap (λ (rs : List Range). k_get_lines m c.args.cpu (needs_of rs) k) places
