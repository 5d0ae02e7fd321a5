-- They are needed by absolute addresses.
use Rattle.std.proofs.Common.{◌≡◌, ℕ, sym, ap, subst, ◌∙◌, List, Option}
use Rattle.std.specs.Prelude.{All}
use Rattle.z_regs.specs.Absolute.{absolute_ranges, IsAccessible}
use Rattle.z_regs.specs.declared.ranges.Range.{Range}
use Rattle.tx_meaning.specs.Needs.{needs_of}
use Rattle.tx_keeping.specs.Asking.{k_get_lines}
use Rattle.tx_works.specs.Ready.{MayHold}
use Rattle.tx_works.specs.Works.{kept_by}
use Rattle.tx_works.proofs.Seats.{no_seat}
use Rattle.tx_works.proofs.works.Works.get_places.Goals as goal

pub operand_places-places-requires-clause-few : goal.operand_places-places-requires-clause-few
operand_places-places-requires-clause-few c = (c.requires.reach no_seat).few

pub operand_places-places-requires-clause-accessible : goal.operand_places-places-requires-clause-accessible
operand_places-places-requires-clause-accessible c =
    subst (λ (p : Option ℕ). All (IsAccessible p) c.args.need.now) (sym (c.requires.own no_seat))
    (c.requires.reach no_seat).accessible

pub get_lines-requires-clause-holds : goal.get_lines-requires-clause-holds
get_lines-requires-clause-holds c rest =
    let k = kept_by rest c.args.self.now in
    let places : c.operand_places-places.result
    ≡ absolute_ranges (k.locals c.args.cpu).attempt.cpu.prefix c.args.need.now =
    c.operand_places-places.ensures.value
    ∙ ap (λ (p : Option ℕ). absolute_ranges p c.args.need.now) (c.requires.own rest) in
    subst (λ (rs : List Range). MayHold c.args.cpu (needs_of rs) k) (sym places) (c.requires.holds rest)

pub returns-clause-kept : goal.returns-clause-kept
returns-clause-kept c rest m cpus =
    let k = kept_by rest c.args.self.now in
    let places : c.operand_places-places.result
    ≡ absolute_ranges (k.locals c.args.cpu).attempt.cpu.prefix c.args.need.now =
    c.operand_places-places.ensures.value
    ∙ ap (λ (p : Option ℕ). absolute_ranges p c.args.need.now) (c.requires.own rest) in
    c.get_lines.ensures.kept rest m cpus
    ∙ ap (λ (rs : List Range). k_get_lines m c.args.cpu (needs_of rs) k) places
