-- Once its lines are there.
use Rattle.std.proofs.Common.{◌≡◌, ℕ, sym, ap, subst, ◌∙◌, List, Option, Some, None, is_some}
use Rattle.z_regs.specs.Absolute.{absolute_ranges}
use Rattle.z_regs.specs.declared.ranges.Range.{Range}
use Rattle.tx_meaning.specs.Needs.{needs_of, interruption_ranges}
use Rattle.tx_meaning.specs.declared.outcome.Outcome.TheVariants.{Executed}
use Rattle.tx_keeping.specs.Kept.{Kept}
use Rattle.tx_keeping.specs.Moves.{k_taking}
use Rattle.tx_keeping.specs.Turn.{k_turned}
use Rattle.tx_works.specs.declared.asking.Refused.{Refused}
use Rattle.tx_works.specs.Ready.{MayHold}
use Rattle.tx_works.specs.Turned.{turned_as}
use Rattle.tx_works.specs.Works.{kept_by}
use Rattle.tx_works.proofs.Seats.{no_seat}
use Rattle.tx_works.proofs.Lined.{given-is, room-left, bytes_of, bytes-some}
use Rattle.tx_works.proofs.works.Works.take_waiting.Goals as goal

pub get_lines-requires-clause-holds : goal.get_lines-requires-clause-holds
get_lines-requires-clause-holds c rest =
    let k = kept_by rest c.args.self.now in
    let places : c.interruption_places-places.result
    ≡ absolute_ranges (k.locals c.args.cpu).attempt.cpu.prefix (interruption_ranges (bytes_of c.args.block)) =
    c.interruption_places-places.ensures.value (bytes_of c.args.block) (bytes-some c.args.block)
    ∙ ap (λ (p : Option ℕ). absolute_ranges p (interruption_ranges (bytes_of c.args.block)))
    (c.prefix-prefix.ensures.value rest) in
    subst (λ (rs : List Range). MayHold c.args.cpu (needs_of rs) k) (sym places)
    (c.requires.holds rest (bytes_of c.args.block) (bytes-some c.args.block))

pub refuse-requires-clause-behind : goal.refuse-requires-clause-behind
refuse-requires-clause-behind c rest =
    c.get_lines.ensures.refused rest (ap (λ (o : Option Refused). is_some o) c.in-Some.is)

pub refuse-requires-clause-room : goal.refuse-requires-clause-room
refuse-requires-clause-room c =
    room-left c.args.self.now c.get_lines.new.self (c.get_lines.ensures.owed_no_more no_seat)
    (c.requires.acts no_seat).room c.get_lines.ensures.size

pub take-requires-clause-room : goal.take-requires-clause-room
take-requires-clause-room c =
    room-left c.args.self.now c.get_lines.new.self (c.get_lines.ensures.owed_no_more no_seat)
    (c.requires.acts no_seat).room c.get_lines.ensures.size

pub returns-in-Some-clause-value : goal.returns-in-Some-clause-value
returns-in-Some-clause-value c rest m bytes is e =
    let k = kept_by rest c.args.self.now in
    let places : c.interruption_places-places.result
    ≡ absolute_ranges (k.locals c.args.cpu).attempt.cpu.prefix (interruption_ranges bytes) =
    c.interruption_places-places.ensures.value bytes is
    ∙ ap (λ (p : Option ℕ). absolute_ranges p (interruption_ranges bytes))
    (c.prefix-prefix.ensures.value rest) in
    given-is m c.args.cpu c.interruption_places-places.result
    (absolute_ranges (k.locals c.args.cpu).attempt.cpu.prefix (interruption_ranges bytes)) k
    (kept_by rest c.get_lines.new.self) (Some c.in-Some.refused.reject)
    (λ (t : Kept). k_turned (k_taking c.args.cpu t) Executed)
    (turned_as (kept_by rest c.refuse.new.self) c.refuse.new.turned) places ((c.in-Some.ensures).kept rest m e)
    (c.refuse.ensures.value rest)

pub returns-in-None-clause-value : goal.returns-in-None-clause-value
returns-in-None-clause-value c rest m bytes is e =
    let k = kept_by rest c.args.self.now in
    let places : c.interruption_places-places.result
    ≡ absolute_ranges (k.locals c.args.cpu).attempt.cpu.prefix (interruption_ranges bytes) =
    c.interruption_places-places.ensures.value bytes is
    ∙ ap (λ (p : Option ℕ). absolute_ranges p (interruption_ranges bytes))
    (c.prefix-prefix.ensures.value rest) in
    given-is m c.args.cpu c.interruption_places-places.result
    (absolute_ranges (k.locals c.args.cpu).attempt.cpu.prefix (interruption_ranges bytes)) k
    (kept_by rest c.get_lines.new.self) None (λ (t : Kept). k_turned (k_taking c.args.cpu t) Executed)
    (turned_as (kept_by rest c.take.new.self) c.take.result) places ((c.in-None.ensures).kept rest m e)
    (c.take.ensures.value rest)
