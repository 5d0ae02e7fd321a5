-- Once its lines are there.
use Rattle.std.proofs.Common.{◌≡◌, ℕ, sym, ap, subst, ◌∙◌, List, [], ◌∷◌, Option, Some, None, is_some}
use Rattle.z_regs.specs.Absolute.{absolute_ranges}
use Rattle.z_regs.specs.declared.ranges.Range.{Range}
use Rattle.tx_meaning.specs.Needs.{needs_of, stored}
use Rattle.tx_meaning.specs.declared.outcome.Outcome.TheVariants.{Executed}
use Rattle.tx_keeping.specs.Kept.{Kept}
use Rattle.tx_keeping.specs.Moves.{k_storing}
use Rattle.tx_keeping.specs.Turn.{k_turned}
use Rattle.tx_works.specs.declared.asking.Refused.{Refused}
use Rattle.tx_works.specs.Ready.{MayHold}
use Rattle.tx_works.specs.Turned.{turned_as}
use Rattle.tx_works.specs.Works.{kept_by}
use Rattle.tx_works.proofs.Seats.{no_seat}
use Rattle.tx_works.proofs.Lined.{given-is, room-left}
use Rattle.tx_works.proofs.works.Works.store_pending.Goals as goal

pub get_lines-requires-clause-holds : goal.get_lines-requires-clause-holds
get_lines-requires-clause-holds c rest =
    let k = kept_by rest c.args.self.now in
    let places : c.block_places-places.result
    ≡ absolute_ranges (k.locals c.args.cpu).attempt.cpu.prefix (stored c.args.address 256 ∷ []) =
    c.block_places-places.ensures.value
    ∙ ap (λ (p : Option ℕ). absolute_ranges p (stored c.args.address 256 ∷ []))
    (c.prefix-prefix.ensures.value rest) in
    subst (λ (rs : List Range). MayHold c.args.cpu (needs_of rs) k) (sym places)
    (c.requires.holds rest)

pub refuse-requires-clause-behind : goal.refuse-requires-clause-behind
refuse-requires-clause-behind c rest =
    c.get_lines.ensures.refused rest (ap (λ (o : Option Refused). is_some o) c.in-Some.is)

pub refuse-requires-clause-room : goal.refuse-requires-clause-room
refuse-requires-clause-room c =
    room-left c.args.self.now c.get_lines.new.self (c.get_lines.ensures.owed_no_more no_seat)
    (c.requires.acts no_seat).room c.get_lines.ensures.size

pub store_block-requires-clause-room : goal.store_block-requires-clause-room
store_block-requires-clause-room c =
    room-left c.args.self.now c.get_lines.new.self (c.get_lines.ensures.owed_no_more no_seat)
    (c.requires.acts no_seat).room c.get_lines.ensures.size

pub returns-in-Some-clause-value : goal.returns-in-Some-clause-value
returns-in-Some-clause-value c rest m e =
    let k = kept_by rest c.args.self.now in
    let places : c.block_places-places.result
    ≡ absolute_ranges (k.locals c.args.cpu).attempt.cpu.prefix (stored c.args.address 256 ∷ []) =
    c.block_places-places.ensures.value
    ∙ ap (λ (p : Option ℕ). absolute_ranges p (stored c.args.address 256 ∷ []))
    (c.prefix-prefix.ensures.value rest) in
    given-is m c.args.cpu c.block_places-places.result
    (absolute_ranges (k.locals c.args.cpu).attempt.cpu.prefix (stored c.args.address 256 ∷ [])) k
    (kept_by rest c.get_lines.new.self) (Some c.in-Some.refused.reject)
    (λ (t : Kept). k_turned (k_storing c.args.cpu t) Executed)
    (turned_as (kept_by rest c.refuse.new.self) c.refuse.new.turned) places ((c.in-Some.ensures).kept rest m e)
    (c.refuse.ensures.value rest)

pub returns-in-None-clause-value : goal.returns-in-None-clause-value
returns-in-None-clause-value c rest m e =
    let k = kept_by rest c.args.self.now in
    let places : c.block_places-places.result
    ≡ absolute_ranges (k.locals c.args.cpu).attempt.cpu.prefix (stored c.args.address 256 ∷ []) =
    c.block_places-places.ensures.value
    ∙ ap (λ (p : Option ℕ). absolute_ranges p (stored c.args.address 256 ∷ []))
    (c.prefix-prefix.ensures.value rest) in
    given-is m c.args.cpu c.block_places-places.result
    (absolute_ranges (k.locals c.args.cpu).attempt.cpu.prefix (stored c.args.address 256 ∷ [])) k
    (kept_by rest c.get_lines.new.self) None (λ (t : Kept). k_turned (k_storing c.args.cpu t) Executed)
    (turned_as (kept_by rest c.store_block.new.self) c.store_block.result) places
    ((c.in-None.ensures).kept rest m e)
    (c.store_block.ensures.value rest)
