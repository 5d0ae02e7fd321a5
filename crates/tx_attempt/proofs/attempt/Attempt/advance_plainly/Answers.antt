-- The attempt is sound with one instruction more that is not about transactions.
use Rattle.std.proofs.Common.{◌<◌, refl, sym, subst, ap, ◌∙◌}
use Rattle.tx_attempt.specs.Advancing.{MayAdvance}
use Rattle.tx_attempt.specs.Performed.{StoresFirst}
use Rattle.tx_attempt.specs.Tracked.{Tracked}
use Rattle.tx_attempt.specs.contracts.attempt.Attempt.{the_view}
use Rattle.tx_attempt.proofs.Advances.{room-for, advanced-sound}
use Rattle.tx_attempt.proofs.Lent.{at-most-two}
use Rattle.tx_attempt.proofs.Stepping.{stepped, nest-stays, lasts-nothing}
use Rattle.tx_attempt.proofs.Stored.{operands-first}
use Rattle.store_cache.specs.Stores.{Stores, lasting_bytes}
use Rattle.store_cache.specs.Entries.{stores_of}
use Rattle.tx_attempt.proofs.attempt.Attempt.advance_plainly.Goals as goal

pub gather_first-requires-clause-first : goal.gather_first-requires-clause-first
gather_first-requires-clause-first c =
    let goes = c.requires.goes_on in
    subst StoresFirst (sym goes.operands_are) (operands-first goes.instr goes.cpu)

pub gather_first-requires-clause-room : goal.gather_first-requires-clause-room
gather_first-requires-clause-room c =
    let goes = c.requires.goes_on in
    let prefix = c.args.prefix in
    let need = c.args.need.now in
    room-for (the_view c.self.inside) goes.instr prefix need c.requires.prefix_in c.requires.accessible
    (subst StoresFirst (sym goes.operands_are) (operands-first goes.instr goes.cpu)) c.self.invariant
    (subst (λ (t : Tracked). MayAdvance t goes.instr prefix need) (sym c.self.view_is) goes.advances)

pub touch-requires-clause-few : goal.touch-requires-clause-few
touch-requires-clause-few c =
    let goes = c.requires.goes_on in
    at-most-two goes.instr goes.cpu c.args.need.now goes.operands_are

pub invariant_of-self : goal.invariant_of-self
invariant_of-self c =
    let goes = c.requires.goes_on in
    let i = goes.instr in
    let prefix = c.args.prefix in
    let need = c.args.need.now in
    let old = the_view c.self.inside in
    let live : 0 < c.self.inside.count =
    subst (λ (t : Tracked). 0 < t.count) (sym c.self.view_is) c.requires.live in
    advanced-sound old i goes.cpu.general prefix need c.args.stored.now _ _ _ _ c.self.invariant live
    (subst (λ (t : Tracked). MayAdvance t i prefix need) (sym c.self.view_is) goes.advances)
    c.requires.prefix_in c.requires.accessible
    (subst StoresFirst (sym goes.operands_are) (operands-first i goes.cpu))
    (sym (nest-stays i goes.cpu.general old goes.plain)) c.touch.ensures c.add_operands.ensures
    (ap (λ (s : Stores). s.overlay) c.gather_first.ensures)
    (ap (λ (s : Stores). lasting_bytes s.lasting) c.gather_first.ensures
    ∙ lasts-nothing i (lasting_bytes (stores_of old.stores).lasting) _ goes.plain)

pub returns-clause-value : goal.returns-clause-value
returns-clause-value c i x y plain prefix =
    let live : 0 < c.self.inside.count =
    subst (λ (t : Tracked). 0 < t.count) (sym c.self.view_is) c.requires.live in
    rw (← c.self.view_is)
    (stepped i c.args.need.now x y (the_view c.self.inside) _ c.args.prefix _ plain prefix live refl
    c.gather_first.ensures c.touch.ensures c.add_operands.ensures refl refl)
