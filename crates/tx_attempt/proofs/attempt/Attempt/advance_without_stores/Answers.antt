-- The attempt is sound with one instruction more that stores nothing.
use Rattle.std.proofs.Common.{◌<◌, List, [], refl, sym, subst, ap, take}
use Rattle.tx_progress.specs.Progress.{laying}
use Rattle.tx_attempt.specs.Advancing.{MayAdvance}
use Rattle.tx_attempt.specs.Performed.{StoresFirst, first_size}
use Rattle.tx_attempt.specs.Tracked.{Tracked}
use Rattle.tx_attempt.specs.contracts.attempt.Attempt.{the_view}
use Rattle.tx_attempt.proofs.Advances.{advanced-sound}
use Rattle.tx_attempt.proofs.Lent.{at-most-two}
use Rattle.tx_attempt.proofs.Stepping.{stepped, nest-stays, lasts-nothing}
use Rattle.tx_attempt.proofs.Stored.{operands-first, none-stores}
use Rattle.store_cache.specs.Entries.{stores_of}
use Rattle.store_cache.specs.Stores.{lasting_bytes}
use Rattle.store_cache.specs.Overlay.{Store}
use Rattle.tx_attempt.proofs.attempt.Attempt.advance_without_stores.Goals as goal

pub touch-requires-clause-few : goal.touch-requires-clause-few
touch-requires-clause-few c =
    let goes = c.requires.goes_on in
    at-most-two goes.instr goes.cpu c.args.need.now goes.operands_are

pub invariant_of-self : goal.invariant_of-self
invariant_of-self c =
    let goes = c.requires.goes_on in
    let i = goes.instr in
    let prefix = c.args.prefix in
    let need = c.args.need.now in
    let old = the_view c.self.inside in
    let live : 0 < c.self.inside.count =
    subst (λ (t : Tracked). 0 < t.count) (sym c.self.view_is) c.requires.live in
    let none = none-stores prefix need (take (first_size need) []) c.requires.fetches in
    advanced-sound old i goes.cpu.general prefix need [] _ _ _ _ c.self.invariant live
    (subst (λ (t : Tracked). MayAdvance t i prefix need) (sym c.self.view_is) goes.advances)
    c.requires.prefix_in c.requires.accessible
    (subst StoresFirst (sym goes.operands_are) (operands-first i goes.cpu))
    (sym (nest-stays i goes.cpu.general old goes.plain)) c.touch.ensures c.add_operands.ensures
    (ap (laying (stores_of old.stores).overlay) (sym none))
    (lasts-nothing i (lasting_bytes (stores_of old.stores).lasting) _ goes.plain)

pub returns-clause-value : goal.returns-clause-value
returns-clause-value c i x y bytes plain prefix =
    let old = the_view c.self.inside in
    let live : 0 < c.self.inside.count =
    subst (λ (t : Tracked). 0 < t.count) (sym c.self.view_is) c.requires.live in
    rw (← c.self.view_is)
    (stepped i c.args.need.now x y old _ c.args.prefix _ plain prefix live refl
    (ap (λ (ss : List Store). record (stores_of old.stores) { overlay = laying (stores_of old.stores).overlay ss })
    (sym (none-stores c.args.prefix c.args.need.now bytes c.requires.fetches)))
    c.touch.ensures c.add_operands.ensures refl refl)
