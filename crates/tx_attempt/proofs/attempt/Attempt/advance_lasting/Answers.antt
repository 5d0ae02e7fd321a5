-- The attempt is sound with one NTSTG more.
use Rattle.std.proofs.Common.{◌≡◌, ◌<◌, List, ◌∷◌, [], refl, sym, subst, ap, ◌∙◌, arith, length}
use Rattle.z_regs.specs.declared.ranges.Range.{Range}
use Rattle.tx_attempt.specs.Advancing.{MayAdvance}
use Rattle.tx_attempt.specs.Performed.{StoresFirst}
use Rattle.tx_attempt.specs.Tracked.{Tracked}
use Rattle.tx_attempt.specs.contracts.attempt.Attempt.{the_view}
use Rattle.tx_attempt.proofs.Advances.{room-for, advanced-sound}
use Rattle.tx_attempt.proofs.Stepping.{went-on, nest-beside}
use Rattle.tx_attempt.proofs.attempt.Attempt.advance_lasting.Goals as goal

pub gather_doubleword-requires-clause-room : goal.gather_doubleword-requires-clause-room
gather_doubleword-requires-clause-room c =
    let prefix = c.args.prefix in
    let need = c.args.need.now in
    let i = c.args.instr.now in
    room-for (the_view c.self.inside) i prefix need c.requires.prefix_in c.requires.accessible
    (subst StoresFirst (sym c.requires.doubleword.is) tt) c.self.invariant
    (subst (λ (t : Tracked). MayAdvance t i prefix need) (sym c.self.view_is) c.requires.goes_on)

pub touch-requires-clause-few : goal.touch-requires-clause-few
touch-requires-clause-few c =
    let one = ap (λ (rs : List Range). length rs) c.requires.doubleword.is in
    omega (arith, one)

pub invariant_of-self : goal.invariant_of-self
invariant_of-self c =
    let i = c.args.instr.now in
    let prefix = c.args.prefix in
    let need = c.args.need.now in
    let old = the_view c.self.inside in
    let live : 0 < c.self.inside.count =
    subst (λ (t : Tracked). 0 < t.count) (sym c.self.view_is) c.requires.live in
    advanced-sound old i [] prefix need c.args.stored.now _ _ _ _ c.self.invariant live
    (subst (λ (t : Tracked). MayAdvance t i prefix need) (sym c.self.view_is) c.requires.goes_on)
    c.requires.prefix_in c.requires.accessible
    (subst StoresFirst (sym c.requires.doubleword.is) tt)
    (sym (nest-beside i [] old.nest c.requires.lasts)) c.touch.ensures c.add_operands.ensures
    c.gather_doubleword.ensures.overlay c.gather_doubleword.ensures.lasting

pub returns-clause-value : goal.returns-clause-value
returns-clause-value c x y prefix =
    let i = c.args.instr.now in
    let old = the_view c.self.inside in
    let live : 0 < c.self.inside.count =
    subst (λ (t : Tracked). 0 < t.count) (sym c.self.view_is) c.requires.live in
    rw (← c.self.view_is)
    (went-on i c.args.need.now x y old _ c.args.prefix _ prefix live
    (sym (nest-beside i x.general old.nest c.requires.lasts))
    c.gather_doubleword.ensures.overlay c.gather_doubleword.ensures.lasting c.touch.ensures c.add_operands.ensures
    refl refl)
