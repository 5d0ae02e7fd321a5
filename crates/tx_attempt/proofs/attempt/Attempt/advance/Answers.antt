-- The attempt is sound with one instruction more.
use Rattle.std.proofs.Common.{◌≡◌, ◌<◌, Bool, true, false, Some, None, refl, sym, subst, ap, ◌∙◌}
use Rattle.std.specs.Prelude.{is_some, if◌then◌else◌}
use Rattle.z_instr.specs.Roles.{begins}
use Rattle.z_instr.specs.Table.{entry_at}
use Rattle.z_effect.specs.Beginning.{begin_of}
use Rattle.tx_control.specs.declared.begins.Begin.{Begin}
use Rattle.tx_attempt.specs.Advancing.{MayAdvance}
use Rattle.tx_attempt.specs.Performed.{StoresFirst}
use Rattle.tx_attempt.specs.Tracked.{Tracked}
use Rattle.tx_attempt.specs.contracts.attempt.Attempt.{the_view}
use Rattle.tx_attempt.proofs.Advances.{room-for, advanced-sound}
use Rattle.tx_attempt.proofs.Lent.{at-most-two}
use Rattle.tx_attempt.proofs.Stored.{operands-first}
use Rattle.tx_attempt.proofs.attempt.Attempt.advance.Goals as goal

pub gather_stores-requires-clause-first : goal.gather_stores-requires-clause-first
gather_stores-requires-clause-first c =
    let known = c.requires.known in
    subst StoresFirst (sym known.operands_are) (operands-first c.args.instr.now known.cpu)

pub gather_stores-requires-clause-room : goal.gather_stores-requires-clause-room
gather_stores-requires-clause-room c =
    let i = c.args.instr.now in
    let prefix = c.args.before.now.prefix in
    let need = c.args.need.now in
    let known = c.requires.known in
    room-for (the_view c.self.inside) i prefix need c.requires.prefix_in c.requires.accessible
    (subst StoresFirst (sym known.operands_are) (operands-first i known.cpu)) c.self.invariant
    (subst (λ (t : Tracked). MayAdvance t i prefix need) (sym c.self.view_is) c.requires.goes_on)

pub touch-requires-clause-few : goal.touch-requires-clause-few
touch-requires-clause-few c =
    let known = c.requires.known in
    at-most-two c.args.instr.now known.cpu c.args.need.now known.operands_are

some-where : (b : Bool) (level : Begin) → is_some (if b then Some level else None) ≡ b
some-where true level = refl
some-where false level = refl

pub change_nest-requires-clause-begins : goal.change_nest-requires-clause-begins
change_nest-requires-clause-begins c =
    let i = c.args.instr.now in
    let known = c.requires.known in
    ap is_some known.known.opens
    ∙ some-where (begins (entry_at i.op.number)) (begin_of i known.cpu.general)

pub invariant_of-self : goal.invariant_of-self
invariant_of-self c =
    let i = c.args.instr.now in
    let prefix = c.args.before.now.prefix in
    let need = c.args.need.now in
    let known = c.requires.known in
    let live : 0 < c.self.inside.count =
    subst (λ (t : Tracked). 0 < t.count) (sym c.self.view_is) c.requires.live in
    advanced-sound (the_view c.self.inside) i known.cpu.general prefix need c.args.stored.now _ _ _ _
    c.self.invariant live
    (subst (λ (t : Tracked). MayAdvance t i prefix need) (sym c.self.view_is) c.requires.goes_on)
    c.requires.prefix_in c.requires.accessible
    (subst StoresFirst (sym known.operands_are) (operands-first i known.cpu))
    (c.change_nest.ensures known.cpu.general known.known.opens)
    c.touch.ensures c.add_operands.ensures c.gather_stores.ensures.overlay c.gather_stores.ensures.lasting
