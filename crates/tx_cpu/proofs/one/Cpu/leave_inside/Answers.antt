-- What an instruction inside a transaction leaves and tells that has been executed on storage as it is.
use Rattle.std.proofs.Common.{◌≡◌, true, List, [], ap, sym, subst, ◌∙◌, take}
use Rattle.std.specs.Prelude.{nat_lt, All, None}
use Rattle.z_regs.specs.Absolute.{IsAccessible}
use Rattle.z_regs.specs.declared.ranges.Range.{Range}
use Rattle.tx_progress.specs.Doing.{inside}
use Rattle.tx_program.specs.Shapes.{touched_by}
use Rattle.tx_attempt.specs.Advancing.{MayStep}
use Rattle.tx_attempt.specs.declared.performing.Ended.{Ended}
use Rattle.tx_attempt.specs.Performed.{StoresFirst, StoresNone, IsKeptApart, first_size, outcome_from}
use Rattle.tx_attempt.proofs.Stored.{operands-first}
use Rattle.tx_cpu.specs.Parts.{Parts, beside}
use Rattle.tx_cpu.specs.contracts.one.Cpu.{the_view}
use Rattle.tx_cpu.proofs.Inside.{stepped-is, next-known}
use Rattle.tx_cpu.proofs.There.{none-kept}
use Rattle.tx_cpu.proofs.one.Cpu.leave_inside.Goals as goal

pub returns-in-Completed : goal.returns-in-Completed
returns-in-Completed c x o bytes prefix apart =
    let p = the_view c.self.inside in
    let i = c.args.plain.now.ready.now.instr in
    let shape = c.args.plain.now.ready.now.shape in
    let need = touched_by shape.touch c.args.plain.now.first shape.size in
    let goes = c.requires.goes_on in
    let live : nat_lt 0 p.attempt.count ≡ true =
    ap (λ (q : Parts). nat_lt 0 q.attempt.count) c.self.view_is ∙ c.requires.live in
    let first : StoresFirst need = subst StoresFirst (sym goes.operands_are) (operands-first goes.instr goes.cpu) in
    let here = subst (λ (q : Parts). IsKeptApart o (first_size need) x q.image [] c.args.ended) (sym c.self.view_is) apart in
    rw (← c.self.view_is)
    (stepped-is (record p { image = x }) i need o p.image [] c.advance_there.new.attempt bytes live
    c.advance_there.ensures.live (c.is_sound.ensures.opens c.advance_there.ensures.live) first
    (ap (λ (e : Ended). outcome_from e p.image (take (first_size need) [])) (sym c.in-Completed.is) ∙ here.value)
    (next-known (record p { image = x }) i need [] c.advance_there.new.attempt None (sym prefix)
    (λ y. c.advance_there.ensures.value i x y (take (first_size need) []) c.requires.plain prefix)))

pub end_inside-requires-clause-accessible : goal.end_inside-requires-clause-accessible
end_inside-requires-clause-accessible c =
    subst (All (IsAccessible None)) (sym c.operands_at-need.ensures) c.requires.accessible

pub end_inside-requires-clause-goes_on : goal.end_inside-requires-clause-goes_on
end_inside-requires-clause-goes_on c =
    subst (MayStep c.args.self.now.attempt None) (sym c.operands_at-need.ensures) c.requires.goes_on

pub returns-in_default : goal.returns-in_default
returns-in_default c x o bytes prefix apart =
    let shape = c.args.plain.now.ready.now.shape in
    let need = touched_by shape.touch c.args.plain.now.first shape.size in
    let made = c.operands_at-need.result in
    c.end_inside.ensures x o bytes prefix
    (none-kept made o x c.args.self.now.image _ c.args.ended
    (subst StoresNone (sym c.operands_at-need.ensures) c.requires.fetches)
    (subst (λ (rs : List Range). IsKeptApart o (first_size rs) x c.args.self.now.image [] c.args.ended)
    (sym c.operands_at-need.ensures) apart))
    ∙ ap (λ (rs : List Range). inside c.args.plain.now.ready.now.instr rs
    (beside (record c.args.self.now { image = x }) bytes) o) c.operands_at-need.ensures
