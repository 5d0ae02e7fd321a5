use Rattle.std.proofs.Common.{List, ◌≡◌, ◌≤◌, ◌∙◌, length, true, ap, sym, subst}
use Rattle.std.specs.FinSet.{items}
use Rattle.std.specs.List.{All}
use Rattle.z_regs.specs.Cpu.{Cpu}
use Rattle.z_regs.specs.Prefix.{is_prefix}
use Rattle.z_regs.specs.Absolute.{IsAccessible, absolute_ranges}
use Rattle.z_regs.specs.declared.ranges.Range.{Range}
use Rattle.tx_footprint.specs.Places.{IsInStorage}
use Rattle.tx_private.proofs.Inside.{few, accessible, in_storage}
use Rattle.tx_private.proofs.refusals.tested_behind.Goals as goal

pub absolute-absolute-requires-clause-few : goal.absolute-absolute-requires-clause-few
absolute-absolute-requires-clause-few c =
    let p = c.requires.shown.1.0 in
    let same = c.requires.operands c.requires.shown.0 p c.requires.shown.1.1 in
    subst (λ (rs : List Range). length rs ≤ 2) (sym same.1) (few p c.args.instr.now)

pub absolute-absolute-requires-clause-accessible : goal.absolute-absolute-requires-clause-accessible
absolute-absolute-requires-clause-accessible c =
    let p = c.requires.shown.1.0 in
    let shows = c.requires.shown.1.1 in
    let same = c.requires.operands c.requires.shown.0 p shows in
    subst (λ (cpu : Cpu). All (IsAccessible cpu.prefix) c.args.touches) shows.cpu
    (subst (All (IsAccessible p.cpu.prefix)) (sym same.1)
    (accessible (items c.args.guard.now) p c.args.instr.now same.0))

pub overflow_test-requires : goal.overflow_test-requires
overflow_test-requires c =
    let p = c.requires.shown.1.0 in
    let shows = c.requires.shown.1.1 in
    let same = c.requires.operands c.requires.shown.0 p shows in
    let ok : is_prefix p.cpu.prefix ≡ true =
    ap (λ (cpu : Cpu). is_prefix cpu.prefix) shows.cpu ∙ c.args.a.now.image.prefix_in in
    subst (All IsInStorage)
    (sym (c.absolute-absolute.ensures
    ∙ ap (λ (cpu : Cpu). absolute_ranges cpu.prefix c.args.touches) (sym shows.cpu)
    ∙ ap (absolute_ranges p.cpu.prefix) same.1))
    (in_storage (items c.args.guard.now) p c.args.instr.now ok same.0)
