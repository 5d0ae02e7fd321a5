use Rattle.std.proofs.Common.{List, sym, ap, ◌∙◌, arith}
use Rattle.z_regs.specs.declared.ranges.Range.{Range}
use Rattle.tx_footprint.specs.Touched.{Sets, touching, sets_of, fit_of}
use Rattle.tx_footprint.proofs.Marking.{storage_at}
use Rattle.z_regs.proofs.Elements.{one_element}
use Rattle.tx_footprint.proofs.Limits.{lines_marked, blocks_marked, fits_from, added_kept, nothing_more}
use Rattle.tx_footprint.proofs.footprint.Footprint.add.Goals as goal

pub returns-then-count-eq0 : goal.returns-then-count-eq0
returns-then-count-eq0 c =
    sym (nothing_more (sets_of c.args.self.now) c.args.touches.now
    (sym c.count.ensures.value ∙ c.if-count-eq0.true))

pub add_one-requires-clause-in_storage : goal.add_one-requires-clause-in_storage
add_one-requires-clause-in_storage c =
    storage_at c.args.touches.now 0 c.at.result c.requires.in_storage c.at.ensures

pub add_one-requires-clause-fits : goal.add_one-requires-clause-fits
add_one-requires-clause-fits c =
    let one = one_element c.args.touches.now c.at.result (sym c.count-2.ensures.value ∙ c.if-count-eq1.true)
    c.at.ensures in
    ap (λ (rs : List Range). fit_of (touching (sets_of c.args.self.now) rs)) (sym one) ∙ c.requires.fits

pub returns-then-count-eq1 : goal.returns-then-count-eq1
returns-then-count-eq1 c =
    let one = one_element c.args.touches.now c.at.result (sym c.count-2.ensures.value ∙ c.if-count-eq1.true)
    c.at.ensures in
    c.add_one.ensures ∙ ap (touching (sets_of c.args.self.now)) (sym one)

pub overflow_add-self : goal.overflow_add-self
overflow_add-self c =
    let after : Sets = touching (sets_of c.args.self.now) c.args.touches.now in
    let lines =
    lines_marked c.self.invariant c.args.touches.now c.mark_new.result c.self.view_is
    (record { size = c.mark_new.ensures.size; marks = c.mark_new.ensures.marks }) c.mark_new.ensures.new in
    let limits = fits_from after c.requires.fits in
    omega arith

pub overflow_add-self-2 : goal.overflow_add-self-2
overflow_add-self-2 c =
    let after : Sets = touching (sets_of c.args.self.now) c.args.touches.now in
    let blocks =
    blocks_marked c.self.invariant c.args.touches.now c.mark_new-2.result c.self.view_is
    (record { size = c.mark_new-2.ensures.size; marks = c.mark_new-2.ensures.marks })
    c.mark_new-2.ensures.new in
    let limits = fits_from after c.requires.fits in
    omega arith

pub invariant_of-self : goal.invariant_of-self
invariant_of-self c =
    let after : Sets = touching (sets_of c.args.self.now) c.args.touches.now in
    let lines =
    lines_marked c.self.invariant c.args.touches.now c.mark_new.result c.self.view_is
    (record { size = c.mark_new.ensures.size; marks = c.mark_new.ensures.marks }) c.mark_new.ensures.new in
    let blocks =
    blocks_marked c.self.invariant c.args.touches.now c.mark_new-2.result c.self.view_is
    (record { size = c.mark_new-2.ensures.size; marks = c.mark_new-2.ensures.marks })
    c.mark_new-2.ensures.new in
    let limits = fits_from after c.requires.fits in
    added_kept c.self.invariant c.args.touches.now c.self.view_is
    (record { size = c.mark_new.ensures.size; marks = c.mark_new.ensures.marks })
    (record { size = c.mark.ensures.size; marks = c.mark.ensures.marks })
    (record { size = c.mark-2.ensures.size; marks = c.mark-2.ensures.marks })
    (record { size = c.mark_new-2.ensures.size; marks = c.mark_new-2.ensures.marks })
    lines (omega arith) blocks (omega arith)
