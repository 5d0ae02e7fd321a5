-- One range more is touched.
use Rattle.std.proofs.Common.{[], ◌∷◌, arith}
use Rattle.line_table.specs.Sizes.{storage_lines}
use Rattle.tx_footprint.specs.declared.places.Kind.TheVariants.{Line, FetchedLine, StoredLine, StoredBlock}
use Rattle.tx_footprint.specs.Sizes.{storage_blocks}
use Rattle.tx_footprint.specs.Touched.{Sets, touching, sets_of}
use Rattle.tx_footprint.proofs.Limits.{lines_marked, blocks_marked, fits_from, added_kept}
use Rattle.tx_footprint.proofs.Ones.{one_added, counted_in, seen_with}
use Rattle.tx_footprint.proofs.footprint.Footprint.add_spans.Goals as goal

pub overflow_add-self : goal.overflow_add-self
overflow_add-self c =
    let after : Sets = touching (sets_of c.args.self.now) (c.args.range ∷ []) in
    let lines =
    lines_marked c.self.invariant (c.args.range ∷ []) c.mark_span_new.result c.self.view_is
    (one_added Line c.args.range c.span_of.result.first c.span_of.result.end c.self.inside.touched
    c.mark_span_new.new.set c.mark_span_new.ensures.size c.mark_span_new.ensures.marks c.span_of.ensures.places)
    (counted_in c.self.inside.touched c.mark_span_new.new.set c.mark_span_new.result storage_lines
    c.self.invariant.touched_size c.mark_span_new.ensures.new) in
    let limits = fits_from after c.requires.fits in
    omega arith

pub overflow_add-self-2 : goal.overflow_add-self-2
overflow_add-self-2 c =
    let after : Sets = touching (sets_of c.args.self.now) (c.args.range ∷ []) in
    let blocks =
    blocks_marked c.self.invariant (c.args.range ∷ []) c.mark_span_new-2.result c.self.view_is
    (one_added StoredBlock c.args.range c.span_of-2.result.first c.span_of-2.result.end c.self.inside.blocks
    c.mark_span_new-2.new.set c.mark_span_new-2.ensures.size c.mark_span_new-2.ensures.marks
    c.span_of-2.ensures.places)
    (counted_in c.self.inside.blocks c.mark_span_new-2.new.set c.mark_span_new-2.result storage_blocks
    c.self.invariant.blocks_size c.mark_span_new-2.ensures.new) in
    let limits = fits_from after c.requires.fits in
    omega arith

pub invariant_of-self : goal.invariant_of-self
invariant_of-self c =
    let after : Sets = touching (sets_of c.args.self.now) (c.args.range ∷ []) in
    let lines =
    lines_marked c.self.invariant (c.args.range ∷ []) c.mark_span_new.result c.self.view_is
    (one_added Line c.args.range c.span_of.result.first c.span_of.result.end c.self.inside.touched
    c.mark_span_new.new.set c.mark_span_new.ensures.size c.mark_span_new.ensures.marks c.span_of.ensures.places)
    (counted_in c.self.inside.touched c.mark_span_new.new.set c.mark_span_new.result storage_lines
    c.self.invariant.touched_size c.mark_span_new.ensures.new) in
    let blocks =
    blocks_marked c.self.invariant (c.args.range ∷ []) c.mark_span_new-2.result c.self.view_is
    (one_added StoredBlock c.args.range c.span_of-2.result.first c.span_of-2.result.end c.self.inside.blocks
    c.mark_span_new-2.new.set c.mark_span_new-2.ensures.size c.mark_span_new-2.ensures.marks
    c.span_of-2.ensures.places)
    (counted_in c.self.inside.blocks c.mark_span_new-2.new.set c.mark_span_new-2.result storage_blocks
    c.self.invariant.blocks_size c.mark_span_new-2.ensures.new) in
    let limits = fits_from after c.requires.fits in
    let fetched =
    one_added FetchedLine c.args.range c.span_of-3.result.first c.span_of-3.result.end c.self.inside.fetched
    c.mark_span.new.set c.mark_span.ensures.size c.mark_span.ensures.marks c.span_of-3.ensures.places in
    let stored =
    one_added StoredLine c.args.range c.span_of-4.result.first c.span_of-4.result.end c.self.inside.stored
    c.mark_span-2.new.set c.mark_span-2.ensures.size c.mark_span-2.ensures.marks c.span_of-4.ensures.places in
    added_kept c.self.invariant (c.args.range ∷ []) c.self.view_is
    (one_added Line c.args.range c.span_of.result.first c.span_of.result.end c.self.inside.touched
    c.mark_span_new.new.set c.mark_span_new.ensures.size c.mark_span_new.ensures.marks c.span_of.ensures.places)
    fetched stored
    (one_added StoredBlock c.args.range c.span_of-2.result.first c.span_of-2.result.end c.self.inside.blocks
    c.mark_span_new-2.new.set c.mark_span_new-2.ensures.size c.mark_span_new-2.ensures.marks
    c.span_of-2.ensures.places)
    lines (omega arith) blocks (omega arith)

pub returns : goal.returns
returns c =
    let fetched =
    one_added FetchedLine c.args.range c.span_of-3.result.first c.span_of-3.result.end c.self.inside.fetched
    c.mark_span.new.set c.mark_span.ensures.size c.mark_span.ensures.marks c.span_of-3.ensures.places in
    let stored =
    one_added StoredLine c.args.range c.span_of-4.result.first c.span_of-4.result.end c.self.inside.stored
    c.mark_span-2.new.set c.mark_span-2.ensures.size c.mark_span-2.ensures.marks c.span_of-4.ensures.places in
    let blocks =
    one_added StoredBlock c.args.range c.span_of-2.result.first c.span_of-2.result.end c.self.inside.blocks
    c.mark_span_new-2.new.set c.mark_span_new-2.ensures.size c.mark_span_new-2.ensures.marks
    c.span_of-2.ensures.places in
    seen_with (c.args.range ∷ []) fetched stored blocks c.self.view_is
