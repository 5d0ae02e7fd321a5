-- The only line and the only block of a range are touched.
use Rattle.std.proofs.Common.{[], ◌∷◌, ◌/◌, refl, ap, ◌∙◌, arith}
use Rattle.std.specs.Prelude.{not}
use Rattle.std.specs.Int.{from_bool}
use Rattle.line_table.specs.Sizes.{storage_lines}
use Rattle.tx_footprint.specs.declared.places.Kind.TheVariants.{Line, FetchedLine, StoredLine, StoredBlock}
use Rattle.tx_footprint.specs.Sizes.{storage_blocks}
use Rattle.tx_footprint.specs.Touched.{touching, sets_of}
use Rattle.tx_footprint.proofs.Limits.{lines_marked, blocks_marked, fits_from, added_kept}
use Rattle.tx_footprint.proofs.Ones.{IsInBlock, only_added, none_added, only_counted, seen_with}
use Rattle.tx_footprint.proofs.footprint.Footprint.add_in_block.Goals as goal

pub invariant_of-self : goal.invariant_of-self
invariant_of-self c =
    let r = c.args.range in
    let inside : IsInBlock r = record { some = c.requires.some; block = c.requires.block } in
    let within = c.requires.in_storage r.first (omega arith) (omega (arith, c.requires.some)) in
    let touched = only_added Line r c.self.inside.touched c.insert_new.new.set inside refl
    (omega (arith, within, c.self.invariant.touched_size)) c.insert_new.ensures.marks in
    let stored = only_added StoredLine r c.self.inside.stored c.insert.new.self inside c.if-range.true
    (omega (arith, within, c.self.invariant.stored_size)) c.insert.ensures in
    let blocks = only_added StoredBlock r c.self.inside.blocks c.insert_new-then-range.new.set inside c.if-range.true
    (omega (arith, within, c.self.invariant.blocks_size)) c.insert_new-then-range.ensures.marks in
    let lines =
    lines_marked c.self.invariant (r ∷ []) c.from.result c.self.view_is touched
    (only_counted c.self.inside.touched c.insert_new.new.set (r.first / 256) c.from.result storage_lines
    c.self.invariant.touched_size (omega (arith, within)) c.insert_new.ensures.marks
    (c.from.ensures ∙ ap from_bool c.insert_new.ensures.new)) in
    let block_count =
    blocks_marked c.self.invariant (r ∷ []) c.from-then-range.result c.self.view_is blocks
    (only_counted c.self.inside.blocks c.insert_new-then-range.new.set (r.first / 128) c.from-then-range.result
    storage_blocks c.self.invariant.blocks_size (omega (arith, within)) c.insert_new-then-range.ensures.marks
    (c.from-then-range.ensures ∙ ap from_bool c.insert_new-then-range.ensures.new)) in
    let limits = fits_from (touching (sets_of c.args.self.now) (r ∷ [])) c.requires.fits in
    added_kept c.self.invariant (r ∷ []) c.self.view_is touched
    (none_added FetchedLine r c.self.inside.fetched (ap not c.if-range.true)) stored blocks
    lines (omega (arith, lines, limits)) block_count (omega (arith, block_count, limits))

pub invariant_of-self-else-range : goal.invariant_of-self-else-range
invariant_of-self-else-range c =
    let r = c.args.range in
    let inside : IsInBlock r = record { some = c.requires.some; block = c.requires.block } in
    let within = c.requires.in_storage r.first (omega arith) (omega (arith, c.requires.some)) in
    let touched = only_added Line r c.self.inside.touched c.insert_new.new.set inside refl
    (omega (arith, within, c.self.invariant.touched_size)) c.insert_new.ensures.marks in
    let fetched = only_added FetchedLine r c.self.inside.fetched c.insert-else-range.new.self inside
    (ap not c.if-range.false) (omega (arith, within, c.self.invariant.fetched_size)) c.insert-else-range.ensures in
    let blocks = none_added StoredBlock r c.self.inside.blocks c.if-range.false in
    let lines =
    lines_marked c.self.invariant (r ∷ []) c.from.result c.self.view_is touched
    (only_counted c.self.inside.touched c.insert_new.new.set (r.first / 256) c.from.result storage_lines
    c.self.invariant.touched_size (omega (arith, within)) c.insert_new.ensures.marks
    (c.from.ensures ∙ ap from_bool c.insert_new.ensures.new)) in
    let block_count = blocks_marked c.self.invariant (r ∷ []) 0 c.self.view_is blocks (omega arith) in
    let limits = fits_from (touching (sets_of c.args.self.now) (r ∷ [])) c.requires.fits in
    added_kept c.self.invariant (r ∷ []) c.self.view_is touched fetched
    (none_added StoredLine r c.self.inside.stored c.if-range.false) blocks
    lines (omega (arith, lines, limits)) (omega (arith, block_count)) (omega (arith, block_count, limits))

pub returns-then-range : goal.returns-then-range
returns-then-range c =
    let r = c.args.range in
    let inside : IsInBlock r = record { some = c.requires.some; block = c.requires.block } in
    let within = c.requires.in_storage r.first (omega arith) (omega (arith, c.requires.some)) in
    let fetched = none_added FetchedLine r c.self.inside.fetched (ap not c.if-range.true) in
    let stored = only_added StoredLine r c.self.inside.stored c.insert.new.self inside c.if-range.true
    (omega (arith, within, c.self.invariant.stored_size)) c.insert.ensures in
    let blocks = only_added StoredBlock r c.self.inside.blocks c.insert_new-then-range.new.set inside c.if-range.true
    (omega (arith, within, c.self.invariant.blocks_size)) c.insert_new-then-range.ensures.marks in
    seen_with (r ∷ []) fetched stored blocks c.self.view_is

pub returns-else-range : goal.returns-else-range
returns-else-range c =
    let r = c.args.range in
    let inside : IsInBlock r = record { some = c.requires.some; block = c.requires.block } in
    let within = c.requires.in_storage r.first (omega arith) (omega (arith, c.requires.some)) in
    let fetched = only_added FetchedLine r c.self.inside.fetched c.insert-else-range.new.self inside
    (ap not c.if-range.false) (omega (arith, within, c.self.invariant.fetched_size)) c.insert-else-range.ensures in
    seen_with (r ∷ []) fetched (none_added StoredLine r c.self.inside.stored c.if-range.false)
    (none_added StoredBlock r c.self.inside.blocks c.if-range.false) c.self.view_is
