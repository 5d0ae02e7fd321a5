use Rattle.std.proofs.Common.{◌≡◌, Ok, Err, refl, sym, arith}
use Rattle.bit_set.proofs.Counts.{count_at_most}
use Rattle.line_table.specs.Sizes.{storage_lines}
use Rattle.tx_footprint.specs.declared.footprint.Overflow.TheVariants.{Fetch, Store}
use Rattle.tx_footprint.specs.Sizes.{storage_blocks}
use Rattle.tx_footprint.specs.declared.places.Kind.TheVariants.{Line, StoredBlock}
use Rattle.tx_footprint.specs.Places.{marked_or_touched}
use Rattle.tx_footprint.specs.Touched.{Sets, touching, sets_of}
use Rattle.tx_footprint.proofs.Limits.{lines_after, blocks_after, too_many_lines, too_many_blocks, all_fit}
use Rattle.tx_footprint.proofs.Limits.{most_lines_after, most_blocks_after}
use Rattle.tx_footprint.proofs.footprint.Footprint.fits.Goals as goal

pub returns-then-self-most-le-MOST_BLOCKS-clause-exact :
    goal.returns-then-self-most-le-MOST_BLOCKS-clause-exact
returns-then-self-most-le-MOST_BLOCKS-clause-exact c =
    let after : Sets = touching (sets_of c.args.self.now) c.args.touches.now in
    let lines =
    most_lines_after c.self.invariant c.args.touches.now c.most_places-most.result c.self.view_is
    (c.most_places-most.ensures.places Line) in
    let blocks =
    most_blocks_after c.self.invariant c.args.touches.now c.most_places-most.result c.self.view_is
    (c.most_places-most.ensures.places StoredBlock) in
    sym (all_fit after (omega arith) (omega arith))

pub returns-then-self-most-le-MOST_BLOCKS-clause-fetch :
    goal.returns-then-self-most-le-MOST_BLOCKS-clause-fetch
returns-then-self-most-le-MOST_BLOCKS-clause-fetch c =
    let lines =
    most_lines_after c.self.invariant c.args.touches.now c.most_places-most.result c.self.view_is
    (c.most_places-most.ensures.places Line) in
    (λ e. let n : Ok tt ≡ Err Fetch = e in cc, λ over. absurd (omega arith))

pub overflow_add-self-inside-2 : goal.overflow_add-self-inside-2
overflow_add-self-inside-2 c =
    omega (
      arith,
      c.self.invariant.most_lines,
      c.added.ensures,
      count_at_most storage_lines
          (marked_or_touched c.self.inside.touched Line c.args.touches.now),
    )

pub returns-then-self-added-gt-MOST_LINES-clause-exact :
    goal.returns-then-self-added-gt-MOST_LINES-clause-exact
returns-then-self-added-gt-MOST_LINES-clause-exact c =
    let after : Sets = touching (sets_of c.args.self.now) c.args.touches.now in
    let lines =
    lines_after c.self.invariant c.args.touches.now c.added.result c.self.view_is c.added.ensures in
    sym (too_many_lines after (omega arith))

pub returns-then-self-added-gt-MOST_LINES-clause-fetch :
    goal.returns-then-self-added-gt-MOST_LINES-clause-fetch
returns-then-self-added-gt-MOST_LINES-clause-fetch c =
    let after : Sets = touching (sets_of c.args.self.now) c.args.touches.now in
    let lines =
    lines_after c.self.invariant c.args.touches.now c.added.result c.self.view_is c.added.ensures in
    (λ _. omega arith, λ _. refl)

pub overflow_add-self-inside-3 : goal.overflow_add-self-inside-3
overflow_add-self-inside-3 c =
    omega (
      arith,
      c.self.invariant.most_blocks,
      c.added-2.ensures,
      count_at_most storage_blocks
          (marked_or_touched c.self.inside.blocks StoredBlock c.args.touches.now),
    )

pub returns-then-self-added-gt-MOST_BLOCKS-clause-exact :
    goal.returns-then-self-added-gt-MOST_BLOCKS-clause-exact
returns-then-self-added-gt-MOST_BLOCKS-clause-exact c =
    let after : Sets = touching (sets_of c.args.self.now) c.args.touches.now in
    let lines =
    lines_after c.self.invariant c.args.touches.now c.added.result c.self.view_is c.added.ensures in
    let blocks =
    blocks_after c.self.invariant c.args.touches.now c.added-2.result c.self.view_is c.added-2.ensures in
    sym (too_many_blocks after (omega arith) (omega arith))

pub returns-then-self-added-gt-MOST_BLOCKS-clause-fetch :
    goal.returns-then-self-added-gt-MOST_BLOCKS-clause-fetch
returns-then-self-added-gt-MOST_BLOCKS-clause-fetch c =
    let after : Sets = touching (sets_of c.args.self.now) c.args.touches.now in
    let lines =
    lines_after c.self.invariant c.args.touches.now c.added.result c.self.view_is c.added.ensures in
    (λ e. let n : Err Store ≡ Err Fetch = e in cc, λ over. absurd (omega arith))

pub returns-clause-exact : goal.returns-clause-exact
returns-clause-exact c =
    let after : Sets = touching (sets_of c.args.self.now) c.args.touches.now in
    let lines =
    lines_after c.self.invariant c.args.touches.now c.added.result c.self.view_is c.added.ensures in
    let blocks =
    blocks_after c.self.invariant c.args.touches.now c.added-2.result c.self.view_is c.added-2.ensures in
    sym (all_fit after (omega arith) (omega arith))

pub returns-clause-fetch : goal.returns-clause-fetch
returns-clause-fetch c =
    let after : Sets = touching (sets_of c.args.self.now) c.args.touches.now in
    let lines =
    lines_after c.self.invariant c.args.touches.now c.added.result c.self.view_is c.added.ensures in
    (λ e. let n : Ok tt ≡ Err Fetch = e in cc, λ over. absurd (omega arith))
