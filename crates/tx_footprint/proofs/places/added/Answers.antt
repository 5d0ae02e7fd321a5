use Rattle.std.proofs.Common.{◌+◌, take, arith}
use Rattle.bit_set.proofs.Counts.{count_at_most}
use Rattle.tx_footprint.specs.Places.{places_of, marked_or_touched}
use Rattle.tx_footprint.proofs.Spans.{few_places}
use Rattle.tx_footprint.proofs.places.added.Goals as goal

pub overflow_add-added : goal.overflow_add-added
overflow_add-added c =
    omega (
      arith,
      few_places c.args.kind,
      c.loop-i.invariant,
      c.added_by-added.ensures,
      count_at_most
          (places_of c.args.kind)
          (marked_or_touched c.args.set.now c.args.kind (take (c.loop-i.i + 1) c.args.touches.now)),
    )
