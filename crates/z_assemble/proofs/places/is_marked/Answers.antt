use Rattle.std.proofs.Common.{false, refl}
use Rattle.std.specs.Prelude.{slice_index_or}
use Rattle.z_assemble.proofs.MarkedPlaces.{places_none, unmarked_step}
use Rattle.z_assemble.proofs.places.is_marked.Goals as goal

pub loop-mark-init : goal.loop-mark-init
loop-mark-init c = λ found n. places_none n

pub loop-mark-preserved : goal.loop-mark-preserved
loop-mark-preserved c =
    unmarked_step c.args.marks.now c.loop-mark.mark-index false c.loop-mark.found
    (slice_index_or c.args.marks.now c.loop-mark.mark-index false) c.loop-mark-test.true refl
    c.loop-mark.invariant
