-- There is room for one line more and for two blocks, and the constraints were asked of the operand of the shape.
use Rattle.std.proofs.Common.{◌≡◌, List, None}
use Rattle.z_regs.specs.declared.ranges.Range.{Range}
use Rattle.tx_constraint.specs.Kept.{next_operand_breach}
use Rattle.tx_footprint.specs.Touched.{sets_of}
use Rattle.tx_progress.specs.Trial.{constraint_refusal}
use Rattle.tx_cpu.proofs.Room.{fits-with-room, touched-so}
use Rattle.tx_cpu.proofs.plain.keeps_limits_at_once.Goals as goal

pub returns : goal.returns
returns c so =
    let i = c.args.ready.now.instr in
    let shape = c.args.ready.now.shape in
    let kept = c.args.attempt.now.constraint in
    record {
      text = c.admits_at_once.ensures.text so;
      place = touched-so
          (λ (need : List Range). constraint_refusal (λ k. next_operand_breach k i need) i kept ≡ None)
          shape.touch c.args.first shape.size (c.admits_at_once.ensures.none so)
          (λ store. c.admits_at_once.ensures.one store so);
      fits = fits-with-room (sets_of c.args.attempt.now.footprint) shape c.args.first c.requires
          (c.has_room.ensures.lines c.if-not-has_room.false) (c.has_room.ensures.blocks c.if-not-has_room.false);
    }
