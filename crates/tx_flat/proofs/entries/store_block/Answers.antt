use Rattle.std.proofs.Common.{refl, ap, ◌∙◌}
use Rattle.tx_flat.specs.Slots.{pending_of}
use Rattle.tx_flat.proofs.Applied.{no_block, block_stored}
use Rattle.tx_flat.proofs.entries.store_block.Goals as goal

pub returns-in_default-clause-applied : goal.returns-in_default-clause-applied
returns-in_default-clause-applied c = λ text. (
  λ f i h. no_block f i (h.pending ∙ ap pending_of c.in_default.is),
  refl,
  refl,
)

pub returns-clause-applied : goal.returns-clause-applied
returns-clause-applied c = λ text f i h.
    block_stored f i c.args.storage.now text c.store_bytes.new.storage c.args.slot.now _ c.in-Some.block h
    c.in-Some.is
    c.store_bytes.ensures.stored refl refl refl

pub returns-clause-ready : goal.returns-clause-ready
returns-clause-ready c =
    c.follow_bytes.ensures c.args.storage.now c.store_bytes.new.storage c.turn.ensures c.store_bytes.ensures.size
    c.store_bytes.ensures.stored
