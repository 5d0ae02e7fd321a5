-- The block of a byte is in the footprint of both; one place after the other.
use Rattle.std.proofs.Common.{◌/◌, ap, ◌∙◌}
use Rattle.tx_footprint.specs.Touched.{Sets}
use Rattle.tx_progress.specs.Local.{Local}
use Rattle.tx_run.proofs.giving.add_stores.Goals as goal

pub add_store-requires-clause-block : goal.add_store-requires-clause-block
add_store-requires-clause-block c =
    ap (λ (l : Local). l.attempt.footprint.blocks (c.in-Some.at / 128)) c.loop-at.invariant.added
    ∙ ap (λ (s : Sets). s.blocks (c.in-Some.at / 128)) c.requires
    ∙ c.in-Some-stored.ensures.block
