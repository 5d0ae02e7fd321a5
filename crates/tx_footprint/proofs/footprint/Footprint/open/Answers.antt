use Rattle.std.proofs.Common.{◌*◌, ◌/◌, refl}
use Rattle.line_table.specs.Sizes.{storage_lines}
use Rattle.tx_footprint.specs.Sizes.{storage_blocks}
use Rattle.tx_footprint.proofs.Limits.{are_clear, nothing_kept, nothing_touched}
use Rattle.tx_footprint.proofs.footprint.Footprint.open.Goals as goal

pub invariant_of-result : goal.invariant_of-result
invariant_of-result c =
    nothing_kept
    (are_clear (64 * (storage_lines / 64)) storage_lines c.in_ok-touched.ensures refl)
    (are_clear (64 * (storage_lines / 64)) storage_lines c.in_ok-fetched.ensures refl)
    (are_clear (64 * (storage_lines / 64)) storage_lines c.in_ok-stored.ensures refl)
    (are_clear (64 * (storage_blocks / 64)) storage_blocks c.in_ok-blocks.ensures refl)

pub returns : goal.returns
returns c =
    nothing_touched
    (are_clear (64 * (storage_lines / 64)) storage_lines c.in_ok-fetched.ensures refl)
    (are_clear (64 * (storage_lines / 64)) storage_lines c.in_ok-stored.ensures refl)
    (are_clear (64 * (storage_blocks / 64)) storage_blocks c.in_ok-blocks.ensures refl)
