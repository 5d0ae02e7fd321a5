-- A page is in the list of the guard's pages where the guard has it.
use Rattle.std.proofs.Common.{◌/◌, ap, sym, ◌∙◌}
use Rattle.std.specs.Prelude.{not}
use Rattle.z_touch.proofs.SmallRanges.{any-items}
use Rattle.tx_cpu.proofs.plain.is_free.Goals as goal

pub returns : goal.returns
returns c = ap not (c.has.ensures.there ∙ sym (any-items c.args.guard.now (c.args.address / 4096)))
