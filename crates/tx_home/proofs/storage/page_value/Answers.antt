use Rattle.std.proofs.Common.{sym, ap, ◌∙◌}
use Rattle.std.specs.Prelude.{if◌then◌else◌}
use Rattle.z_touch.proofs.SmallRanges.{any-items}
use Rattle.tx_home.proofs.storage.page_value.Goals as goal

pub returns : goal.returns
returns c =
    c.flag.ensures
    ∙ ap (λ holds. if holds then 1 else 0) (c.has.ensures.there ∙ sym (any-items c.args.guard.now c.args.page))
