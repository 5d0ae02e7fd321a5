use Rattle.std.proofs.Common.{◌≡◌, replicate, ap, ◌∙◌, refl}
use Rattle.std.proofs.lemmas.List.{get_or-replicate}
use Rattle.tx_abort.specs.Block.{fields, register_fields}
use Rattle.tx_abort.specs.Writes.{with_fields}
use Rattle.tx_abort.proofs.Writes.{block_is}
use Rattle.tx_abort.proofs.block.block_of.Goals as goal

pub returns : goal.returns
unfolding fields
returns c =
    let whole : c.put_registers.new.block ≡
    with_fields (fields c.args.why c.args.nest.now c.args.image.now.general c.args.at) (replicate 256 0) =
    c.put_registers.ensures ∙ ap (with_fields (register_fields c.args.image.now.general)) (cc) in
    whole ∙ block_is c.args.why c.args.nest.now c.args.image.now.general c.args.at (replicate 256 0) refl
    (λ k low. get_or-replicate 256 k 0 0 low)
