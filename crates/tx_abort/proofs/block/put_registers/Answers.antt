use Rattle.std.proofs.Common.{◌≡◌, ◌+◌, ◌*◌, map, get_or, ap, sym, ◌∙◌, arith}
use Rattle.std.specs.List.{range_with_len}
use Rattle.std.proofs.lemmas.List.FromFn.{map-range_with_len_more}
use Rattle.tx_abort.specs.Block.{register_field, field}
use Rattle.tx_abort.specs.Writes.{with_field, with_fields}
use Rattle.tx_abort.proofs.Writes.{with_fields_more, all_registers}
use Rattle.tx_abort.proofs.block.put_registers.Goals as goal

pub loop-r-preserved : goal.loop-r-preserved
loop-r-preserved c =
    let f = register_field c.args.general.now in
    let start = c.args.block.now in
    let r = c.loop-r.r in
    let at : c.behind.result.first ≡ 128 + 8 * r = omega arith in
    let one : c.put.new.block ≡ with_field (f r) c.loop-r.block =
    c.put.ensures
    ∙ (λ i. with_field
    (field (at i) (c.behind.ensures.length i) (get_or c.args.general.now r 0)) c.loop-r.block) in
    one ∙ ap (with_field (f r)) c.loop-r.invariant
    ∙ sym (ap (λ fs. with_fields fs start) (map-range_with_len_more f 0 r r (omega arith))
    ∙ with_fields_more (map f (range_with_len 0 r)) (f r) start)

pub returns : goal.returns
returns c =
    c.loop-r.invariant
    ∙ ap (λ fs. with_fields fs c.args.block.now)
    (all_registers c.args.general.now c.loop-r.r (omega arith))
