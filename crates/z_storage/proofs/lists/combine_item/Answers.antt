use Rattle.std.proofs.Common.{◌≡◌, ◌*◌, List, ℕ, ap, ◌∙◌}
use Rattle.byteorder.specs.Endian.{big_bytes}
use Rattle.z_effect.specs.After.{range_at, written}
use Rattle.z_effect.specs.StorageEffect.{results}
use Rattle.z_instr.specs.declared.kind.Combination.TheVariants.{Logic}
use Rattle.z_storage.proofs.Combined.{combined_item, zero_item}
use Rattle.z_storage.proofs.lists.combine_item.Goals as goal

pub returns : goal.returns
returns g c =
    let s = g.V.Bytes.bytes c.args.view.now in
    let first : List ℕ = range_at s c.args.target c.args.count in
    let second : List ℕ = range_at s c.args.source c.args.count in
    let made : big_bytes c.args.count c.logic-value.result ≡ results c.args.count (Logic c.args.kind) c.args.count first second =
    combined_item c.args.kind c.args.count c.word-first.result c.word-second.result c.logic-value.result first second
    c.word-first.ensures.bytes c.word-second.ensures.bytes c.logic-value.ensures.value in
    record {
      stored = c.put_word.ensures ∙ ap (written s c.args.target) made;
      zero = zero_item c.args.count c.logic-value.result (results c.args.count (Logic c.args.kind) c.args.count first second)
          (c.logic-value.ensures.fits (8 * c.args.count) c.word-first.ensures.fits c.word-second.ensures.fits) made;
    }
