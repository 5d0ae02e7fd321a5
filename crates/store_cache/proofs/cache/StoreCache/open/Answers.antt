use Rattle.std.proofs.Common.{Bool, false}
use Rattle.std.proofs.Common.{length, get_or}
use Rattle.std.proofs.Common.{ap, ◌∙◌, arith}
use Rattle.std.proofs.lemmas.List.{length-replicate}
use Rattle.bit_set.proofs.Marks.{blank_at}
use Rattle.slot_index.specs.Slots.{Slots}
use Rattle.store_cache.proofs.Kept.{shown, stores_of-is, shown-empty}
use Rattle.store_cache.proofs.Kept.{emptied}
use Rattle.store_cache.proofs.cache.StoreCache.open.Goals as goal

pub invariant_of-result : goal.invariant_of-result
invariant_of-result c =
    let index = c.in_ok-index.ensures in
    emptied c.in_ok-index.index c.in_ok-bytes.bytes.items c.in_ok-marks.marks c.in_ok-values.values.items
    c.in_ok-value_marks.value_marks
    (ap (λ (v : Slots). v.limit) index) (ap (λ (v : Slots). v.most) index)
    (omega (arith, c.in_ok-bytes.ensures.len))
    (ap length c.in_ok-marks.ensures ∙ length-replicate {A = Bool} 8192 false)
    (omega (arith, c.in_ok-values.ensures.len))
    (ap length c.in_ok-value_marks.ensures ∙ length-replicate {A = Bool} 1024 false)
    (ap (λ (v : Slots). v.keys) index)
    (λ k. ap (λ l. get_or l k false) c.in_ok-marks.ensures ∙ blank_at 8192 k false)
    (λ k. ap (λ l. get_or l k false) c.in_ok-value_marks.ensures ∙ blank_at 1024 k false)

pub returns : goal.returns
returns c =
    stores_of-is c.in_ok-index.index.keys c.in_ok-bytes.bytes.items c.in_ok-marks.marks
    c.in_ok-values.values.items c.in_ok-value_marks.value_marks
    ∙ ap (λ (v : Slots). shown v.keys c.in_ok-bytes.bytes.items c.in_ok-marks.marks
    c.in_ok-values.values.items c.in_ok-value_marks.value_marks) c.in_ok-index.ensures
    ∙ shown-empty c.in_ok-bytes.bytes.items c.in_ok-marks.marks c.in_ok-values.values.items
    c.in_ok-value_marks.value_marks
