-- The first byte that is refused decides.
use Rattle.std.proofs.Common.{◌+◌, ap, sym, ◌∙◌, refl, arith}
use Rattle.std.specs.FinSet.{items}
use Rattle.z_instr.specs.Access.{accessible_pages, text_pages, byte_unfetched}
use Rattle.z_touch.proofs.Fetches.{first_refused, one_more, beyond_storage, first_decides}
use Rattle.z_touch.proofs.fetch.bytes_refused.Goals as goal

pub returns-then-image-ge-STORAGE_SIZE : goal.returns-then-image-ge-STORAGE_SIZE
returns-then-image-ge-STORAGE_SIZE c =
    let image = c.args.image.now in
    sym (beyond_storage image.prefix _ image.address c.args.length c.if-image-ge-STORAGE_SIZE.true c.requires)

pub returns-then-image-from-le-PAGE : goal.returns-then-image-from-le-PAGE
returns-then-image-from-le-PAGE c =
    let image = c.args.image.now in
    c.byte_refused.ensures
    ∙ sym (first_decides (accessible_pages image.prefix) (text_pages image.prefix (items c.args.guard.now))
    image.address c.args.length c.requires (omega (arith, c.from.ensures, c.if-image-from-le-PAGE.true)))

pub returns-in-Some : goal.returns-in-Some
returns-in-Some c =
    let image = c.args.image.now in
    let accessible = accessible_pages image.prefix in
    let text = text_pages image.prefix (items c.args.guard.now) in
    let place = ap (λ k. byte_unfetched accessible text (image.address + k)) (sym c.from-in-loop-k.ensures) in
    sym (first_refused _ image.address c.loop-k.k c.args.length c.in-Some.code c.loop-k-test.true c.loop-k.invariant
    (place ∙ sym c.byte_refused-in-loop-k.ensures ∙ c.in-Some.is))

pub loop-k-preserved : goal.loop-k-preserved
loop-k-preserved c =
    let image = c.args.image.now in
    let accessible = accessible_pages image.prefix in
    let text = text_pages image.prefix (items c.args.guard.now) in
    let place = ap (λ k. byte_unfetched accessible text (image.address + k)) (sym c.from-in-loop-k.ensures) in
    one_more _ image.address c.loop-k.k (c.loop-k.k + 1) refl c.loop-k.invariant
    (place ∙ sym c.byte_refused-in-loop-k.ensures ∙ c.in_default.is)
