use Rattle.std.proofs.Common.{◌≡◌, ◌+◌, ◌-◌, ◌*◌, Some, take, drop, ap, ◌∙◌, arith}
use Rattle.l1_data.specs.Copies.{copies_of, with_copy}
use Rattle.line_copies.specs.Coherence.{line_in}
use Rattle.line_copies.proofs.parts.copy_from_storage.Goals as goal

pub returns : goal.returns
returns c =
    let size : c.args.line * 256 + 256 - c.args.line * 256 ≡ 256 = omega arith in
    c.install.ensures
    ∙ ap (λ bytes. with_copy (copies_of c.args.l1.now) c.args.line (Some bytes))
    (ap (λ n. take n (drop (c.args.line * 256) c.as_slice.result.now)) size
    ∙ ap (λ bytes. line_in bytes c.args.line) c.as_slice.ensures.bytes)
