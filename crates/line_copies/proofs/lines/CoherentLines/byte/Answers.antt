use Rattle.std.proofs.Common.{◌≡◌, ◌+◌, ◌*◌, ◌/◌, ◌%◌, get_or, ap, ◌∙◌, arith}
use Rattle.l1_data.specs.Sizes.{line_size}
use Rattle.line_copies.proofs.Flat.{line_byte}
use Rattle.line_copies.proofs.lines.CoherentLines.byte.Goals as goal

pub returns : goal.returns
returns c =
    let whole : c.args.address / line_size * line_size + c.args.address % line_size ≡ c.args.address = omega
    arith in
    ap (λ bytes. get_or bytes (c.args.address % 256) 0) c.line_at.ensures.bytes
    ∙ line_byte c.args.self.now.bytes (c.args.address / line_size) (c.args.address % line_size) 0 (omega
    arith)
    ∙ ap (λ a. get_or c.args.self.now.bytes a 0) whole
