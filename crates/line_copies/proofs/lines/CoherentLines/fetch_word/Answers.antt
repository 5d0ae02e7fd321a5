use Rattle.std.proofs.Common.{◌≡◌, ◌+◌, ◌*◌, ◌/◌, ◌%◌, ◌≤◌, ap, ◌∙◌, arith}
use Rattle.byteorder.specs.Endian.{big_number}
use Rattle.z_regs.specs.Written.{range_at}
use Rattle.l1_data.specs.Sizes.{line_size}
use Rattle.line_copies.proofs.Stored.{range_of_line}
use Rattle.line_copies.proofs.lines.CoherentLines.fetch_word.Goals as goal

same_range : (c : goal.After-number_in)
    → range_at c.line_for.result.now (c.args.address % line_size) c.args.count
    ≡ range_at c.args.self.now.bytes c.args.address c.args.count
same_range c =
    let whole : c.args.address / line_size * line_size + c.args.address % line_size ≡ c.args.address = omega
    arith in
    let fits : c.args.address % line_size + c.args.count ≤ line_size =
    omega (arith, c.if-at-from-le-LINE_SIZE.true, c.from.ensures) in
    ap (λ bytes. range_at bytes (c.args.address % line_size) c.args.count) c.line_for.ensures.bytes
    ∙ range_of_line c.args.self.now.bytes (c.args.address / line_size) (c.args.address % line_size)
    c.args.count fits
    ∙ ap (λ a. range_at c.args.self.now.bytes a c.args.count) whole

pub returns-then-at-from-le-LINE_SIZE-clause-value : goal.returns-then-at-from-le-LINE_SIZE-clause-value
returns-then-at-from-le-LINE_SIZE-clause-value c =
    c.number_in.ensures.value ∙ ap (big_number c.args.count) (same_range c)

pub returns-then-at-from-le-LINE_SIZE-clause-bytes : goal.returns-then-at-from-le-LINE_SIZE-clause-bytes
returns-then-at-from-le-LINE_SIZE-clause-bytes c = c.number_in.ensures.bytes ∙ same_range c
