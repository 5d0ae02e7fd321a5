use Rattle.std.proofs.Common.{◌≡◌, ◌+◌, ◌-◌, ◌*◌, ◌/◌, ◌%◌, length, take, drop, ap, ◌∙◌, arith}
use Rattle.z_regs.specs.Written.{range_at}
use Rattle.l1_data.specs.Sizes.{line_size}
use Rattle.line_copies.proofs.Stored.{range_of_line}
use Rattle.line_copies.proofs.lines.CoherentLines.fetch_in_line.Goals as goal

pub returns : goal.returns
returns c =
    let at = c.args.address % line_size in
    let count = length c.args.into.now in
    let whole : c.args.address / line_size * line_size + c.args.address % line_size ≡ c.args.address = omega
    arith in
    let size : c.args.address % line_size + length c.args.into.now - c.args.address % line_size ≡ length
    c.args.into.now = omega arith in
    c.copy_from_slice.ensures.after
    ∙ ap (λ n. take n (drop at c.line_for-line.result.now)) size
    ∙ ap (λ bytes. range_at bytes at count) c.line_for-line.ensures.bytes
    ∙ range_of_line c.args.self.now.bytes (c.args.address / line_size) at count c.requires.one_line
    ∙ ap (λ a. range_at c.args.self.now.bytes a count) whole
