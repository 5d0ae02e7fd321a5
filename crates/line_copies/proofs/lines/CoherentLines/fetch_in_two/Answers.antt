use Rattle.std.proofs.Common.{◌≡◌, ◌+◌, ◌-◌, length, ◌++◌, ◌∙◌, arith}
use Rattle.z_regs.specs.Written.{range_at}
use Rattle.line_copies.proofs.Stored.{range_in_two}
use Rattle.line_copies.proofs.lines.CoherentLines.fetch_in_two.Goals as goal

pub returns : goal.returns
returns c =
    let bytes = c.args.self.now.bytes in
    let a = c.args.address in
    let room = c.args.room in
    let count = length c.args.into.now in
    let front : length c.split_at_mut-first.result.0.now ≡ room = c.split_at_mut-first.ensures.front_len in
    let back : length c.split_at_mut-first.result.1.now ≡ count - room =
    omega (arith, c.split_at_mut-first.ensures.back_len) in
    (λ j. c.fetch_in_line.ensures j ++ c.fetch_in_line-2.ensures j)
    ∙ (λ j. range_at bytes a (front j) ++ range_at bytes (a + room) (back j))
    ∙ range_in_two bytes a room count (omega (arith, c.requires.more))
