use Rattle.std.proofs.Common.{◌+◌, ◌-◌, length, take, drop, ap, ◌∙◌, arith}
use Rattle.z_regs.specs.Written.{written}
use Rattle.line_copies.proofs.Stored.{two_written}
use Rattle.line_copies.proofs.lines.CoherentLines.store_in_two.Goals as goal

pub returns-clause-bytes : goal.returns-clause-bytes
returns-clause-bytes c =
    let bytes = c.args.bytes.now in
    c.store-2.ensures.bytes
    ∙ ap (λ s. written s (c.args.address + c.args.room) (take (length bytes - c.args.room) (drop c.args.room
    bytes)))
    c.store.ensures.bytes
    ∙ two_written c.args.self.now.bytes bytes c.args.address c.args.room
    (omega (arith, c.requires.size, c.requires.inside)) (omega (arith, c.requires.more))
