-- As many bytes as the first of them says.
use Rattle.std.proofs.Common.{◌≡◌, ◌+◌, ◌-◌, ap, take, drop, ◌∙◌, arith}
use Rattle.z_instr.specs.Computing.{reading_of}
use Rattle.tx_program.proofs.program.read_from.Goals as goal

pub returns : goal.returns
returns c =
    let length = c.from-length.result in
    let some : c.args.place + length - c.args.place ≡ length = omega arith in
    c.read.ensures
    ∙ ap (λ n. reading_of (take n (drop c.args.place c.args.storage.now)))
    (some ∙ c.from-length.ensures ∙ c.length_of.ensures)
