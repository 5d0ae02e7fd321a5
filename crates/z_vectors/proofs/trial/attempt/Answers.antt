use Rattle.std.specs.FinSet.{items}
use Rattle.z_regs.specs.Cpu.{cpu_of}
use Rattle.z_vectors.proofs.LetThrough.{let_through}
use Rattle.z_vectors.proofs.trial.attempt.Goals as goal

pub execute-requires : goal.execute-requires
execute-requires c =
    let_through c.in-Some.instr (cpu_of c.args.image) 0
    (items c.pages_of-guard.result) c.in-Ok.field-0 _ c.in-Some.instr.op.known c.in-Ok.ensures
