use Rattle.std.proofs.Common.{arith}
use Rattle.step_words.proofs.Telling.{too_great}
use Rattle.step_words.proofs.reading.read_cpu.Goals as goal

pub returns-clause-none : goal.returns-clause-none
returns-clause-none c =
    too_great c.in_ok-cpu.cpu c.args.cpus c.args.text.now (omega arith) (omega arith) c.in_ok-cpu.ensures.some
