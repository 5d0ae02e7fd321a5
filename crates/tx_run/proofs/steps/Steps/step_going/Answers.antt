-- Its operands lie in storage.
use Rattle.std.specs.FinSet.{items}
use Rattle.tx_cpu.specs.Parts.{local_of}
use Rattle.tx_marks.specs.Own.{bytes_at}
use Rattle.tx_run.proofs.Frame.{goes-reached}
use Rattle.tx_run.proofs.steps.Steps.step_going.Goals as goal

pub missing-requires : goal.missing-requires
missing-requires c =
    let text = items c.args.program.now.guard in
    let m = c.args.self.now in
    record {
      within = (goes-reached text (bytes_at m.own.now) (local_of m.reached).attempt c.args.instr.now c.args.need.now
          c.requires.area c.requires.goes).within;
    }
