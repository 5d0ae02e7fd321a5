-- The codes of exceptions are small, and the plan is what the tests say.
use Rattle.tx_cpu.proofs.SmallCodes.{planned-room}
use Rattle.tx_cpu.proofs.Preparing.{plan-prepared}
use Rattle.tx_cpu.proofs.one.Cpu.prepare.Goals as goal

pub returns-clause-code : goal.returns-clause-code
returns-clause-code c = planned-room _ _ _ c.next_plan.result c.next_plan.ensures

pub returns-clause-prepared : goal.returns-clause-prepared
returns-clause-prepared c =
    rw (← c.self.view_is) (plan-prepared _ _ _ c.next_plan.result c.next_plan.ensures)
