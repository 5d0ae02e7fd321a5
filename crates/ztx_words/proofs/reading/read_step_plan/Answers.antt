use Rattle.std.proofs.Common.{subst, sym}
use Rattle.clap.specs.Words.{App}
use Rattle.ztx_words.specs.Parses.{IsPlanned}
use Rattle.ztx_words.proofs.Simple.{step_planned}
use Rattle.ztx_words.proofs.reading.read_step_plan.Goals as goal

pub read_plan-requires : goal.read_plan-requires
read_plan-requires c =
    subst (λ (app : App). IsPlanned 20000 app) (sym c.in_ok-step_command.ensures) step_planned
