use Rattle.std.proofs.Common.{subst, sym}
use Rattle.clap.specs.Words.{App}
use Rattle.ztx_words.specs.Parses.{IsPlanned}
use Rattle.ztx_words.proofs.Simple.{run_planned}
use Rattle.ztx_words.proofs.reading.read_run_plan.Goals as goal

pub read_plan-requires : goal.read_plan-requires
read_plan-requires c =
    subst (λ (app : App). IsPlanned 200000 app) (sym c.in_ok-run_command.ensures) run_planned
