-- The exception has stopped the program.
use Rattle.std.proofs.Common.{◌≡◌, ap, ◌∙◌}
use Rattle.std.specs.Prelude.{nat_lt, false}
use Rattle.tx_cpu.specs.Parts.{Parts}
use Rattle.tx_cpu.specs.contracts.one.Cpu.{the_view}
use Rattle.tx_cpu.proofs.Ends.{stopped-is}
use Rattle.tx_progress.proofs.Parts.{not_live}
use Rattle.tx_cpu.proofs.one.Cpu.stop.Goals as goal

pub returns : goal.returns
returns c =
    let rests : nat_lt 0 c.self.inside.attempt.count ≡ false =
    ap (λ (p : Parts). nat_lt 0 p.attempt.count) c.self.view_is ∙ c.requires in
    rw (← c.self.view_is)
    (stopped-is (the_view c.self.inside) _ c.args.e _ rests (c.is_sound.ensures.rests (not_live _ rests))
    c.interrupt.ensures c.waiting_with-self-inside.ensures)
