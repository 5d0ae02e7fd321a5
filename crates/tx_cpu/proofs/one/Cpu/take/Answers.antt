-- The interruption is taken.
use Rattle.std.proofs.Common.{◌≡◌, ap, ◌∙◌}
use Rattle.std.specs.Prelude.{nat_lt, false}
use Rattle.tx_cpu.specs.Parts.{Parts}
use Rattle.tx_cpu.specs.contracts.one.Cpu.{the_view}
use Rattle.tx_cpu.proofs.Ends.{taken-is, untaken-is}
use Rattle.tx_progress.proofs.Parts.{not_live}
use Rattle.tx_cpu.proofs.one.Cpu.take.Goals as goal

pub returns-in-Some-clause-value : goal.returns-in-Some-clause-value
returns-in-Some-clause-value g c =
    let rests : nat_lt 0 c.self.inside.attempt.count ≡ false =
    ap (λ (p : Parts). nat_lt 0 p.attempt.count) c.self.view_is ∙ c.requires.rests in
    rw (← c.self.view_is)
    (taken-is (the_view c.self.inside) _ c.in-Some.waiting _ _ rests
    (c.is_sound.ensures.rests (not_live _ rests)) c.in-Some.is c.store.ensures.value c.load.ensures)

pub returns-in-None-clause-value : goal.returns-in-None-clause-value
returns-in-None-clause-value g c =
    rw (← c.self.view_is) (untaken-is (the_view c.self.inside) _ c.in-None.is)
