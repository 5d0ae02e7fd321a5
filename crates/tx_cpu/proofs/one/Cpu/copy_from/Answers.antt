-- The attempt has the progress of the other, and all else is the other's.
use Rattle.std.proofs.Common.{ap, ◌∙◌}
use Rattle.std.specs.Prelude.{nat_lt, if◌then◌else◌}
use Rattle.tx_cpu.specs.Parts.{local_of}
use Rattle.tx_cpu.specs.contracts.one.Cpu.{the_view}
use Rattle.tx_cpu.proofs.one.Cpu.copy_from.Goals as goal

pub returns : goal.returns
returns c =
    let p = the_view c.other.inside in
    let progress = c.copy_from.ensures.progress p.image in
    let count = c.copy_from.ensures.count in
    (λ k. record {
      cpu = if nat_lt 0 (count k) then p.saved else p.image;
      attempt = progress k;
      pending = p.pending;
      waiting = p.waiting;
    }) ∙ ap local_of c.other.view_is
