-- The lines and the queue are for as many CPUs as there are.
use Rattle.std.proofs.Common.{rules, ◌≡◌, ◌∙◌, List, ap, sym, length, map}
use Rattle.std.specs.Vec.{vec_len}
use Rattle.z_regs.specs.Cpu.{cpu_of}
use Rattle.z_regs.specs.declared.image.CpuImage.{CpuImage}
use Rattle.tx_journal.specs.Content.{Content}
use Rattle.tx_machine.proofs.Opened.{fitted}
use Rattle.tx_machine.proofs.opening.open_works.Goals as goal

pub invariant_of-result : goal.invariant_of-result
invariant_of-result c =
    let counted : c.cpu_count-cpus.result ≡ length (map cpu_of c.as_slice.result.now) =
    c.cpu_count-cpus.ensures.count ∙ sym (ap (λ (i : Content). length i.cpus) c.image.view_is)
    ∙ sym (ap (λ (xs : List CpuImage). length (map cpu_of xs)) c.as_slice.ensures.value) in
    fitted c.as_slice.result.now c.cpu_count-cpus.result (vec_len c.in_ok-slots.slots)
    c.in_ok-lines.lines.cpus c.in_ok-queue.queue.cpus c.in_ok-slots.ensures (search rules) counted
    (search rules) (search rules) (search rules)
