use Rattle.std.proofs.Common.{◌∙◌, ap}
use Rattle.std.specs.Prelude.{map}
use Rattle.z_regs.specs.Cpu.{cpu_of}
use Rattle.tx_journal.specs.Content.{content}
use Rattle.tx_serial.specs.History.{start_of}
use Rattle.tx_flat.specs.Machine.{fresh}
use Rattle.tx_flat.proofs.Machines.{start_shown, start_sound}
use Rattle.tx_flat.proofs.flat.Flat.open.Goals as goal

pub invariant_of-result : goal.invariant_of-result
invariant_of-result c =
    let i = c.image.inside in (
      start_sound
          (content i.storage.items i.guard i.starts.items i.cpus.items i.shows.items i.schedule.items i.scheduled
          i.parms)
          c.in_ok-storage.storage c.same_pages-guard.result c.in_ok-slots.slots.items
          (c.in_ok-storage.ensures ∙ c.as_slice.ensures.value) c.same_pages-guard.ensures
          (c.in_ok-slots.ensures ∙ ap (λ images. map fresh (map cpu_of images)) c.as_slice-2.ensures.value)
          c.image.invariant,
      c.in_ok-work.ensures,
    )

pub returns-clause-state : goal.returns-clause-state
returns-clause-state c =
    let i = c.image.inside in
    start_shown
    (content i.storage.items i.guard i.starts.items i.cpus.items i.shows.items i.schedule.items i.scheduled
    i.parms)
    c.in_ok-storage.storage c.same_pages-guard.result c.in_ok-slots.slots.items
    (c.in_ok-storage.ensures ∙ c.as_slice.ensures.value) c.same_pages-guard.ensures
    (c.in_ok-slots.ensures ∙ ap (λ images. map fresh (map cpu_of images)) c.as_slice-2.ensures.value)
    ∙ ap start_of c.image.view_is
