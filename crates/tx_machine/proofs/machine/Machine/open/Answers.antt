-- A machine that is opened stands for its image, and for no event.
use Rattle.std.proofs.Common.{◌≡◌, ℕ, ◌+◌, ◌*◌, Bool, false, List, ap, sym, ◌∙◌, subst, length}
use Rattle.std.proofs.Math.ListN.{length-replicate}
use Rattle.std.specs.Arc.{arc_value}
use Rattle.tx_journal.specs.Content.{Content}
use Rattle.tx_journal.specs.Image.{IsImage}
use Rattle.tx_meaning.specs.Limits.{Setting, RunLimits, AreAllowed}
use Rattle.tx_machine.specs.Machine.{IsWhole}
use Rattle.tx_machine.specs.Opened.{AreUnused}
use Rattle.tx_machine.proofs.Opened.{stands}
use Rattle.tx_machine.proofs.machine.Machine.open.Goals as goal

pub invariant_of-result : goal.invariant_of-result
invariant_of-result c =
    let m : Setting = record { image = arc_value c.args.image; limits = c.args.limits } in
    let w = c.in_ok-works.works in
    let image : c.deref-2.result.now ≡ m.image = c.deref-2.ensures in
    let counted : c.cpu_count-cpus.result ≡ length m.image.cpus =
    c.cpu_count-cpus.ensures.count ∙ ap (λ (i : Content). length i.cpus) c.deref.ensures in
    subst (λ (i : Content). IsWhole (record { image = i; limits = c.args.limits }) w c.limits.inside.externals
    c.in_ok-runs.runs) (sym c.in_ok-program.ensures)
    record {
      stands = stands m w _ c.limits.inside.externals record {
        image = subst IsImage c.deref.ensures c.cpu_count-cpus.ensures.image;
        limits = subst AreAllowed c.limits.view_is c.limits.invariant;
      }
          record {
            slots = subst (λ (i : Content). AreUnused i.parms i.cpus w.slots) image c.in_ok-works.ensures.slots;
            bytes = c.in_ok-works.ensures.bytes ∙ ap (λ (i : Content). i.storage) image;
            held = c.in_ok-works.ensures.held;
            queue = c.in_ok-works.ensures.queue;
            history = c.in_ok-works.ensures.history;
            events = c.in_ok-works.ensures.events;
          }
          (ap (λ (l : RunLimits). l.externals) c.limits.view_is)
          (ap (λ (n : ℕ). n * c.limits.inside.turns + c.limits.inside.externals + 1) counted
          ∙ ap (λ (l : RunLimits). length m.image.cpus * l.turns + l.externals + 1) c.limits.view_is)
          c.in_ok-works.ensures.room c.in_ok-works.ensures.events_room;
      runs = ap (λ (l : List Bool). length l) c.in_ok-runs.ensures ∙ length-replicate c.cpu_count-cpus.result false ∙ counted;
    }
