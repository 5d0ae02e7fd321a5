-- The machine is one of the image and the limits, and nothing has happened from it.
use Rattle.std.proofs.Common.{sym, ap, subst}
use Rattle.tx_journal.specs.Image.{IsImage}
use Rattle.tx_machine.specs.Machine.{Seen, setting_of}
use Rattle.tx_meaning.specs.Limits.{AreAllowed}
use Rattle.tx_meaning.specs.Meaning.{IsSetting}
use Rattle.tx_step.proofs.trace.Trace.open.Goals as goal

pub seen_along-requires-clause-setting : goal.seen_along-requires-clause-setting
seen_along-requires-clause-setting c =
    subst IsSetting (sym (ap (λ (s : Seen). setting_of s) c.in_ok-machine.ensures)) record {
      image = subst IsImage c.deref.ensures c.cpu_count.ensures.image;
      limits = subst AreAllowed c.limits.view_is c.limits.invariant;
    }
