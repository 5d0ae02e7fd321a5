use Rattle.std.proofs.Common.{length}
use Rattle.tx_check.specs.Sound.{IsSound}
use Rattle.tx_report.specs.Machine.{setting_of, state_of}
use Rattle.tx_report.specs.Report.{report_of}
use Rattle.form_laws.proofs.Accepted.{accepted}
use Rattle.check_laws.proofs.Sound.{report_sound}
use Rattle.check_laws.proofs.laws.the_report_of_every_machine_is_sound.Goals as goal

pub returns : goal.returns
returns c =
    let seen = c.args.machine.now in
    let m = setting_of seen in
    let entries = length (state_of seen).history in
    let sound : IsSound seen.image (report_of m seen.events) entries =
    report_sound m c.is_set.ensures.setting seen.events c.is_set.ensures.events c.has_places.ensures in
    record {
      sound = sound;
      accepted = accepted seen.image (report_of m seen.events) entries sound;
      alone = λ answer other due.
          c.nothing_else_is_due_of_a_sound_report.ensures seen.image
          (report_of m seen.events) entries answer sound other
          due;
    }
