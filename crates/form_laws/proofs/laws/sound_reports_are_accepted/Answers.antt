use Rattle.form_laws.proofs.Accepted.{accepted, sound}
use Rattle.form_laws.proofs.laws.sound_reports_are_accepted.Goals as goal

pub returns : goal.returns
returns c = λ image report entries. (accepted image report entries, sound image report entries)
