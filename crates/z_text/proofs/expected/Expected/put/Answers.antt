-- A place that is given a value has it.
use Rattle.std.proofs.Common.{refl, sym, ◌∙◌}
use Rattle.z_text.proofs.Places.{put_values}
use Rattle.z_text.proofs.expected.Expected.put.Goals as goal

pub returns-clause-values : goal.returns-clause-values
returns-clause-values c =
    put_values c.args.self.now _ c.args.place c.args.value c.requires
    (c.args.self.now.marks ∙ sym c.args.self.now.rooms) refl refl
