-- What labels say after an expected one was given its value.
use Rattle.z_text.proofs.Added.{expected_added}
use Rattle.z_text.proofs.labels.Labels.add_expected.Goals as goal

pub returns : goal.returns
returns c = λ q.
    expected_added c.args.self.now c.put.new.self c.args.name.now c.args.value c.args.place q
    c.requires.place c.put.ensures.keys c.put.ensures.values
