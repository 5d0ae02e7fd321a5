use Rattle.std.proofs.Common.{◌≡◌, ◌≤◌, true, ◌∙◌, arith, length}
use Rattle.tx_flat.specs.Machine.{state_of}
use Rattle.tx_replay.specs.Told.{is_exception}
use Rattle.tx_replay.proofs.ToldCauses.{said, own_exception, absent}
use Rattle.tx_replay.proofs.causes.exception_of.Goals as goal

pub returns-then-text-cpu_count-clause-only : goal.returns-then-text-cpu_count-clause-only
returns-then-text-cpu_count-clause-only c = λ why sound tells fits.
    let past : length c.args.flat.now.slots ≤ c.args.text.cpu = omega (
      arith,
      c.cpu_count.ensures,
      c.if-text-cpu_count.true,
    ) in
    absurd (absent c.args.flat.now c.args.text.cpu c.args.text.count why past fits)

pub returns-clause-only : goal.returns-clause-only
returns-clause-only c = λ why sound tells fits.
    let is : is_exception why ≡ true =
    said why c.args.text.code c.args.text.detail sound tells ∙ c.requires in
    c.told_exception.ensures.only why
    (c.own_cause-own.ensures.value
    ∙ own_exception (state_of c.args.flat.now) c.args.text.cpu c.args.text.count why is fits)
    is tells
