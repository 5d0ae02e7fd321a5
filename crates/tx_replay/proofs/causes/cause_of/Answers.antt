use Rattle.std.proofs.Common.{◌∙◌, sym}
use Rattle.tx_replay.proofs.ToldCauses.{said}
use Rattle.tx_replay.proofs.causes.cause_of.Goals as goal

pub returns-clause-only : goal.returns-clause-only
returns-clause-only c = λ why sound tells fits.
    c.plain_cause.ensures.only why sound tells
    (said why c.args.text.code c.args.text.detail sound tells
    ∙ sym c.says_exception.ensures ∙ c.if-says_exception.false)
