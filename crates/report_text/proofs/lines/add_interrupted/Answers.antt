use Rattle.std.proofs.Common.{codes}
use Rattle.report_text.specs.Digits.{halfword_text}
use Rattle.report_text.specs.Processor.{interrupted_text}
use Rattle.report_text.proofs.Pieces.{two_pieces}
use Rattle.report_text.proofs.lines.add_interrupted.Goals as goal

pub returns : goal.returns
unfolding interrupted_text
returns c = two_pieces c.add_halfword.result c.args.text.now.items (codes "INTERRUPTED ")
    (halfword_text c.args.code) c.extend_from_slice.new.self.items c.add_halfword.new.text.items
    c.in_ok-extend_from_slice.ensures.items c.add_halfword.ensures
