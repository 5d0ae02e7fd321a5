use Rattle.std.proofs.Common.{codes}
use Rattle.report_text.specs.Digits.{number_line}
use Rattle.report_text.specs.Report.{head_lines}
use Rattle.report_text.proofs.Pieces.{two_pieces}
use Rattle.tx_check.proofs.writing.add_head.Goals as goal

pub returns : goal.returns
unfolding head_lines
returns c = two_pieces c.add_number_line.result c.args.text.now.items (codes "ZTX REPORT\n")
    (number_line (codes "STATUS ") c.args.status) c.extend_from_slice.new.self.items
    c.add_number_line.new.text.items
    c.in_ok-extend_from_slice.ensures.items c.add_number_line.ensures
