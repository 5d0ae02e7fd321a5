use Rattle.std.proofs.Common.{◌∙◌, ◌+◌, ap, subst, [], Some}
use Rattle.std.proofs.lemmas.Option.{slice_get-get_or}
use Rattle.report_form.specs.Rows.{IsRow}
use Rattle.report_form.specs.Text.{lines_of}
use Rattle.report_form.specs.declared.rows.Row.TheVariants as row
use Rattle.tx_check.specs.Sound.{cpu_place}
use Rattle.tx_check.proofs.CpuLines.{has_lines}
use Rattle.tx_check.proofs.telling.claims_of.Goals as goal

pub read_attempt-requires : goal.read_attempt-requires
read_attempt-requires c =
    let h = has_lines c.args.image.now (lines_of c.args.report.now) c.args.sheet c.args.cpu c.requires.sheet
    c.requires.known in
    subst (λ l. IsRow 0 row.Attempt l) c.nth_line.ensures h.attempt_row

pub read_counts-requires : goal.read_counts-requires
read_counts-requires c =
    let h = has_lines c.args.image.now (lines_of c.args.report.now) c.args.sheet c.args.cpu c.requires.sheet
    c.requires.known in
    subst (λ l. IsRow 0 row.Counts l) c.nth_line-2.ensures h.counts_row

pub returns : goal.returns
returns c =
    let lines = lines_of c.args.report.now in
    let h = has_lines c.args.image.now lines c.args.sheet c.args.cpu c.requires.sheet c.requires.known in
    record {
      claimed =
          slice_get-get_or lines (cpu_place c.args.cpu + 8) [] h.attempt_there
          ∙ ap Some (c.nth_line.ensures ∙ c.read_attempt.ensures.told);
      counted =
          slice_get-get_or lines (cpu_place c.args.cpu + 10) [] h.counts_there
          ∙ ap Some (c.nth_line-2.ensures ∙ c.read_counts.ensures.told);
      small = c.read_attempt.ensures.small;
      small_counts = c.read_counts.ensures.small;
    }
