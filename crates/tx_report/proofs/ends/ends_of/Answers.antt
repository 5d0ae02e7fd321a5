-- An entry more is counted, and no count overflows.
use Rattle.std.proofs.Common.{◌∙◌, ◌<◌, ◌≤◌, ap, sym, length, arith, Some}
use Rattle.std.proofs.lemmas.Option.{slice_get_within, same_Some}
use Rattle.tx_report.specs.declared.ends.Ends.{Ends}
use Rattle.tx_report.proofs.Counted.{ends_more, few_ends}
use Rattle.tx_report.proofs.ends.ends_of.Goals as goal

pub note-requires : goal.note-requires
note-requires c i ends is =
    let inside = slice_get_within c.loop-entry.all i ends is in
    let within : i < 16 = omega arith in
    let same = same_Some _ _ (sym is ∙ c.loop-entry.invariant i within) in
    let commits = ap (λ (e : Ends). e.commits) same in
    let aborts = ap (λ (e : Ends). e.aborts) same in
    let some : c.loop-entry.entry-index ≤ length c.args.history.now = omega arith in
    let few = few_ends c.args.history.now i c.loop-entry.entry-index some in
    (omega arith, omega arith)

pub loop-entry-preserved : goal.loop-entry-preserved
loop-entry-preserved c i within =
    c.note.ensures i _ (c.loop-entry.invariant i within)
    ∙ ap Some (ends_more c.args.history.now i c.loop-entry.entry-index _ c.loop-entry-test.true)
