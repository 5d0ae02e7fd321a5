-- The aborts are counted, and then the reject.
use Rattle.std.proofs.Common.{◌++◌, true, sym, subst}
use Rattle.std.specs.List.{flat_map}
use Rattle.tx_journal.specs.Image.{cpu_of_event}
use Rattle.tx_heat.specs.Conflicts.{aborts_by, conflict_where}
use Rattle.tx_heat.specs.Watched.{Tracked, AreCounted, SpeaksFor}
use Rattle.tx_heat.proofs.Passing.{kept_at}
use Rattle.tx_heat.proofs.following.count_conflicts.Goals as goal

pub returns : goal.returns
returns c = λ m s e found all speaks counted.
    let tracks = c.args.tracks.now in
    let k = c.args.cpu in
    let old : Tracked = c.index-tracks-cpu.result in
    let entries = c.args.entries.now in
    let said = subst (SpeaksFor m s (cpu_of_event e)) (sym c.asked-asked.ensures.value)
    (speaks old (kept_at tracks k old c.requires.cpu (sym c.index-tracks-cpu.is))) in
    let one = c.count_aborts.ensures.counted m s e found all said counted in
    let two = c.count_at.ensures.counted m s e (found ++ flat_map (aborts_by m s e) entries) all said one in
    subst (λ at. AreCounted c.count_at.new.lines
    ((found ++ flat_map (aborts_by m s e) entries) ++ conflict_where m s e true at)) c.reject_in.ensures two
