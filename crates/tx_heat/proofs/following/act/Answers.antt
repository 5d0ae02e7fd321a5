-- The conflicts of the event are counted, and what is kept follows.
use Rattle.std.proofs.Common.{◌≡◌, ◌∙◌, ◌<◌, Some, true, sym, ap, ap₂, subst, length, drop}
use Rattle.std.proofs.Common.{◌+◌, List, arith}
use Rattle.std.specs.Prelude.{slice_get}
use Rattle.tx_journal.specs.Image.{cpu_of_event}
use Rattle.tx_journal.specs.declared.entries.Entry.{Entry}
use Rattle.tx_meaning.specs.State.{State, is_live}
use Rattle.tx_schedule.specs.Machine.{Seen}
use Rattle.tx_schedule.specs.Wanted.{wanted}
use Rattle.tx_heat.specs.Conflicts.{reject_of}
use Rattle.tx_schedule.specs.Machine.{setting_of, state_of}
use Rattle.tx_heat.specs.Watched.{Tracked, AreTracks, HasRoom, SpeaksFor}
use Rattle.tx_heat.proofs.Followed.{passes_as, quiet_beside, counts_as, not_shorter, room_behind}
use Rattle.tx_heat.proofs.Passing.{present}
use Rattle.tx_heat.proofs.following.act.Goals as goal

pub returns-clause-tracks : goal.returns-clause-tracks
returns-clause-tracks c =
    let old = c.args.machine.now in
    let new = c.event-outcome.new.self in
    let m = setting_of old in
    let s = state_of old in
    let t = state_of new in
    let e = c.args.e in
    let tracks = c.args.tracks.now in
    let cpu = c.cpu_of-cpu.result in
    let own = c.cpu_of-cpu.ensures in
    let state = c.event-outcome.ensures.state in
    let same : setting_of new ≡ m = ap setting_of c.event-outcome.ensures.machine in
    let here : cpu < length tracks = omega (arith, own, c.requires.known, c.requires.cpus) in
    let kept = present tracks cpu here in
    let asked = kept.0.asked in
    let speaks = subst (λ i. is_live s i ≡ true → asked ≡ wanted m s i) (sym own)
    (c.requires.speaks kept.0 (subst (λ i. slice_get tracks i ≡ Some kept.0) own kept.1)).own in
    let told = λ (x : Tracked) (at : slice_get tracks cpu ≡ Some x).
    (let there : Some kept.0 ≡ Some x = sym kept.1 ∙ at in
    let one : kept.0 ≡ x = cc in ap (λ (y : Tracked). y.asked) (sym one)) in
    let passes = passes_as m (setting_of new) s t e cpu asked same state own speaks c.requires.setting
    c.requires.reached c.requires.known in
    let entries = c.entries_behind-entries.ensures
    ∙ ap (λ n. drop n t.history) c.entry_count-before.ensures in
    subst (λ n. AreTracks n t c.track.new.tracks) same
    (c.track.ensures s asked told
    (subst (λ n. is_live s cpu ≡ true → asked ≡ wanted n s cpu) (sym same) speaks) passes
    (quiet_beside m s t e cpu c.entries_behind-entries.result.now state own c.event-outcome.ensures.grows entries)
    (subst (λ n. AreTracks n s tracks) (sym same) c.requires.tracks))

pub entries_behind-entries-requires : goal.entries_behind-entries-requires
entries_behind-entries-requires c =
    let old = (state_of c.args.machine.now).history in
    let new = (state_of c.event-outcome.new.self).history in
    let longer = not_shorter old new c.event-outcome.ensures.grows in
    let before = c.entry_count-before.ensures in
    omega (arith, longer, before)

pub count_conflicts-requires-clause-room : goal.count_conflicts-requires-clause-room
count_conflicts-requires-clause-room c =
    let old = (state_of c.args.machine.now).history in
    let new = (state_of c.event-outcome.new.self).history in
    let entries = c.entries_behind-entries.ensures ∙ ap (λ n. drop n new) c.entry_count-before.ensures in
    subst (λ (xs : List Entry). HasRoom c.args.lines.now (1 + length xs)) (sym entries)
    (room_behind c.args.lines.now old new c.requires.room c.tally-tally.ensures.short)

pub returns-clause-counted : goal.returns-clause-counted
returns-clause-counted c = λ found counted.
    let old = c.args.machine.now in
    let m = setting_of old in
    let s = state_of old in
    let e = c.args.e in
    let tracks = c.args.tracks.now in
    let speaks = subst (λ i. (t : Tracked) → slice_get tracks i ≡ Some t → SpeaksFor m s (cpu_of_event e) t.asked)
    (sym c.cpu_of-cpu.ensures) c.requires.speaks in
    counts_as c.count_conflicts.new.lines m s e found c.entries_behind-entries.result.now
    (reject_of c.last_reject.result)
    (c.count_conflicts.ensures m s e found c.requires.tracks speaks counted)
    (c.entries_behind-entries.ensures
    ∙ ap₂ (λ n h. drop n h) c.entry_count-before.ensures (ap (λ (t : State). t.history) c.event-outcome.ensures.state))
    (ap reject_of (c.last_reject.ensures ∙ ap (λ (x : Seen). x.reject) c.event-outcome.ensures.machine))
