-- The conflicts of the event are counted.
use Rattle.std.proofs.Common.{◌≡◌, ◌≤◌, ◌∙◌, ◌^◌, ◌++◌, sym, ap, subst, length, take, drop, arith}
use Rattle.tx_schedule.specs.Machine.{setting_of, state_of, most_events}
use Rattle.tx_heat.specs.Conflicts.{conflicts}
use Rattle.tx_heat.specs.Watched.{AreCounted, HasRoom, IsWatched}
use Rattle.tx_heat.proofs.Measured.{has_room, watches_next, written_back}
use Rattle.tx_heat.proofs.measuring.Counting.event.Goals as goal

pub follow-requires-clause-room : goal.follow-requires-clause-room
follow-requires-clause-room c =
    let inside = c.self.inside in
    let machine = inside.machine in
    let events = c.events-recorded.ensures in
    let same = ap length events.recorded in
    let most : length machine.events ≤ most_events (setting_of machine) = omega (arith, same, events.most) in
    let entries : length (state_of machine).history ≤ length machine.events =
    omega (arith, same, events.entries) in
    subst (λ l. HasRoom l (2 ^ 33)) (sym c.deref_mut-2.ensures.value)
    (has_room machine inside.tracks.items inside.lines.items c.self.invariant most entries)

pub invariant_of-self : goal.invariant_of-self
invariant_of-self c =
    let inside = c.self.inside in
    let machine = inside.machine in
    let tracks = inside.tracks.items in
    let lines = inside.lines.items in
    let marks = c.follow.new.tracks in
    let counts = c.follow.new.lines in
    let found = conflicts (setting_of machine) machine.events in
    let tracks_value = c.deref_mut.ensures.value in
    let lines_value = c.deref_mut-2.ensures.value in
    let same_tracks : length marks ≡ length tracks =
    omega (arith, c.follow.auto.tracks, ap length tracks_value) in
    let same_lines : length counts ≡ length lines =
    omega (arith, c.follow.auto.lines, ap length lines_value) in
    let recorded = sym c.events-recorded.ensures.recorded ∙ c.events-recorded.ensures.meant in
    let counted = c.follow.ensures.counted found
    (subst (λ l. AreCounted l found) (sym lines_value) c.self.invariant.counted) in
    let next = watches_next machine tracks lines c.self.invariant c.args.e c.follow.new.machine marks counts recorded
    c.follow.ensures.machine c.follow.ensures.state c.follow.ensures.grows c.follow.ensures.tracks same_tracks
    counted in
    subst (λ l. IsWatched c.follow.new.machine (take inside.tracks.len (marks ++ drop (length marks) tracks)) l)
    (sym (written_back inside.lines.len counts lines same_lines (sym (ap length lines_value) ∙ c.deref_mut-2.ensures.len)))
    (subst (λ l. IsWatched c.follow.new.machine l counts)
    (sym (written_back inside.tracks.len marks tracks same_tracks
    (sym (ap length tracks_value) ∙ c.deref_mut.ensures.len))) next)
