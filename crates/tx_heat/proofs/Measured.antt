-- A run whose conflicts are counted, event after event.
use Rattle.std.proofs.Common.{◌≡◌, ℕ, ◌≤◌, ◌^◌, List, [], ◌++◌, refl, sym, ap, ap₂, ◌∙◌, subst, arith}
use Rattle.std.proofs.Common.{Bool, length, length-append, take, drop, append-nil}
use Rattle.std.proofs.Math.Nat.{mul-le-mul_left}
use Rattle.std.proofs.lemmas.List.{take_all, drop_all}
use Rattle.tx_journal.specs.declared.events.Event.{Event}
use Rattle.tx_meaning.specs.Limits.{Setting}
use Rattle.tx_meaning.specs.Meaning.{IsSetting, meaning}
use Rattle.tx_meaning.specs.State.{State, beginning}
use Rattle.tx_meaning.specs.Views.{AreKnown, GoesOnWith}
use Rattle.tx_schedule.specs.Machine.{Seen, setting_of, state_of, event_of, after, most_events}
use Rattle.tx_heat.specs.Conflicts.{conflicts, conflicts_in}
use Rattle.tx_heat.specs.Heats.{Heated, heat_of, all_finished}
use Rattle.tx_heat.specs.Watched.{Tracked, AreTracks, AreCounted, IsReached, HasRoom, IsWatched}
use Rattle.tx_heat.specs.declared.counting.LineHeat.{LineHeat}
use Rattle.tx_heat.proofs.Counted.{heats_are, room_counted}
use Rattle.tx_heat.proofs.Few.{few_in, no_conflicts}
use Rattle.tx_heat.proofs.Followed.{not_shorter}
use Rattle.tx_heat.proofs.Recorded.{told_behind}
use Rattle.tx_step.proofs.Due.{none_happened}

-- nothing has happened, and nothing is counted
pub watches_first : (machine : Seen) (tracks : List Tracked) (lines : List LineHeat) → IsSetting (setting_of machine)
    → machine.events ≡ [] → AreTracks (setting_of machine) beginning tracks
    → length tracks ≡ length machine.image.cpus → AreCounted lines [] → IsWatched machine tracks lines
watches_first machine tracks lines setting unused marks size none =
    let m = setting_of machine in
    let nothing : conflicts m machine.events ≡ [] = ap (conflicts m) unused ∙ no_conflicts m in
    let zero = ap length nothing in
    record {
      setting = setting;
      cpus = size;
      tracks_are = subst (λ s. AreTracks m s tracks) (sym (ap (meaning m) unused ∙ none_happened m)) marks;
      counted = subst (AreCounted lines) (sym nothing) none;
      few = omega (arith, zero);
    }

module _ (before : Seen) (tracks : List Tracked) (lines : List LineHeat) (now : IsWatched before tracks lines) where
  -- the machine's events have led to where it is
  pub reached : AreKnown (setting_of before) before.events → IsReached (setting_of before) (state_of before)
  reached known = record { events = before.events; known = known; is = refl }

  -- no conflict needs more room than there is
  pub has_room : length before.events ≤ most_events (setting_of before)
      → length (state_of before).history ≤ length before.events → HasRoom lines (2 ^ 33)
  has_room most entries =
      let cpus = now.setting.image.few_cpus in
      let turns = now.setting.limits.few_turns in
      let outside = now.setting.limits.few_externals in
      let product = mul-le-mul_left before.limits.turns cpus in
      let few = now.few in
      room_counted lines (conflicts (setting_of before) before.events) (2 ^ 33) now.counted
      (omega (arith, most, entries, cpus, turns, outside, product, few))

  module _ (e : Event) (next : Seen) (marks : List Tracked) (counts : List LineHeat)
      (recorded : before.events ≡ (state_of before).events) (next_is : next ≡ after before e)
      (state_is : state_of next ≡ (event_of before e).state) where
    abbrev m : Setting
    m = setting_of before

    same : setting_of next ≡ m
    same = ap setting_of next_is

    events_are : next.events ≡ (event_of before e).state.events
    events_are = ap (λ (s : Seen). s.events) next_is

    -- the conflicts of what is recorded behind the event
    told : conflicts m before.events ++ conflicts_in m (state_of before) e ≡ conflicts (setting_of next) next.events
    told =
        ap (λ es. conflicts m es ++ conflicts_in m (state_of before) e) recorded
        ∙ sym (told_behind m e (state_of before) (ap (meaning m) (sym recorded)))
        ∙ ap₂ (λ n es. conflicts n es) (sym same) (sym events_are)

    -- one event more
    pub watches_next : GoesOnWith (state_of before).history (state_of next).history
        → AreTracks m (state_of next) marks → length marks ≡ length tracks
        → AreCounted counts (conflicts m before.events ++ conflicts_in m (state_of before) e)
        → IsWatched next marks counts
    watches_next grows tracked size counted =
        let longer : length (state_of before).history ≤ length (event_of before e).state.history =
        subst (λ (s : State). length (state_of before).history ≤ length s.history) state_is
        (not_shorter (state_of before).history (state_of next).history grows) in
        let few = few_in m (state_of before) e longer in
        let all = ap length (sym told)
        ∙ length-append (conflicts m before.events) (conflicts_in m (state_of before) e) in
        let had = now.few in
        let history = ap (λ (s : State). length s.history) state_is in
        let all_events = ap length events_are in
        let old_events = ap length recorded in
        record {
          setting = subst IsSetting (sym same) now.setting;
          cpus = size ∙ now.cpus ∙ ap (λ (n : Setting). length n.image.cpus) (sym same);
          tracks_are = subst (λ n. AreTracks n (state_of next) marks) (sym same) tracked;
          counted = subst (AreCounted counts) told counted;
          few = omega (arith, few, all, had, history, all_events, old_events);
        }

abbrev pub heated : List LineHeat → Bool → Heated
heated lines finished = record { lines = lines; finished = finished }

-- what is counted is the heat of what is recorded
pub heat_is : (machine : Seen) (tracks : List Tracked) (lines : List LineHeat) (finished : Bool)
    → IsWatched machine tracks lines → finished ≡ all_finished (setting_of machine) (state_of machine)
    → heated lines finished ≡ heat_of machine.image machine.limits machine.events
unfolding heat_of
heat_is machine tracks lines finished now is =
    ap₂ heated
    (heats_are lines (conflicts (setting_of machine) machine.events) now.counted) is

-- a list of the same length that is written back into a vector
pub written_back : {X : Type 0} (size : ℕ) (new old : List X) → length new ≡ length old → length old ≡ size
    → take size (new ++ drop (length new) old) ≡ new
written_back {X} size new old same fits =
    ap (λ (l : List X). take size (new ++ l)) (drop_all (length new) old (omega arith))
    ∙ ap (take size) (append-nil new) ∙ take_all size new (omega arith)
