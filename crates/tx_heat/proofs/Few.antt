-- How many conflicts there are: in an event not more than it adds to the history and to the recorded events.
use Rattle.std.proofs.Common.{◌≡◌, ℕ, ◌+◌, ◌-◌, ◌<◌, ◌≤◌, ◌^◌, Bool, false, List, [], ◌∷◌, ◌++◌}
use Rattle.std.proofs.Common.{Option, Some}
use Rattle.std.proofs.Common.{None, refl, sym, ap, ◌∙◌, subst, arith, length, length-append, append-nil}
use Rattle.std.proofs.Common.{append_assoc}
use Rattle.std.specs.Prelude.{count_by}
use Rattle.std.specs.List.{flat_map}
use Rattle.std.proofs.Math.Nat.{mul-le-mul_left}
use Rattle.std.proofs.lemmas.List.{length-drop}
use Rattle.tx_journal.specs.declared.entries.Entry.{Entry}
use Rattle.tx_journal.specs.declared.events.Event.{Event}
use Rattle.tx_journal.specs.declared.events.Event.TheVariants as event
use Rattle.tx_meaning.specs.declared.asking.Reject.{Reject}
use Rattle.tx_meaning.specs.Idle.{idle}
use Rattle.tx_meaning.specs.Limits.{Setting}
use Rattle.tx_meaning.specs.Meaning.{IsSetting, meaning, meaning_from, is_external}
use Rattle.tx_meaning.specs.State.{State, is_live, beginning}
use Rattle.tx_meaning.specs.Turn.{Turned, happen, turn, turn_where, external}
use Rattle.tx_meaning.specs.Views.{AreKnown}
use Rattle.tx_meaning.proofs.Books.{turn_booked, external_booked, idle_or_not}
use Rattle.tx_meaning.specs.Changes.{with_event}
use Rattle.tx_schedule.proofs.Most.{at_most, entries_at_most}
use Rattle.tx_heat.specs.Conflicts.{conflict_where, abort_of, aborts_by, rejects_by, entries_in}
use Rattle.tx_heat.specs.Conflicts.{conflicts_in, conflicts_from, conflicts}
use Rattle.tx_schedule.proofs.Laws.{interrupted_by}

-- ---- one event

one_conflict : (m : Setting) (s : State) (e : Event) (rejected : Bool) (at : Option (ℕ × ℕ))
    → length (conflict_where m s e rejected at) ≤ 1
one_conflict m s e rejected None = omega arith
one_conflict m s e rejected (Some at) = omega arith

few_aborts : (m : Setting) (s : State) (e : Event) (entries : List Entry)
    → length (flat_map (aborts_by m s e) entries) ≤ length entries
few_aborts m s e [] = omega arith
few_aborts m s e (x ∷ rest) =
    let one = one_conflict m s e false (abort_of x) in
    let more = few_aborts m s e rest in
    omega (arith, one, more, length-append (aborts_by m s e x) (flat_map (aborts_by m s e) rest))

-- a reject comes in a turn that is recorded
abbrev IsCounted : State → Turned → Type 0
IsCounted s t = (t.reject ≡ None → length s.events ≤ length t.state.events)
    × ((r : Reject) → t.reject ≡ Some r → length s.events + 1 ≤ length t.state.events)

unrejected : (s : State) (t : Turned) → t.reject ≡ None → length s.events ≤ length t.state.events → IsCounted s t
unrejected s t none le = (λ e. le, λ r e. absurd (let x : None ≡ Some r = sym none ∙ e in cc))

grown : (s : State) (t : Turned) → length s.events + 1 ≤ length t.state.events → IsCounted s t
grown s t le = (λ e. omega (arith, le), λ r e. le)

turn_counted : (m : Setting) (s : State) (i : ℕ) → IsCounted s (turn m i s)
unfolding turn
turn_counted m s i =
    idle_or_not (idle m s i) (λ o. (idle m s i ≡ o) → IsCounted s (turn_where (idle m s i) m i s))
    (λ o is e. subst (λ x. IsCounted s (turn_where x m i s)) (sym is)
    (unrejected s (turn_where (Some o) m i s) refl (omega arith)))
    (λ none e.
    let booked = ap length (turn_booked m i s none).recorded ∙ length-append s.events (event.Turn i ∷ []) in
    grown s (turn m i s) (omega (arith, booked))) refl

event_counted : (m : Setting) (s : State) (e : Event) → IsCounted s (happen m e s)
unfolding happen
event_counted m s (event.Turn i) = turn_counted m s i
event_counted m s (event.External i) =
    let t = with_event (event.External i) s in
    let booked = ap length (external_booked m i s).recorded ∙ length-append s.events (event.External i ∷ []) in
    unrejected s (external m i t) (interrupted_by (is_live t i) m i t) (omega (arith, booked))

by_reject : (m : Setting) (s : State) (e : Event) (t : Turned) (o : Option Reject) → t.reject ≡ o → IsCounted s t
    → length (rejects_by m s e o) + length s.events ≤ length t.state.events
by_reject m s e t None is counted = omega (arith, counted.0 is)
by_reject m s e t (Some r) is counted = omega (arith, counted.1 r is)

pub few_in : (m : Setting) (s : State) (e : Event) → length s.history ≤ length (happen m e s).state.history
    → length (conflicts_in m s e) + (length s.history + length s.events)
    ≤ length (happen m e s).state.history + length (happen m e s).state.events
unfolding conflicts_in
few_in m s e grows =
    let t = happen m e s in
    let aborts = few_aborts m s e (entries_in s t.state) in
    let entries : length (entries_in s t.state) ≡ length t.state.history - length s.history =
    length-drop (length s.history) t.state.history in
    let rejects = by_reject m s e t t.reject refl (event_counted m s e) in
    let all = length-append (flat_map (aborts_by m s e) (entries_in s t.state)) (rejects_by m s e t.reject) in
    omega (arith, grows, aborts, entries, rejects, all)

-- ---- all events

more_from : (m : Setting) (events : List Event) (e : Event) (s : State)
    → conflicts_from m (events ++ e ∷ []) s ≡ conflicts_from m events s ++ conflicts_in m (meaning_from m events s) e
unfolding conflicts_from meaning_from
more_from m [] e s = append-nil (conflicts_in m s e)
more_from m (x ∷ rest) e s =
    ap (λ cs. conflicts_in m s x ++ cs) (more_from m rest e (happen m x s).state)
    ∙ sym (append_assoc (conflicts_in m s x) (conflicts_from m rest (happen m x s).state)
    (conflicts_in m (meaning_from m rest (happen m x s).state) e))

-- one event more
pub conflicts_more : (m : Setting) (events : List Event) (e : Event)
    → conflicts m (events ++ e ∷ []) ≡ conflicts m events ++ conflicts_in m (meaning m events) e
conflicts_more m events e = more_from m events e beginning

-- no events
pub no_conflicts : (m : Setting) → conflicts m [] ≡ []
unfolding conflicts_from
no_conflicts m = refl

-- what is recorded is few
pub few_recorded : (m : Setting) (events : List Event) → IsSetting m → AreKnown m events
    → count_by is_external events ≤ m.limits.externals
    → length (meaning m events).history + length (meaning m events).events < 2 ^ 33
few_recorded m events s known externals =
    let most = at_most m events known externals in
    let entries = entries_at_most m events known in
    let few = s.image.few_cpus in
    let turns = s.limits.few_turns in
    let outside = s.limits.few_externals in
    let product = mul-le-mul_left m.limits.turns few in
    omega (arith, most, entries, few, turns, outside, product)
