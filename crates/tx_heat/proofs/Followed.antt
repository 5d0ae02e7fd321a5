-- An event more of a run whose conflicts are counted.
use Rattle.std.proofs.Common.{◌≡◌, ◌≢◌, ℕ, ◌+◌, ◌<◌, ◌≤◌, ◌++◌, List, true, sym, ap, ◌∙◌, subst, arith}
use Rattle.std.proofs.Common.{length}
use Rattle.std.proofs.Common.{length-append}
use Rattle.tx_journal.specs.Image.{cpu_of_event}
use Rattle.tx_journal.specs.declared.entries.Entry.{Entry}
use Rattle.tx_journal.specs.declared.events.Event.{Event}
use Rattle.z_regs.specs.declared.ranges.Range.{Range}
use Rattle.tx_meaning.specs.Limits.{Setting}
use Rattle.tx_meaning.specs.Meaning.{IsSetting, meaning}
use Rattle.tx_meaning.specs.State.{State, is_live, attempt_of, cpus_of}
use Rattle.tx_meaning.specs.Turn.{happen}
use Rattle.tx_meaning.specs.Views.{GoesOnWith}
use Rattle.tx_schedule.specs.Wanted.{wanted}
use Rattle.std.proofs.Common.{ap₂, append_assoc, Option, drop, ◌^◌, false, refl}
use Rattle.std.specs.Prelude.{nat_lt}
use Rattle.std.proofs.lemmas.Bool.{cases_eq, cases_Bool}
use borrow.Enum.Arm.{by_way}
use Rattle.tx_progress.proofs.Parts.{not_live}
use Rattle.std.specs.List.{flat_map}
use Rattle.std.proofs.lemmas.List.{length-drop}
use Rattle.tx_heat.specs.Conflicts.{Conflict, aborts_by, conflict_where, conflicts_in, entries_in, reject_of}
use Rattle.tx_heat.specs.declared.counting.LineHeat.{LineHeat}
use Rattle.tx_heat.proofs.Counted.{room_less}
use Rattle.tx_heat.specs.Watched.{Tracked, AreTracks, IsReached, Passes, AreCounted, HasRoom, StaysBeside, Waits}
use Rattle.tx_heat.specs.Watched.{aborts}
use Rattle.tx_heat.proofs.Quiet.{stays_beside}
use Rattle.tx_heat.proofs.Passing.{beside_track}
use Rattle.tx_heat.proofs.Tracked.{touches_nothing, touches_the_same, others_stay, touches_more, wants_the_same}
use Rattle.tx_heat.proofs.Tracked.{begins_with_nothing}
use Rattle.tx_heat.proofs.Waiting.{waiting_rests}

-- a history that goes on is not shorter
pub not_shorter : (before after : List Entry) → GoesOnWith before after → length before ≤ length after
not_shorter before after goes =
    let same = sym (length-append before goes.more) ∙ ap length goes.is in omega (arith, same)

-- what an event makes of what attempts have touched
pub passes : (m : Setting) (s : State) (e : Event) (asked : List Range) → IsSetting m → IsReached m s
    → cpu_of_event e < cpus_of m → (is_live s (cpu_of_event e) ≡ true → asked ≡ wanted m s (cpu_of_event e))
    → (j : ℕ) → Passes m s (happen m e s).state (cpu_of_event e) asked j
passes m s e asked setting reached within speaks j =
    let events = reached.events in
    let known = reached.known in
    let old = meaning m events in
    let c = cpu_of_event e in
    let told = subst (λ (t : State). is_live t c ≡ true → asked ≡ wanted m t c) reached.is speaks in
    subst (λ (t : State). Passes m t (happen m e t).state c asked j)
    (sym reached.is) record {
      over = λ off. touches_nothing m (happen m e old).state j off;
      begins = λ off. begins_with_nothing m setting events known e within j off;
      stays = λ live same. touches_the_same m setting events known e within j live same;
      others = λ ne live. others_stay m setting events known e within j ne live;
      more = λ own. subst (λ i. is_live old i ≡ true → is_live (happen m e old).state i ≡ true
          → ((happen m e old).state.numbers i).completed ≢ (old.numbers i).completed
          → (attempt_of m (happen m e old).state i).touched ≡ (attempt_of m old i).touched ++ asked) (sym own)
          (λ was live other. touches_more m setting events known e within live other
          ∙ ap (λ x. (attempt_of m old c).touched ++ x) (sym (told was)));
      wants = λ live same. wants_the_same m setting events known e within j live same;
    }

-- the same of values that are equal to these
pub passes_as : (m n : Setting) (s t : State) (e : Event) (cpu : ℕ) (asked : List Range) → n ≡ m
    → t ≡ (happen m e s).state → cpu ≡ cpu_of_event e → (is_live s cpu ≡ true → asked ≡ wanted m s cpu)
    → IsSetting m → IsReached m s → cpu_of_event e < cpus_of m → (j : ℕ) → Passes n s t cpu asked j
passes_as m n s t e cpu asked same state own speaks setting reached within j =
    subst (λ x. Passes x s t cpu asked j) (sym same)
    (subst (λ x. Passes m s x cpu asked j) (sym state)
    (subst (λ x. Passes m s (happen m e s).state x asked j) (sym own)
    (passes m s e asked setting reached within
    (subst (λ i. is_live s i ≡ true → asked ≡ wanted m s i) own speaks) j)))

-- in a turn of waiting of a CPU without a live attempt no attempt completes more
waits_on : (m : Setting) (s : State) (e : Event) → Waits s e → is_live s (cpu_of_event e) ≡ false → (j : ℕ)
    → ((happen m e s).state.numbers j).completed ≡ (s.numbers j).completed
waits_on m s e waits off j =
    let c = cpu_of_event e in
    let rests = waiting_rests m e s waits in
    by_way (cases_eq j c)
    (λ own. subst (λ i. ((happen m e s).state.numbers i).completed ≡ (s.numbers i).completed) (sym own)
    (by_way (cases_Bool (is_live (happen m e s).state c)) rests.own
    (λ over. not_live ((happen m e s).state.numbers c).completed over ∙ sym (not_live (s.numbers c).completed off))))
    (rests.others j)

-- and what is kept of all CPUs stays
pub waiting_tracks : (m : Setting) (s t : State) (e : Event) (tracks : List Tracked) → t ≡ (happen m e s).state
    → IsSetting m → IsReached m s → cpu_of_event e < cpus_of m → is_live s (cpu_of_event e) ≡ false → Waits s e
    → AreTracks m s tracks → AreTracks m t tracks
waiting_tracks m s t e tracks state setting reached within off waits all =
    let c = cpu_of_event e in
    let asked = wanted m s c in
    subst (λ u. AreTracks m u tracks) (sym state) record {
      each = λ j old at.
          beside_track m s (happen m e s).state c j asked
          (passes m s e asked setting reached within (λ live. refl) j) old (all.each j old at)
          (waits_on m s e waits off j);
      beyond = λ j le. ap (nat_lt 0) (waits_on m s e waits off j) ∙ all.beyond j le;
    }

-- where the new entries tell of no abort
pub quiet_beside : (m : Setting) (s t : State) (e : Event) (cpu : ℕ) (entries : List Entry)
    → t ≡ (happen m e s).state → cpu ≡ cpu_of_event e → GoesOnWith s.history t.history
    → entries ≡ drop (length s.history) t.history → aborts entries ≡ 0 → StaysBeside s t cpu
quiet_beside m s t e cpu entries state own grows are none =
    subst (λ u. StaysBeside s u cpu) (sym state)
    (subst (λ i. StaysBeside s (happen m e s).state i) (sym own)
    (stays_beside m s e (subst (λ (u : State). GoesOnWith s.history u.history) state grows)
    (ap (λ (u : State). aborts (drop (length s.history) u.history)) (sym state) ∙ ap aborts (sym are) ∙ none)))

-- the conflicts of an event are those that its entries tell of, and its reject
pub counts_as : (lines : List LineHeat) (m : Setting) (s : State) (e : Event) (found : List Conflict)
    (entries : List Entry) (at : Option (ℕ × ℕ))
    → AreCounted lines ((found ++ flat_map (aborts_by m s e) entries) ++ conflict_where m s e true at)
    → entries ≡ entries_in s (happen m e s).state → at ≡ reject_of (happen m e s).reject
    → AreCounted lines (found ++ conflicts_in m s e)
unfolding conflicts_in
counts_as lines m s e found entries at counted entries_are at_is =
    subst (AreCounted lines)
    (append_assoc found (flat_map (aborts_by m s e) entries) (conflict_where m s e true at)
    ∙ ap₂ (λ x y. found ++ (flat_map (aborts_by m s e) x ++ conflict_where m s e true y)) entries_are at_is) counted

-- with the new entries there are few enough
pub room_behind : (lines : List LineHeat) (before after : List Entry) → HasRoom lines (2 ^ 33)
    → length after < 2 ^ 32 → HasRoom lines (1 + length (drop (length before) after))
room_behind lines before after room short =
    let cut = length-drop (length before) after in
    room_less lines (2 ^ 33) (1 + length (drop (length before) after)) (omega (arith, cut, short)) room
