-- Why the stop queue changes in an event that comes after others.
use Rattle.std.proofs.Common.{◌≡◌, ◌≢◌, ℕ, ◌-◌, ◌<◌, ◌≤◌, true, false, List, [], ◌∷◌, ◌++◌}
use Rattle.std.proofs.Common.{drop, refl, sym, ap, ◌∙◌, subst, arith, append-nil}
use Rattle.std.specs.Prelude.{◌==◌, ◌||◌, ◌&&◌, if◌then◌else◌}
use Rattle.std.proofs.lemmas.Bool.{true≢false, cases_Bool, eq-eqb, ne_eqb, or_left}
use borrow.Enum.Arm.{by_way}
use Rattle.tx_ladder.specs.Waiting.{waits_in}
use Rattle.tx_journal.specs.Image.{cpu_of_event}
use Rattle.tx_journal.specs.declared.events.Event.{Event}
use Rattle.tx_journal.specs.declared.events.Event.TheVariants as event
use Rattle.tx_meaning.specs.Hits.{hits}
use Rattle.tx_meaning.specs.Limits.{Setting}
use Rattle.tx_meaning.specs.Meaning.{IsSetting, meaning}
use Rattle.tx_meaning.specs.State.{State, is_first, is_live, cpus_of}
use Rattle.tx_meaning.specs.Idle.{is_ready}
use Rattle.tx_meaning.specs.Stretches.{ends_transaction, is_interrupted_by, is_counted_turn, counted}
use Rattle.tx_meaning.specs.Stretches.{attempt_turns}
use Rattle.tx_meaning.specs.Turn.{turn, happen}
use Rattle.tx_meaning.proofs.Books.{unready_stays}
use Rattle.tx_bounds.specs.Kept.{Kept}
use Rattle.tx_bounds.specs.Keeping.{keeping}
use Rattle.tx_bounds.specs.Turn.{k_happen}
use Rattle.tx_meaning.specs.Views.{AreKnown}
use Rattle.tx_bounds.proofs.Events.{keeping_is}
use Rattle.tx_bounds.proofs.Meant.{StopsAt, stops}
use Rattle.tx_bounds.proofs.OwnEvents.{extra}
use Rattle.tx_bounds.proofs.Paid.{left_of}
use Rattle.tx_bounds.proofs.Potential.{left_at}
use Rattle.tx_bounds.proofs.Stopped.{between, some_stop}
use Rattle.tx_bounds.proofs.Stopping.{Once}
use Rattle.tx_bounds.proofs.Stretched.{cost_of}
use Rattle.tx_bounds.proofs.Heads.{queue_is_open, first_waits}
use Rattle.tx_headline.specs.Queue.{Joins, HeadGoes, Stays, Leaves, GoesLast, QueueChanges, others_before}
use Rattle.tx_headline.proofs.After.{first_known, kept_before, kept_behind, left_behind}
use Rattle.tx_headline.proofs.Members.{waits_first, waits_later, once_first, parts_apart}
use Rattle.tx_headline.proofs.Members.{few_once, before_few, members_known}
use Rattle.tx_headline.proofs.QueueWalk.{Moved, Goes, turn_moves, external_moves}
use Rattle.tx_headline.proofs.QueueWalk as moves
use Rattle.tx_headline.proofs.Runs.{meant_more, kept_more}
use Rattle.tx_journal.proofs.Readings.{same_head}

-- ---- lists

-- a CPU that is not among those that joined is the head of those before, if it is the head of all
head_before : (q joined : List ℕ) (i : ℕ) (rest : List ℕ) → q ++ joined ≡ i ∷ rest → waits_in joined i ≡ false
    → (before : List ℕ) × ((q ≡ i ∷ before) × (before ++ joined ≡ rest))
head_before [] joined i rest e off =
    let is : waits_in joined i ≡ true =
    ap (λ l. waits_in l i) e ∙ or_left (i == i) (waits_in rest i) (eq-eqb i i refl) in
    absurd (true≢false (sym is ∙ off))
head_before (x ∷ before) joined i rest e off = (
  before,
  (
    ap (λ y. y ∷ before) (same_head x i (before ++ joined) rest e),
    ap (drop 1) e,
  ),
)

-- those that joined behind such a head did not wait before
fresh_by : (i j : ℕ) (before joined : List ℕ) → Once (before ++ joined) → waits_in joined i ≡ false
    → waits_in joined j ≡ true → waits_in (i ∷ before) j ≡ false
fresh_by i j before joined once off in_it =
    let ne : (i == j) ≡ false =
    ne_eqb i j (λ e. true≢false (sym in_it ∙ ap (waits_in joined) (sym e) ∙ off)) in
    ap (λ b. b || waits_in before j) ne ∙ parts_apart before joined j once in_it

is_first_of : (i : ℕ) (q before : List ℕ) → q ≡ i ∷ before → is_first i q ≡ true
is_first_of i q before e = ap (is_first i) e ∙ eq-eqb i i refl

module _ (m : Setting) (s : IsSetting m) (events : List Event) (e : Event)
    (known : AreKnown m (events ++ e ∷ [])) where
  abbrev a : State
  a = meaning m events

  abbrev t : State
  t = (happen m e a).state

  abbrev k : Kept
  k = keeping m events

  abbrev u : Kept
  u = (k_happen m e k).kept

  here : a ≡ k.state
  here = kept_before m s events e known

  there : t ≡ u.state
  there = kept_behind m s events e known

  stops_first : StopsAt m a
  stops_first = stops m events s (first_known m s events e known)

  stops_then : StopsAt m t
  stops_then = subst (StopsAt m) (meant_more m events e) (stops m (events ++ e ∷ []) s known)

  cpus_then : (x : ℕ) → waits_in t.queue x ≡ true → x < cpus_of m
  cpus_then =
      subst (λ (x : State). (y : ℕ) → waits_in x.queue y ≡ true → y < cpus_of m) (meant_more m events e)
      (members_known m (events ++ e ∷ []) known)

  full_then : (c : ℕ) → waits_in t.queue c ≡ true → (u.standings c).aborts ≡ m.image.parms.stop
  full_then c waits =
      let b = between m (events ++ e ∷ []) (some_stop m s) in
      let is : waits_in (keeping m (events ++ e ∷ [])).state.queue c ≡ true =
      ap (λ (x : State). waits_in x.queue c)
      (sym (keeping_is m s (events ++ e ∷ []) known) ∙ meant_more m events e) ∙ waits in
      ap (λ (x : Kept). (x.standings c).aborts) (sym (kept_more m events e)) ∙ b.is.counted.queued c is

  full_first : (c : ℕ) → waits_in a.queue c ≡ true → (k.standings c).aborts ≡ m.image.parms.stop
  full_first c waits =
      let b = between m events (some_stop m s) in
      b.is.counted.queued c (ap (λ (x : State). waits_in x.queue c) (sym here) ∙ waits)

  -- no transaction of a CPU that waits behind the event has ended in it
  pub not_ended : (c : ℕ) → waits_in t.queue c ≡ true → ends_transaction a t c ≡ false
  not_ended c waits =
      by_way (cases_Bool (ends_transaction a t c))
      (λ ended.
      let same : ends_transaction a t c ≡ ends_transaction k.state u.state c =
      λ x. ends_transaction (here x) (there x) c in
      let none = ((left_behind m s events e known c).settles.ended (sym same ∙ ended)).none in
      let full = full_then c waits in
      let some = some_stop m s in
      absurd (omega (arith, none, full, some)))
      (λ off. off)

  left_first : (c : ℕ) → waits_in a.queue c ≡ true → left_of m c k ≡ 34 - (k.state.numbers c).completed
  left_first c waits =
      let full = full_first c waits in
      left_at m.image.parms (k.standings c).aborts (k.state.numbers c).delay (k.state.numbers c).completed
      (if is_live k.state c then (k.standings c).requests_rejected else 0) (omega (arith, full))

  left_then : (c : ℕ) → waits_in t.queue c ≡ true → left_of m c u ≡ 34 - (u.state.numbers c).completed
  left_then c waits =
      let full = full_then c waits in
      left_at m.image.parms (u.standings c).aborts (u.state.numbers c).delay (u.state.numbers c).completed
      (if is_live u.state c then (u.standings c).requests_rejected else 0) (omega (arith, full))

  -- a CPU that waits, and has a counted turn in the event without an interruption, completes more
  pub advances : (c : ℕ) → waits_in a.queue c ≡ true → waits_in t.queue c ≡ true
      → is_counted_turn m a e c ≡ true → is_interrupted_by m a e c ≡ false
      → (a.numbers c).completed < (t.numbers c).completed
  advances c waits later turn apart =
      by_way ((left_behind m s events e known c).ends (queue_is_open m s c events (first_known m s events e known) waits))
      (λ ended.
      let same : ends_transaction a t c ≡ ends_transaction k.state u.state c =
      λ x. ends_transaction (here x) (there x) c in
      absurd (true≢false (sym (same ∙ ended) ∙ not_ended c later)))
      (λ goes.
      let paid = goes.paid in
      let one : cost_of m k e c ≡ 1 =
      ap (λ (x : State). counted (is_counted_turn m x e c)) (sym here) ∙ ap counted turn in
      let none : extra (is_interrupted_by m k.state e c) (attempt_turns m.image.parms) ≡ 0 =
      ap (λ (x : State). extra (is_interrupted_by m x e c) (attempt_turns m.image.parms)) (sym here)
      ∙ ap (λ b. extra b (attempt_turns m.image.parms)) apart in
      let old = left_first c waits in
      let new = left_then c later in
      let was : (a.numbers c).completed ≡ (k.state.numbers c).completed =
      ap (λ (x : State). (x.numbers c).completed) here in
      let is : (t.numbers c).completed ≡ (u.state.numbers c).completed =
      ap (λ (x : State). (x.numbers c).completed) there in
      omega (arith, paid, one, none, old, new, was, is))

  -- ---- who joins

  joins : (j : ℕ) → waits_in t.queue j ≡ true → waits_in a.queue j ≡ false → Joins m a t j
  joins j later off =
      let few = stops_first.counted.few j in
      let apart : hits m.image a.history j ≢ m.image.parms.stop =
      λ full. true≢false (sym (stops_first.counted.at_stop j full) ∙ off) in
      record {
        known = cpus_then j later;
        is_new = off;
        fewer = omega (arith, few, apart);
        full = stops_then.counted.queued j later;
      }

  stays_joins : (joined : List ℕ) → t.queue ≡ a.queue ++ joined → (j : ℕ) → waits_in joined j ≡ true
      → Joins m a t j
  stays_joins joined is j in_it =
      joins j (ap (λ q. waits_in q j) is ∙ waits_later a.queue joined j in_it)
      (parts_apart a.queue joined j (subst Once is stops_then.counted.once) in_it)

  -- where the head of before is gone, or has gone last
  moved_joins : (i : ℕ) (joined rest later : List ℕ) → a.queue ++ joined ≡ i ∷ rest
      → waits_in joined i ≡ false
      → t.queue ≡ rest ++ later → (j : ℕ) → waits_in joined j ≡ true → Joins m a t j
  moved_joins i joined rest later e off is j in_it =
      let parts = head_before a.queue joined i rest e off in
      let before = parts.0 in
      let once : Once (before ++ joined) =
      subst Once (sym parts.1.1) (once_first rest later (subst Once is stops_then.counted.once)) in
      let waits : waits_in rest j ≡ true =
      ap (λ q. waits_in q j) (sym parts.1.1) ∙ waits_later before joined j in_it in
      joins j (ap (λ q. waits_in q j) is ∙ waits_first rest later j waits)
      (ap (λ q. waits_in q j) parts.1.0 ∙ fresh_by i j before joined once off in_it)

  -- ---- the head

  stays_head : (joined : List ℕ) → t.queue ≡ a.queue ++ joined → HeadGoes m a t e (a.queue ++ joined)
  stays_head joined is =
      Stays is
      (λ i first.
      not_ended i (ap (λ q. waits_in q i) is ∙ first_waits (a.queue ++ joined) i first))

  -- only an interruption lets it go last
  interrupted : (i : ℕ) → cpu_of_event e ≡ i → (e ≡ event.Turn i → is_ready m a i ≡ true)
      → waits_in a.queue i ≡ true → waits_in t.queue i ≡ true
      → (t.numbers i).completed ≤ (a.numbers i).completed → is_interrupted_by m a e i ≡ true
  interrupted i own ready waits later few =
      by_way (cases_Bool (is_interrupted_by m a e i)) (λ is. is)
      (λ off.
      let more = advances i waits later (its_turn e own ready off) off in
      absurd (omega (arith, more, few)))
    where
      its_turn : (x : Event) → cpu_of_event x ≡ i → (x ≡ event.Turn i → is_ready m a i ≡ true)
          → is_interrupted_by m a x i ≡ false → is_counted_turn m a x i ≡ true
      its_turn (event.Turn j) own ready off =
          (λ y. eq-eqb j i own y && is_ready m a i) ∙ ready (ap event.Turn own)
      its_turn (event.External j) own ready off = absurd (true≢false (sym (eq-eqb j i own) ∙ off))

  changed : (i : ℕ) → cpu_of_event e ≡ i → (e ≡ event.Turn i → is_ready m a i ≡ true) → Moved m i a t
      → QueueChanges m a e
  changed i own ready moved = goes_so moved.joined moved.goes
    where
      goes_so : (joined : List ℕ) → Goes m i a joined t → QueueChanges m a e
      goes_so joined (moves.Stays is) =
          record { joined = joined; joins = stays_joins joined is; head = stays_head joined is }
      goes_so joined (moves.Leaves rest queue is off ended) = record {
        joined = joined;
        joins = moved_joins i joined rest [] queue off (is ∙ sym (append-nil rest));
        head = Leaves i rest queue is ended;
      }
      goes_so joined (moves.GoesLast rest queue is off few) =
          let later : waits_in t.queue i ≡ true =
          ap (λ q. waits_in q i) is
          ∙ waits_later rest (i ∷ []) i (or_left (i == i) false (eq-eqb i i refl)) in
          let parts = head_before a.queue joined i rest queue off in
          let waits = first_waits a.queue i (is_first_of i a.queue parts.0 parts.1.0) in
          record {
            joined = joined;
            joins = moved_joins i joined rest (i ∷ []) queue off is;
            head = GoesLast i rest queue is (not_ended i later) (interrupted i own ready waits later few);
          }

-- an idle turn changes nothing
turn_state : (m : Setting) (i : ℕ) (s : State) → (happen m (event.Turn i) s).state ≡ (turn m i s).state
unfolding happen
turn_state m i s = refl

-- the queue changes for these reasons alone
pub queue_changes : (m : Setting) → IsSetting m → (events : List Event) (e : Event)
    → AreKnown m (events ++ e ∷ []) → QueueChanges m (meaning m events) e
queue_changes m s events (event.External i) known =
    changed m s events (event.External i) known i refl
    (λ no. absurd (let n : event.External i ≡ event.Turn i = no in cc))
    (external_moves m i (meaning m events))
queue_changes m s events (event.Turn i) known =
    let a = meaning m events in
    by_way (cases_Bool (is_ready m a i))
    (λ ready.
    changed m s events (event.Turn i) known i refl (λ _. ready)
    (subst (Moved m i a) (sym (turn_state m i a)) (turn_moves m i a)))
    (λ off.
    let same : (happen m (event.Turn i) a).state.queue ≡ a.queue ++ [] =
    ap (λ (x : State). x.queue) (unready_stays m a i off) ∙ sym (append-nil a.queue) in
    record {
      joined = [];
      joins = λ j in_it. absurd (true≢false (sym in_it));
      head = stays_head m s events (event.Turn i) known [] same;
    })

-- fewer stand before a CPU than the machine has
pub before_most : (m : Setting) → IsSetting m → (events : List Event) → AreKnown m events → (i : ℕ)
    → waits_in (meaning m events).queue i ≡ true → others_before i (meaning m events).queue < cpus_of m
before_most m s events known i waits =
    let q = (meaning m events).queue in
    let less = before_few i q waits in
    let few = few_once (cpus_of m) q (stops m events s known).counted.once (members_known m events known) in
    omega (arith, less, few)
