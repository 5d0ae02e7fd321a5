-- What an event writes down of itself, and the turns that it counts.
use Rattle.std.proofs.Common.{◌≡◌, ◌≢◌, ℕ, zero, suc, ◌+◌, ◌*◌, ◌<◌, ◌≤◌, Bool, true, false, cond, List, []}
use Rattle.std.proofs.Common.{◌∷◌, ◌++◌, Option, Some, None, refl, sym, ap, ◌∙◌, subst, arith}
use Rattle.std.specs.Prelude.{◌==◌, if◌then◌else◌, is_none, All, count_by}
use Rattle.std.proofs.lemmas.Bool.{cases_eq, eq-eqb, ne_eqb, leb-false}
use Rattle.std.proofs.lemmas.List.Elements.{All-head, All-tail}
use Rattle.std.proofs.lemmas.List.Sums.{sum_by_push, sum_by-append}
use borrow.Enum.Arm.{by_way}
use Rattle.tx_control.specs.declared.causes.Why.{Why}
use Rattle.tx_control.specs.declared.causes.Why.TheVariants.{Starved, External}
use Rattle.tx_ladder.specs.Rungs.{Standing, rejecting}
use Rattle.tx_serial.specs.Image.{cpu_of_event}
use Rattle.tx_serial.specs.Event.{Event}
use Rattle.tx_serial.specs.Event.TheVariants as event
use Rattle.tx_meaning.specs.declared.outcome.Outcome.{Outcome}
use Rattle.tx_meaning.specs.declared.outcome.Outcome.TheVariants as outcome
use Rattle.tx_meaning.specs.Limits.{RunLimits, Setting}
use Rattle.tx_meaning.specs.State.{Numbers, State, beginning, standing_of, cpus_of}
use Rattle.tx_meaning.specs.Changes.{with_numbers, with_event, counting_turn, rejecting_one, without_head}
use Rattle.tx_meaning.specs.Changes.{without_attempt, aborting, after_cause, delaying}
use Rattle.tx_meaning.specs.Idle.{idle, idle_by, is_finished, is_spent, kept_back, is_ready}
use Rattle.tx_meaning.specs.Turn.{turn, turn_where, happen}
use Rattle.tx_meaning.specs.Meaning.{meaning_from, meaning, is_external}
use Rattle.tx_meaning.specs.Room.{is_turn, is_turn_of}
use Rattle.tx_meaning.proofs.Walk.{Walk, at_put_kept, at_put_case, conflict_on, cause_case, leaving_case}
use Rattle.tx_meaning.proofs.Walk.{in_a_turn, externally}

-- these events are recorded, and each CPU has so many counted turns
pub record Booked (events : List Event) (turns : ℕ → ℕ) (s : State) : Type 0 where
  pub recorded : s.events ≡ events
  pub counted : (x : ℕ) → (s.numbers x).turns ≡ turns x

module _ (events : List Event) (turns : ℕ → ℕ) where
  -- what changes no count of turns
  renumbered : (i : ℕ) (v : Numbers) (s : State) → v.turns ≡ (s.numbers i).turns → Booked events turns s
      → Booked events turns (with_numbers i v s)
  renumbered i v s same b = record {
    recorded = b.recorded;
    counted = λ x. at_put_kept (λ (n : Numbers). n.turns) s.numbers i v same x ∙ b.counted x;
  }

  same_books : (s t : State) → t.events ≡ s.events → t.numbers ≡ s.numbers → Booked events turns s
      → Booked events turns t
  same_books s t e n b = record {
    recorded = e ∙ b.recorded;
    counted = λ x. ap (λ f. (f x).turns) n ∙ b.counted x;
  }

  without : (i : ℕ) (s : State) → Booked events turns s → Booked events turns (without_attempt i s)
  without i s b = renumbered i (record (s.numbers i) { completed = 0 }) s refl b

  delayed : (i d : ℕ) (s : State) → Booked events turns s → Booked events turns (delaying i d s)
  delayed i d s b = renumbered i (record (s.numbers i) { delay = d }) s refl b

  abort_booked : (i : ℕ) (standing : Standing) (n : ℕ) (w : Why) (s : State) → Booked events turns s
      → Booked events turns (aborting i standing n w s)
  unfolding aborting
  abort_booked i standing n w s b =
      let t = without_attempt i s in
      let c = without i s b in
      let u = after_cause i standing w t in
      let after : Booked events turns u =
      cause_case (λ r. Booked events turns r) i standing w t c (λ d. delayed i d t c)
      (same_books t (record t { queue = t.queue ++ i ∷ [] }) refl refl c)
      (same_books t (record t { queue = without_head i t.queue }) refl refl c) in
      record { recorded = after.recorded; counted = after.counted }

  books_kept : (m : Setting) (i : ℕ)
      → Walk m i (Booked events turns) (Booked events turns) (λ o s. Booked events turns s)
  books_kept m i = record {
    asks = λ s b. renumbered i (record (s.numbers i) { asked = (s.numbers i).asked + 1 }) s refl b;
    holds = λ s held b. record { recorded = b.recorded; counted = b.counted };
    rejects = λ s j known other live head b.
        let t = rejecting_one j (standing_of m s j) s in
        let c : Booked events turns t =
        renumbered j (record (s.numbers j) { given = (rejecting (standing_of m s j)).rejects_given }) s refl b
        in
        renumbered i _ t refl c;
    aborts = λ s j line stored known other live b.
        abort_booked j (standing_of m s j) (s.numbers j).completed (conflict_on stored line) s b;
    refused = λ r s b. b;
    starved = λ r s live b. abort_booked i (standing_of m s i) (s.numbers i).completed Starved s b;
    nothing = λ s b. b;
    ends = λ s n w b. abort_booked i (standing_of m s i) n w s b;
    steps = λ s b. record { recorded = b.recorded; counted = b.counted };
    pauses = λ s d b.
        let c = renumbered i (record (s.numbers i) { delay = d }) s refl b in
        record { recorded = c.recorded; counted = c.counted };
    stores = λ s b. record { recorded = b.recorded; counted = b.counted };
    takes = λ s b. record { recorded = b.recorded; counted = b.counted };
    starts = λ s live b. renumbered i _ s refl b;
    continues = λ s live b. renumbered i _ s refl b;
    commits = λ s constrained n live b.
        let t = without_attempt i s in
        let c = without i s b in
        let after = leaving_case (λ r. Booked events turns r) i constrained t c
        (same_books t (record t { queue = without_head i t.queue }) refl refl c) in
        record { recorded = after.recorded; counted = after.counted };
    waits = λ s b. renumbered i _ s refl b;
    interrupted = λ s live b.
        let c = abort_booked i (standing_of m s i) (s.numbers i).completed External s b in
        record { recorded = c.recorded; counted = c.counted };
    unmet = λ s b. record { recorded = b.recorded; counted = b.counted };
  }

-- ---- one event

-- an idle turn changes nothing
pub idle_stays : (m : Setting) (i : ℕ) (s : State) (o : Outcome) → idle m s i ≡ Some o
    → (turn m i s).state ≡ s
unfolding turn
idle_stays m i s o e = ap (λ x. (turn_where x m i s).state) e

-- every other turn is recorded and counted
abbrev pub one_turn_more : ℕ → State → ℕ → ℕ
one_turn_more i s x = ((counting_turn i s).numbers x).turns

pub turn_booked : (m : Setting) (i : ℕ) (s : State) → idle m s i ≡ None
    → Booked (s.events ++ event.Turn i ∷ []) (one_turn_more i s) (turn m i s).state
turn_booked m i s e =
    let events = s.events ++ event.Turn i ∷ [] in
    let turns = one_turn_more i s in
    in_a_turn m i (Booked events turns) (Booked events turns) (λ o s. Booked events turns s)
    (books_kept events turns m i)
    s (λ o is. let n : Some o ≡ None = sym is ∙ e in cc)
    (λ _. record { recorded = refl; counted = λ x. refl })

pub external_booked : (m : Setting) (i : ℕ) (s : State)
    → Booked (s.events ++ event.External i ∷ []) (λ x. (s.numbers x).turns)
    (happen m (event.External i) s).state
unfolding happen
external_booked m i s =
    let events = s.events ++ event.External i ∷ [] in
    let turns = λ (x : ℕ). (s.numbers x).turns in
    externally m i (Booked events turns) (Booked events turns) (λ o s. Booked events turns s)
    (books_kept events turns m i)
    (with_event (event.External i) s) (record { recorded = refl; counted = λ x. refl })

-- ---- readiness

pub idle_or_not : (o : Option Outcome) (T : Option Outcome → Type 0) → ((x : Outcome) → o ≡ Some x
    → T (Some x))
    → (o ≡ None → T None) → T o
idle_or_not None T some none = none refl
idle_or_not (Some x) T some none = some x refl

spent_by : (limits : RunLimits) (finished : Bool) (queue : List ℕ) (n : Numbers) (i : ℕ) (spent : Bool)
    → is_spent limits n ≡ spent → idle_by limits finished queue n i ≡ None → spent ≡ false
spent_by limits finished queue n i false e none = refl
spent_by limits true queue n i true e none = let x : Some outcome.Halted ≡ None = none in cc
spent_by limits false queue n i true e none =
    let x : Some outcome.Spent ≡ None =
    sym (ap (λ (b : Bool). if b then Some outcome.Spent else kept_back queue i) e) ∙ none in cc

-- a CPU whose turn is not idle has one left
pub not_spent : (m : Setting) (s : State) (i : ℕ) → idle m s i ≡ None → (s.numbers i).turns < m.limits.turns
unfolding idle
not_spent m s i e =
    leb-false m.limits.turns (s.numbers i).turns
    (spent_by m.limits (is_finished m s i) s.queue (s.numbers i) i (is_spent m.limits (s.numbers i)) refl e)

-- ---- all counted turns

pub total : ℕ → (ℕ → ℕ) → ℕ
total zero f = 0
total (suc n) f = total n f + f n

total_same : (n : ℕ) (f g : ℕ → ℕ) → ((x : ℕ) → x < n → g x ≡ f x) → total n g ≡ total n f
unfolding total
total_same zero f g h = refl
total_same (suc n) f g h =
    let below = total_same n f g (λ x lo. h x (omega arith)) in
    let here : g n ≡ f n = h n (omega arith) in
    omega arith

total_more : (n : ℕ) (f g : ℕ → ℕ) (i : ℕ) → i < n → g i ≡ f i + 1 → ((x : ℕ) → x ≢ i → g x ≡ f x)
    → total n g ≡ total n f + 1
unfolding total
total_more zero f g i lo here others = absurd (omega arith)
total_more (suc n) f g i lo here others =
    by_way (cases_eq i n)
    (λ e.
    let below = total_same n f g (λ x less. let off : x ≢ i = omega arith in others x off) in
    let top : g n ≡ f n + 1 = subst (λ k. g k ≡ f k + 1) e here in
    omega arith)
    (λ ne.
    let off : n ≢ i = λ e. ne (sym e) in
    let less : i < n = omega arith in
    let below = total_more n f g i less here others in
    let top = others n off in
    omega arith)

pub total_at_most : (n most : ℕ) (f : ℕ → ℕ) → ((x : ℕ) → x < n → f x ≤ most) → total n f ≤ n * most
unfolding total
total_at_most zero most f h = omega arith
total_at_most (suc n) most f h =
    let below = total_at_most n most f (λ x lo. h x (omega arith)) in
    let here : f n ≤ most = h n (omega arith) in
    let times : suc n * most ≡ n * most + most = omega arith in
    omega arith

-- one of them is counted
pub one_counted : (n i : ℕ) (s : State) → i < n
    → total n (one_turn_more i s) ≡ total n (λ x. (s.numbers x).turns) + 1
one_counted n i s lo =
    total_more n (λ x. (s.numbers x).turns) (one_turn_more i s) i lo
    (at_put_case (λ (v : Numbers). v.turns ≡ (s.numbers i).turns + 1) s.numbers i _ i (λ _. refl)
    (λ ne. absurd (ne refl)))
    (λ x ne. at_put_case (λ (v : Numbers). v.turns ≡ (s.numbers x).turns) s.numbers i _ x
    (λ e. absurd (ne e)) (λ _. refl))

-- ---- over events

-- what is written down: as many turns as are counted, which no CPU has too many of
pub record Counts (m : Setting) (s : State) : Type 0 where
  pub turns : count_by is_turn s.events ≡ total (cpus_of m) (λ x. (s.numbers x).turns)
  pub few : (x : ℕ) → (s.numbers x).turns ≤ m.limits.turns

abbrev one_if_turn : Event → ℕ
one_if_turn e = cond (is_turn e) 1 0

abbrev one_if_external : Event → ℕ
one_if_external e = cond (is_external e) 1 0

counts_turned : (m : Setting) (i : ℕ) (s : State) → i < cpus_of m → Counts m s → Counts m (turn m i s).state
counts_turned m i s known c =
    idle_or_not (idle m s i) (λ o. Counts m (turn m i s).state)
    (λ x e. subst (λ t. Counts m t) (sym (idle_stays m i s x e)) c)
    (λ none.
    let b = turn_booked m i s none in
    let t = (turn m i s).state in
    let more = sum_by_push one_if_turn s.events (event.Turn i) in
    let all : total (cpus_of m) (λ x. (t.numbers x).turns) ≡ total (cpus_of m) (one_turn_more i s) =
    total_same (cpus_of m) (one_turn_more i s) (λ x. (t.numbers x).turns) (λ x lo. b.counted x) in
    let one = one_counted (cpus_of m) i s known in
    let left = not_spent m s i none in
    let before = c.turns in
    let recorded : count_by is_turn t.events ≡ count_by is_turn (s.events ++ event.Turn i ∷ []) =
    ap (count_by is_turn) b.recorded in
    record {
      turns = omega arith;
      few = λ x.
          let bound : one_turn_more i s x ≤ m.limits.turns =
          at_put_case (λ (v : Numbers). v.turns ≤ m.limits.turns) s.numbers i _ x
          (λ e. let up : (s.numbers i).turns + 1 ≤ m.limits.turns = omega arith in up) (λ ne. c.few x) in
          let same = b.counted x in
          omega arith;
    })

counts_external : (m : Setting) (i : ℕ) (s : State) → Counts m s
    → Counts m (happen m (event.External i) s).state
counts_external m i s c =
    let b = external_booked m i s in
    let t = (happen m (event.External i) s).state in
    let more = sum_by_push one_if_turn s.events (event.External i) in
    let all : total (cpus_of m) (λ x. (t.numbers x).turns) ≡ total (cpus_of m) (λ x. (s.numbers x).turns) =
    total_same (cpus_of m) (λ x. (s.numbers x).turns) (λ x. (t.numbers x).turns) (λ x lo. b.counted x) in
    let before = c.turns in
    let recorded : count_by is_turn t.events ≡ count_by is_turn (s.events ++ event.External i ∷ []) =
    ap (count_by is_turn) b.recorded in
    record {
      turns = omega arith;
      few = λ x. let same = b.counted x in let few = c.few x in omega arith;
    }

pub counts_kept : (m : Setting) (e : Event) (s : State) → cpu_of_event e < cpus_of m → Counts m s
    → Counts m (happen m e s).state
unfolding happen
counts_kept m (event.Turn i) s known c = counts_turned m i s known c
counts_kept m (event.External i) s known c = counts_external m i s c

counts_from : (m : Setting) (events : List Event) (s : State) → All (λ e. cpu_of_event e < cpus_of m) events
    → Counts m s → Counts m (meaning_from m events s)
unfolding meaning_from
counts_from m [] s known c = c
counts_from m (e ∷ rest) s known c =
    counts_from m rest (happen m e s).state (All-tail (λ e. cpu_of_event e < cpus_of m) e rest known)
    (counts_kept m e s (All-head (λ e. cpu_of_event e < cpus_of m) e rest known) c)

total_none : (n : ℕ) → total n (λ x. 0) ≡ 0
unfolding total
total_none zero = refl
total_none (suc n) = let below = total_none n in omega arith

pub counts_begin : (m : Setting) → Counts m beginning
counts_begin m = record { turns = sym (total_none (cpus_of m)); few = λ x. omega arith }

pub counts_of : (m : Setting) (events : List Event) → All (λ e. cpu_of_event e < cpus_of m) events
    → Counts m (meaning m events)
counts_of m events known = counts_from m events beginning known (counts_begin m)

pub few_turns : (m : Setting) (events : List Event) → All (λ e. cpu_of_event e < cpus_of m) events
    → count_by is_turn (meaning m events).events ≤ cpus_of m * m.limits.turns
few_turns m events known =
    let c = counts_of m events known in
    let most =
    total_at_most (cpus_of m) m.limits.turns (λ x. ((meaning m events).numbers x).turns) (λ x lo. c.few x) in
    let same = c.turns in
    omega arith

-- a turn of a ready CPU is one counted turn more
pub total_turned : (m : Setting) (i : ℕ) (s : State) → i < cpus_of m → idle m s i ≡ None
    → total (cpus_of m) (λ x. ((turn m i s).state.numbers x).turns)
    ≡ total (cpus_of m) (λ x. (s.numbers x).turns) + 1
total_turned m i s known none =
    let b = turn_booked m i s none in
    total_same (cpus_of m) (one_turn_more i s) (λ x. ((turn m i s).state.numbers x).turns)
    (λ x lo. b.counted x)
    ∙ one_counted (cpus_of m) i s known

pub total_full : (n most : ℕ) (f : ℕ → ℕ) (i : ℕ) → ((x : ℕ) → x < n → f x ≤ most) → n * most ≤ total n f
    → i < n → most ≤ f i
unfolding total
total_full zero most f i few full lo = absurd (omega arith)
total_full (suc n) most f i few full lo =
    let times : suc n * most ≡ n * most + most = omega arith in
    let below = total_at_most n most f (λ x less. few x (omega arith)) in
    let top : f n ≤ most = few n (omega arith) in
    by_way (cases_eq i n)
    (λ e. let here : most ≤ f n = omega arith in subst (λ k. most ≤ f k) (sym e) here)
    (λ ne.
    let less : i < n = omega arith in
    let rest : n * most ≤ total n f = omega arith in
    total_full n most f i (λ x l. few x (omega arith)) rest less)

-- every external event is recorded
externals_turned : (m : Setting) (i : ℕ) (s : State)
    → count_by is_external (turn m i s).state.events ≡ count_by is_external s.events
externals_turned m i s =
    idle_or_not (idle m s i)
    (λ o. count_by is_external (turn m i s).state.events ≡ count_by is_external s.events)
    (λ x e. ap (λ (t : State). count_by is_external t.events) (idle_stays m i s x e))
    (λ none.
    let recorded : count_by is_external (turn m i s).state.events
    ≡ count_by is_external (s.events ++ event.Turn i ∷ []) =
    ap (count_by is_external) (turn_booked m i s none).recorded in
    let more = sum_by_push one_if_external s.events (event.Turn i) in
    omega arith)

externals_happened : (m : Setting) (e : Event) (s : State)
    → count_by is_external (happen m e s).state.events ≡ count_by is_external s.events + one_if_external e
unfolding happen
externals_happened m (event.Turn i) s = let same = externals_turned m i s in omega arith
externals_happened m (event.External i) s =
    ap (count_by is_external) (external_booked m i s).recorded
    ∙ sum_by_push one_if_external s.events (event.External i)

externals_from : (m : Setting) (events : List Event) (s : State)
    → count_by is_external (meaning_from m events s).events
    ≡ count_by is_external s.events + count_by is_external events
unfolding meaning_from
externals_from m [] s = omega arith
externals_from m (e ∷ rest) s =
    let one = externals_happened m e s in
    let later = externals_from m rest (happen m e s).state in
    let split = sum_by-append one_if_external (e ∷ []) rest in
    omega arith

pub all_externals : (m : Setting) (events : List Event)
    → count_by is_external (meaning m events).events ≡ count_by is_external events
all_externals m events =
    let all : count_by is_external (meaning m events).events ≡ 0 + count_by is_external events =
    externals_from m events beginning in
    omega arith

-- the count of a CPU's turns is that of its turns among the events
abbrev bit : Bool → ℕ
bit b = cond b 1 0

one_more_of : (i x : ℕ) (s : State) → one_turn_more i s x ≡ (s.numbers x).turns + bit (i == x)
one_more_of i x s =
    at_put_case (λ (v : Numbers). v.turns ≡ (s.numbers x).turns + bit (i == x)) s.numbers i _ x
    (λ e. ap (λ k. (s.numbers k).turns + 1) (sym e)
    ∙ ap (λ b. (s.numbers x).turns + bit b) (sym (eq-eqb i x (sym e))))
    (λ ne.
    let off : i ≢ x = λ e. ne (sym e) in
    let none : bit (i == x) ≡ 0 = ap bit (ne_eqb i x off) in
    omega arith)

turns_turned : (m : Setting) (i x : ℕ) (s : State)
    → count_by (is_turn_of x) s.events ≡ (s.numbers x).turns
    → count_by (is_turn_of x) (turn m i s).state.events ≡ ((turn m i s).state.numbers x).turns
turns_turned m i x s same =
    idle_or_not (idle m s i)
    (λ o. count_by (is_turn_of x) (turn m i s).state.events ≡ ((turn m i s).state.numbers x).turns)
    (λ y e.
    subst (λ t. count_by (is_turn_of x) t.events ≡ (t.numbers x).turns) (sym (idle_stays m i s y e)) same)
    (λ none.
    let b = turn_booked m i s none in
    let recorded : count_by (is_turn_of x) (turn m i s).state.events
    ≡ count_by (is_turn_of x) (s.events ++ event.Turn i ∷ []) = ap (count_by (is_turn_of x)) b.recorded in
    let more = sum_by_push (λ e. cond (is_turn_of x e) 1 0) s.events (event.Turn i) in
    recorded ∙ more ∙ ap (λ k. k + bit (i == x)) same ∙ sym (one_more_of i x s) ∙ sym (b.counted x))

turns_happened : (m : Setting) (e : Event) (x : ℕ) (s : State)
    → count_by (is_turn_of x) s.events ≡ (s.numbers x).turns
    → count_by (is_turn_of x) (happen m e s).state.events ≡ ((happen m e s).state.numbers x).turns
unfolding happen
turns_happened m (event.Turn i) x s same = turns_turned m i x s same
turns_happened m (event.External i) x s same =
    let b = external_booked m i s in
    let more = sum_by_push (λ e. cond (is_turn_of x e) 1 0) s.events (event.External i) in
    ap (count_by (is_turn_of x)) b.recorded ∙ (omega (arith, b.counted x))

turns_from : (m : Setting) (events : List Event) (x : ℕ) (s : State)
    → count_by (is_turn_of x) s.events ≡ (s.numbers x).turns
    → count_by (is_turn_of x) (meaning_from m events s).events ≡ ((meaning_from m events s).numbers x).turns
unfolding meaning_from
turns_from m [] x s same = same
turns_from m (e ∷ rest) x s same =
    turns_from m rest x (happen m e s).state (turns_happened m e x s same)

pub turns_counted : (m : Setting) (events : List Event) (x : ℕ)
    → count_by (is_turn_of x) (meaning m events).events ≡ ((meaning m events).numbers x).turns
turns_counted m events x = turns_from m events x beginning refl

-- a turn of a CPU that is not ready
pub unready_stays : (m : Setting) (s : State) (i : ℕ) → is_ready m s i ≡ false
    → (happen m (event.Turn i) s).state ≡ s
unfolding happen
unready_stays m s i unready =
    idle_or_not (idle m s i) (λ o. (turn m i s).state ≡ s) (λ x e. idle_stays m i s x e)
    (λ none. let n : true ≡ false = sym (ap (λ o. is_none o) none) ∙ unready in cc)
