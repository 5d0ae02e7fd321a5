-- Over all events: a CPU whose stretch is open is in the middle of a constrained transaction.
use Rattle.std.proofs.Common.{◌≡◌, ◌≢◌, ℕ, ◌+◌, ◌-◌, ◌*◌, ◌^◌, ◌<◌, ◌≤◌, Bool, true, false, List, [], ◌∷◌}
use Rattle.std.proofs.Common.{length}
use Rattle.std.proofs.Common.{Option, Some, None, refl, sym, ap, ◌∙◌, subst, arith}
use Rattle.std.specs.Prelude.{if◌then◌else◌, nat_lt, ◌&&◌, is_none}
use Rattle.std.proofs.lemmas.Bool.{true≢false, cases_eq, cases_lt, and_parts, ltb-true, eq-eqb, ne_eqb}
use Rattle.std.proofs.lemmas.Bool.{and_from}
use Rattle.std.proofs.lemmas.List.Elements.{All-head, All-tail}
use borrow.Enum.Arm.{by_way}
use Rattle.tx_control.specs.Nesting.{is_constrained}
use Rattle.tx_ladder.specs.Parameters.{usual}
use Rattle.tx_ladder.specs.Rungs.{Standing, delay_after}
use Rattle.tx_journal.specs.Image.{cpu_of_event}
use Rattle.tx_journal.specs.declared.events.Event.{Event}
use Rattle.tx_journal.specs.declared.events.Event.TheVariants as event
use Rattle.tx_serial.specs.Fate.{fate}
use Rattle.tx_serial.specs.Flat.{FlatState}
use Rattle.tx_progress.specs.Followed.{KeepsTo}
use Rattle.tx_progress.specs.Progress.{Progress}
use Rattle.tx_progress.proofs.Facts.{keeps_constraints}
use Rattle.z_regs.specs.Cpu.{Cpu}
use Rattle.tx_serial.specs.Apply.{is_running}
use Rattle.tx_progress.proofs.Facts.{runs}
use Rattle.tx_progress.proofs.Parts.{followed_fate, rests}
use Rattle.tx_meaning.specs.declared.outcome.Outcome.{Outcome}
use Rattle.tx_meaning.specs.Limits.{Setting}
use Rattle.tx_meaning.specs.Meaning.{IsSetting, meaning}
use Rattle.tx_meaning.specs.State.{Numbers, State, beginning, is_live, standing_of, attempt_of, cpus_of}
use Rattle.tx_meaning.specs.Stretches.{Stretch, closed, opened, extended, stretch_after, stretch_from}
use Rattle.tx_meaning.specs.Stretches.{stretch_of}
use Rattle.tx_meaning.specs.Stretches.{ends_transaction, starts_attempt, counted, is_counted_turn}
use Rattle.tx_meaning.specs.Stretches.{is_interrupted_by, left, left_by, attempt_turns, bound}
use Rattle.tx_meaning.specs.Idle.{is_ready}
use Rattle.tx_meaning.specs.State.{cpu_of}
use Rattle.tx_meaning.specs.Changes.{with_event, counting_turn}
use Rattle.tx_meaning.specs.Turn.{Turned, happen, is_tick}
use Rattle.tx_keeping.specs.Kept.{Kept, kept_beginning, kept_flat, text_of, with_state}
use Rattle.tx_keeping.specs.Keeping.{keeping, keeping_from}
use Rattle.tx_keeping.specs.Turn.{k_happen, k_turn, k_turn_where, k_idle, k_counted_turn, k_by_rules}
use Rattle.tx_keeping.specs.Turn.{k_external}
use Rattle.tx_meaning.specs.Views.{AreKnown}
use Rattle.tx_meaning.proofs.Examples.{usual_bound}
use Rattle.tx_keeping.proofs.Truth.{Truth, live_is, flat_is, attempt_is, nest_is, standing_is, cpu_is}
use Rattle.tx_keeping.proofs.Moves.{IsGood, restated, one_number, same_numbers}
use Rattle.tx_keeping.proofs.Turning.{happen_ok, idle_is}
use Rattle.tx_keeping.proofs.Events.{begins_good, keeping_is, keeping_good}
use Rattle.tx_bounds.specs.Stretches.{BeginsNext, IsUnderWay}
use Rattle.tx_bounds.proofs.AtBegin.{goes_now, quiet_fate}
use Rattle.tx_bounds.proofs.Meant.{StopsAt, kept_stops}
use Rattle.tx_bounds.proofs.Resuming.{leads, resumes}
use Rattle.tx_bounds.proofs.Paid.{left_of}
use Rattle.tx_bounds.proofs.Potential.{some_left}
use Rattle.tx_bounds.proofs.Stopped.{Between, turn_begins, happened, between_first, some_stop}
use Rattle.tx_bounds.proofs.UnderWay.{HoldsOf, AmidOf, lives, holds_quiet}
use Rattle.tx_bounds.proofs.OtherTurns.{Kept_at, SameAt, other_turn, interrupted_elsewhere, same_holds}
use Rattle.tx_bounds.proofs.OtherTurns.{same_left}
use Rattle.tx_bounds.proofs.OtherTurns.{same_calm, interrupted_news}
use Rattle.tx_bounds.proofs.News.{Calm, Settles, no_news, same_news}
use Rattle.tx_bounds.proofs.OwnTurns.{After, stays}
use Rattle.tx_bounds.proofs.OwnEvents.{own_external, own_ruled, extra}
use Rattle.tx_serial.proofs.Entries.{at_put_other, at_put_same}

pub some_starve : (m : Setting) → IsSetting m → 0 < m.image.parms.starve
some_starve m s = let least = s.image.allowed.starve.0 in omega arith

small_starve : (m : Setting) → IsSetting m → m.image.parms.starve ≤ 2 ^ 32 - 1
small_starve m s = let most = s.image.allowed.starve.1 in omega (arith, most)

-- ---- what an event costs

-- the turns of the stretch that an event makes, and what its interruption gives in addition
abbrev pub cost_of : Setting → Kept → Event → ℕ → ℕ
cost_of m k e c = counted (is_counted_turn m k.state e c)

abbrev pub most_of : Setting → Kept → Event → ℕ → ℕ
most_of m k e c = left_of m c k + extra (is_interrupted_by m k.state e c) (attempt_turns m.image.parms)

abbrev pub Happened : Setting → ℕ → Bool → Event → Kept → Kept → Type 0
Happened m c busy e k t = After m c busy (cost_of m k e c) (most_of m k e c) k.state t

-- ---- one event

module _ (m : Setting) (s : IsSetting m) (c : ℕ) (busy : Bool) (some : 0 < m.image.parms.starve) where
  abbrev turns : ℕ
  turns = attempt_turns m.image.parms

  completed_few : (k : Kept) → Truth m k → HoldsOf m busy c k → busy ≡ true → is_live k.state c ≡ true
      → (k.state.numbers c).completed ≤ 33
  completed_few k t h is live =
      let kind = sym ((t.each c).kind live) ∙ (h.amid is).kind live in
      subst (λ x. x ≤ 33) (sym (t.each c).count)
      (keeps_constraints (kept_flat m k) c (k.locals c) (t.each c).followed kind).few

  kept_now : (k : Kept) → Truth m k → HoldsOf m busy c k → (busy ≡ false → Calm c k)
      → (is_live k.state c ≡ true → (k.standings c).aborts < m.image.parms.stop)
      → Kept_at m busy c k.state (left_of m c k) k
  kept_now k t h calm below = record {
    holds = h;
    news = no_news c k.state.history;
    calm = calm;
    well = λ live kind.
        leads (k.locals c) (resumes (kept_flat m k) c (k.locals c) (t.each c).followed
        (sym ((t.each c).kind live) ∙ kind));
    started = refl;
    few = λ is live. completed_few k t h is live;
    below = λ is live. below live;
    paid = λ is. omega arith;
  }

  -- the turn is counted
  begun_turn : Kept → Kept
  begun_turn k = with_state (with_event (event.Turn c) (counting_turn c k.state)) k

  begun_truth : (k : Kept) → Truth m k → Truth m (begun_turn k)
  unfolding begun_turn
  begun_truth k t =
      restated m k (with_event (event.Turn c) (counting_turn c k.state)) t refl
      (one_number k.state.numbers c _ (record { completed = refl; given = refl; refused = refl }))

  begun_same : (k : Kept) → SameAt c k (begun_turn k)
  unfolding begun_turn
  begun_same k =
      let now = at_put_same k.state.numbers c
      (record (k.state.numbers c) { turns = (k.state.numbers c).turns + 1 })
      in
      record {
        completed = ap (λ (v : Numbers). v.completed) now;
        delay = ap (λ (v : Numbers). v.delay) now;
        started = ap (λ (v : Numbers). v.attempts) now;
        standing = record { parms = refl; aborts = refl; constrained = refl; refused = refl };
        local = refl;
      }

  abbrev ticks : Kept → Bool
  ticks k = is_tick m.limits ((k.state.numbers c).turns + 1)

  own_where : (o : Option Outcome) (k : Kept) → k_idle m k c ≡ o → Truth m k → Between m k
      → HoldsOf m busy c k
      → (busy ≡ false → Calm c k) → After m c busy (counted (is_none o)) (left_of m c k + extra (is_none o
      && ticks k) turns) k.state
      (k_turn_where o m c k).kept
  unfolding k_counted_turn begun_turn
  own_where (Some o) k e t b h calm =
      stays m c busy 0 (left_of m c k + 0) k.state k h refl (λ is. omega arith)
      (no_news c k.state.history) calm
  own_where None k e t b h calm =
      let u = begun_turn k in
      let n = u.state.numbers c in
      let same = begun_same k in
      let left = same_left m c k u same in
      let d = turn_begins m c k e b in
      let now : n.turns ≡ (k.state.numbers c).turns + 1 =
      ap (λ (v : Numbers). v.turns)
      (at_put_same k.state.numbers c (record (k.state.numbers c) { turns = (k.state.numbers c).turns + 1 })) in
      subst (λ x. After m c busy 1 (left_of m c k + extra (is_tick m.limits x) turns) k.state
      (k_by_rules (is_tick m.limits n.turns) (nat_lt 0 n.delay) m c u).kept) now
      (own_ruled m s c busy k.state u (begun_truth k t) some (small_starve m s) (some_stop m s)
      (d.is.counted.few c) (λ full. d.is.own (d.is.counted.at_stop c full))
      (is_tick m.limits n.turns) (nat_lt 0 n.delay) (left_of m c k + extra (is_tick m.limits n.turns) turns)
      refl
      (same_holds m busy c k.state 0 k u same h) (same_news refl (no_news c k.state.history))
      (λ off. same_calm c k u same (calm off)) same.started
      (λ is. omega (arith, left)))

  ready_is : (k : Kept) → Truth m k
      → is_counted_turn m k.state (event.Turn c) c ≡ is_none (k_idle m k c)
  ready_is k t = λ i. eq-eqb c c refl i && is_none (idle_is m s c k t i)

  own_turn : (k : Kept) → Truth m k → Between m k → HoldsOf m busy c k
      → (busy ≡ false → Calm c k) → Happened m c busy (event.Turn c) k (k_turn m c k).kept
  unfolding k_turn
  own_turn k t b h calm =
      subst (λ x. After m c busy (counted x) (left_of m c k + extra (x && ticks k) turns) k.state
      (k_turn_where (k_idle m k c) m c k).kept) (sym (ready_is k t))
      (own_where (k_idle m k c) k refl t b h calm)

  -- ---- turns of other CPUs

  below_now : (i : ℕ) (k : Kept) → c ≢ i → k_idle m k i ≡ None → Between m k → is_live k.state c ≡ true
      → (k.standings c).aborts < m.image.parms.stop
  below_now i k other e b live =
      let d = turn_begins m i k e b in
      let few = b.is.counted.few c in
      by_way (cases_lt (k.standings c).aborts m.image.parms.stop) (λ less. less)
      (λ full.
      let at : (k.standings c).aborts ≡ m.image.parms.stop = omega (arith, full, few) in
      let alive : is_live (with_state (with_event (event.Turn i) (counting_turn i k.state)) k).state c
      ≡ true =
      ap (λ (v : Numbers). lives v.completed) (at_put_other k.state.numbers i _ c other) ∙ live in
      absurd (other (d.is.others c (b.is.counted.at_stop c at) alive)))

  others_by : (i : ℕ) (o : Option Outcome) (k : Kept) → k_idle m k i ≡ o → Truth m k → Between m k
      → HoldsOf m busy c k → (busy ≡ false → Calm c k) → c ≢ i
      → After m c busy 0 (left_of m c k + 0) k.state (k_turn_where o m i k).kept
  unfolding k_turn
  others_by i (Some o) k e t b h calm other =
      stays m c busy 0 (left_of m c k + 0) k.state k h refl (λ is. omega arith)
      (no_news c k.state.history) calm
  others_by i None k e t b h calm other =
      let p = other_turn m busy c k.state (left_of m c k) i other k e
      (kept_now k t h calm (below_now i k other e b)) in
      subst (λ o. After m c busy 0 (left_of m c k + 0) k.state (k_turn_where o m i k).kept) e
      (stays m c busy 0 (left_of m c k + 0) k.state (k_turn m i k).kept p.holds p.started
      (λ is. let paid = p.paid is in omega (arith, paid)) p.news p.calm)

  others_turn : (i : ℕ) (k : Kept) → Truth m k → Between m k → HoldsOf m busy c k
      → (busy ≡ false → Calm c k) → c ≢ i
      → Happened m c busy (event.Turn i) k (k_turn m i k).kept
  unfolding k_turn
  others_turn i k t b h calm other =
      subst (λ x. After m c busy (counted (x && is_ready m k.state c))
      (left_of m c k + extra ((x && is_ready m k.state c) && ticks k) turns) k.state
      (k_turn_where (k_idle m k i) m i k).kept) (sym (ne_eqb i c (λ e. other (sym e))))
      (others_by i (k_idle m k i) k refl t b h calm other)

  -- ---- interruptions from outside

  own_interruption : (k : Kept) → Truth m k → HoldsOf m busy c k → (busy ≡ false → Calm c k)
      → Happened m c busy (event.External c) k
      (k_external c (with_state (with_event (event.External c) k.state) k)).kept
  own_interruption k t h calm =
      let told = with_event (event.External c) k.state in
      let u = with_state told k in
      subst (λ x. After m c busy 0 (left_of m c k + extra x turns) k.state (k_external c u).kept)
      (sym (eq-eqb c c refl))
      (own_external m s c busy k.state u
      (restated m k told t refl (λ x. same_numbers (k.state.numbers x))) 0 (left_of m c k + turns)
      (omega arith)
      (λ is. omega arith)
      (record { parms = h.parms; rests = h.rests; fewer = h.fewer; amid = h.amid })
      (same_news refl (no_news c k.state.history))
      (λ off. let same = calm off in record { none = same.none; free = same.free }) refl)

  others_interruption : (i : ℕ) (k : Kept) → HoldsOf m busy c k → (busy ≡ false → Calm c k) → c ≢ i
      → Happened m c busy (event.External i) k
      (k_external i (with_state (with_event (event.External i) k.state) k)).kept
  others_interruption i k h calm other =
      let u = with_state (with_event (event.External i) k.state) k in
      let t = (k_external i u).kept in
      let same = interrupted_elsewhere m busy c k.state 0 i other u in
      let held : HoldsOf m busy c u =
      record { parms = h.parms; rests = h.rests; fewer = h.fewer; amid = h.amid } in
      let left = same_left m c u t same in
      subst (λ x. After m c busy 0 (left_of m c k + extra x turns) k.state t)
      (sym (ne_eqb i c (λ e. other (sym e))))
      (stays m c busy 0 (left_of m c k + 0) k.state t (same_holds m busy c k.state 0 u t same held)
      same.started
      (λ is. omega (arith, left))
      (interrupted_news m busy c k.state 0 i other u (same_news refl (no_news c k.state.history)))
      (λ off.
      let quiet = calm off in
      same_calm c u t same (record { none = quiet.none; free = quiet.free })))

  pub after_event : (e : Event) (k : Kept) → Truth m k → Between m k → HoldsOf m busy c k
      → (busy ≡ false → Calm c k) → Happened m c busy e k (k_happen m e k).kept
  unfolding k_happen
  after_event (event.Turn i) k t b h calm =
      by_way (cases_eq c i)
      (λ same. subst (λ x. Happened m c busy (event.Turn x) k (k_turn m x k).kept) same
      (own_turn k t b h calm))
      (λ other. others_turn i k t b h calm other)
  after_event (event.External i) k t b h calm =
      by_way (cases_eq c i)
      (λ same. subst (λ x. Happened m c busy (event.External x) k
      (k_external x (with_state (with_event (event.External x) k.state) k)).kept) same
      (own_interruption k t h calm))
      (λ other. others_interruption i k h calm other)

-- ---- the stretch

-- what is kept of a CPU, and that the turns of its open stretch stay within the bound
pub record Over (m : Setting) (c : ℕ) (stretch : Stretch) (k : Kept) : Type 0 where
  pub holds : HoldsOf m stretch.is_open c k
  pub calm : stretch.is_open ≡ false → Calm c k
  pub aged : stretch.is_open ≡ true → stretch.age + left_of m c k
      ≤ bound m.image.parms + attempt_turns m.image.parms * stretch.externals

record IsOpen (m : Setting) (c : ℕ) (stretch : Stretch) (t : Kept) : Type 0 where
  amid : AmidOf m c t
  aged : stretch.age + left_of m c t ≤ bound m.image.parms + attempt_turns m.image.parms * stretch.externals

times_none : (n : ℕ) → n * 0 ≡ 0
times_none n = grind arith

times_more : (n x : ℕ) (b : Bool) → n * (x + counted b) ≡ n * x + extra b n
times_more n x true = grind arith
times_more n x false = grind arith

-- whether it is open behind an event
open_after : (m : Setting) (c cost most : ℕ) (before : State) (t : Kept) (busy ended started : Bool)
    → ends_transaction before t.state c ≡ ended
    → (started ≡ true → nat_lt (before.numbers c).attempts (t.state.numbers c).attempts ≡ true)
    → (started ≡ true → is_live t.state c ≡ true) → (started ≡ true → (t.standings c).constrained ≡ true)
    → (now : Stretch) → After m c busy cost most before t
    → (busy ≡ true → left_of m c t + cost ≤ most → now.age + left_of m c t
    ≤ bound m.image.parms + attempt_turns m.image.parms * now.externals)
    → (if busy then (if ended then closed else record now { is_open = true })
    else (if started then opened else closed)).is_open ≡ true
    → IsOpen m c (if busy then (if ended then closed else record now { is_open = true })
    else (if started then opened else closed)) t
open_after m c cost most before t true true started e more live kind now a ages is = absurd
    (true≢false (sym is))
open_after m c cost most before t true false started e more live kind now a ages is =
    by_way (a.ends refl) (λ ended. absurd (true≢false (sym ended ∙ e)))
    (λ on. record { amid = on.amid; aged = ages refl on.paid })
open_after m c cost most before t false ended true e more live kind now a ages is =
    let on = a.starts refl (more refl) (live refl) (kind refl) in
    let paid = on.paid in
    record { amid = on.amid; aged = omega (arith, paid, times_none (attempt_turns m.image.parms)) }
open_after m c cost most before t false ended false e more live kind now a ages is =
    absurd (true≢false (sym is))

-- and where it is not open, none is under way
closed_after : (c : ℕ) (before : State) (t : Kept) (busy ended started : Bool)
    → ends_transaction before t.state c ≡ ended
    → ((nat_lt (before.numbers c).attempts (t.state.numbers c).attempts ≡ true) → is_live t.state c ≡ true
    → (t.standings c).constrained ≡ true → started ≡ true)
    → (now : Stretch) → Settles c busy before t
    → (if busy then (if ended then closed else record now { is_open = true })
    else (if started then opened else closed)).is_open ≡ false → Calm c t
closed_after c before t true true started e starts now a shut = a.ended e
closed_after c before t true false started e starts now a shut = absurd (true≢false shut)
closed_after c before t false ended true e starts now a shut = absurd (true≢false shut)
closed_after c before t false ended false e starts now a shut =
    by_way (a.calm refl) (λ calm. calm)
    (λ b. absurd (true≢false (sym (starts b.more b.live b.kind))))

module _ (m : Setting) (s : IsSetting m) (c : ℕ) (some : 0 < m.image.parms.starve) where
  -- an event adds its cost to the age
  ages_by : (e : Event) (k t : Kept) (stretch : Stretch) → Over m c stretch k → stretch.is_open ≡ true
      → left_of m c t + cost_of m k e c ≤ most_of m k e c
      → (extended m k.state e c stretch).age + left_of m c t ≤ bound m.image.parms
      + attempt_turns m.image.parms * (extended m k.state e c stretch).externals
  ages_by e k t stretch o is paid =
      let old = o.aged is in
      let turns = attempt_turns m.image.parms in
      let times = times_more turns stretch.externals (is_interrupted_by m k.state e c) in
      omega (arith, old, paid, times)

  pub one_event : (e : Event) (k : Kept) (stretch : Stretch) → IsGood m k → Between m k
      → cpu_of_event e < cpus_of m → Over m c stretch k
      → Over m c (stretch_after m k.state e c stretch) (k_happen m e k).kept
  one_event e k stretch g b within h =
      let t = (k_happen m e k).kept in
      let ok = happen_ok m s e k g within in
      let truth = ok.good.truth in
      let state : (happen m e k.state).state ≡ t.state = ap (λ (x : Turned). x.state) ok.is in
      let a = after_event m s c stretch.is_open some e k g.truth b h.holds h.calm in
      let parts : starts_attempt m k.state t.state c ≡ true
      → (nat_lt (k.state.numbers c).attempts (t.state.numbers c).attempts ≡ true)
      × ((is_live t.state c && (standing_of m t.state c).constrained) ≡ true) =
      λ is. and_parts (nat_lt (k.state.numbers c).attempts (t.state.numbers c).attempts)
      (is_live t.state c && (standing_of m t.state c).constrained) is in
      let live : starts_attempt m k.state t.state c ≡ true → is_live t.state c ≡ true =
      λ is. (and_parts (is_live t.state c) (standing_of m t.state c).constrained (parts is).1).0 in
      let after : State → Stretch =
      λ x. if stretch.is_open
      then (if ends_transaction k.state x c then closed else extended m k.state e c stretch)
      else (if starts_attempt m k.state x c then opened else closed) in
      let opens : (after (happen m e k.state).state).is_open ≡ true
      → IsOpen m c (after (happen m e k.state).state) t =
      subst (λ x. (after x).is_open ≡ true → IsOpen m c (after x) t) (sym state)
      (open_after m c (cost_of m k e c) (most_of m k e c) k.state t stretch.is_open
      (ends_transaction k.state t.state c) (starts_attempt m k.state t.state c) refl (λ x. (parts x).0) live
      (λ x. ap (λ (v : Standing). v.constrained) (sym (standing_is m t truth c (live x)))
      ∙ (and_parts (is_live t.state c) (standing_of m t.state c).constrained (parts x).1).1)
      (extended m k.state e c stretch) a (ages_by e k t stretch h)) in
      let starts : (nat_lt (k.state.numbers c).attempts (t.state.numbers c).attempts ≡ true)
      → is_live t.state c ≡ true → (t.standings c).constrained ≡ true
      → starts_attempt m k.state t.state c ≡ true =
      λ more alive kind.
      and_from (nat_lt (k.state.numbers c).attempts (t.state.numbers c).attempts)
      (is_live t.state c && (standing_of m t.state c).constrained) more
      (and_from (is_live t.state c) (standing_of m t.state c).constrained alive
      (ap (λ (v : Standing). v.constrained) (standing_is m t truth c alive) ∙ kind)) in
      let shuts : (after (happen m e k.state).state).is_open ≡ false → Calm c t =
      subst (λ x. (after x).is_open ≡ false → Calm c t) (sym state)
      (closed_after c k.state t stretch.is_open (ends_transaction k.state t.state c)
      (starts_attempt m k.state t.state c) refl starts (extended m k.state e c stretch) a.settles) in
      let hold = a.holds in
      record {
        calm = shuts;
        holds = record {
          parms = hold.parms;
          rests = hold.rests;
          fewer = hold.fewer;
          amid = λ is. (opens is).amid;
        };
        aged = λ is. (opens is).aged;
      }

  all_events : (events : List Event) (k : Kept) (stretch : Stretch) → IsGood m k → Between m k
      → AreKnown m events → Over m c stretch k
      → Over m c (stretch_from m c events k.state stretch) (keeping_from m events k)
  unfolding stretch_from keeping_from
  all_events [] k stretch g b known h = h
  all_events (e ∷ rest) k stretch g b known h =
      let within = All-head (λ e. cpu_of_event e < cpus_of m) e rest known in
      let ok = happen_ok m s e k g within in
      let t = (k_happen m e k).kept in
      let next = stretch_after m k.state e c stretch in
      subst (λ x. Over m c (stretch_from m c rest x next) (keeping_from m rest t))
      (sym (ap (λ (x : Turned). x.state) ok.is))
      (all_events rest t next ok.good (happened m e k (some_stop m s) b)
      (All-tail (λ e. cpu_of_event e < cpus_of m) e rest known)
      (one_event e k stretch g b within h))

  pub at_first : Over m c closed (kept_beginning m)
  unfolding kept_beginning
  at_first = record {
    holds = holds_quiet m 0 0 ((kept_beginning m).standings c) ((kept_beginning m).locals c) refl refl;
    calm = λ shut. record { none = refl; free = λ live. absurd (true≢false (sym live)) };
    aged = λ is. absurd (true≢false (sym is));
  }

  pub begins_state : (kept_beginning m).state ≡ beginning
  unfolding kept_beginning
  begins_state = refl

  pub held_over : (events : List Event) → AreKnown m events
      → Over m c (stretch_of m events c) (keeping m events)
  held_over events known =
      subst (λ x. Over m c (stretch_from m c events x closed) (keeping m events)) begins_state
      (all_events events (kept_beginning m) closed (begins_good m)
      (between_first m (some_stop m s)) known at_first)

-- ---- what the meaning says

module _ (m : Setting) (s : IsSetting m) (c : ℕ) (k : Kept) (t : Truth m k) (h : HoldsOf m true c k)
    (stops : StopsAt m k.state) where
  the_amid : AmidOf m c k
  the_amid = h.amid refl

  kind_now : is_live k.state c ≡ true → is_constrained (k.locals c).attempt.nest ≡ true
  kind_now live = sym ((t.each c).kind live) ∙ the_amid.kind live

  keeps : is_live k.state c ≡ true → KeepsTo (k.locals c).cpu (k.locals c).attempt
  keeps live = keeps_constraints (kept_flat m k) c (k.locals c) (t.each c).followed (kind_now live)

  begins_next : is_live k.state c ≡ false → BeginsNext m k.state c
  begins_next off = record {
    begin = the_amid.begin;
    is_constrained = the_amid.is;
    goes = ap (λ (f : FlatState). fate f.text (attempt_of m k.state c)) (flat_is m k t)
        ∙ ap (fate (text_of m)) (attempt_is m k t c)
        ∙ followed_fate (kept_flat m k) c (k.locals c) (t.each c).followed
        ∙ sym (quiet_fate m s k t c (sym (live_is m k t c) ∙ off))
        ∙ goes_now m s k t c the_amid.begin the_amid.is the_amid.goes;
  }

  refused_few : is_live k.state c ≡ true → (k.state.numbers c).refused < m.image.parms.starve
  refused_few live =
      subst (λ x. x < m.image.parms.starve) (t.each c).refused (h.fewer live (the_amid.kind live))

  runs_by : (live : Bool) → is_live k.state c ≡ live → is_running (k.locals c).attempt.cpu.state ≡ true
  runs_by true e = (resumes (kept_flat m k) c (k.locals c) (t.each c).followed (kind_now e)).runs
  runs_by false e =
      ap (λ (q : Progress). is_running q.cpu.state)
      (rests (kept_flat m k) c (k.locals c) (t.each c).followed (sym (live_is m k t c) ∙ e))
      ∙ the_amid.running e

  pub is_under_way : IsUnderWay m k.state c
  is_under_way = record {
    running = runs (cpu_of m k.state c).state (ap (λ (x : Cpu). is_running x.state) (cpu_is m k t c)
        ∙ runs_by (is_live k.state c) refl);
    no_block = ap (λ (f : FlatState). f.pending c) (flat_is m k t) ∙ the_amid.pending;
    no_interruption = ap (λ (f : FlatState). f.waiting c) (flat_is m k t) ∙ the_amid.waiting;
    begins = begins_next;
    constrained = λ live.
        ap (λ (x : Standing). x.constrained) (standing_is m k t c live) ∙ the_amid.kind live;
    single = λ live. ap length (nest_is m k t c) ∙ (keeps live).single;
    undelayed = h.rests;
    some = λ live. let more = ltb-true 0 (k.state.numbers c).completed live in omega (arith, more);
    few = λ live. let few = (keeps live).few in let e = (t.each c).count in omega (arith, few, e);
    refused = refused_few;
    stop = (stops.counted.queued c, stops.counted.at_stop c);
    queued = λ waits. the_amid.queued ((t.each c).aborts ∙ stops.counted.queued c waits);
    head = stops.behind c;
    delay = subst (λ x. (k.state.numbers c).delay ≤ delay_after m.image.parms x)
        (t.each c).aborts the_amid.short;
  }

pub under_way : (m : Setting) (events : List Event) (c : ℕ) → IsSetting m → AreKnown m events
    → (stretch_of m events c).is_open ≡ true → IsUnderWay m (meaning m events) c
under_way m events c s known is =
    subst (λ x. IsUnderWay m x c) (sym (keeping_is m s events known))
    (is_under_way m s c (keeping m events) (keeping_good m s events known).truth
    (subst (λ b. HoldsOf m b c (keeping m events)) is (held_over m s c (some_starve m s) events known).holds)
    (kept_stops m events s known))

-- ---- the turns of a stretch

pub left_is : (m : Setting) (c : ℕ) (k : Kept) → Truth m k → left m k.state c ≡ left_of m c k
left_is m c k t =
    let n = k.state.numbers c in
    λ i. left_by m.image.parms (sym (t.each c).aborts i) n.delay n.completed
    (if is_live k.state c then sym (t.each c).refused i else 0)

-- while it is open, they and what is left stay within the bound and the interruptions
pub ages_within : (m : Setting) (events : List Event) (c : ℕ) → IsSetting m → AreKnown m events
    → (stretch_of m events c).is_open ≡ true
    → (stretch_of m events c).age + left m (meaning m events) c
    ≤ bound m.image.parms + attempt_turns m.image.parms * (stretch_of m events c).externals
ages_within m events c s known is =
    let over = held_over m s c (some_starve m s) events known in
    let same : left m (meaning m events) c ≡ left_of m c (keeping m events) =
    ap (λ x. left m x c) (keeping_is m s events known)
    ∙ left_is m c (keeping m events) (keeping_good m s events known).truth in
    let aged = over.aged is in
    omega (arith, same, aged)

pub ages_below : (m : Setting) (events : List Event) (c : ℕ) → IsSetting m → AreKnown m events
    → (stretch_of m events c).is_open ≡ true → (stretch_of m events c).externals ≡ 0
    → (stretch_of m events c).age < bound m.image.parms
ages_below m events c s known is none =
    let within = ages_within m events c s known is in
    let some = some_left m (meaning m events) c (under_way m events c s known is) in
    let times : attempt_turns m.image.parms * (stretch_of m events c).externals ≡ 0 =
    ap (λ n. attempt_turns m.image.parms * n) none ∙ times_none (attempt_turns m.image.parms) in
    omega (arith, within, some, times)

pub ages_usual : (m : Setting) (events : List Event) (c : ℕ) → IsSetting m → AreKnown m events
    → m.image.parms ≡ usual → (stretch_of m events c).is_open ≡ true → (stretch_of m events c).externals ≡ 0
    → (stretch_of m events c).age < 1072
ages_usual m events c s known numbers is none =
    subst (λ n. (stretch_of m events c).age < n) (ap bound numbers
    ∙ usual_bound) (ages_below m events c s known is none)

closed_by_end : (busy ended : Bool) (now other : Stretch) → busy ≡ true
    → (if busy then (if ended then closed else record now { is_open = true }) else other).is_open ≡ false
    → ended ≡ true
closed_by_end true true now other is shut = refl
closed_by_end true false now other is shut = absurd (true≢false shut)
closed_by_end false ended now other is shut = absurd (true≢false (sym is))

pub closes_at_an_end : (m : Setting) (events : List Event) (e : Event) (c : ℕ)
    → (stretch_of m events c).is_open ≡ true
    → (stretch_after m (meaning m events) e c (stretch_of m events c)).is_open ≡ false
    → ends_transaction (meaning m events) (happen m e (meaning m events)).state c ≡ true
closes_at_an_end m events e c is shut =
    let s = meaning m events in
    let stretch = stretch_of m events c in
    closed_by_end stretch.is_open (ends_transaction s (happen m e s).state c) (extended m s e c stretch)
    (if starts_attempt m s (happen m e s).state c then opened else closed) is shut
