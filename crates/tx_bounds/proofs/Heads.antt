-- The turns of the head of the stop queue.
use Rattle.std.proofs.Common.{◌≡◌, ℕ, ◌+◌, ◌<◌, ◌≤◌, Bool, true, false, List, [], ◌∷◌}
use Rattle.std.proofs.Common.{refl, sym, ap, ◌∙◌, subst, arith}
use Rattle.std.specs.Prelude.{if◌then◌else◌, ◌&&◌, ◌==◌, not}
use Rattle.std.proofs.lemmas.Bool.{true≢false, cases_Bool, or_left}
use Rattle.std.proofs.lemmas.List.Elements.{All-head, All-tail}
use borrow.Enum.Arm.{by_way}
use Rattle.tx_ladder.specs.Waiting.{waits_in}
use Rattle.tx_journal.specs.Image.{cpu_of_event}
use Rattle.tx_journal.specs.declared.events.Event.{Event}
use Rattle.tx_meaning.specs.Limits.{Setting}
use Rattle.tx_meaning.specs.Meaning.{IsSetting, meaning}
use Rattle.tx_meaning.specs.State.{State, is_live, is_first, is_head, cpus_of}
use Rattle.tx_meaning.specs.Stretches.{Stretch, closed, stretch_after, stretch_of, counted, is_counted_turn}
use Rattle.tx_meaning.specs.Stretches.{is_interrupted_by, left, attempt_turns}
use Rattle.tx_meaning.specs.Turn.{Turned, happen}
use Rattle.tx_keeping.specs.Kept.{Kept, kept_beginning}
use Rattle.tx_keeping.specs.Keeping.{keeping, keeping_from}
use Rattle.tx_keeping.specs.Turn.{k_happen}
use Rattle.tx_meaning.specs.Views.{AreKnown}
use Rattle.tx_keeping.proofs.Moves.{IsGood}
use Rattle.tx_keeping.proofs.Turning.{happen_ok}
use Rattle.tx_keeping.proofs.Events.{begins_good, keeping_is, keeping_good}
use Rattle.tx_meaning.specs.Heads.{head_turns, head_turns_after, head_turns_from}
use Rattle.tx_bounds.proofs.OwnEvents.{extra}
use Rattle.tx_bounds.proofs.Paid.{left_of}
use Rattle.tx_bounds.proofs.Potential.{left_at, some_left}
use Rattle.tx_bounds.proofs.Stopped.{Between, between, happened, between_first, some_stop}
use Rattle.tx_bounds.proofs.Stretched.{Over, after_event, one_event, held_over, at_first, begins_state}
use Rattle.tx_bounds.proofs.Stretched.{some_starve, under_way, left_is, cost_of}

-- ---- the head

pub first_waits : (q : List ℕ) (c : ℕ) → is_first c q ≡ true → waits_in q c ≡ true
first_waits [] c h = absurd (true≢false (sym h))
first_waits (head ∷ rest) c h = or_left (head == c) (waits_in rest c) h

module _ (m : Setting) (c : ℕ) where
  at_stop : (k : Kept) → Between m k → is_head k.state c ≡ true → (k.standings c).aborts ≡ m.image.parms.stop
  at_stop k b head = b.is.counted.queued c (first_waits k.state.queue c head)

  -- a CPU in the queue has an open stretch
  queued_open : (stretch : Stretch) (k : Kept) → 0 < m.image.parms.stop → Between m k → Over m c stretch k
      → waits_in k.state.queue c ≡ true → stretch.is_open ≡ true
  queued_open stretch k some b o waits =
      by_way (cases_Bool stretch.is_open) (λ is. is)
      (λ shut.
      let none = (o.calm shut).none in
      let full = b.is.counted.queued c waits in
      absurd (omega (arith, none, full, some)))

  head_left : (k : Kept) → Between m k → is_head k.state c ≡ true → left_of m c k ≤ 34
  head_left k b head =
      let full = at_stop k b head in
      let e = left_at m.image.parms (k.standings c).aborts (k.state.numbers c).delay
      (k.state.numbers c).completed
      (if is_live k.state c then (k.standings c).requests_rejected else 0) (omega (arith, full)) in
      omega (arith, e)

  -- ---- one event

  pub record Heads (turns : ℕ) (k : Kept) : Type 0 where
    pub on : is_head k.state c ≡ true → turns + left_of m c k ≤ 34
    pub off : is_head k.state c ≡ false → turns ≡ 0

paid_by : (x y z : Bool) (turns cost rest : ℕ)
    → (x ≡ true → z ≡ false → (turns + cost) + rest ≤ 34) → rest ≤ 34
    → (if (x && y) && not z then turns + cost else 0) + rest ≤ 34
paid_by true true false turns cost rest on off = on refl refl
paid_by true true true turns cost rest on off = omega (arith, off)
paid_by true false z turns cost rest on off = omega (arith, off)
paid_by false y z turns cost rest on off = omega (arith, off)

none_by : (x y z : Bool) (n : ℕ) → y ≡ false → (if (x && y) && not z then n else 0) ≡ 0
none_by x true z n off = absurd (true≢false off)
none_by true false z n off = refl
none_by false false z n off = refl

module _ (m : Setting) (s : IsSetting m) (c : ℕ) where
  head_paid : (e : Event) (k : Kept) (stretch : Stretch) (turns : ℕ) → IsGood m k → Between m k
      → Between m (k_happen m e k).kept → Over m c stretch k → Heads m c turns k
      → is_head (k_happen m e k).kept.state c ≡ true → is_head k.state c ≡ true
      → is_interrupted_by m k.state e c ≡ false
      → (turns + cost_of m k e c) + left_of m c (k_happen m e k).kept ≤ 34
  head_paid e k stretch turns g b later o h now was apart =
      let t = (k_happen m e k).kept in
      let a = after_event m s c stretch.is_open (some_starve m s) e k g.truth b o.holds o.calm in
      let is = queued_open m c stretch k (some_stop m s) b o (first_waits k.state.queue c was) in
      let on = h.on was in
      by_way (a.ends is)
      (λ ended.
      let none = (a.settles.ended ended).none in
      let full = at_stop m c t later now in
      let some = some_stop m s in
      absurd (omega (arith, none, full, some)))
      (λ goes.
      let paid = goes.paid in
      let nothing : extra (is_interrupted_by m k.state e c) (attempt_turns m.image.parms) ≡ 0 =
      ap (λ x. extra x (attempt_turns m.image.parms)) apart in
      omega (arith, on, paid, nothing))

  one_head : (e : Event) (k : Kept) (stretch : Stretch) (turns : ℕ) → IsGood m k → Between m k
      → cpu_of_event e < cpus_of m → Over m c stretch k → Heads m c turns k
      → Heads m c (head_turns_after m k.state e c turns) (k_happen m e k).kept
  one_head e k stretch turns g b within o h =
      let t = (k_happen m e k).kept in
      let ok = happen_ok m s e k g within in
      let state : (happen m e k.state).state ≡ t.state = ap (λ (x : Turned). x.state) ok.is in
      let later = happened m e k (some_stop m s) b in
      record {
        on = λ head.
            paid_by (is_head k.state c) (is_head (happen m e k.state).state c)
            (is_interrupted_by m k.state e c)
            turns (cost_of m k e c) (left_of m c t)
            (λ was apart. head_paid e k stretch turns g b later o h head was apart)
            (head_left m c t later head);
        off = λ gone.
            none_by (is_head k.state c) (is_head (happen m e k.state).state c)
            (is_interrupted_by m k.state e c)
            (turns + cost_of m k e c) (ap (λ (x : State). is_head x c) state ∙ gone);
      }

  all_heads : (events : List Event) (k : Kept) (stretch : Stretch) (turns : ℕ) → IsGood m k → Between m k
      → AreKnown m events → Over m c stretch k → Heads m c turns k
      → Heads m c (head_turns_from m c events k.state turns) (keeping_from m events k)
  unfolding head_turns_from keeping_from
  all_heads [] k stretch turns g b known o h = h
  all_heads (e ∷ rest) k stretch turns g b known o h =
      let within = All-head (λ e. cpu_of_event e < cpus_of m) e rest known in
      let ok = happen_ok m s e k g within in
      let t = (k_happen m e k).kept in
      let next = head_turns_after m k.state e c turns in
      subst (λ x. Heads m c (head_turns_from m c rest x next) (keeping_from m rest t))
      (sym (ap (λ (x : Turned). x.state) ok.is))
      (all_heads rest t (stretch_after m k.state e c stretch) next ok.good (happened m e k (some_stop m s) b)
      (All-tail (λ e. cpu_of_event e < cpus_of m) e rest known)
      (one_event m s c (some_starve m s) e k stretch g b within o)
      (one_head e k stretch turns g b within o h))

  no_head : Heads m c 0 (kept_beginning m)
  unfolding kept_beginning
  no_head = record { on = λ head. absurd (true≢false (sym head)); off = λ gone. refl }

  held_heads : (events : List Event) → AreKnown m events
      → Heads m c (head_turns m events c) (keeping m events)
  held_heads events known =
      subst (λ x. Heads m c (head_turns_from m c events x 0) (keeping m events))
      (begins_state m s c (some_starve m s))
      (all_heads events (kept_beginning m) closed 0 (begins_good m) (between_first m (some_stop m s)) known
      (at_first m s c (some_starve m s)) no_head)

  -- ---- over all events

  pub queue_is_open : (events : List Event) → AreKnown m events → waits_in (meaning m events).queue c ≡ true
      → (stretch_of m events c).is_open ≡ true
  queue_is_open events known waits =
      queued_open m c (stretch_of m events c) (keeping m events) (some_stop m s)
      (between m events (some_stop m s)) (held_over m s c (some_starve m s) events known)
      (sym (ap (λ (x : State). waits_in x.queue c) (keeping_is m s events known)) ∙ waits)

  pub heads_few : (events : List Event) → AreKnown m events → head_turns m events c ≤ 33
  heads_few events known =
      let k = keeping m events in
      let h = held_heads events known in
      by_way (cases_Bool (is_head k.state c))
      (λ head.
      let on = h.on head in
      let is = queued_open m c (stretch_of m events c) k (some_stop m s) (between m events (some_stop m s))
      (held_over m s c (some_starve m s) events known) (first_waits k.state.queue c head) in
      let some = some_left m (meaning m events) c (under_way m events c s known is) in
      let same : left m (meaning m events) c ≡ left_of m c k =
      ap (λ x. left m x c) (keeping_is m s events known)
      ∙ left_is m c k (keeping_good m s events known).truth in
      omega (arith, on, some, same))
      (λ gone. let none = h.off gone in omega (arith, none))

  counted_once : (b : Bool) → counted b ≤ 1
  counted_once true = omega arith
  counted_once false = omega arith

  pub heads_in_all : (events : List Event) (e : Event) → AreKnown m events
      → head_turns m events c + counted (is_counted_turn m (meaning m events) e c) ≤ 34
  heads_in_all events e known =
      let few = heads_few events known in
      let one = counted_once (is_counted_turn m (meaning m events) e c) in
      omega (arith, few, one)
