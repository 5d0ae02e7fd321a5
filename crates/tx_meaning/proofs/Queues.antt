-- The stop queue changes at its ends alone.
use Rattle.std.proofs.Common.{◌≡◌, ◌≢◌, ℕ, Bool, true, false, List, [], ◌∷◌, ◌++◌, Some, None}
use Rattle.std.proofs.Common.{refl, sym, ap, ◌∙◌, append_assoc, append-nil}
use Rattle.std.specs.Prelude.{◌==◌, if◌then◌else◌, is_none}
use Rattle.std.proofs.lemmas.Bool.{ne_eqb}
use Rattle.tx_control.specs.declared.causes.Why.{Why}
use Rattle.tx_control.specs.declared.causes.Why.TheVariants.{Starved, External}
use Rattle.tx_ladder.specs.Rungs.{Standing, next_rung}
use Rattle.tx_serial.specs.Event.{Event}
use Rattle.tx_serial.specs.Event.TheVariants as event
use Rattle.tx_meaning.specs.declared.outcome.Outcome.TheVariants as outcome
use Rattle.tx_meaning.specs.Limits.{RunLimits, Setting}
use Rattle.tx_meaning.specs.State.{State, standing_of}
use Rattle.tx_meaning.specs.Changes.{without_head, head_to_tail, without_attempt, aborting, with_event}
use Rattle.tx_meaning.specs.Idle.{idle, idle_by, is_ready, is_finished, is_spent}
use Rattle.tx_meaning.specs.Turn.{happen}
use Rattle.tx_meaning.specs.Queues.{Stays, Leaves, GoesLast, QueueMoves}
use Rattle.tx_meaning.proofs.Walk.{Walk, conflict_on, rung_case, leaving_case, cause_case, in_a_turn}
use Rattle.tx_meaning.proofs.Walk.{externally}

-- the queue with CPUs behind it
record JoinedBy (before queue : List ℕ) : Type 0 where
  joined : List ℕ
  is : queue ≡ before ++ joined

nobody_joined : (q : List ℕ) → JoinedBy q q
nobody_joined q = record { joined = []; is = sym (append-nil q) }

one_more : (before q : List ℕ) (i : ℕ) → JoinedBy before q → JoinedBy before (q ++ i ∷ [])
one_more before q i j = record {
  joined = j.joined ++ i ∷ [];
  is = ap (λ l. l ++ i ∷ []) j.is ∙ append_assoc before j.joined (i ∷ []);
}

stays : (before q : List ℕ) → JoinedBy before q → QueueMoves before q
stays before q j = record { joined = j.joined; head = Stays j.is }

leaves_where : (before rest : List ℕ) (head : ℕ) (b : Bool) → JoinedBy before (head ∷ rest)
    → QueueMoves before (if b then rest else head ∷ rest)
leaves_where before rest head true j =
    record { joined = j.joined; head = Leaves head rest (sym j.is) refl }
leaves_where before rest head false j = stays before (head ∷ rest) j

leaves : (before q : List ℕ) (i : ℕ) → JoinedBy before q → QueueMoves before (without_head i q)
leaves before [] i j = stays before [] j
leaves before (head ∷ rest) i j = leaves_where before rest head (head == i) j

goes_last_where : (before rest : List ℕ) (head : ℕ) (b : Bool) → JoinedBy before (head ∷ rest)
    → QueueMoves before (if b then rest ++ head ∷ [] else head ∷ rest)
goes_last_where before rest head true j =
    record { joined = j.joined; head = GoesLast head rest (sym j.is) refl }
goes_last_where before rest head false j = stays before (head ∷ rest) j

goes_last : (before q : List ℕ) (i : ℕ) → JoinedBy before q → QueueMoves before (head_to_tail i q)
goes_last before [] i j = stays before [] j
goes_last before (head ∷ rest) i j = goes_last_where before rest head (head == i) j

-- an abort by a conflict, and any abort
abort_joins : (before : List ℕ) (j : ℕ) (standing : Standing) (n line : ℕ) (stored : Bool) (s : State)
    → JoinedBy before s.queue → JoinedBy before (aborting j standing n (conflict_on stored line) s).queue
unfolding aborting
abort_joins before j standing n line true s p =
    rung_case (λ t. JoinedBy before t.queue) j (next_rung standing) (without_attempt j s) p (λ turns. p)
    (one_more before s.queue j p)
abort_joins before j standing n line false s p =
    rung_case (λ t. JoinedBy before t.queue) j (next_rung standing) (without_attempt j s) p (λ turns. p)
    (one_more before s.queue j p)

abort_moves : (before : List ℕ) (i : ℕ) (standing : Standing) (n : ℕ) (w : Why) (s : State)
    → JoinedBy before s.queue → QueueMoves before (aborting i standing n w s).queue
unfolding aborting
abort_moves before i standing n w s p =
    let still = stays before s.queue p in
    cause_case (λ t. QueueMoves before t.queue) i standing w (without_attempt i s) still (λ turns. still)
    (stays before (s.queue ++ i ∷ []) (one_more before s.queue i p))
    (leaves before s.queue i p)

interruption_moves : (before : List ℕ) (i : ℕ) (standing : Standing) (n : ℕ) (s : State)
    → JoinedBy before s.queue
    → QueueMoves before (head_to_tail i (aborting i standing n External s).queue)
unfolding aborting
interruption_moves before i standing n s p = goes_last before s.queue i p

walked : (m : Setting) (i : ℕ) (before : List ℕ)
    → Walk m i (λ s. JoinedBy before s.queue) (λ s. JoinedBy before s.queue) (λ o s. QueueMoves before
    s.queue)
walked m i before = record {
  asks = λ s p. p;
  holds = λ s held p. p;
  rejects = λ s j known other live head p. p;
  aborts = λ s j line stored known other live p.
      abort_joins before j (standing_of m s j) (s.numbers j).completed line stored s p;
  refused = λ r s p. stays before s.queue p;
  starved = λ r s live p. abort_moves before i (standing_of m s i) (s.numbers i).completed Starved s p;
  nothing = λ s p. stays before s.queue p;
  ends = λ s n w p. abort_moves before i (standing_of m s i) n w s p;
  steps = λ s p. stays before s.queue p;
  pauses = λ s turns p. stays before s.queue p;
  stores = λ s p. stays before s.queue p;
  takes = λ s p. stays before s.queue p;
  starts = λ s live p. stays before s.queue p;
  continues = λ s live p. stays before s.queue p;
  commits = λ s constrained n live p.
      leaving_case (λ t. QueueMoves before t.queue) i constrained (without_attempt i s)
      (stays before s.queue p)
      (leaves before s.queue i p);
  waits = λ s p. stays before s.queue p;
  interrupted = λ s live p. interruption_moves before i (standing_of m s i) (s.numbers i).completed s p;
  unmet = λ s p. goes_last before s.queue i p;
}

-- CPUs join, and then the head may move
pub queue_moves : (m : Setting) (e : Event) (s : State) → QueueMoves s.queue (happen m e s).state.queue
unfolding happen
queue_moves m (event.Turn i) s =
    in_a_turn m i (λ t. JoinedBy s.queue t.queue) (λ t. JoinedBy s.queue t.queue)
    (λ o t. QueueMoves s.queue t.queue) (walked m i s.queue) s
    (λ o e. stays s.queue s.queue (nobody_joined s.queue))
    (λ e. nobody_joined s.queue)
queue_moves m (event.External i) s =
    externally m i (λ t. JoinedBy s.queue t.queue) (λ t. JoinedBy s.queue t.queue)
    (λ o t. QueueMoves s.queue t.queue) (walked m i s.queue) (with_event (event.External i) s)
    (nobody_joined s.queue)

-- ---- who has turns

not_ready_by : (limits : RunLimits) (finished spent first waits : Bool) → first ≡ false
    → is_none (if finished then Some outcome.Halted
    else (if spent then Some outcome.Spent
    else (if first then None else Some (if waits then outcome.Queued else outcome.Stopped)))) ≡ false
not_ready_by limits true spent first waits h = refl
not_ready_by limits false true first waits h = refl
not_ready_by limits false false true waits h = let n : true ≡ false = h in cc
not_ready_by limits false false false waits h = refl

-- only the head of a queue
pub only_the_head : (m : Setting) (s : State) (i head : ℕ) (rest : List ℕ) → s.queue ≡ head ∷ rest → i ≢ head
    → is_ready m s i ≡ false
unfolding idle
only_the_head m s i head rest e other =
    let off : head ≢ i = λ h. other (sym h) in
    ap (λ q. is_none (idle_by m.limits (is_finished m s i) q (s.numbers i) i)) e
    ∙ not_ready_by m.limits (is_finished m s i) (is_spent m.limits (s.numbers i)) (head == i) _
    (ne_eqb head i off)
