-- Where nothing comes from outside, every CPU in the stop queue comes to the end of its transaction.
use Rattle.std.proofs.Common.{◌≡◌, ◌≢◌, ℕ, suc, ◌+◌, ◌*◌, ◌-◌, ◌<◌, ◌≤◌, Bool, true, false, cond, List, []}
use Rattle.std.proofs.Common.{◌∷◌, ◌++◌, length, drop, refl, sym, ap, ◌∙◌, subst, arith, inl, inr}
use Rattle.std.proofs.Common.{append_assoc, append-nil}
use Rattle.std.specs.Prelude.{◌⊎◌, ◌==◌, ◌&&◌, ◌||◌, if◌then◌else◌, is_none, count_by}
use Rattle.std.specs.List.{list_any}
use Rattle.std.proofs.lemmas.Bool.{true≢false, cases_Bool, cases_eq, eq-eqb, ne_eqb, or_left, or_right}
use Rattle.std.proofs.lemmas.Bool.{ltb-false}
use Rattle.std.proofs.lemmas.List.Folds.{list_any-append}
use Rattle.std.proofs.lemmas.List.Sums.{sum_by_push}
use Rattle.std.proofs.lemmas.List.Elements.{All-head}
use borrow.Enum.Arm.{by_way}
use Rattle.tx_ladder.specs.Waiting.{waits_in}
use Rattle.tx_journal.specs.Image.{cpu_of_event}
use Rattle.tx_journal.specs.declared.events.Event.{Event}
use Rattle.tx_journal.specs.declared.events.Event.TheVariants as event
use Rattle.tx_meaning.specs.Limits.{Setting}
use Rattle.tx_meaning.specs.Meaning.{IsSetting, meaning}
use Rattle.tx_meaning.specs.Room.{is_turn}
use Rattle.tx_meaning.specs.State.{Numbers, State, is_live, cpus_of}
use Rattle.tx_meaning.specs.Idle.{idle, is_ready}
use Rattle.tx_meaning.specs.Stretches.{ends_transaction, new_entries, is_end_of, is_interrupted_by}
use Rattle.tx_meaning.specs.Turn.{turn, happen}
use Rattle.tx_meaning.proofs.Books.{unready_stays, turn_booked, idle_or_not}
use Rattle.tx_meaning.proofs.Queues.{only_the_head}
use Rattle.tx_meaning.specs.Views.{AreKnown}
use Rattle.tx_bounds.proofs.Events.{grows_only}
use Rattle.tx_bounds.proofs.Stretched.{under_way}
use Rattle.tx_bounds.proofs.Heads.{queue_is_open}
use Rattle.tx_headline.specs.Queue.{HeadGoes, Stays, Leaves, GoesLast, others_before}
use Rattle.tx_headline.specs.Since.{IsUninterrupted, entries_since, all_turns_after}
use Rattle.tx_headline.proofs.Lists.{dropped}
use Rattle.tx_headline.proofs.After.{known_first, known_later, known_moved}
use Rattle.z_regs.proofs.Elements.{second_holds}
use Rattle.tx_headline.proofs.Members.{waits_first}
use Rattle.tx_headline.proofs.Outside.{later_uninterrupted, not_interrupted}
use Rattle.tx_headline.proofs.Queue.{advances, queue_changes}
use Rattle.tx_headline.proofs.Runs.{meant_more}
use Rattle.tx_journal.proofs.Readings.{same_head}

-- ---- places in the queue

behind_head : (b : Bool) (x y : ℕ) → (b ≡ false → x ≡ y) → (if b then 0 else suc x) ≡ (if b then 0 else suc y)
behind_head true x y h = refl
behind_head false x y h = ap suc (h refl)

-- who joins stands behind
before_joined : (i : ℕ) (q joined : List ℕ) → waits_in q i ≡ true
    → others_before i (q ++ joined) ≡ others_before i q
before_joined i [] joined h = absurd (true≢false (sym h))
before_joined i (x ∷ rest) joined h =
    behind_head (x == i) (others_before i (rest ++ joined)) (others_before i rest)
    (λ off. before_joined i rest joined (second_holds (x == i) (waits_in rest i) h off))

-- what the head can still complete
abbrev head_left : (ℕ → Numbers) → List ℕ → ℕ
head_left numbers [] = 0
head_left numbers (head ∷ rest) = 34 - (numbers head).completed

head_at_most : (numbers : ℕ → Numbers) (q : List ℕ) → head_left numbers q ≤ 34
head_at_most numbers [] = omega arith
head_at_most numbers (head ∷ rest) = omega arith

-- and with it the turns of those before a CPU
abbrev to_come : ℕ → State → ℕ
to_come i s = head_left s.numbers s.queue + 34 * others_before i s.queue

at_head : (i : ℕ) (s : State) (head : ℕ) (rest : List ℕ) → s.queue ≡ head ∷ rest
    → to_come i s ≡ (34 - (s.numbers head).completed) + 34 * others_before i (head ∷ rest)
at_head i s head rest e = ap (λ q. head_left s.numbers q + 34 * others_before i q) e

-- ---- recorded turns

counted_in : (m : Setting) (j : ℕ) (s : State) → is_ready m s j ≡ true
    → count_by is_turn (turn m j s).state.events ≡ count_by is_turn s.events + 1
counted_in m j s ready =
    idle_or_not (idle m s j) (λ o. is_none o ≡ true
    → count_by is_turn (turn m j s).state.events ≡ count_by is_turn s.events + 1)
    (λ o e h. absurd (true≢false (sym h)))
    (λ none h.
    ap (count_by is_turn) (turn_booked m j s none).recorded
    ∙ sum_by_push (λ e. cond (is_turn e) 1 0) s.events (event.Turn j)) ready

turn_counted : (m : Setting) (j : ℕ) (s : State) → is_ready m s j ≡ true
    → count_by is_turn (happen m (event.Turn j) s).state.events ≡ count_by is_turn s.events + 1
unfolding happen
turn_counted m j s ready = counted_in m j s ready

-- ---- entries

module _ (m : Setting) (s : IsSetting m) (events : List Event) (e : Event) (rest : List Event)
    (known : AreKnown m (events ++ e ∷ rest)) where
  -- those of the first event, and those of the rest
  pub entries_parted : entries_since m events (e ∷ rest)
      ≡ new_entries (meaning m events) (meaning m (events ++ e ∷ []))
      ++ entries_since m (events ++ e ∷ []) rest
  entries_parted =
      let moved = known_moved m events e rest known in
      let upto = known_first m (events ++ e ∷ []) rest moved in
      let one = grows_only m s events (e ∷ []) (known_first m events (e ∷ []) upto)
      (known_later m events (e ∷ []) upto) in
      let more = grows_only m s (events ++ e ∷ []) rest upto (known_later m (events ++ e ∷ []) rest moved) in
      let h = (meaning m events).history in
      let g = (meaning m (events ++ e ∷ [])).history in
      let whole : (meaning m (events ++ e ∷ rest)).history ≡ h ++ (one.more ++ more.more) =
      ap (λ x. (meaning m x).history) (sym (append_assoc events (e ∷ []) rest)) ∙ sym more.is
      ∙ ap (λ x. x ++ more.more) (sym one.is) ∙ append_assoc h one.more more.more in
      let all : entries_since m events (e ∷ rest) ≡ one.more ++ more.more =
      ap (drop (length h)) whole ∙ dropped h (one.more ++ more.more) in
      let first : new_entries (meaning m events) (meaning m (events ++ e ∷ [])) ≡ one.more =
      ap (drop (length h)) (sym one.is) ∙ dropped h one.more in
      let later : entries_since m (events ++ e ∷ []) rest ≡ more.more =
      ap (drop (length g)) (sym more.is) ∙ dropped g more.more in
      all ∙ (λ x. sym first x ++ sym later x)

module _ (m : Setting) (s : IsSetting m) (i : ℕ) where
  -- a CPU that waits has not completed its last instruction
  completed_few : (events : List Event) → AreKnown m events → (c : ℕ)
      → waits_in (meaning m events).queue c ≡ true → ((meaning m events).numbers c).completed ≤ 33
  completed_few events known c waits =
      let w = under_way m events c s known (queue_is_open m s c events known waits) in
      by_way (cases_Bool (is_live (meaning m events) c)) (λ live. w.few live)
      (λ off.
      let none = ltb-false 0 ((meaning m events).numbers c).completed off in
      omega (arith, none))

  some_left_by : (events : List Event) → AreKnown m events → (q : List ℕ) → (meaning m events).queue ≡ q
      → waits_in q i ≡ true → 1 ≤ to_come i (meaning m events)
  some_left_by events known [] e waits = absurd (true≢false (sym waits))
  some_left_by events known (head ∷ rest) e waits =
      let is : waits_in (meaning m events).queue head ≡ true =
      ap (λ q. waits_in q head) e ∙ or_left (head == head) (waits_in rest head) (eq-eqb head head refl) in
      let few = completed_few events known head is in
      let at = at_head i (meaning m events) head rest e in
      omega (arith, few, at)

  -- ---- one event

  -- it still waits, and each turn has brought it nearer
  record Waits (a t : State) : Type 0 where
    waits : waits_in t.queue i ≡ true
    nearer : count_by is_turn t.events + to_come i t ≤ count_by is_turn a.events + to_come i a

  module _ (events : List Event) (j : ℕ) (known : AreKnown m (events ++ event.Turn j ∷ []))
      (apart : is_interrupted_by m (meaning m events) (event.Turn j) j ≡ false) where
    abbrev a : State
    a = meaning m events

    abbrev t : State
    t = (happen m (event.Turn j) a).state

    abbrev Result : Type 0
    Result = Waits a t ⊎ (ends_transaction a t i ≡ true)

    idle_result : is_ready m a j ≡ false → waits_in a.queue i ≡ true → Result
    idle_result off waits =
        let same = unready_stays m a j off in
        inl (record {
          waits = ap (λ (x : State). waits_in x.queue i) same ∙ waits;
          nearer = let turns = ap (λ (x : State). count_by is_turn x.events) same in
              let left = ap (λ (x : State). to_come i x) same in omega (arith, turns, left);
        })

    module _ (rest : List ℕ) (is : a.queue ≡ j ∷ rest) (ready : is_ready m a j ≡ true)
        (waits : waits_in a.queue i ≡ true) where
      turns : count_by is_turn t.events ≡ count_by is_turn a.events + 1
      turns = turn_counted m j a ready

      first_waits_now : waits_in a.queue j ≡ true
      first_waits_now =
          ap (λ q. waits_in q j) is ∙ or_left (j == j) (waits_in rest j) (eq-eqb j j refl)

      -- the head completes one instruction more
      stays_nearer : (joined : List ℕ) → t.queue ≡ a.queue ++ joined → Waits a t
      stays_nearer joined queue =
          let whole : t.queue ≡ j ∷ (rest ++ joined) = queue ∙ ap (λ q. q ++ joined) is in
          let later : waits_in t.queue j ≡ true =
          ap (λ q. waits_in q j) queue ∙ waits_first a.queue joined j first_waits_now in
          let more = advances m s events (event.Turn j) known j first_waits_now later
          ((λ y. eq-eqb j j refl y && is_ready m a j) ∙ ready) apart in
          let old = at_head i a j rest is in
          let new = at_head i t j (rest ++ joined) whole in
          let place : others_before i (j ∷ (rest ++ joined)) ≡ others_before i (j ∷ rest) =
          before_joined i (j ∷ rest) joined (ap (λ q. waits_in q i) (sym is) ∙ waits) in
          let few = completed_few events (known_first m events (event.Turn j ∷ []) known) j first_waits_now in
          let one = turns in
          record {
            waits = ap (λ q. waits_in q i) queue ∙ waits_first a.queue joined i waits;
            nearer = omega (arith, more, old, new, place, few, one);
          }

      -- or it makes room for the next
      leaves_nearer : (joined : List ℕ) → t.queue ≡ rest ++ joined → j ≢ i → Waits a t
      leaves_nearer joined queue other =
          let off = ne_eqb j i other in
          let in_rest = second_holds (j == i) (waits_in rest i) (ap (λ q. waits_in q i) (sym is) ∙ waits) off in
          let old = at_head i a j rest is in
          let place : others_before i (j ∷ rest) ≡ suc (others_before i rest) =
          ap (λ b. if b then 0 else suc (others_before i rest)) off in
          let same : others_before i t.queue ≡ others_before i rest =
          ap (others_before i) queue ∙ before_joined i rest joined in_rest in
          let most = head_at_most t.numbers t.queue in
          let few = completed_few events (known_first m events (event.Turn j ∷ []) known) j first_waits_now in
          let one = turns in
          record {
            waits = ap (λ q. waits_in q i) queue ∙ waits_first rest joined i in_rest;
            nearer = omega (arith, old, place, same, most, few, one);
          }

      head_result : (joined : List ℕ) → HeadGoes m a t (event.Turn j) (a.queue ++ joined) → Result
      head_result joined (Stays queue off) = inl (stays_nearer joined queue)
      head_result joined (Leaves head later queue now ended) =
          let whole : j ∷ (rest ++ joined) ≡ head ∷ later = ap (λ q. q ++ joined) (sym is) ∙ queue in
          let first = same_head j head (rest ++ joined) later whole in
          by_way (cases_eq j i)
          (λ own. inr (ap (ends_transaction a t) (sym own ∙ first) ∙ ended))
          (λ other.
          inl (leaves_nearer joined (now ∙ sym (ap (drop 1) whole)) other))
      head_result joined (GoesLast head later queue now off interrupted) =
          let whole : j ∷ (rest ++ joined) ≡ head ∷ later = ap (λ q. q ++ joined) (sym is) ∙ queue in
          let first = same_head j head (rest ++ joined) later whole in
          absurd (true≢false (sym interrupted
          ∙ ap (is_interrupted_by m a (event.Turn j)) (sym first) ∙ apart))

    -- while the queue is not empty, only its head is ready
    at_queue : (q : List ℕ) → a.queue ≡ q → is_ready m a j ≡ true → waits_in a.queue i ≡ true → Result
    at_queue [] e ready waits = absurd (true≢false (sym waits ∙ ap (λ q. waits_in q i) e))
    at_queue (head ∷ rest) e ready waits =
        by_way (cases_eq head j)
        (λ own.
        let changes = queue_changes m s events (event.Turn j) known in
        head_result rest (e ∙ ap (λ x. x ∷ rest) own) ready waits changes.joined changes.head)
        (λ other.
        absurd (true≢false (sym ready ∙ only_the_head m a j head rest e (λ h. other (sym h)))))

    turn_result : waits_in a.queue i ≡ true → Result
    turn_result waits =
        by_way (cases_Bool (is_ready m a j)) (λ ready. at_queue a.queue refl ready waits)
        (λ off. idle_result off waits)

  -- ---- all events

  abbrev Quiet : List Event → List Event → Type 0
  Quiet events rest = (j : ℕ) → j < cpus_of m → IsUninterrupted m events rest j

  abbrev Outcome : List Event → List Event → Type 0
  Outcome events rest = Waits (meaning m events) (meaning m (events ++ rest))
      ⊎ (list_any (is_end_of i) (entries_since m events rest) ≡ true)

  one_event : (events : List Event) (e : Event) (rest : List Event) → AreKnown m (events ++ e ∷ [])
      → Quiet events (e ∷ rest) → cpu_of_event e < cpus_of m → waits_in (meaning m events).queue i ≡ true
      → Waits (meaning m events) (happen m e (meaning m events)).state
      ⊎ (ends_transaction (meaning m events) (happen m e (meaning m events)).state i ≡ true)
  one_event events (event.Turn j) rest known quiet here waits =
      turn_result events j known (not_interrupted m j events (event.Turn j) rest (quiet j here)) waits
  one_event events (event.External j) rest known quiet here waits =
      absurd (true≢false (sym (eq-eqb j j refl)
      ∙ not_interrupted m j events (event.External j) rest (quiet j here)))

  waits_then : (a b t : State) → Waits a b → Waits b t → Waits a t
  waits_then a b t one more = record {
    waits = more.waits;
    nearer = let x = one.nearer in let y = more.nearer in omega (arith, x, y);
  }

  all_events : (events rest : List Event) → AreKnown m (events ++ rest) → Quiet events rest
      → waits_in (meaning m events).queue i ≡ true → Outcome events rest
  all_events events [] known quiet waits =
      inl (subst (λ x. Waits (meaning m events) (meaning m x)) (sym (append-nil events))
      (record { waits = waits; nearer = omega arith }))
  all_events events (e ∷ rest) known quiet waits =
      let moved = known_moved m events e rest known in
      let upto = known_first m (events ++ e ∷ []) rest moved in
      let here = All-head (λ x. cpu_of_event x < cpus_of m) e rest (known_later m events (e ∷ rest) known) in
      let parted = entries_parted m s events e rest known in
      let first = new_entries (meaning m events) (meaning m (events ++ e ∷ [])) in
      let later = entries_since m (events ++ e ∷ []) rest in
      let any : list_any (is_end_of i) (entries_since m events (e ∷ rest))
      ≡ (list_any (is_end_of i) first || list_any (is_end_of i) later) =
      ap (list_any (is_end_of i)) parted ∙ list_any-append (is_end_of i) first later in
      let more = meant_more m events e in
      by_way (one_event events e rest upto quiet here waits)
      (λ goes.
      let near = subst (Waits (meaning m events)) (sym more) goes in
      by_way (all_events (events ++ e ∷ []) rest moved
      (λ j less. later_uninterrupted m j events e rest (quiet j less)) near.waits)
      (λ on.
      inl (subst (λ x. Waits (meaning m events) (meaning m x)) (append_assoc events (e ∷ []) rest)
      (waits_then (meaning m events) (meaning m (events ++ e ∷ [])) (meaning m ((events ++ e ∷ []) ++ rest))
      near on)))
      (λ over. inr (any ∙ or_right (list_any (is_end_of i) first) (list_any (is_end_of i) later) over)))
      (λ ended.
      inr (any ∙ or_left (list_any (is_end_of i) first) (list_any (is_end_of i) later)
      (ap (λ x. ends_transaction (meaning m events) x i) more ∙ ended)))

  -- after so many counted turns of all CPUs the transaction of the CPU has ended
  pub served : (events since : List Event) → AreKnown m (events ++ since) → Quiet events since
      → waits_in (meaning m events).queue i ≡ true
      → all_turns_after m events + 34 * (others_before i (meaning m events).queue + 1)
      ≤ all_turns_after m (events ++ since)
      → list_any (is_end_of i) (entries_since m events since) ≡ true
  served events since known quiet waits enough =
      by_way (all_events events since known quiet waits)
      (λ on.
      let most = head_at_most (meaning m events).numbers (meaning m events).queue in
      let some = some_left_by (events ++ since) known (meaning m (events ++ since)).queue refl on.waits in
      let near = on.nearer in
      absurd (omega (arith, most, some, near, enough)))
      (λ over. over)
