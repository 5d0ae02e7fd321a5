-- The history and the live attempts together have no more places than there are recorded events.
use Rattle.std.proofs.Common.{◌≡◌, ℕ, ◌+◌, ◌<◌, ◌≤◌, Bool, true, false, List, []}
use Rattle.std.proofs.Common.{◌∷◌, ◌++◌, Some, None, length, refl, sym, ap, ◌∙◌, subst, arith, length-append}
use Rattle.std.specs.Prelude.{◌==◌, if◌then◌else◌, nat_lt, All}
use Rattle.std.proofs.lemmas.List.Elements.{All-head, All-tail}
use Rattle.bit_set.specs.Counts.{one_if, count_below, but_at}
use Rattle.bit_set.proofs.Counts.{count_agree, count_but_at, count_none, at_most_one}
use Rattle.tx_control.specs.declared.causes.Why.{Why}
use Rattle.tx_control.specs.declared.causes.Why.TheVariants.{Starved, External}
use Rattle.tx_ladder.specs.Rungs.{Standing, rejecting}
use Rattle.tx_serial.specs.Image.{cpu_of_event}
use Rattle.tx_serial.specs.Entry.{Entry}
use Rattle.tx_serial.specs.Entry.TheVariants as entry
use Rattle.tx_serial.specs.Event.{Event}
use Rattle.tx_serial.specs.Event.TheVariants as event
use Rattle.tx_meaning.specs.Limits.{Setting}
use Rattle.tx_meaning.specs.State.{Numbers, State, beginning, is_live, standing_of, cpus_of}
use Rattle.tx_meaning.specs.Changes.{with_numbers, with_event, with_entry, counting_turn, rejecting_one}
use Rattle.tx_meaning.specs.Changes.{without_attempt, aborting, after_cause, without_head, leaving}
use Rattle.tx_meaning.specs.Idle.{idle}
use Rattle.tx_meaning.specs.Turn.{turn, to_tail, happen}
use Rattle.tx_meaning.specs.Meaning.{meaning_from, meaning}
use Rattle.tx_meaning.specs.Room.{live_attempts}
use Rattle.tx_meaning.proofs.Walk.{Walk, conflict_on, cause_case, leaving_case, in_a_turn, externally}
use Rattle.tx_meaning.proofs.Books.{idle_or_not, idle_stays, turn_booked, external_booked}

-- ---- the live attempts

live_where : (b : Bool) (v w : Numbers)
    → nat_lt 0 (if b then v else w).completed ≡ (if b then nat_lt 0 v.completed else nat_lt 0 w.completed)
live_where true v w = refl
live_where false v w = refl

live_put : (n : ℕ) (i : ℕ) (v : Numbers) (s : State) → i < n
    → count_below n (is_live (with_numbers i v s)) + one_if (is_live s i)
    ≡ count_below n (is_live s) + one_if (nat_lt 0 v.completed)
live_put n i v s known =
    let same = count_agree n (is_live (with_numbers i v s)) (but_at (is_live s) i (nat_lt 0 v.completed))
    (λ x lo. live_where (x == i) v (s.numbers x)) in
    let put = count_but_at n (is_live s) i (nat_lt 0 v.completed) known in
    omega arith

-- entries and live attempts
pub places : ℕ → State → ℕ
places n s = length s.history + count_below n (is_live s)

same_places : (n : ℕ) (s t : State) → t.history ≡ s.history → t.numbers ≡ s.numbers → places n t ≡ places n s
unfolding places
same_places n s t h e =
    ap (λ l. length l + count_below n (is_live t)) h
    ∙ ap (λ f. length s.history + count_below n (λ x. nat_lt 0 (f x).completed)) e

-- what changes neither
module _ (n : ℕ) where
  renumbered : (i : ℕ) (v : Numbers) (s : State) → i < n → v.completed ≡ (s.numbers i).completed
      → places n (with_numbers i v s) ≡ places n s
  unfolding places
  renumbered i v s known same =
      let put = live_put n i v s known in
      let bit : one_if (nat_lt 0 v.completed) ≡ one_if (is_live s i) = ap (λ k. one_if (nat_lt 0 k)) same in
      omega arith

  entry_more : (e : Entry) (s : State) → places n (with_entry e s) ≡ places n s + 1
  unfolding places
  entry_more e s = let more = length-append s.history (e ∷ []) in omega arith

  ended : (i : ℕ) (s : State) → i < n
      → places n (without_attempt i s) + one_if (is_live s i) ≡ places n s
  unfolding places
  ended i s known = let put = live_put n i (record (s.numbers i) { completed = 0 }) s known in omega arith

  -- an abort of a live attempt changes nothing of the sum, and any end of one adds one at most
  aborted : (i : ℕ) (standing : Standing) (k : ℕ) (w : Why) (s : State) → i < n
      → places n (aborting i standing k w s) + one_if (is_live s i) ≡ places n s + 1
  unfolding aborting
  aborted i standing k w s known =
      let t = without_attempt i s in
      let u = after_cause i standing w t in
      let same : places n u ≡ places n t =
      cause_case (λ r. places n r ≡ places n t) i standing w t refl
      (λ d. renumbered i (record (t.numbers i) { delay = d }) t known refl)
      (same_places n t (record t { queue = t.queue ++ i ∷ [] }) refl refl)
      (same_places n t (record t { queue = without_head i t.queue }) refl refl) in
      let end = ended i s known in
      let more = entry_more (entry.Abort i k w) u in
      omega arith

-- ---- a turn

module _ (m : Setting) (i : ℕ) (known : i < cpus_of m) (most : ℕ) where
  abbrev Few : State → Type 0
  Few s = places (cpus_of m) s ≤ most

  abbrev Fewer : State → Type 0
  Fewer s = places (cpus_of m) s ≤ most + 1

  few_renumbered : (j : ℕ) (v : Numbers) (s : State) → j < cpus_of m → v.completed ≡ (s.numbers j).completed
      → Few s → Few (with_numbers j v s)
  few_renumbered j v s lo same few = let e = renumbered (cpus_of m) j v s lo same in omega arith

  few_aborted : (j : ℕ) (standing : Standing) (k : ℕ) (w : Why) (s : State) → j < cpus_of m
      → is_live s j ≡ true → Few s → Few (aborting j standing k w s)
  few_aborted j standing k w s lo live few =
      let e = aborted (cpus_of m) j standing k w s lo in
      let bit : one_if (is_live s j) ≡ 1 = ap one_if live in
      omega arith

  fewer_aborted : (standing : Standing) (k : ℕ) (w : Why) (s : State) → Few s
      → Fewer (aborting i standing k w s)
  fewer_aborted standing k w s few = let e = aborted (cpus_of m) i standing k w s known in omega arith

  fewer_put : (v : Numbers) (s : State) → Few s → Fewer (with_numbers i v s)
  unfolding places
  fewer_put v s few =
      let put = live_put (cpus_of m) i v s known in
      let up : one_if (nat_lt 0 v.completed) ≤ 1 = at_most_one (nat_lt 0 v.completed) in
      omega arith

  fewer_entry : (e : Entry) (s : State) → Few s → Fewer (with_entry e s)
  fewer_entry e s few = let more = entry_more (cpus_of m) e s in omega arith

  fewer_still : (s t : State) → t.history ≡ s.history → t.numbers ≡ s.numbers → Few s → Fewer t
  fewer_still s t h e few = let same = same_places (cpus_of m) s t h e in omega arith

  few_walk : Walk m i Few Few (λ o s. Fewer s)
  few_walk = record {
    asks = λ s few. few_renumbered i (record (s.numbers i) { asked = (s.numbers i).asked + 1 }) s known refl
        few;
    holds = λ s held few. let same = same_places (cpus_of m) s (record s { held = held }) refl refl in omega
        arith;
    rejects = λ s j lo other live head few.
        let t = rejecting_one j (standing_of m s j) s in
        let c : Few t =
        few_renumbered j (record (s.numbers j) { given = (rejecting (standing_of m s j)).rejects_given }) s lo
        refl
        few in
        few_renumbered i _ t known refl c;
    aborts = λ s j line stored lo other live few.
        few_aborted j (standing_of m s j) (s.numbers j).completed (conflict_on stored line) s lo live few;
    refused = λ r s few. omega arith;
    starved = λ r s live few. fewer_aborted (standing_of m s i) (s.numbers i).completed Starved s few;
    nothing = λ s few. omega arith;
    ends = λ s n w few. fewer_aborted (standing_of m s i) n w s few;
    steps = λ s few. fewer_entry (entry.Step i) s few;
    pauses = λ s d few.
        let t = with_entry (entry.Step i) s in
        let more = entry_more (cpus_of m) (entry.Step i) s in
        let same = renumbered (cpus_of m) i (record (t.numbers i) { delay = d }) t known refl in
        omega arith;
    stores = λ s few. fewer_entry (entry.Tdb i) s few;
    takes = λ s few. fewer_entry (entry.Interrupt i) s few;
    starts = λ s live few. fewer_put _ s few;
    continues = λ s live few. fewer_put _ s few;
    commits = λ s constrained n live few.
        let t = without_attempt i s in
        let u = leaving i constrained t in
        let same : places (cpus_of m) u ≡ places (cpus_of m) t =
        leaving_case (λ r. places (cpus_of m) r ≡ places (cpus_of m) t) i constrained t refl
        (same_places (cpus_of m) t (record t { queue = without_head i t.queue }) refl refl) in
        let end = ended (cpus_of m) i s known in
        let more = entry_more (cpus_of m) (entry.Commit i n) u in
        omega arith;
    waits = λ s few. fewer_put _ s few;
    interrupted = λ s live few.
        let u = aborting i (standing_of m s i) (s.numbers i).completed External s in
        let fewer = fewer_aborted (standing_of m s i) (s.numbers i).completed External s few in
        let same = same_places (cpus_of m) u (to_tail i u) refl refl in
        omega arith;
    unmet = λ s few. fewer_still s (to_tail i s) refl refl few;
  }

-- ---- over events

-- there are as many recorded events as places
abbrev HasRoom : Setting → State → Type 0
HasRoom m s = places (cpus_of m) s ≤ length s.events

room_turned : (m : Setting) (i : ℕ) (s : State) → i < cpus_of m → HasRoom m s → HasRoom m (turn m i s).state
room_turned m i s known room =
    idle_or_not (idle m s i) (λ o. HasRoom m (turn m i s).state)
    (λ x e. subst (HasRoom m) (sym (idle_stays m i s x e)) room)
    (λ none.
    let most = length s.events in
    let t = with_event (event.Turn i) (counting_turn i s) in
    let start : places (cpus_of m) t ≤ most =
    let same = renumbered (cpus_of m) i (record (s.numbers i) { turns = (s.numbers i).turns + 1 }) s known
    refl in
    let also = same_places (cpus_of m) (counting_turn i s) t refl refl in
    omega arith in
    let after = in_a_turn m i (Few m i known most) (Few m i known most)
    (λ o s. Fewer m i known most s)
    (few_walk m i known most) s (λ o is. let n : Some o ≡ None = sym is ∙ none in cc) (λ _. start) in
    let recorded = ap length (turn_booked m i s none).recorded ∙ length-append s.events (event.Turn i ∷ []) in
    omega arith)

room_external : (m : Setting) (i : ℕ) (s : State) → i < cpus_of m → HasRoom m s
    → HasRoom m (happen m (event.External i) s).state
unfolding happen
room_external m i s known room =
    let most = length s.events in
    let t = with_event (event.External i) s in
    let also = same_places (cpus_of m) s t refl refl in
    let start : places (cpus_of m) t ≤ most = omega arith in
    let after = externally m i (Few m i known most) (Few m i known most)
    (λ o s. Fewer m i known most s)
    (few_walk m i known most) t start in
    let recorded = ap length (external_booked m i s).recorded ∙ length-append s.events (event.External i ∷ [])
    in
    omega arith

room_happened : (m : Setting) (e : Event) (s : State) → cpu_of_event e < cpus_of m → HasRoom m s
    → HasRoom m (happen m e s).state
unfolding happen
room_happened m (event.Turn i) s known room = room_turned m i s known room
room_happened m (event.External i) s known room = room_external m i s known room

room_from : (m : Setting) (events : List Event) (s : State) → All (λ e. cpu_of_event e < cpus_of m) events
    → HasRoom m s → HasRoom m (meaning_from m events s)
unfolding meaning_from
room_from m [] s known room = room
room_from m (e ∷ rest) s known room =
    room_from m rest (happen m e s).state (All-tail (λ e. cpu_of_event e < cpus_of m) e rest known)
    (room_happened m e s (All-head (λ e. cpu_of_event e < cpus_of m) e rest known) room)

none_at_first : (m : Setting) → places (cpus_of m) beginning ≡ 0
unfolding places
none_at_first m =
    let none = count_none (cpus_of m) (is_live beginning) (λ k lo. refl) in
    omega arith

pub room : (m : Setting) (events : List Event) → All (λ e. cpu_of_event e < cpus_of m) events
    → length (meaning m events).history + live_attempts m (meaning m events) ≤ length
    (meaning m events).events
unfolding places
room m events known =
    let none = none_at_first m in
    let start : places (cpus_of m) beginning ≤ 0 = omega arith in
    room_from m events beginning known start
