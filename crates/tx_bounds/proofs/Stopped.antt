-- Conflict aborts and the stop queue in the machine that keeps.
use Rattle.std.proofs.Common.{◌≡◌, ◌≢◌, ℕ, ◌+◌, ◌<◌, Bool, true, false, List, [], ◌∷◌}
use Rattle.std.proofs.Common.{Some, None, refl, sym, ap, ◌∙◌, subst, arith, inl, inr}
use Rattle.std.specs.Prelude.{◌==◌, ◌⊎◌, if◌then◌else◌, nat_lt}
use Rattle.std.proofs.lemmas.Bool.{eqb-true, eqb-false}
use Rattle.tx_control.specs.declared.causes.Why.{Why}
use Rattle.tx_control.specs.declared.causes.Why.TheVariants.{External, Program, FetchConflict}
use Rattle.tx_control.specs.declared.causes.Why.TheVariants.{StoreConflict, FetchOverflow, StoreOverflow}
use Rattle.tx_control.specs.declared.causes.Why.TheVariants.{Restricted, Filtered, Depth, Starved, Tabort}
use Rattle.tx_ladder.specs.Rungs.{Standing, rejecting, rejected, next_rung, after_conflict, delay_after}
use Rattle.tx_ladder.specs.Rungs.{descended}
use Rattle.tx_ladder.specs.declared.ladder.Next.TheVariants.{Delay, Queue}
use Rattle.tx_ladder.specs.declared.ladder.Next.TheVariants as rung
use Rattle.tx_ladder.specs.Waiting.{waits_in}
use Rattle.tx_journal.specs.declared.events.Event.{Event}
use Rattle.tx_journal.specs.declared.events.Event.TheVariants as event
use Rattle.tx_serial.specs.Flat.{at_put}
use Rattle.tx_progress.specs.Local.{Beside}
use Rattle.tx_meaning.specs.declared.outcome.Outcome.{Outcome}
use Rattle.tx_meaning.specs.declared.outcome.Outcome.TheVariants as outcome
use Rattle.tx_meaning.specs.Limits.{Setting}
use Rattle.tx_meaning.specs.State.{Numbers, State, is_live, is_head, is_first}
use Rattle.tx_meaning.specs.Changes.{with_numbers, without_attempt, aborting, on_rung, without_head}
use Rattle.tx_meaning.specs.Changes.{counting_turn, with_event}
use Rattle.tx_meaning.specs.Meaning.{IsSetting}
use Rattle.tx_meaning.specs.Idle.{is_spent, kept_back}
use Rattle.tx_meaning.proofs.Walk.{at_put_kept, at_put_case, cause_case, conflict_on}
use Rattle.tx_keeping.specs.Kept.{Kept, kept_beginning, with_state, with_beside, kept_finished}
use Rattle.tx_keeping.specs.Moves.{k_asking, k_rejecting, k_rejected, k_aborting, k_committing}
use Rattle.tx_keeping.specs.Turn.{k_idle, k_external, k_happen, k_interrupting, next_address}
use Rattle.tx_keeping.specs.Keeping.{keeping_from, keeping}
use Rattle.tx_bounds.proofs.Walk.{Walk, IsOwn, in_a_turn}
use Rattle.tx_bounds.proofs.Stopping.{Stopping, Turning, Climb, Plain, Waits, Joins, ChangedAt, Once}
use Rattle.tx_bounds.proofs.Stopping.{turning_same, turning_aborted, stopping_same, stopping_starved}
use Rattle.tx_bounds.proofs.Stopping.{stopping_left, stopping_last, turning_begun}

-- ---- behind a conflict

climb_by : (standing : Standing) (s : State) (i : ℕ) (constrained full : Bool)
    → (standing.aborts + 1 == standing.parms.stop) ≡ full
    → Climb standing.parms.stop standing.aborts s.queue i
    (if constrained then standing.aborts + 1 else standing.aborts)
    (on_rung i (if constrained
    then (if full then Queue else Delay (delay_after standing.parms (standing.aborts + 1)))
    else rung.Plain) s).queue
climb_by standing s i true true e = Joins (eqb-true _ _ e) refl refl
climb_by standing s i true false e = Waits (eqb-false _ _ e) refl refl
climb_by standing s i false full e = Plain refl refl

climb : (standing : Standing) (s : State) (i : ℕ)
    → Climb standing.parms.stop standing.aborts s.queue i (after_conflict standing).aborts
    (on_rung i (next_rung standing) s).queue
climb standing s i =
    climb_by standing s i standing.constrained (standing.aborts + 1 == standing.parms.stop) refl

-- ---- live attempts

aborted_live : (i : ℕ) (standing : Standing) (n : ℕ) (w : Why) (s : State) (x : ℕ)
    → is_live (aborting i standing n w s) x ≡ is_live (without_attempt i s) x
unfolding aborting
aborted_live i standing n w s x =
    let t = without_attempt i s in
    cause_case (λ r. is_live r x ≡ is_live t x) i standing w t refl
    (λ d. at_put_kept (λ (v : Numbers). nat_lt 0 v.completed) t.numbers i (record (t.numbers i) {
      delay = d;
    }) refl x)
    refl refl

ended_dead : (i : ℕ) (s : State) → is_live (without_attempt i s) i ≡ false
ended_dead i s =
    at_put_case (λ (v : Numbers). nat_lt 0 v.completed ≡ false) s.numbers i _ i (λ e. refl)
    (λ ne. absurd (ne refl))

ended_less : (i : ℕ) (s : State) (x : ℕ) → is_live (without_attempt i s) x ≡ true → is_live s x ≡ true
ended_less i s x =
    at_put_case (λ (v : Numbers). nat_lt 0 v.completed ≡ true → is_live s x ≡ true) s.numbers i _ x
    (λ e h. let n : false ≡ true = h in cc) (λ ne h. h)

put_live : (i : ℕ) (v : Numbers) (s : State) (x : ℕ) → is_live (with_numbers i v s) x ≡ true
    → (is_live s x ≡ true) ⊎ (x ≡ i)
put_live i v s x =
    at_put_case (λ (u : Numbers). nat_lt 0 u.completed ≡ true → (is_live s x ≡ true) ⊎ (x ≡ i)) s.numbers i v
    x
    (λ e h. inr e) (λ ne h. inl h)

same_live : (i : ℕ) (v : Numbers) (s : State) → v.completed ≡ (s.numbers i).completed → (x : ℕ)
    → is_live (with_numbers i v s) x ≡ true → is_live s x ≡ true
same_live i v s same x h =
    sym (at_put_kept (λ (u : Numbers). nat_lt 0 u.completed) s.numbers i v (ap (nat_lt 0) same) x) ∙ h

-- ---- what is kept

abbrev aborts_of : Kept → ℕ → ℕ
aborts_of k x = (k.standings x).aborts

abbrev AllBy : Setting → Kept → Type 0
AllBy m k = (x : ℕ) → (k.standings x).parms ≡ m.image.parms

-- between events, in a turn, and behind a reject in it
pub record Between (m : Setting) (k : Kept) : Type 0 where
  pub parms : AllBy m k
  pub is : Stopping m.image.parms.stop (aborts_of k) k.state.queue (is_live k.state)

pub record During (m : Setting) (i : ℕ) (k : Kept) : Type 0 where
  pub parms : AllBy m k
  pub is : Turning m.image.parms.stop (aborts_of k) k.state.queue (is_live k.state) i

record Refused (m : Setting) (i : ℕ) (k : Kept) : Type 0 where
  during : During m i k
  other : is_head k.state i ≡ false

module _ (m : Setting) (i : ℕ) where
  abbrev stop : ℕ
  stop = m.image.parms.stop

  -- the tables of standings and of numbers change without effect on the ladder
  still : (k t : Kept) → t.state.queue ≡ k.state.queue
      → ((x : ℕ) → (t.standings x).parms ≡ (k.standings x).parms)
      → ((x : ℕ) → (t.standings x).aborts ≡ (k.standings x).aborts)
      → ((x : ℕ) → is_live t.state x ≡ true → is_live k.state x ≡ true) → During m i k → During m i t
  still k t q parms aborts less d = record {
    parms = λ x. parms x ∙ d.parms x;
    is = subst (λ l. Turning stop (aborts_of t) l (is_live t.state) i) (sym q)
        (turning_same stop (aborts_of k) k.state.queue (is_live k.state) i d.is (aborts_of t) (is_live
        t.state)
        aborts less);
  }

  over : (k t : Kept) → t.state.queue ≡ k.state.queue
      → ((x : ℕ) → (t.standings x).parms ≡ (k.standings x).parms)
      → ((x : ℕ) → (t.standings x).aborts ≡ (k.standings x).aborts)
      → ((x : ℕ) → is_live t.state x ≡ true → (is_live k.state x ≡ true) ⊎ (x ≡ i)) → During m i k
      → Between m t
  over k t q parms aborts less d = record {
    parms = λ x. parms x ∙ d.parms x;
    is = subst (λ l. Stopping stop (aborts_of t) l (is_live t.state)) (sym q)
        (stopping_same stop (aborts_of k) k.state.queue (is_live k.state) i d.is (aborts_of t) (is_live
        t.state)
        aborts less);
  }

  put_parms : (k : Kept) (j : ℕ) (v : Standing) → v.parms ≡ (k.standings j).parms → (x : ℕ)
      → (at_put k.standings j v x).parms ≡ (k.standings x).parms
  put_parms k j v same x = at_put_kept (λ (s : Standing). s.parms) k.standings j v same x

  put_aborts : (k : Kept) (j : ℕ) (v : Standing) → v.aborts ≡ (k.standings j).aborts → (x : ℕ)
      → (at_put k.standings j v x).aborts ≡ (k.standings x).aborts
  put_aborts k j v same x = at_put_kept (λ (s : Standing). s.aborts) k.standings j v same x

  changed : (k : Kept) (j : ℕ) (v : Standing)
      → ChangedAt j (aborts_of k) (λ x. (at_put k.standings j v x).aborts) v.aborts
  changed k j v = record {
    here = at_put_case (λ (s : Standing). s.aborts ≡ v.aborts) k.standings j v j (λ e. refl)
        (λ ne. absurd (ne refl));
    others = λ x ne. at_put_case (λ (s : Standing). s.aborts ≡ aborts_of k x) k.standings j v x
        (λ e. absurd (ne e)) (λ _. refl);
  }

  climbs : (k : Kept) (j : ℕ) → AllBy m k
      → Climb stop (aborts_of k j) k.state.queue j (after_conflict (k.standings j)).aborts
      (on_rung j (next_rung (k.standings j)) (without_attempt j k.state)).queue
  climbs k j parms =
      subst (λ p. Climb p.stop (aborts_of k j) k.state.queue j (after_conflict (k.standings j)).aborts
      (on_rung j (next_rung (k.standings j)) (without_attempt j k.state)).queue) (parms j)
      (climb (k.standings j) (without_attempt j k.state) j)

  dead_after : (k : Kept) (j : ℕ) (w : Why) (at : ℕ) → is_live (k_aborting j w at k).state j ≡ false
  unfolding k_aborting
  dead_after k j w at = aborted_live j (k.standings j) _ w k.state j ∙ ended_dead j k.state

  less_after : (k : Kept) (j : ℕ) (w : Why) (at x : ℕ) → is_live (k_aborting j w at k).state x ≡ true
      → is_live k.state x ≡ true
  unfolding k_aborting
  less_after k j w at x h = ended_less j k.state x (sym (aborted_live j (k.standings j) _ w k.state x) ∙ h)

  -- a holder's attempt is aborted
  holder_aborted_by : (k : Kept) (j line : ℕ) (stored : Bool) (at : ℕ) → j ≢ i → is_live k.state j ≡ true
      → During m i k → During m i (k_aborting j (conflict_on stored line) at k)
  unfolding k_aborting aborting
  holder_aborted_by k j line true at other live d = record {
    parms = λ x. put_parms k j (after_conflict (k.standings j)) refl x ∙ d.parms x;
    is = turning_aborted stop (aborts_of k) k.state.queue (is_live k.state) i d.is _ _ j _ _ other live
        (changed k j (after_conflict (k.standings j))) (climbs k j d.parms)
        (dead_after k j (StoreConflict line) at) (less_after k j (StoreConflict line) at);
  }
  holder_aborted_by k j line false at other live d = record {
    parms = λ x. put_parms k j (after_conflict (k.standings j)) refl x ∙ d.parms x;
    is = turning_aborted stop (aborts_of k) k.state.queue (is_live k.state) i d.is _ _ j _ _ other live
        (changed k j (after_conflict (k.standings j))) (climbs k j d.parms)
        (dead_after k j (FetchConflict line) at) (less_after k j (FetchConflict line) at);
  }

  starved_after : (k : Kept) (at : ℕ) → Refused m i k → Between m (k_aborting i Starved at k)
  unfolding k_aborting aborting
  starved_after k at r =
      let d = r.during in
      record {
        parms = λ x. put_parms k i (after_conflict (k.standings i)) refl x ∙ d.parms x;
        is = stopping_starved stop (aborts_of k) k.state.queue (is_live k.state) i d.is _ _ _ _ r.other
            (changed k i (after_conflict (k.standings i))) (climbs k i d.parms)
            (dead_after k i Starved at) (less_after k i Starved at);
      }

  -- ---- the end of the CPU's own attempt

  left_or_not : (k : Kept) (b : Bool) (lives : ℕ → Bool) → 0 < stop → lives i ≡ false
      → ((x : ℕ) → lives x ≡ true → is_live k.state x ≡ true) → During m i k
      → Stopping stop
      (λ x. (at_put k.standings i (if b then descended (k.standings i) else k.standings i) x).aborts)
      (if b then without_head i k.state.queue else k.state.queue) lives
  left_or_not k true lives some dead less d =
      stopping_left stop (aborts_of k) k.state.queue (is_live k.state) i d.is _ lives
      (changed k i (descended (k.standings i))) some dead less
  left_or_not k false lives some dead less d =
      stopping_same stop (aborts_of k) k.state.queue (is_live k.state) i d.is _ lives
      (put_aborts k i (k.standings i) refl) (λ x h. inl (less x h))

  same_parms : (b : Bool) (s : Standing) → (if b then descended s else s).parms ≡ s.parms
  same_parms true s = refl
  same_parms false s = refl

  program_after : (k : Kept) (at : ℕ) (w : Why) (constrained : Bool) → 0 < stop → During m i k
      → (k_aborting i w at k).standings
      ≡ at_put k.standings i (if constrained then descended (k.standings i) else k.standings i)
      → (k_aborting i w at k).state.queue
      ≡ (if constrained then without_head i k.state.queue else k.state.queue)
      → Between m (k_aborting i w at k)
  program_after k at w constrained some d standings queue =
      let v = if constrained then descended (k.standings i) else k.standings i in
      let t = k_aborting i w at k in
      record {
        parms = λ x. ap (λ f. (f x).parms) standings
            ∙ put_parms k i v (same_parms constrained (k.standings i)) x ∙ d.parms x;
        is = subst (λ (f : ℕ → Standing). Stopping stop (λ x. (f x).aborts) t.state.queue (is_live t.state))
            (sym standings)
            (subst (λ l. Stopping stop (λ x. (at_put k.standings i v x).aborts) l (is_live t.state)) (sym
            queue)
            (left_or_not k constrained (is_live t.state) some (dead_after k i w at) (less_after k i w at) d));
      }

  -- causes that change neither the count nor the queue
  plain_after : (k : Kept) (at : ℕ) (w : Why) → During m i k
      → (k_aborting i w at k).standings ≡ at_put k.standings i (k.standings i)
      → (k_aborting i w at k).state.queue ≡ k.state.queue → Between m (k_aborting i w at k)
  plain_after k at w d standings queue =
      over k (k_aborting i w at k) queue
      (λ x. ap (λ f. (f x).parms) standings ∙ put_parms k i (k.standings i) refl x)
      (λ x. ap (λ f. (f x).aborts) standings ∙ put_aborts k i (k.standings i) refl x)
      (λ x h. inl (less_after k i w at x h)) d

  ended_after : (k : Kept) (w : Why) (at : ℕ) → 0 < stop → IsOwn w → During m i k
      → Between m (k_aborting i w at k)
  unfolding k_aborting aborting
  ended_after k (Program e) at some own d =
      program_after k at (Program e) (k.standings i).constrained some d refl refl
  ended_after k FetchOverflow at some own d = plain_after k at FetchOverflow d refl refl
  ended_after k StoreOverflow at some own d = plain_after k at StoreOverflow d refl refl
  ended_after k Restricted at some own d = plain_after k at Restricted d refl refl
  ended_after k (Filtered e) at some own d = plain_after k at (Filtered e) d refl refl
  ended_after k Depth at some own d = plain_after k at Depth d refl refl
  ended_after k (Tabort code) at some own d = plain_after k at (Tabort code) d refl refl
  ended_after k (FetchConflict line) at some own d = absurd own
  ended_after k (StoreConflict line) at some own d = absurd own
  ended_after k Starved at some own d = absurd own
  ended_after k External at some own d = absurd own

  committed_after : (k : Kept) (n : ℕ) (after : Beside) → 0 < stop → During m i k
      → Between m (k_committing i n after k)
  committed_after k n after some d =
      let v = if (k.standings i).constrained then descended (k.standings i) else k.standings i in
      record {
        parms = λ x. put_parms k i v (same_parms (k.standings i).constrained (k.standings i)) x ∙ d.parms x;
        is = left_or_not k (k.standings i).constrained (is_live (k_committing i n after k).state) some
            (ended_dead i k.state) (ended_less i k.state) d;
      }

  -- ---- an external interruption

  interrupted_by : (k : Kept) (live : Bool) → is_live k.state i ≡ live → Between m k
      → Between m (k_interrupting live i k).kept
  unfolding k_aborting aborting
  interrupted_by k true e b = record {
    parms = λ x. put_parms k i (k.standings i) refl x ∙ b.parms x;
    is = stopping_last stop (aborts_of k) k.state.queue (is_live k.state) b.is _ _ i
        (put_aborts k i (k.standings i) refl) (dead_after k i External (next_address k i))
        (less_after k i External (next_address k i));
  }
  interrupted_by k false e b = record {
    parms = b.parms;
    is = stopping_last stop (aborts_of k) k.state.queue (is_live k.state) b.is _ _ i (λ x. refl) e (λ x h. h);
  }

  pub interrupted_after : (k : Kept) → Between m k → Between m (k_external i k).kept
  unfolding k_external
  interrupted_after k b = interrupted_by k (is_live k.state i) refl b

  -- ---- a turn

  flagged : (b : Bool) (s : Standing) → ((if b then rejected s else s).parms ≡ s.parms)
      × ((if b then rejected s else s).aborts ≡ s.aborts)
  flagged true s = (refl, refl)
  flagged false s = (refl, refl)

  rejected_after : (k : Kept) (j : ℕ) → is_head k.state i ≡ false → During m i k
      → Refused m i (k_rejected i (k_rejecting j k))
  rejected_after k j other d =
      let t = k_rejecting j k in
      let u = k_rejected i t in
      let one : During m i t =
      still k t refl (put_parms k j (rejecting (k.standings j)) refl)
      (put_aborts k j (rejecting (k.standings j)) refl) (same_live j _ k.state refl) d in
      let facts = flagged (is_live t.state i) (t.standings i) in
      record {
        during = still t u refl (put_parms t i _ facts.0) (put_aborts t i _ facts.1)
            (same_live i _ t.state refl) one;
        other = other;
      }

  walked : 0 < stop → Walk m i (During m i) (Refused m i) (Between m)
  walked some = record {
    asking = record {
      asks = λ k d. still k (k_asking i k) refl (λ x. refl) (λ x. refl) (same_live i _ k.state refl) d;
      holds = λ k held d.
          still k (with_state (record k.state { held = held }) k) refl (λ x. refl) (λ x. refl) (λ x h. h) d;
      rejects = λ k j other live head d. rejected_after k j head d;
      aborts = λ k j line stored at other live d. holder_aborted_by k j line stored at other live d;
    };
    refused = λ k r. over k k refl (λ x. refl) (λ x. refl) (λ x h. inl h) r.during;
    starved = λ k at live r. starved_after k at r;
    nothing = λ k d. over k k refl (λ x. refl) (λ x. refl) (λ x h. inl h) d;
    leaves = λ k after d. still k (with_beside i after k) refl (λ x. refl) (λ x. refl) (λ x h. h) d;
    ends = λ k w at own d. ended_after k w at some own d;
    steps = λ k after d. over k _ refl (λ x. refl) (λ x. refl) (λ x h. inl h) d;
    pauses = λ k after turns d.
        over k _ refl (λ x. refl) (λ x. refl) (λ x h. inl (same_live i _ k.state refl x h)) d;
    stores = λ k d. over k _ refl (λ x. refl) (λ x. refl) (λ x h. inl h) d;
    takes = λ k d. over k _ refl (λ x. refl) (λ x. refl) (λ x h. inl h) d;
    starts = λ k after live d.
        over k _ refl (put_parms k i _ refl) (put_aborts k i _ refl) (put_live i _ k.state) d;
    continues = λ k after live d. over k _ refl (λ x. refl) (λ x. refl) (put_live i _ k.state) d;
    commits = λ k n after live d. committed_after k n after some d;
    waits = λ k d. over k _ refl (λ x. refl) (λ x. refl) (put_live i _ k.state) d;
    interrupted = λ k d.
        interrupted_after k (over k k refl (λ x. refl) (λ x. refl) (λ x h. inl h) d);
  }

may_in : (first rest : Bool) (one other : Outcome)
    → (if first then None else Some (if rest then one else other)) ≡ None → first ≡ true
may_in true rest one other e = refl
may_in false rest one other e = let n : Some (if rest then one else other) ≡ None = e in cc

may_act : (finished spent : Bool) (queue : List ℕ) (i : ℕ)
    → (if finished then Some outcome.Halted else (if spent then Some outcome.Spent else kept_back queue i)) ≡
    None
    → (queue ≡ []) ⊎ (is_first i queue ≡ true)
may_act true spent queue i e = let n : Some outcome.Halted ≡ None = e in cc
may_act false true queue i e = let n : Some outcome.Spent ≡ None = e in cc
may_act false false [] i e = inl refl
may_act false false (head ∷ rest) i e = inr (may_in (is_first i (head ∷ rest)) (waits_in rest i) _ _ e)

-- while the stop queue is not empty, only its head has a turn that is not idle
pub may_go_on : (m : Setting) (i : ℕ) (k : Kept) → k_idle m k i ≡ None
    → (k.state.queue ≡ []) ⊎ (is_first i k.state.queue ≡ true)
unfolding k_idle
may_go_on m i k e = may_act (kept_finished k i) (is_spent m.limits (k.state.numbers i)) k.state.queue i e

pub turn_begins : (m : Setting) (i : ℕ) (k : Kept) → k_idle m k i ≡ None → Between m k
    → During m i (with_state (with_event (event.Turn i) (counting_turn i k.state)) k)
turn_begins m i k e b =
    let may = may_go_on m i k e in
    let d : During m i k = record {
      parms = b.parms;
      is = turning_begun m.image.parms.stop (aborts_of k) k.state.queue (is_live k.state) b.is i may;
    } in
    still m i k _ refl (λ x. refl) (λ x. refl) (same_live i _ k.state refl) d

pub happened : (m : Setting) (e : Event) (k : Kept) → 0 < m.image.parms.stop → Between m k
    → Between m (k_happen m e k).kept
unfolding k_happen
happened m (event.Turn i) k some b =
    in_a_turn m i (During m i) (Refused m i) (Between m) (walked m i some) k (λ o e. b)
    (λ e. turn_begins m i k e b)
happened m (event.External i) k some b =
    interrupted_after m i (with_state (with_event (event.External i) k.state) k)
    (record { parms = b.parms; is = b.is })

all_happened : (m : Setting) (events : List Event) (k : Kept) → 0 < m.image.parms.stop → Between m k
    → Between m (keeping_from m events k)
unfolding keeping_from
all_happened m [] k some b = b
all_happened m (e ∷ rest) k some b = all_happened m rest (k_happen m e k).kept some (happened m e k some b)

pub between_first : (m : Setting) → 0 < m.image.parms.stop → Between m (kept_beginning m)
unfolding kept_beginning Once
between_first m some = record {
  parms = λ x. refl;
  is = record {
    counted = record {
      few = λ x. omega arith;
      queued = λ x in_it. let n : false ≡ true = in_it in cc;
      at_stop = λ x full. absurd (omega arith);
      once = tt;
    };
    behind = λ x in_it live. let n : false ≡ true = in_it in cc;
  };
}

pub between : (m : Setting) (events : List Event) → 0 < m.image.parms.stop → Between m (keeping m events)
between m events some = all_happened m events (kept_beginning m) some (between_first m some)

pub some_stop : (m : Setting) → IsSetting m → 0 < m.image.parms.stop
some_stop m s = let least = s.image.allowed.stop.0 in omega arith
