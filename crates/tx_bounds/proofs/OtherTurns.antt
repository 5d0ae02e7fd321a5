-- What aborts, turns of other CPUs and interruptions of them leave of a CPU in the middle of a constrained
-- transaction.
use Rattle.std.proofs.Common.{◌≡◌, ◌≢◌, ℕ, ◌+◌, ◌<◌, ◌≤◌, Bool, true, false, Some, None}
use Rattle.std.proofs.Common.{refl, sym, ap, ◌∙◌, subst, arith}
use Rattle.std.specs.Prelude.{if◌then◌else◌, ◌⊎◌, ◌&&◌, ◌==◌}
use Rattle.std.proofs.lemmas.Bool.{true≢false, cases_eq, ne_eqb}
use borrow.Enum.Arm.{by_way}
use Rattle.tx_control.specs.declared.causes.Why.{Why}
use Rattle.tx_control.specs.declared.causes.Why.TheVariants.{External, Program}
use Rattle.tx_ladder.specs.Rungs.{Standing, rejecting, descended}
use Rattle.tx_journal.specs.declared.entries.Entry.TheVariants.{Step, Commit, Abort, Tdb, Interrupt}
use Rattle.tx_progress.specs.Local.{Local, left_behind, aborted}
use Rattle.tx_meaning.specs.Limits.{Setting}
use Rattle.tx_meaning.specs.State.{Numbers, State, is_live}
use Rattle.tx_meaning.specs.Stretches.{is_end_by, left_by}
use Rattle.tx_meaning.specs.Changes.{with_numbers, without_attempt, aborting}
use Rattle.tx_meaning.proofs.Walk.{at_put_kept, cause_case, conflict_on}
use Rattle.tx_keeping.specs.Kept.{Kept}
use Rattle.tx_keeping.specs.Moves.{standing_after, k_aborting, k_rejecting, k_rejected}
use Rattle.tx_keeping.specs.Turn.{k_external, k_interrupting, k_turn, k_idle, next_address}
use Rattle.tx_bounds.proofs.Resuming.{Leads}
use Rattle.tx_bounds.proofs.UnderWay.{HoldsOf, HoldsOfBelow, Amid, SameStanding, holds_same, holds_quiet}
use Rattle.tx_bounds.proofs.UnderWay.{amid_same, amid_left, abort_rung, lives, Rung}
use Rattle.tx_bounds.proofs.Paid.{left_of, left_same, live_left, dead_left, climbed}
use Rattle.tx_bounds.proofs.News.{NoEnd, Calm, same_news, one_more, abort_news, aborted_history}
use Rattle.tx_bounds.proofs.News.{standing_calm, standing_ended}
use Rattle.tx_bounds.proofs.Walk.{Walk, in_a_turn}
use Rattle.tx_serial.proofs.Entries.{at_put_other, at_put_same}

-- ---- an abort of the CPU's own attempt

pub parms_always_by : (b : Bool) (st : Standing) → (if b then descended st else st).parms ≡ st.parms
parms_always_by true st = refl
parms_always_by false st = refl

pub parms_always : (w : Why) (st : Standing) → (standing_after w st).parms ≡ st.parms
parms_always (Program e) st = parms_always_by st.constrained st
parms_always w st = refl

pub aborted_number : {B : Type 0} (f : Numbers → B) (i : ℕ) (st : Standing) (n : ℕ) (w : Why) (s : State)
    → ((v : Numbers) (d : ℕ) → f (record v { delay = d }) ≡ f v)
    → f ((aborting i st n w s).numbers i) ≡ f (record (s.numbers i) { completed = 0 })
unfolding aborting
aborted_number f i st n w s still =
    let t = without_attempt i s in
    let here : f (t.numbers i) ≡ f (record (s.numbers i) { completed = 0 }) =
    ap f (at_put_same s.numbers i (record (s.numbers i) { completed = 0 })) in
    cause_case (λ r. f (r.numbers i) ≡ f (record (s.numbers i) { completed = 0 })) i st w t here
    (λ d. ap f (at_put_same t.numbers i (record (t.numbers i) { delay = d })) ∙ still (t.numbers i) d ∙ here)
    here here

module _ (m : Setting) (c : ℕ) (k : Kept) (w : Why) (at : ℕ) where
  pub aborted_completed : ((k_aborting c w at k).state.numbers c).completed ≡ 0
  unfolding k_aborting
  aborted_completed = aborted_number (λ (v : Numbers). v.completed) c (k.standings c) _ w k.state
      (λ v d. refl)

  pub aborted_attempts : ((k_aborting c w at k).state.numbers c).attempts ≡ (k.state.numbers c).attempts
  unfolding k_aborting
  aborted_attempts = aborted_number (λ (v : Numbers). v.attempts) c (k.standings c) _ w k.state (λ v d. refl)

  pub aborted_dead : is_live (k_aborting c w at k).state c ≡ false
  aborted_dead = ap lives aborted_completed

  aborted_standing : (k_aborting c w at k).standings c ≡ standing_after w (k.standings c)
  unfolding k_aborting
  aborted_standing = at_put_same k.standings c (standing_after w (k.standings c))

  aborted_local : (k_aborting c w at k).locals c ≡ left_behind (k.locals c).cpu (k.locals c).attempt w at
  unfolding k_aborting aborted
  aborted_local = at_put_same k.locals c (left_behind (k.locals c).cpu (k.locals c).attempt w at)

  pub aborted_quiet : (most : ℕ) (busy : Bool) → HoldsOfBelow m most busy c k
      → HoldsOf m false c (k_aborting c w at k)
  aborted_quiet most busy h =
      let t = k_aborting c w at k in
      holds_quiet m (t.state.numbers c).completed (t.state.numbers c).delay (t.standings c) (t.locals c)
      (ap (λ (s : Standing). s.parms) aborted_standing ∙ parms_always w (k.standings c)
      ∙ h.parms) aborted_dead

  aborted_rung : is_end_by w ≡ false → Amid m (k.state.numbers c).completed (k.state.numbers c).delay
      (k.standings c) (k.locals c) → is_live k.state c ≡ true → (k.state.numbers c).delay ≡ 0
      → (k.standings c).parms ≡ m.image.parms → Leads (k.locals c)
      → Amid m 0 ((k_aborting c w at k).state.numbers c).delay (standing_after w (k.standings c))
      (left_behind (k.locals c).cpu (k.locals c).attempt w at)
  unfolding k_aborting
  aborted_rung goes_on h live none parms leads =
      amid_left m (k.locals c) w at leads goes_on (k.state.numbers c).completed (k.state.numbers c).delay
      ((k_aborting c w at k).state.numbers c).delay (k.standings c)
      (standing_after w (k.standings c)) refl live
      none parms h (abort_rung c (k.standings c) _ w k.state goes_on)

  pub aborted_amid : (most : ℕ) (busy : Bool) → is_end_by w ≡ false → is_live k.state c ≡ true
      → Leads (k.locals c)
      → HoldsOfBelow m most busy c k → busy ≡ true
      → Amid m ((k_aborting c w at k).state.numbers c).completed ((k_aborting c w at k).state.numbers c).delay
      ((k_aborting c w at k).standings c) ((k_aborting c w at k).locals c)
  aborted_amid most busy goes_on live leads h is =
      let t = k_aborting c w at k in
      let l = left_behind (k.locals c).cpu (k.locals c).attempt w at in
      amid_same m 0 (t.state.numbers c).delay (t.state.numbers c).completed (t.state.numbers c).delay
      (standing_after w (k.standings c)) (t.standings c) l (t.locals c) (ap lives aborted_completed) refl
      (ap (λ (s : Standing). s.aborts) aborted_standing)
      (ap (λ (s : Standing). s.constrained) aborted_standing)
      (record {
        cpu = ap (λ (x : Local). x.cpu) aborted_local;
        pending = ap (λ (x : Local). x.pending) aborted_local;
        waiting = ap (λ (x : Local). x.waiting) aborted_local;
      })
      (aborted_rung goes_on (h.amid is) live (h.rests live) h.parms leads)

  pub aborted_holds : (most : ℕ) (busy : Bool) → is_end_by w ≡ false → is_live k.state c ≡ true
      → ((k.standings c).constrained ≡ true → Leads (k.locals c)) → HoldsOfBelow m most busy c k
      → HoldsOf m busy c (k_aborting c w at k)
  aborted_holds most busy goes_on live leads h =
      let t = k_aborting c w at k in
      let quiet = aborted_quiet most busy h in
      record {
        parms = quiet.parms;
        rests = quiet.rests;
        fewer = quiet.fewer;
        amid = λ is. aborted_amid most busy goes_on live (leads ((h.amid is).kind live)) h is;
      }

-- ---- what other CPUs do

-- what is kept of the CPU, where an abort would lead, how many attempts it has started, and in the middle of
-- a constrained transaction how many turns are left to it; a conflict can abort its attempt only below the
-- stop
pub record Kept_at (m : Setting) (busy : Bool) (c : ℕ) (before : State) (most : ℕ) (k : Kept) : Type 0 where
  pub holds : HoldsOf m busy c k
  pub well : is_live k.state c ≡ true → (k.standings c).constrained ≡ true → Leads (k.locals c)
  pub started : (k.state.numbers c).attempts ≡ (before.numbers c).attempts
  pub news : NoEnd c before.history k.state.history
  pub calm : busy ≡ false → Calm c k
  pub few : busy ≡ true → is_live k.state c ≡ true → (k.state.numbers c).completed ≤ 33
  pub below : busy ≡ true → is_live k.state c ≡ true → (k.standings c).aborts < m.image.parms.stop
  pub paid : busy ≡ true → left_of m c k ≤ most

pub record SameAt (c : ℕ) (k t : Kept) : Type 0 where
  pub completed : (t.state.numbers c).completed ≡ (k.state.numbers c).completed
  pub delay : (t.state.numbers c).delay ≡ (k.state.numbers c).delay
  pub started : (t.state.numbers c).attempts ≡ (k.state.numbers c).attempts
  pub standing : SameStanding (k.standings c) (t.standings c)
  pub local : t.locals c ≡ k.locals c

pub same_left : (m : Setting) (c : ℕ) (k t : Kept) → SameAt c k t → left_of m c t ≡ left_of m c k
same_left m c k t s =
    left_same m.image.parms (k.state.numbers c).completed (k.state.numbers c).delay
    (t.state.numbers c).completed
    (t.state.numbers c).delay (k.standings c) (t.standings c) s.completed s.delay s.standing

pub same_calm : (c : ℕ) (k t : Kept) → SameAt c k t → Calm c k → Calm c t
same_calm c k t s h = record {
  none = s.standing.aborts ∙ h.none;
  free = λ live. s.standing.constrained ∙ h.free (sym (ap lives s.completed) ∙ live);
}

module _ (m : Setting) (busy : Bool) (c : ℕ) (before : State) (most : ℕ) where
  pub same_holds : (k t : Kept) → SameAt c k t → HoldsOf m busy c k → HoldsOf m busy c t
  same_holds k t s h =
      holds_same m busy (k.state.numbers c).completed (k.state.numbers c).delay (t.state.numbers c).completed
      (t.state.numbers c).delay (k.standings c) (t.standings c) (k.locals c) (t.locals c)
      (ap lives s.completed) s.delay s.standing
      (record {
        cpu = ap (λ (x : Local). x.cpu) s.local;
        pending = ap (λ (x : Local). x.pending) s.local;
        waiting = ap (λ (x : Local). x.waiting) s.local;
      }) h

  pub same_kept : (k t : Kept) → SameAt c k t
      → (NoEnd c before.history k.state.history → NoEnd c before.history t.state.history)
      → Kept_at m busy c before most k → Kept_at m busy c before most t
  same_kept k t s news p = record {
    holds = same_holds k t s p.holds;
    well = λ live kind.
        subst Leads (sym s.local)
        (p.well (sym (ap lives s.completed) ∙ live) (sym s.standing.constrained ∙ kind));
    started = s.started ∙ p.started;
    news = news p.news;
    calm = λ off. same_calm c k t s (p.calm off);
    few = λ is live.
        subst (λ n. n ≤ 33) (sym s.completed) (p.few is (sym (ap lives s.completed) ∙ live));
    below = λ is live.
        subst (λ n. n < m.image.parms.stop) (sym s.standing.aborts)
        (p.below is (sym (ap lives s.completed) ∙ live));
    paid = λ is. subst (λ n. n ≤ most) (sym (same_left m c k t s)) (p.paid is);
  }

pub same_parts : (c : ℕ) (k t : Kept) → t.state.numbers c ≡ k.state.numbers c
    → t.standings c ≡ k.standings c → t.locals c ≡ k.locals c → SameAt c k t
same_parts c k t numbers standing local = record {
  completed = ap (λ (n : Numbers). n.completed) numbers;
  delay = ap (λ (n : Numbers). n.delay) numbers;
  started = ap (λ (n : Numbers). n.attempts) numbers;
  standing = record {
    parms = ap (λ (s : Standing). s.parms) standing;
    aborts = ap (λ (s : Standing). s.aborts) standing;
    constrained = ap (λ (s : Standing). s.constrained) standing;
    refused = ap (λ (s : Standing). s.requests_rejected) standing;
  };
  local = local;
}

-- a conflict does not end a transaction
pub goes_on_behind : (stored : Bool) (line : ℕ) → is_end_by (conflict_on stored line) ≡ false
goes_on_behind true line = refl
goes_on_behind false line = refl

-- a conflict aborts the CPU's attempt
pub conflict_counts : (stored : Bool) (line : ℕ) (st : Standing) → st.constrained ≡ true
    → (standing_after (conflict_on stored line) st).aborts ≡ st.aborts + 1
conflict_counts true line st kind = ap (λ b. if b then st.aborts + 1 else st.aborts) kind
conflict_counts false line st kind = ap (λ b. if b then st.aborts + 1 else st.aborts) kind

module _ (m : Setting) (c : ℕ) (k : Kept) (w : Why) (at : ℕ) (goes_on : is_end_by w ≡ false)
    (counts : (standing_after w (k.standings c)).aborts ≡ (k.standings c).aborts + 1) where
  -- behind a conflict abort
  pub conflict_left : (n r : ℕ) → (k.standings c).parms ≡ m.image.parms → (k.state.numbers c).delay ≡ 0
      → (k.standings c).aborts < m.image.parms.stop → n ≤ 33 → r < m.image.parms.starve
      → left_of m c (k_aborting c w at k) + 2
      ≤ left_by m.image.parms (k.standings c).aborts 0 n r
  unfolding k_aborting
  conflict_left n r parms none below few fewer =
      let t = k_aborting c w at k in
      let rung : Rung m.image.parms (k.standings c).aborts 0 (standing_after w (k.standings c)).aborts
      (t.state.numbers c).delay =
      subst (λ d. Rung m.image.parms (k.standings c).aborts d (standing_after w (k.standings c)).aborts
      (t.state.numbers c).delay) none
      (subst (λ p. Rung p (k.standings c).aborts (k.state.numbers c).delay
      (standing_after w (k.standings c)).aborts (t.state.numbers c).delay) parms
      (abort_rung c (k.standings c) _ w k.state goes_on)) in
      let after : left_of m c t
      ≡ left_by m.image.parms (standing_after w (k.standings c)).aborts (t.state.numbers c).delay 0 0 =
      dead_left m.image.parms (t.state.numbers c).completed (t.state.numbers c).delay (t.standings c)
      (aborted_completed m c k w at)
      ∙ ap (λ (s : Standing). left_by m.image.parms s.aborts (t.state.numbers c).delay 0 0)
      (aborted_standing m c k w at) in
      let step = climbed m.image.parms (k.standings c).aborts (standing_after w (k.standings c)).aborts
      (t.state.numbers c).delay n r rung counts below few fewer in
      omega (arith, after, step)

-- an abort leaves the CPU calm where it was
module _ (m : Setting) (c : ℕ) (k : Kept) (w : Why) (at : ℕ) where
  pub aborted_calm : is_live k.state c ≡ true → Calm c k → Calm c (k_aborting c w at k)
  aborted_calm live h = record {
    none = ap (λ (s : Standing). s.aborts) (aborted_standing m c k w at)
        ∙ standing_calm w (k.standings c) h.none (h.free live);
    free = λ alive. absurd (true≢false (sym alive ∙ aborted_dead m c k w at));
  }

  pub ended_calm : is_end_by w ≡ true → ((k.standings c).constrained ≡ true) ⊎ ((k.standings c).aborts ≡ 0)
      → Calm c (k_aborting c w at k)
  ended_calm is h = record {
    none = ap (λ (s : Standing). s.aborts) (aborted_standing m c k w at)
        ∙ standing_ended w (k.standings c) is h;
    free = λ alive. absurd (true≢false (sym alive ∙ aborted_dead m c k w at));
  }

module _ (m : Setting) (busy : Bool) (c : ℕ) (before : State) (most i : ℕ) (other : c ≢ i) where
  abbrev P : Kept → Type 0
  P = Kept_at m busy c before most

  abbrev News : State → Type 0
  News s = NoEnd c before.history s.history

  not_mine : (b : Bool) → (i == c && b) ≡ false
  not_mine b = ap (λ x. x && b) (ne_eqb i c (λ e. other (sym e)))

  abort_other : (w : Why) (at : ℕ) (k : Kept) → News k.state → News (k_aborting i w at k).state
  unfolding k_aborting
  abort_other w at k n =
      let count = (k.locals i).attempt.count in
      one_more (Abort i count w) (not_mine (is_end_by w))
      (aborted_history i (k.standings i) count w k.state) n

  numbers_elsewhere : (v : Numbers) (s : State) → (with_numbers i v s).numbers c ≡ s.numbers c
  numbers_elsewhere v s = at_put_other s.numbers i v c other

  pub aborted_elsewhere : (j : ℕ) (w : Why) (at : ℕ) (k : Kept) → c ≢ j → SameAt c k (k_aborting j w at k)
  unfolding k_aborting aborting
  aborted_elsewhere j w at k ne =
      let s = k.state in
      let t = without_attempt j s in
      let here : t.numbers c ≡ s.numbers c = at_put_other s.numbers j
      (record (s.numbers j) { completed = 0 }) c ne
      in
      same_parts c k (k_aborting j w at k)
      (cause_case (λ r. r.numbers c ≡ s.numbers c) j (k.standings j) w t here
      (λ d. at_put_other t.numbers j (record (t.numbers j) { delay = d }) c ne ∙ here) here here)
      (at_put_other k.standings j _ c ne) (at_put_other k.locals j _ c ne)

  aborted_paid : (stored : Bool) (line at : ℕ) (k : Kept) → is_live k.state c ≡ true → P k → busy ≡ true
      → left_of m c (k_aborting c (conflict_on stored line) at k) ≤ most
  aborted_paid stored line at k live p is =
      let kind = (p.holds.amid is).kind live in
      let none = p.holds.rests live in
      let st = k.standings c in
      let n = (k.state.numbers c).completed in
      let r = st.requests_rejected in
      let step = conflict_left m c k (conflict_on stored line) at (goes_on_behind stored line)
      (conflict_counts stored line st kind) n r p.holds.parms none (p.below is live) (p.few is live)
      (p.holds.fewer live kind) in
      let here : left_of m c k ≡ left_by m.image.parms st.aborts 0 n r =
      live_left m.image.parms n (k.state.numbers c).delay st live
      ∙ ap (λ d. left_by m.image.parms st.aborts d n r) none in
      let paid = p.paid is in
      omega (arith, step, here, paid)

  aborted_here : (j : ℕ) (stored : Bool) (line at : ℕ) (k : Kept) → j ≡ c → is_live k.state j ≡ true
      → P k → P (k_aborting j (conflict_on stored line) at k)
  aborted_here j stored line at k e live p =
      let w = conflict_on stored line in
      let goes_on = goes_on_behind stored line in
      let lives_here : is_live k.state c ≡ true = ap (is_live k.state) (sym e) ∙ live in
      subst (λ x. P (k_aborting x w at k)) (sym e) (record {
        holds = aborted_holds m c k w at m.image.parms.starve busy goes_on lives_here
            (p.well lives_here) p.holds;
        well = λ x. absurd (true≢false (sym x ∙ aborted_dead m c k w at));
        started = aborted_attempts m c k w at ∙ p.started;
        news = abort_news c w at k goes_on p.news;
        calm = λ off. aborted_calm m c k w at lives_here (p.calm off);
        few = λ is x. absurd (true≢false (sym x ∙ aborted_dead m c k w at));
        below = λ is x. absurd (true≢false (sym x ∙ aborted_dead m c k w at));
        paid = λ is. aborted_paid stored line at k lives_here p is;
      })

  holder_aborted : (k : Kept) (j line : ℕ) (stored : Bool) (at : ℕ) → is_live k.state j ≡ true → P k
      → P (k_aborting j (conflict_on stored line) at k)
  holder_aborted k j line stored at live p =
      by_way (cases_eq j c)
      (λ e. aborted_here j stored line at k e live p)
      (λ ne. same_kept m busy c before most k _ (aborted_elsewhere j (conflict_on stored line) at k
      (λ e. ne (sym e))) (abort_news j (conflict_on stored line) at k (goes_on_behind stored line)) p)

  rejected_number : {B : Type 0} (f : Numbers → B) (k : Kept) (j : ℕ)
      → ((v : Numbers) (g : ℕ) → f (record v { given = g }) ≡ f v)
      → f ((k_rejected i (k_rejecting j k)).state.numbers c) ≡ f (k.state.numbers c)
  rejected_number f k j still =
      ap f (at_put_other (k_rejecting j k).state.numbers i _ c other)
      ∙ at_put_kept f k.state.numbers j _ (still (k.state.numbers j) _) c

  rejected_standing : {B : Type 0} (f : Standing → B) (k : Kept) (j : ℕ)
      → f (rejecting (k.standings j)) ≡ f (k.standings j)
      → f ((k_rejected i (k_rejecting j k)).standings c) ≡ f (k.standings c)
  rejected_standing f k j still =
      ap f (at_put_other (k_rejecting j k).standings i _ c other)
      ∙ at_put_kept f k.standings j (rejecting (k.standings j)) still c

  rejected_elsewhere : (k : Kept) (j : ℕ) → SameAt c k (k_rejected i (k_rejecting j k))
  rejected_elsewhere k j = record {
    completed = rejected_number (λ (v : Numbers). v.completed) k j (λ v g. refl);
    delay = rejected_number (λ (v : Numbers). v.delay) k j (λ v g. refl);
    started = rejected_number (λ (v : Numbers). v.attempts) k j (λ v g. refl);
    standing = record {
      parms = rejected_standing (λ (s : Standing). s.parms) k j refl;
      aborts = rejected_standing (λ (s : Standing). s.aborts) k j refl;
      constrained = rejected_standing (λ (s : Standing). s.constrained) k j refl;
      refused = rejected_standing (λ (s : Standing). s.requests_rejected) k j refl;
    };
    local = refl;
  }

  -- tables that change at the other CPU alone
  elsewhere : (k t : Kept) → t.state.numbers c ≡ k.state.numbers c → t.standings c ≡ k.standings c
      → t.locals c ≡ k.locals c → (News k.state → News t.state) → P k → P t
  elsewhere k t numbers standing local news p =
      same_kept m busy c before most k t (same_parts c k t numbers standing local) news p

  interrupted_by : (k : Kept) (live : Bool) → SameAt c k (k_interrupting live i k).kept
  interrupted_by k true =
      let s = aborted_elsewhere i External (next_address k i) k other in
      record {
        completed = s.completed;
        delay = s.delay;
        started = s.started;
        standing = s.standing;
        local = s.local;
      }
  interrupted_by k false = same_parts c k _ refl refl refl

  -- another CPU is interrupted from outside
  pub interrupted_elsewhere : (k : Kept) → SameAt c k (k_external i k).kept
  unfolding k_external
  interrupted_elsewhere k = interrupted_by k (is_live k.state i)

  interrupted_news_by : (k : Kept) (live : Bool) → News k.state → News (k_interrupting live i k).kept.state
  interrupted_news_by k true n = same_news refl (abort_other External (next_address k i) k n)
  interrupted_news_by k false n = same_news refl n

  pub interrupted_news : (k : Kept) → News k.state → News (k_external i k).kept.state
  unfolding k_external
  interrupted_news k n = interrupted_news_by k (is_live k.state i) n

  walked : Walk m i P P P
  walked = record {
    asking = record {
      asks = λ k p. elsewhere k _ (numbers_elsewhere _ k.state) refl refl (λ n. same_news refl n) p;
      holds = λ k held p. elsewhere k _ refl refl refl (λ n. same_news refl n) p;
      rejects = λ k j ne live head p.
          same_kept m busy c before most k _ (rejected_elsewhere k j) (λ n. same_news refl n) p;
      aborts = λ k j line stored at ne live p. holder_aborted k j line stored at live p;
    };
    refused = λ k p. p;
    starved = λ k at live p.
        same_kept m busy c before most k _ (aborted_elsewhere i _ at k other) (abort_other _ at k) p;
    nothing = λ k p. p;
    leaves = λ k after p.
        elsewhere k _ refl refl (at_put_other k.locals i _ c other) (λ n. same_news refl n) p;
    ends = λ k w at own p.
        same_kept m busy c before most k _ (aborted_elsewhere i w at k other) (abort_other w at k) p;
    steps = λ k after p.
        elsewhere k _ refl refl (at_put_other k.locals i _ c other) (λ n. one_more (Step i) refl refl n) p;
    pauses = λ k after turns p.
        elsewhere k _ (numbers_elsewhere _ k.state) refl (at_put_other k.locals i _ c other)
        (λ n. one_more (Step i) refl refl n) p;
    stores = λ k p.
        elsewhere k _ refl refl (at_put_other k.locals i _ c other) (λ n. one_more (Tdb i) refl refl n) p;
    takes = λ k p.
        elsewhere k _ refl refl (at_put_other k.locals i _ c other) (λ n. one_more (Interrupt i) refl refl n) p;
    starts = λ k after live p.
        elsewhere k _ (numbers_elsewhere _ k.state) (at_put_other k.standings i _ c other)
        (at_put_other k.locals i _ c other) (λ n. same_news refl n) p;
    continues = λ k after live p.
        elsewhere k _ (numbers_elsewhere _ k.state) refl (at_put_other k.locals i _ c other)
        (λ n. same_news refl n) p;
    commits = λ k n after live p.
        elsewhere k _ (numbers_elsewhere _ k.state) (at_put_other k.standings i _ c other)
        (at_put_other k.locals i _ c other)
        (λ h. one_more (Commit i n) (ne_eqb i c (λ e. other (sym e))) refl h) p;
    waits = λ k p. elsewhere k _ (numbers_elsewhere _ k.state) refl refl (λ n. same_news refl n) p;
    interrupted = λ k p.
        same_kept m busy c before most k _ (interrupted_elsewhere k) (interrupted_news k) p;
  }

  pub other_turn : (k : Kept) → k_idle m k i ≡ None → P k → P (k_turn m i k).kept
  other_turn k ready p =
      in_a_turn m i P P P walked k (λ o e. let n : None ≡ Some o = sym ready ∙ e in absurd (cc))
      (λ e. elsewhere k _ (numbers_elsewhere _ k.state) refl refl (λ n. same_news refl n) p)
