-- A CPU's own turn, and an interruption of it, in the middle of a constrained transaction or outside one.
use Rattle.std.proofs.Common.{◌≡◌, ◌≢◌, ℕ, ◌+◌, ◌<◌, ◌≤◌, Bool, true, false, List, [], ◌∷◌, ◌++◌, length}
use Rattle.std.proofs.Common.{drop}
use Rattle.std.proofs.Common.{Option, Some, None, refl, sym, ap, ◌∙◌, subst, arith, inl, inr}
use Rattle.std.specs.Prelude.{◌⊎◌, if◌then◌else◌, nat_lt, min, ◌-◌, ◌^◌, ◌&&◌, ◌||◌, ◌==◌}
use Rattle.std.specs.List.{list_any}
use Rattle.std.proofs.lemmas.Bool.{true≢false, ltb-true, or_left, or_right, eq-eqb, and_from, eqb-false}
use Rattle.std.proofs.lemmas.Bool.{cases_lt, cases_Bool}
use borrow.Enum.Arm.{by_way}
use Rattle.std.proofs.lemmas.List.{drop-append-le}
use Rattle.std.proofs.lemmas.List.Folds.{list_any-append}
use Rattle.tx_control.specs.declared.causes.Why.{Why}
use Rattle.tx_control.specs.declared.causes.Why.TheVariants.{Starved}
use Rattle.tx_ladder.specs.Rungs.{Standing, rejected, is_starved, next_rung}
use Rattle.tx_ladder.specs.declared.ladder.Next.{Next}
use Rattle.tx_ladder.specs.declared.ladder.Next.TheVariants.{Plain, Delay, Queue}
use Rattle.tx_journal.specs.declared.entries.Entry.{Entry}
use Rattle.tx_journal.specs.declared.entries.Entry.TheVariants.{Abort}
use Rattle.tx_progress.specs.Local.{Local}
use Rattle.tx_progress.specs.Progress.{Progress, advanced}
use Rattle.tx_progress.specs.Progress as progress
use Rattle.tx_meaning.specs.declared.asking.Need.{Need}
use Rattle.tx_meaning.specs.declared.asking.Reject.{Reject}
use Rattle.tx_meaning.specs.Limits.{Setting}
use Rattle.tx_meaning.specs.State.{Numbers, State, is_live, is_head}
use Rattle.tx_meaning.specs.Stretches.{is_end_by, is_end_of, ends_transaction, left_by, bound}
use Rattle.tx_meaning.specs.Changes.{with_numbers, without_attempt, aborting, on_rung}
use Rattle.tx_meaning.proofs.Walk.{at_put_kept, conflict_on}
use Rattle.tx_keeping.specs.Kept.{Kept, with_state}
use Rattle.tx_keeping.specs.Moves.{k_aborting, k_rejected, k_rejecting, standing_after}
use Rattle.tx_keeping.specs.Asking.{k_get_lines}
use Rattle.tx_keeping.specs.Turn.{KTurned, k_ends_by, next_address, k_refused_turn, k_once_given}
use Rattle.tx_keeping.specs.Turn.{k_with_lines}
use Rattle.tx_bounds.proofs.Resuming.{Resumes, Leads, leads}
use Rattle.tx_bounds.proofs.UnderWay.{HoldsOf, HoldsOfBelow, AmidOf, lives, holds_less}
use Rattle.tx_bounds.proofs.UnderWay.{amid_same}
use Rattle.tx_bounds.proofs.News.{NoEnd, Calm, Settles, settles_on, settles_calm, same_news, abort_news}
use Rattle.tx_bounds.proofs.News.{grown}
use Rattle.tx_bounds.proofs.News.{aborted_history}
use Rattle.tx_bounds.proofs.OtherTurns.{aborted_attempts, same_left, conflict_left, same_calm}
use Rattle.tx_bounds.proofs.OtherTurns.{goes_on_behind, aborted_calm, ended_calm}
use Rattle.tx_bounds.proofs.OtherTurns.{aborted_quiet, aborted_holds, SameAt, same_parts}
use Rattle.tx_bounds.proofs.OtherTurns.{same_holds, aborted_elsewhere}
use Rattle.tx_bounds.proofs.Paid.{left_of, left_now, left_refused, live_left}
use Rattle.tx_bounds.proofs.Stopping.{first_joined}
use Rattle.tx_bounds.proofs.Walk.{Asks, lines_got, Behind}
use Rattle.tx_serial.proofs.Entries.{at_put_other, at_put_same}

not_more : {A : Type 0} (a b : ℕ) → b ≡ a → nat_lt a b ≡ true → A
not_more a b e h = let less = ltb-true a b h in absurd (omega (arith, e, less))

pub ends_last : (c : ℕ) (h t : List Entry) (e : Entry) → length h ≤ length t → is_end_of c e ≡ true
    → list_any (is_end_of c) (drop (length h) (t ++ e ∷ [])) ≡ true
ends_last c h t e le is =
    ap (list_any (is_end_of c)) (drop-append-le (length h) t (e ∷ []) le)
    ∙ list_any-append (is_end_of c) (drop (length h) t) (e ∷ [])
    ∙ or_right (list_any (is_end_of c) (drop (length h) t)) (is_end_of c e || false)
    (or_left (is_end_of c e) false is)

-- the head of the queue stays where others join it
rung_first : (i : ℕ) (next : Next) (s : State) (c : ℕ) → is_head s c ≡ true
    → is_head (on_rung i next s) c ≡ true
rung_first i Plain s c h = h
rung_first i (Delay turns) s c h = h
rung_first i Queue s c h = first_joined s.queue i c h

-- a transaction is under way, and with what its turn costs no more is left to it than this
pub record Continues (m : Setting) (c cost most : ℕ) (t : Kept) : Type 0 where
  pub amid : AmidOf m c t
  pub paid : left_of m c t + cost ≤ most

-- what an event leaves of the CPU: where a transaction was under way, it has ended or goes on; where none
-- was, one is under way once a constrained attempt has started
pub record After (m : Setting) (c : ℕ) (busy : Bool) (cost most : ℕ) (before : State)
    (t : Kept) : Type 0 where
  pub holds : HoldsOf m false c t
  pub ends : busy ≡ true → (ends_transaction before t.state c ≡ true) ⊎ Continues m c cost most t
  pub starts : busy ≡ false → nat_lt (before.numbers c).attempts (t.state.numbers c).attempts ≡ true
      → is_live t.state c ≡ true → (t.standings c).constrained ≡ true
      → Continues m c 1 (bound m.image.parms) t
  pub settles : Settles c busy before t

-- in the turn, while the CPU asks
pub record Own (m : Setting) (c : ℕ) (busy : Bool) (most : ℕ) (before : State) (l : Local)
    (u : Kept) : Type 0 where
  pub holds : HoldsOf m busy c u
  pub well : is_live u.state c ≡ true → (u.standings c).constrained ≡ true → Resumes (u.locals c)
  pub news : NoEnd c before.history u.state.history
  pub calm : busy ≡ false → Calm c u
  pub started : (u.state.numbers c).attempts ≡ (before.numbers c).attempts
  pub rests : (u.state.numbers c).delay ≡ 0
  pub local : u.locals c ≡ l
  pub live : is_live u.state c ≡ progress.is_live (u.locals c).attempt
  pub counted : (u.state.numbers c).completed ≡ l.attempt.count
  pub first : m.image.parms.stop ≤ (u.standings c).aborts → is_head u.state c ≡ true
  pub paid : busy ≡ true → left_of m c u ≤ most

-- behind a reject, which the head of the queue never gets
pub record Rejected (m : Setting) (c : ℕ) (busy : Bool) (most : ℕ) (before : State) (l : Local) (u : Kept)
    : Type 0 where
  pub mid : Kept
  pub own : Own m c busy most before l mid
  pub other : is_head mid.state c ≡ false
  pub is : u ≡ k_rejected c mid

-- what is known of the attempt of a constrained transaction in the turn
pub record Attempted (busy : Bool) (l : Local) : Type 0 where
  pub few : busy ≡ true → l.attempt.count ≤ 33
  pub alive : busy ≡ true → progress.is_live l.attempt ≡ true

module _ (m : Setting) (c : ℕ) (busy : Bool) (cost most : ℕ) (before : State) where
  pub stays : (t : Kept) → HoldsOf m busy c t
      → (t.state.numbers c).attempts ≡ (before.numbers c).attempts
      → (busy ≡ true → left_of m c t + cost ≤ most) → NoEnd c before.history t.state.history
      → (busy ≡ false → Calm c t) → After m c busy cost most before t
  stays t h same paid news calm = record {
    holds = holds_less m busy (t.state.numbers c).completed (t.state.numbers c).delay (t.standings c)
        (t.locals c)
        h;
    ends = λ is. inr (record { amid = h.amid is; paid = paid is });
    starts = λ is more. not_more (before.numbers c).attempts (t.state.numbers c).attempts same more;
    settles = settles_on c busy before t news calm;
  }

  pub plain : (t : Kept) → (busy ≡ true → ⊥) → HoldsOf m false c t
      → (t.state.numbers c).attempts ≡ (before.numbers c).attempts → (busy ≡ false → Calm c t)
      → After m c busy cost most before t
  plain t never h same calm = record {
    holds = h;
    ends = λ is. absurd (never is);
    starts = λ is more. not_more (before.numbers c).attempts (t.state.numbers c).attempts same more;
    settles = settles_calm c busy before t
        (by_way (cases_Bool busy) (λ is. absurd (never is)) (λ off. calm off));
  }

  pub over : (t : Kept) → ends_transaction before t.state c ≡ true → HoldsOf m false c t
      → (t.state.numbers c).attempts ≡ (before.numbers c).attempts → Calm c t
      → After m c busy cost most before t
  over t ends h same calm = record {
    holds = h;
    ends = λ is. inl ends;
    starts = λ is more. not_more (before.numbers c).attempts (t.state.numbers c).attempts same more;
    settles = settles_calm c busy before t calm;
  }

  -- ---- the CPU's attempt is aborted

  ends_by_abort : (u : Kept) (w : Why) (at : ℕ) → length before.history ≤ length u.state.history
      → is_end_by w ≡ true → ends_transaction before (k_aborting c w at u).state c ≡ true
  unfolding k_aborting
  ends_by_abort u w at longer is =
      let n = (u.locals c).attempt.count in
      ap (λ h. list_any (is_end_of c) (drop (length before.history) h))
      (aborted_history c (u.standings c) n w u.state)
      ∙ ends_last c before.history u.state.history (Abort c n w) longer
      (and_from (c == c) (is_end_by w) (eq-eqb c c refl) is)

  -- the attempt that ends was constrained, or no conflict abort is counted
  pub known_kind : (u : Kept) → (busy ≡ true → (u.standings c).constrained ≡ true) → (busy ≡ false → Calm c u)
      → ((u.standings c).constrained ≡ true) ⊎ ((u.standings c).aborts ≡ 0)
  known_kind u kind calm = by_way (cases_Bool busy) (λ is. inl (kind is)) (λ off. inr (calm off).none)

  own_abort_by : (fewest : ℕ) (u : Kept) (w : Why) (at : ℕ) (ends : Bool) → is_end_by w ≡ ends
      → is_live u.state c ≡ true → HoldsOfBelow m fewest busy c u
      → ((u.standings c).constrained ≡ true → Leads (u.locals c))
      → NoEnd c before.history u.state.history → (busy ≡ false → Calm c u)
      → (u.state.numbers c).attempts ≡ (before.numbers c).attempts
      → (busy ≡ true → is_end_by w ≡ false → left_of m c (k_aborting c w at u) + cost ≤ most)
      → After m c busy cost most before (k_aborting c w at u)
  own_abort_by fewest u w at true e live h well news calm same paid =
      over (k_aborting c w at u) (ends_by_abort u w at (grown news) e)
      (aborted_quiet m c u w at fewest busy h)
      (aborted_attempts m c u w at ∙ same)
      (ended_calm m c u w at e (known_kind u (λ is. (h.amid is).kind live) calm))
  own_abort_by fewest u w at false e live h well news calm same paid =
      stays (k_aborting c w at u) (aborted_holds m c u w at fewest busy e live well h)
      (aborted_attempts m c u w at ∙ same) (λ is. paid is e) (abort_news c w at u e news)
      (λ off. aborted_calm m c u w at live (calm off))

  pub own_abort : (fewest : ℕ) (u : Kept) (w : Why) (at : ℕ) → is_live u.state c ≡ true
      → HoldsOfBelow m fewest busy c u
      → ((u.standings c).constrained ≡ true → Leads (u.locals c))
      → NoEnd c before.history u.state.history → (busy ≡ false → Calm c u)
      → (u.state.numbers c).attempts ≡ (before.numbers c).attempts
      → (busy ≡ true → is_end_by w ≡ false → left_of m c (k_aborting c w at u) + cost ≤ most)
      → After m c busy cost most before (k_aborting c w at u)
  own_abort fewest u w at live h well news calm same paid =
      own_abort_by fewest u w at (is_end_by w) refl live h well news calm same paid

-- ---- questions

module _ (m : Setting) (c : ℕ) (busy : Bool) (most : ℕ) (before : State) where
  module _ (l : Local) where
    abbrev P : Kept → Type 0
    P = Own m c busy most before l

    abbrev F : Kept → Type 0
    F = After m c busy 1 most before

    abbrev News : State → Type 0
    News s = NoEnd c before.history s.history

    pub own_same : (u t : Kept) → SameAt c u t → (News u.state → News t.state)
        → (is_head u.state c ≡ true → is_head t.state c ≡ true) → P u → P t
    own_same u t s news first p = record {
      holds = same_holds m busy c before most u t s p.holds;
      well = λ live kind.
          subst Resumes (sym s.local)
          (p.well (sym (ap lives s.completed) ∙ live) (sym s.standing.constrained ∙ kind));
      news = news p.news;
      calm = λ off. same_calm c u t s (p.calm off);
      started = s.started ∙ p.started;
      rests = s.delay ∙ p.rests;
      local = s.local ∙ p.local;
      live = ap lives s.completed ∙ p.live ∙ ap (λ (x : Local). progress.is_live x.attempt) (sym s.local);
      counted = s.completed ∙ p.counted;
      first = λ full. first (p.first (subst (λ n. m.image.parms.stop ≤ n) s.standing.aborts full));
      paid = λ is. subst (λ n. n ≤ most) (sym (same_left m c u t s)) (p.paid is);
    }

    pub own_parts : (u t : Kept) → t.state.numbers c ≡ u.state.numbers c → t.standings c ≡ u.standings c
        → t.locals c ≡ u.locals c → (News u.state → News t.state)
        → (is_head u.state c ≡ true → is_head t.state c ≡ true) → P u → P t
    own_parts u t numbers standing local news first p =
        own_same u t (same_parts c u t numbers standing local) news first p

    pub own_number : (u : Kept) (v : Numbers) → v.completed ≡ (u.state.numbers c).completed
        → v.delay ≡ (u.state.numbers c).delay → v.attempts ≡ (u.state.numbers c).attempts → P u
        → P (with_state (with_numbers c v u.state) u)
    own_number u v completed delay started p =
        let now = at_put_same u.state.numbers c v in
        own_same u (with_state (with_numbers c v u.state) u) (record {
          completed = ap (λ (n : Numbers). n.completed) now ∙ completed;
          delay = ap (λ (n : Numbers). n.delay) now ∙ delay;
          started = ap (λ (n : Numbers). n.attempts) now ∙ started;
          standing = record { parms = refl; aborts = refl; constrained = refl; refused = refl };
          local = refl;
        }) (λ n. same_news refl n) (λ h. h) p

    first_behind : (j line : ℕ) (stored : Bool) (at : ℕ) (u : Kept) → is_head u.state c ≡ true
        → is_head (k_aborting j (conflict_on stored line) at u).state c ≡ true
    unfolding k_aborting aborting
    first_behind j line true at u h =
        rung_first j (next_rung (u.standings j)) (without_attempt j u.state) c h
    first_behind j line false at u h =
        rung_first j (next_rung (u.standings j)) (without_attempt j u.state) c h

    holder_rejects : (u : Kept) (j : ℕ) → j ≢ c → P u → P (k_rejecting j u)
    holder_rejects u j ne p =
        let other : c ≢ j = λ e. ne (sym e) in
        own_parts u (k_rejecting j u) (at_put_other u.state.numbers j _ c other)
        (at_put_other u.standings j _ c other)
        refl (λ n. same_news refl n) (λ h. h) p

    own_asks : Asks c P (Rejected m c busy most before l)
    own_asks = record {
      asks = λ u p. own_number u _ refl refl refl p;
      holds = λ u held p. own_parts u _ refl refl refl (λ n. same_news refl n) (λ h. h) p;
      rejects = λ u j ne live head p. record {
        mid = k_rejecting j u;
        own = holder_rejects u j ne p;
        other = head;
        is = refl;
      };
      aborts = λ u j line stored at ne live p.
          own_same u _ (aborted_elsewhere m busy c before 0 j (λ e. ne (sym e)) j _ at u (λ e. ne (sym e)))
          (abort_news j _ at u (goes_on_behind stored line)) (first_behind j line stored at u) p;
    }

    -- ---- a reject

    rejected_number : {B : Type 0} (f : Numbers → B) (u : Kept)
        → ((v : Numbers) (a b : ℕ) → f (record v { rejected = a; refused = b }) ≡ f v)
        → f ((k_rejected c u).state.numbers c) ≡ f (u.state.numbers c)
    rejected_number f u still =
        at_put_kept f u.state.numbers c _ (still (u.state.numbers c) _ _) c

    rejected_kept : {B : Type 0} (f : Standing → B) (u : Kept) (b : Bool)
        → f (rejected (u.standings c)) ≡ f (u.standings c)
        → f (if b then rejected (u.standings c) else u.standings c) ≡ f (u.standings c)
    rejected_kept f u true same = same
    rejected_kept f u false same = refl

    rejected_standing : {B : Type 0} (f : Standing → B) (u : Kept)
        → f (rejected (u.standings c)) ≡ f (u.standings c)
        → f ((k_rejected c u).standings c) ≡ f (u.standings c)
    rejected_standing f u same =
        ap f (at_put_same u.standings c _) ∙ rejected_kept f u (is_live u.state c) same

    refused_now : (u : Kept) → is_live u.state c ≡ true
        → ((k_rejected c u).standings c).requests_rejected ≡ (rejected (u.standings c)).requests_rejected
    refused_now u live =
        ap (λ (s : Standing). s.requests_rejected) (at_put_same u.standings c _)
        ∙ ap (λ b. (if b then rejected (u.standings c) else u.standings c).requests_rejected) live

    rejected_amid : (u : Kept) → P u → busy ≡ true → AmidOf m c (k_rejected c u)
    rejected_amid u p is =
        let t = k_rejected c u in
        amid_same m (u.state.numbers c).completed (u.state.numbers c).delay (t.state.numbers c).completed
        (t.state.numbers c).delay (u.standings c) (t.standings c) (u.locals c) (t.locals c)
        (ap lives (rejected_number (λ (v : Numbers). v.completed) u (λ v a b. refl)))
        (rejected_number (λ (v : Numbers). v.delay) u (λ v a b. refl))
        (rejected_standing (λ (s : Standing). s.aborts) u refl)
        (rejected_standing (λ (s : Standing). s.constrained) u refl)
        (record { cpu = refl; pending = refl; waiting = refl }) (p.holds.amid is)

    live_there : (u : Kept) → is_live (k_rejected c u).state c ≡ is_live u.state c
    live_there u = ap lives (rejected_number (λ (v : Numbers). v.completed) u (λ v a b. refl))

    -- one more request was rejected
    rejected_holds : (fewest : ℕ) (u : Kept) → P u
        → (is_live u.state c ≡ true → (u.standings c).constrained ≡ true
        → (rejected (u.standings c)).requests_rejected < fewest)
        → HoldsOfBelow m fewest busy c (k_rejected c u)
    rejected_holds fewest u p fewer = record {
      parms = rejected_standing (λ (s : Standing). s.parms) u refl ∙ p.holds.parms;
      rests = λ live. rejected_number (λ (v : Numbers). v.delay) u (λ v a b. refl) ∙ p.rests;
      fewer = λ live kind.
          let now : is_live u.state c ≡ true = sym (live_there u) ∙ live in
          subst (λ x. x < fewest) (sym (refused_now u now))
          (fewer now (sym (rejected_standing (λ (s : Standing). s.constrained) u refl) ∙ kind));
      amid = λ is. rejected_amid u p is;
    }

    one_more : (r starve : ℕ) → r < starve → min (r + 1) (2 ^ 32 - 1) < starve + 1
    one_more r starve less = omega arith

    starves : (u : Kept) → P u → HoldsOfBelow m (m.image.parms.starve + 1) busy c (k_rejected c u)
    starves u p =
        rejected_holds (m.image.parms.starve + 1) u p
        (λ live kind. one_more (u.standings c).requests_rejected m.image.parms.starve
        (p.holds.fewer live kind))

    not_starved : (r starve : ℕ) (b : Bool) → b ≡ true → (b && (r == starve)) ≡ false → r < starve + 1
        → r < starve
    not_starved r starve true is h less =
        let ne = eqb-false r starve h in omega (arith, ne)
    not_starved r starve false is h less = absurd (true≢false (sym is))

    survives : (u : Kept) → P u
        → (is_live (k_rejected c u).state c && is_starved ((k_rejected c u).standings c)) ≡ false
        → HoldsOf m busy c (k_rejected c u)
    survives u p fine =
        let t = k_rejected c u in
        let h = starves u p in
        record {
          parms = h.parms;
          rests = h.rests;
          fewer = λ live kind.
              not_starved (t.standings c).requests_rejected m.image.parms.starve
              (t.standings c).constrained kind
              (sym (ap (λ b. b && is_starved (t.standings c)) live
              ∙ ap (λ p. (t.standings c).constrained && ((t.standings c).requests_rejected == p.starve))
              h.parms)
              ∙ fine)
              (h.fewer live kind);
          amid = h.amid;
        }

    rejected_leads : (u : Kept) → P u → is_live (k_rejected c u).state c ≡ true
        → ((k_rejected c u).standings c).constrained ≡ true → Leads ((k_rejected c u).locals c)
    rejected_leads u p live kind =
        leads (u.locals c) (p.well (sym (live_there u) ∙ live)
        (sym (rejected_standing (λ (s : Standing). s.constrained) u refl) ∙ kind))

    rejected_calm : (u : Kept) → P u → busy ≡ false → Calm c (k_rejected c u)
    rejected_calm u p off =
        let calm = p.calm off in
        record {
          none = rejected_standing (λ (s : Standing). s.aborts) u refl ∙ calm.none;
          free = λ live.
              rejected_standing (λ (s : Standing). s.constrained) u refl
              ∙ calm.free (sym (live_there u) ∙ live);
        }

    -- ---- what is left behind a reject

    one_refused : (r starve : ℕ) → r < starve → starve ≤ 2 ^ 32 - 1 → min (r + 1) (2 ^ 32 - 1) ≡ r + 1
    one_refused r starve less most = omega arith

    module _ (small : m.image.parms.starve ≤ 2 ^ 32 - 1) (a : Attempted busy l) where
      below_stop : (u : Kept) → P u → is_head u.state c ≡ false → (u.standings c).aborts < m.image.parms.stop
      below_stop u p other =
          by_way (cases_lt (u.standings c).aborts m.image.parms.stop) (λ less. less)
          (λ full. absurd (true≢false (sym (p.first full) ∙ other)))

      alive_now : (u : Kept) → P u → busy ≡ true → is_live u.state c ≡ true
      alive_now u p is =
          p.live ∙ ap (λ (x : Local). progress.is_live x.attempt) p.local ∙ a.alive is

      few_now : (u : Kept) → P u → busy ≡ true → (u.state.numbers c).completed ≤ 33
      few_now u p is = subst (λ n. n ≤ 33) (sym p.counted) (a.few is)

      rejected_paid : (u : Kept) → P u → is_head u.state c ≡ false → busy ≡ true
          → left_of m c (k_rejected c u) + 1 ≤ most
      rejected_paid u p other is =
          let t = k_rejected c u in
          let n = (u.state.numbers c).completed in
          let d = (u.state.numbers c).delay in
          let live = alive_now u p is in
          let kind = (p.holds.amid is).kind live in
          let fewer = p.holds.fewer live kind in
          let completed = rejected_number (λ (v : Numbers). v.completed) u (λ v a b. refl) in
          let delay = rejected_number (λ (v : Numbers). v.delay) u (λ v a b. refl) in
          let aborts = rejected_standing (λ (s : Standing). s.aborts) u refl in
          let refused : (t.standings c).requests_rejected ≡ (u.standings c).requests_rejected + 1 =
          refused_now u live ∙ one_refused (u.standings c).requests_rejected m.image.parms.starve fewer small
          in
          let same : left_of m c t ≡ left_now m.image.parms n d (t.standings c) =
          (λ k. left_now m.image.parms (completed k) (delay k) (t.standings c)) in
          let step = left_refused m.image.parms n d (u.standings c) (t.standings c) live (few_now u p is)
          (below_stop u p other) aborts refused fewer in
          let paid = p.paid is in
          omega (arith, same, step, paid)

      starved_paid : (u : Kept) (at : ℕ) → P u → is_head u.state c ≡ false → busy ≡ true
          → left_of m c (k_aborting c Starved at (k_rejected c u)) + 1 ≤ most
      starved_paid u at p other is =
          let t = k_rejected c u in
          let live = alive_now u p is in
          let kind = (p.holds.amid is).kind live in
          let n = (u.state.numbers c).completed in
          let st = u.standings c in
          let aborts : (t.standings c).aborts ≡ st.aborts = rejected_standing
          (λ (s : Standing). s.aborts) u refl in
          let kept : (t.standings c).constrained ≡ true =
          rejected_standing (λ (s : Standing). s.constrained) u refl ∙ kind in
          let none : (t.state.numbers c).delay ≡ 0 =
          rejected_number (λ (v : Numbers). v.delay) u (λ v a b. refl) ∙ p.rests in
          let counts : (standing_after Starved (t.standings c)).aborts ≡ (t.standings c).aborts + 1 =
          ap (λ b. if b then (t.standings c).aborts + 1 else (t.standings c).aborts) kept in
          let below : (t.standings c).aborts < m.image.parms.stop =
          subst (λ x. x < m.image.parms.stop) (sym aborts) (below_stop u p other) in
          let step = conflict_left m c t Starved at refl counts n st.requests_rejected
          (rejected_standing (λ (s : Standing). s.parms) u refl ∙ p.holds.parms) none below (few_now u p is)
          (p.holds.fewer live kind) in
          let here : left_of m c u ≡ left_by m.image.parms (t.standings c).aborts 0 n st.requests_rejected =
          live_left m.image.parms n (u.state.numbers c).delay st live
          ∙ (λ k. left_by m.image.parms (sym aborts k) (p.rests k) n st.requests_rejected) in
          let paid = p.paid is in
          omega (arith, step, here, paid)

      turned_by : (u : Kept) (r : Reject) (live starved : Bool) → P u → is_head u.state c ≡ false
          → is_live (k_rejected c u).state c ≡ live → is_starved ((k_rejected c u).standings c) ≡ starved
          → F (k_refused_turn (live && starved) c r (k_rejected c u)).kept
      unfolding k_ends_by
      turned_by u r true true p other live starved =
          let t = k_rejected c u in
          own_abort m c busy 1 most before (m.image.parms.starve + 1) t Starved (next_address t c) live
          (starves u p) (rejected_leads u p live) (same_news refl p.news) (rejected_calm u p)
          (rejected_number (λ (v : Numbers). v.attempts) u (λ v a b. refl) ∙ p.started)
          (λ is goes. starved_paid u (next_address t c) p other is)
      turned_by u r false starved p other live e =
          stays m c busy 1 most before (k_rejected c u)
          (survives u p (ap (λ b. b && is_starved ((k_rejected c u).standings c)) live))
          (rejected_number (λ (v : Numbers). v.attempts) u (λ v a b. refl) ∙ p.started)
          (rejected_paid u p other) (same_news refl p.news) (rejected_calm u p)
      turned_by u r true false p other live e =
          stays m c busy 1 most before (k_rejected c u)
          (survives u p (ap (λ b. b && is_starved ((k_rejected c u).standings c)) live ∙ e))
          (rejected_number (λ (v : Numbers). v.attempts) u (λ v a b. refl) ∙ p.started)
          (rejected_paid u p other) (same_news refl p.news) (rejected_calm u p)

      turned_away : (u : Kept) (r : Reject) → Rejected m c busy most before l u
          → F (k_refused_turn (is_live u.state c && is_starved (u.standings c)) c r u).kept
      turned_away u r q =
          subst (λ x. F (k_refused_turn (is_live x.state c
          && is_starved (x.standings c)) c r x).kept) (sym q.is)
          (turned_by q.mid r (is_live (k_rejected c q.mid).state c)
          (is_starved ((k_rejected c q.mid).standings c)) q.own q.other refl refl)

      given_own : (o : Option Reject) (u : Kept) (next : Kept → KTurned)
          → Behind P (Rejected m c busy most before l) o u
          → ((t : Kept) → P t → F (next t).kept) → F (k_once_given c o u next).kept
      given_own None u next p go = go u p
      given_own (Some r) u next q go = turned_away u r q

      pub lines_own : (needs : List Need) (u : Kept) (next : Kept → KTurned) → P u
          → ((t : Kept) → P t → F (next t).kept) → F (k_with_lines m c needs u next).kept
      lines_own needs u next p go =
          let a = k_get_lines m c needs u in
          given_own a.reject a.kept next
          (lines_got m c P (Rejected m c busy most before l) own_asks needs needs u p) go
