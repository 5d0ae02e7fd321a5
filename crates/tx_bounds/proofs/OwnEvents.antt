-- An event of a CPU itself, in the middle of a constrained transaction or outside one.
use Rattle.std.proofs.Common.{◌≡◌, ◌≢◌, ℕ, ◌+◌, ◌-◌, ◌^◌, ◌<◌, ◌≤◌, Bool, true, false, List, [], ◌∷◌}
use Rattle.std.proofs.Common.{Option, Some, None, refl, sym, ap, ◌∙◌, subst, arith, inl, inr}
use Rattle.std.specs.Prelude.{nat_lt}
use Rattle.std.proofs.lemmas.Bool.{true≢false, ltb-false, ltb-true}
use borrow.Enum.Arm.{by_way}
use Rattle.z_regs.specs.declared.ranges.Range.{Range}
use Rattle.z_regs.specs.declared.waiting.Waiting.{Waiting}
use Rattle.z_instr.specs.declared.instr.Instr.{Instr}
use Rattle.z_instr.specs.Table.{entry_at}
use Rattle.z_instr.specs.declared.operand.Demand.TheVariants.{BeginConstrained}
use Rattle.tx_control.specs.Nesting.{is_constrained}
use Rattle.tx_control.specs.declared.causes.Why.TheVariants.{External}
use Rattle.tx_ladder.specs.Rungs.{Standing}
use Rattle.tx_serial.specs.Fate.{Fate, Goes, Ends, Stops}
use Rattle.tx_serial.specs.Flat.{Pending}
use Rattle.tx_progress.specs.Local.{Local}
use Rattle.tx_progress.specs.Progress.{Progress, resting}
use Rattle.tx_progress.specs.Progress as progress
use Rattle.tx_progress.specs.Reached.{IsFollowed}
use Rattle.tx_progress.specs.Trial.{fate_by_progress}
use Rattle.tx_progress.proofs.Parts.{rests, live_follows, followed_fate}
use Rattle.tx_serial.specs.Run.{run}
use Rattle.tx_bounds.proofs.Running.{goes_without_service}
use Rattle.tx_progress.proofs.Facts.{keeps_constraints}
use Rattle.tx_progress.proofs.Quiet.{ends_live, stops_quiet}
use Rattle.tx_meaning.specs.Limits.{Setting}
use Rattle.tx_meaning.specs.Meaning.{IsSetting}
use Rattle.tx_meaning.specs.State.{Numbers, State, is_live, is_head}
use Rattle.tx_meaning.specs.Stretches.{attempt_turns, bound}
use Rattle.tx_meaning.specs.Needs.{operand_needs, block_needs, interruption_needs, needs_of}
use Rattle.tx_meaning.specs.Changes.{waiting_turn}
use Rattle.tx_keeping.specs.Kept.{Kept, kept_flat, text_of, with_state}
use Rattle.tx_meaning.specs.Changes.{aborting}
use Rattle.tx_keeping.specs.Moves.{k_aborting, k_storing, k_taking}
use Rattle.tx_keeping.specs.Turn.{k_ends_by, next_address, k_executing, k_attempting, k_acting}
use Rattle.tx_keeping.specs.Turn.{k_external, k_interrupting, k_by_rules, k_to_tail}
use Rattle.tx_keeping.specs.Asking.{k_get_each}
use Rattle.tx_keeping.proofs.Truth.{Truth, live_is, kept_is}
use Rattle.tx_bounds.proofs.AtBegin.{GoesNot, fate_at_rest, goes_now, goes_at_start, never_goes}
use Rattle.tx_serial.proofs.Passing.{goes_alike}
use Rattle.tx_bounds.proofs.News.{NoEnd, Calm, same_news}
use Rattle.tx_bounds.proofs.OtherTurns.{aborted_completed}
use Rattle.tx_bounds.proofs.OwnEnds.{goes_permitted, pifc_none, ends_the_transaction}
use Rattle.tx_bounds.proofs.Paid.{left_of, left_now, left_waited, left_outside}
use Rattle.tx_bounds.proofs.Resuming.{Resumes, leads, resumes}
use Rattle.tx_bounds.proofs.UnderWay.{HoldsOf, AmidOf, Amid, lives}
use Rattle.tx_bounds.proofs.OwnTurns.{After, Own, Continues, Attempted, stays, plain, own_abort, lines_own}
use Rattle.tx_bounds.proofs.OwnActs.{Known, Next, executes}
use Rattle.tx_serial.proofs.Entries.{at_put_same}

-- what an interruption from outside gives in addition
abbrev pub extra : Bool → ℕ → ℕ
extra true turns = turns
extra false turns = 0

same_ranges : (i j : Instr) (x y : List Range) → Goes i x ≡ Goes j y → x ≡ y
same_ranges i j x y h = cc

never_attempted : {busy : Bool} {l : Local} → (busy ≡ true → ⊥) → Attempted busy l
never_attempted never = record { few = λ is. absurd (never is); alive = λ is. absurd (never is) }

idle_attempt : {busy : Bool} {l : Local} → busy ≡ false → Attempted busy l
idle_attempt off = never_attempted (λ is. true≢false (sym is ∙ off))

module _ (m : Setting) (s : IsSetting m) (c : ℕ) (busy : Bool) (before : State) (k : Kept)
    (t : Truth m k) where
  abbrev l : Local
  l = k.locals c

  followed : IsFollowed (kept_flat m k) c l
  followed = (t.each c).followed

  well_now : is_live k.state c ≡ true → (k.standings c).constrained ≡ true → Resumes l
  well_now live kind = resumes (kept_flat m k) c l followed (sym ((t.each c).kind live) ∙ kind)

  -- ---- an interruption from outside

  -- what a constrained attempt has completed
  few_now : is_live k.state c ≡ true → (k.standings c).constrained ≡ true → l.attempt.count ≤ 33
  few_now live kind =
      (keeps_constraints (kept_flat m k) c l followed (sym ((t.each c).kind live) ∙ kind)).few

  outside_paid : HoldsOf m busy c k → is_live k.state c ≡ true → busy ≡ true
      → left_of m c (k_aborting c External (next_address k c) k) + 1
      ≤ left_of m c k + attempt_turns m.image.parms
  unfolding k_aborting aborting
  outside_paid h live is =
      let u = k_aborting c External (next_address k c) k in
      let n = k.state.numbers c in
      let kind = (h.amid is).kind live in
      let gone = aborted_completed m c k External (next_address k c) in
      let still : (u.state.numbers c).delay ≡ n.delay =
      ap (λ (v : Numbers). v.delay) (at_put_same k.state.numbers c (record n { completed = 0 })) in
      let aborts : (u.standings c).aborts ≡ (k.standings c).aborts =
      ap (λ (s : Standing). s.aborts) (at_put_same k.standings c (k.standings c)) in
      let few : n.completed ≤ 33 = subst (λ x. x ≤ 33) (sym (t.each c).count) (few_now live kind) in
      let step = left_outside m.image.parms n.completed n.delay (u.state.numbers c).delay (k.standings c)
      (u.standings c) aborts still (h.rests live) live few (h.fewer live kind) in
      let same : left_of m c u ≡ left_now m.image.parms 0 (u.state.numbers c).delay (u.standings c) =
      ap (λ x. left_now m.image.parms x (u.state.numbers c).delay (u.standings c)) gone in
      omega (arith, step, same)

  -- the queue alone changes
  goes_on_last : (cost most : ℕ) (u : Kept) → Continues m c cost most u
      → Continues m c cost most (k_to_tail c u)
  goes_on_last cost most u h = record { amid = h.amid; paid = h.paid }

  calm_last : (u : Kept) → Calm c u → Calm c (k_to_tail c u)
  calm_last u h = record { none = h.none; free = h.free }

  tailed : (cost most : ℕ) (u : Kept) → After m c busy cost most before u
      → After m c busy cost most before (k_to_tail c u)
  tailed cost most u a = record {
    holds = a.holds;
    ends = λ is. by_way (a.ends is) (λ over. inl over) (λ on. inr (goes_on_last cost most u on));
    starts = λ off more live kind. goes_on_last 1 (bound m.image.parms) u (a.starts off more live kind);
    settles = record {
      ended = λ is. calm_last u (a.settles.ended is);
      calm = λ off.
          by_way (a.settles.calm off) (λ calm. inl (calm_last u calm))
          (λ b. inr (record { more = b.more; live = b.live; kind = b.kind }));
    };
  }

  module _ (cost most : ℕ) (cheap : cost ≤ 1)
      (paid : busy ≡ true → left_of m c k + attempt_turns m.image.parms ≤ most) where
    interrupted_by : (live : Bool) → is_live k.state c ≡ live → HoldsOf m busy c k
        → NoEnd c before.history k.state.history → (busy ≡ false → Calm c k)
        → (k.state.numbers c).attempts ≡ (before.numbers c).attempts
        → After m c busy cost most before (k_interrupting live c k).kept
    interrupted_by true live h news calm same =
        let a = own_abort m c busy cost most before m.image.parms.starve k External (next_address k c) live h
        (λ kind. leads l (well_now live kind)) news calm same
        (λ is goes. let whole = paid is in let step = outside_paid h live is in
        omega (arith, whole, step, cheap)) in
        tailed cost most (k_aborting c External (next_address k c) k) a
    interrupted_by false live h news calm same =
        let a = stays m c busy cost most before k h same
        (λ is. let whole = paid is in omega (arith, whole, cheap)) news calm in
        tailed cost most k a

    pub own_external : HoldsOf m busy c k → NoEnd c before.history k.state.history
        → (busy ≡ false → Calm c k) → (k.state.numbers c).attempts ≡ (before.numbers c).attempts
        → After m c busy cost most before (k_external c k).kept
    unfolding k_external
    own_external h news calm same = interrupted_by (is_live k.state c) refl h news calm same

  -- ---- a turn that waits

  waits_amid : (n later : ℕ) → later ≡ (k.state.numbers c).delay - 1 → n ≡ (k.state.numbers c).completed
      → AmidOf m c k → Amid m n later (k.standings c) l
  waits_amid n later e same h = record {
    begin = h.begin;
    is = h.is;
    goes = h.goes;
    pending = h.pending;
    waiting = h.waiting;
    kind = λ live. h.kind (sym (ap lives same) ∙ live);
    short = let short = h.short in omega (arith, e, short);
    queued = λ full. let none = h.queued full in omega (arith, e, none);
    running = λ off. h.running (sym (ap lives same) ∙ off);
  }

  own_wait : (most : ℕ) → nat_lt 0 (k.state.numbers c).delay ≡ true → HoldsOf m busy c k
      → NoEnd c before.history k.state.history → (busy ≡ false → Calm c k)
      → (k.state.numbers c).attempts ≡ (before.numbers c).attempts
      → (k.standings c).aborts ≤ m.image.parms.stop → (busy ≡ true → left_of m c k ≤ most)
      → After m c busy 1 most before (with_state (waiting_turn c k.state) k)
  own_wait most waits h news calm same low paid =
      let u = with_state (waiting_turn c k.state) k in
      let now = at_put_same k.state.numbers c
      (record (k.state.numbers c) { delay = (k.state.numbers c).delay - 1 })
      in
      let completed : (u.state.numbers c).completed ≡ (k.state.numbers c).completed =
      ap (λ (v : Numbers). v.completed) now in
      let delay : (u.state.numbers c).delay ≡ (k.state.numbers c).delay - 1 = ap
      (λ (v : Numbers). v.delay) now
      in
      let some = ltb-true 0 (k.state.numbers c).delay waits in
      stays m c busy 1 most before u (record {
        parms = h.parms;
        rests = λ live. let none = h.rests (sym (ap lives completed) ∙ live) in omega (arith, delay, none);
        fewer = λ live. h.fewer (sym (ap lives completed) ∙ live);
        amid = λ is.
            waits_amid (u.state.numbers c).completed (u.state.numbers c).delay delay completed (h.amid is);
      }) (ap (λ (v : Numbers). v.attempts) now ∙ same)
      (λ is.
      let n = k.state.numbers c in
      let queued = (h.amid is).queued in
      let apart : (k.standings c).aborts ≢ m.image.parms.stop =
      λ full. let none = queued full in absurd (omega (arith, none, some)) in
      let below : (k.standings c).aborts < m.image.parms.stop = omega (arith, low, apart) in
      let less : n.delay ≡ (u.state.numbers c).delay + 1 = omega (arith, delay, some) in
      let step = left_waited m.image.parms n.completed n.delay (u.state.numbers c).delay
      (k.standings c) below less
      in
      let here : left_of m c u ≡ left_now m.image.parms n.completed (u.state.numbers c).delay
      (k.standings c) =
      ap (λ x. left_now m.image.parms x (u.state.numbers c).delay (k.standings c)) completed in
      let whole = paid is in
      omega (arith, step, here, whole))
      (same_news refl news)
      (λ off.
      let before_it = calm off in
      record { none = before_it.none; free = λ live. before_it.free (sym (ap lives completed) ∙ live) })

  -- ---- what is left to do, and the next instruction

  module _ (most : ℕ) (own : Own m c busy most before l k) (some : 0 < m.image.parms.starve)
      (small : m.image.parms.starve ≤ 2 ^ 32 - 1) (stop : 0 < m.image.parms.stop) where
    -- where the transaction is under way and the attempt live
    kind_now : busy ≡ true → progress.is_live l.attempt ≡ true → is_constrained l.attempt.nest ≡ true
    kind_now is live =
        let alive = live_is m k t c ∙ live in sym ((t.each c).kind alive) ∙ (own.holds.amid is).kind alive

    few_in : busy ≡ true → progress.is_live l.attempt ≡ true → l.attempt.count ≤ 33
    few_in is live = (keeps_constraints (kept_flat m k) c l followed (kind_now is live)).few

    known_inside : (i : Instr) (ranges : List Range) → progress.is_live l.attempt ≡ true
        → fate_by_progress (text_of m) k.storage l.attempt ≡ Goes i ranges → Known m c busy most before l i
    known_inside i ranges live h = record {
      few = λ is. few_in is live;
      permitted = λ is.
          let keeps = keeps_constraints (kept_flat m k) c l followed (kind_now is live) in
          goes_permitted (text_of m) k.storage l.attempt i ranges keeps.kept keeps.constraint h;
      unfiltered = λ is. pifc_none (kept_flat m k) c l followed (kind_now is live);
    }

    not_amid : busy ≡ true → (f : Fate) → progress.is_live l.attempt ≡ false
        → fate_by_progress (text_of m) k.storage l.attempt ≡ f → GoesNot f → ⊥
    not_amid is f quiet h off =
        let a = own.holds.amid is in
        never_goes f a.begin []
        (sym (fate_at_rest m s k t c f quiet h) ∙ goes_now m s k t c a.begin a.is a.goes) off

    next_goes : (i : Instr) (ranges : List Range) → l.pending ≡ None → l.waiting ≡ None
        → fate_by_progress (text_of m) k.storage l.attempt ≡ Goes i ranges → Next m c busy most before l i
    next_goes i ranges pending waiting h = record {
      pending = pending;
      waiting = waiting;
      plain = λ live.
          let f = kept_flat m k in
          goes_without_service (text_of m) (run f c l.attempt.count) i ranges
          (live_follows f c l.attempt.count i followed.opens live) (followed_fate f c l followed ∙ h);
      nest = λ quiet. ap (λ (q : Progress). q.nest) (rests (kept_flat m k) c l followed quiet);
      begins_it = λ quiet is.
          let a = own.holds.amid is in
          let same : a.begin ≡ i =
          (goes_alike a.begin i [] ranges
          (sym (goes_now m s k t c a.begin a.is a.goes) ∙ fate_at_rest m s k t c (Goes i ranges) quiet h)).0 in
          subst (λ (x : Instr). (entry_at x.op.number).demand ≡ BeginConstrained) same a.is;
      inside = λ live. known_inside i ranges live h;
      at_start = λ quiet is. goes_at_start m s k t c i ranges is
          (fate_at_rest m s k t c (Goes i ranges) quiet h);
    }

    -- the begin of the transaction asks for no line
    begins_bare : (i : Instr) (ranges : List Range) → busy ≡ true → progress.is_live l.attempt ≡ false
        → fate_by_progress (text_of m) k.storage l.attempt ≡ Goes i ranges → ranges ≡ []
    begins_bare i ranges is quiet h =
        let a = own.holds.amid is in
        sym (same_ranges a.begin i [] ranges
        (sym (goes_now m s k t c a.begin a.is a.goes) ∙ fate_at_rest m s k t c (Goes i ranges) quiet h))

    goes_bare : (i : Instr) (ranges : List Range) → ranges ≡ [] → l.pending ≡ None → l.waiting ≡ None
        → fate_by_progress (text_of m) k.storage l.attempt ≡ Goes i ranges
        → After m c busy 1 most before (k_attempting m c k (Goes i ranges)).kept
    unfolding k_get_each needs_of
    goes_bare i [] none pending waiting h =
        executes m c busy most before l k i [] some stop own (next_goes i [] pending waiting h)
    goes_bare i (r ∷ rs) none pending waiting h = absurd (cc)

    goes_by : (i : Instr) (ranges : List Range) (b live : Bool) → busy ≡ b
        → progress.is_live l.attempt ≡ live → l.pending ≡ None → l.waiting ≡ None
        → fate_by_progress (text_of m) k.storage l.attempt ≡ Goes i ranges
        → After m c busy 1 most before (k_attempting m c k (Goes i ranges)).kept
    goes_by i ranges true false is quiet pending waiting h =
        goes_bare i ranges (begins_bare i ranges is quiet h) pending waiting h
    goes_by i ranges true true is live pending waiting h =
        lines_own m c busy most before l small (record { few = λ on. few_in on live; alive = λ on. live })
        (operand_needs l.attempt.cpu.prefix ranges) k (k_executing c i ranges) own
        (λ u p. executes m c busy most before l u i ranges some stop p (next_goes i ranges pending waiting h))
    goes_by i ranges false live is e pending waiting h =
        lines_own m c busy most before l small (idle_attempt is)
        (operand_needs l.attempt.cpu.prefix ranges) k (k_executing c i ranges) own
        (λ u p. executes m c busy most before l u i ranges some stop p (next_goes i ranges pending waiting h))

    attempts : (f : Fate) → l.pending ≡ None → l.waiting ≡ None
        → fate_by_progress (text_of m) k.storage l.attempt ≡ f
        → After m c busy 1 most before (k_attempting m c k f).kept
    unfolding k_ends_by
    attempts (Goes i ranges) pending waiting h =
        goes_by i ranges busy (progress.is_live l.attempt) refl refl pending waiting h
    attempts (Ends w) pending waiting h =
        let quick = ends_live (kept_flat m k) c l w followed h in
        let live : is_live k.state c ≡ true = live_is m k t c ∙ quick in
        own_abort m c busy 1 most before m.image.parms.starve k w (next_address k c) live own.holds
        (λ kind. leads l (well_now live kind)) own.news own.calm own.started
        (λ is goes. absurd (true≢false (sym (ends_the_transaction (kept_flat m k) c l w followed
        ((kept_is m s k t).prefixes c) (kind_now is quick) h) ∙ goes)))
    attempts (Stops e) pending waiting h =
        let quiet = stops_quiet (kept_flat m k) c l e followed h in
        let h2 = own.holds in
        plain m c busy 1 most before (k_attempting m c k (Stops e)).kept
        (λ is. not_amid is (Stops e) quiet h tt)
        (record {
          parms = h2.parms;
          rests = h2.rests;
          fewer = h2.fewer;
          amid = λ is. absurd (true≢false (sym is));
        }) own.started (λ off. let calm = own.calm off in record { none = calm.none; free = calm.free })

    none_some : {A B : Type 0} (o : Option A) (b : A) → o ≡ Some b → o ≡ None → B
    none_some o b e n = let x : Some b ≡ None = sym e ∙ n in absurd (cc)

    acts : (block : Option Pending) (waiting : Option Waiting) → l.pending ≡ block → l.waiting ≡ waiting
        → After m c busy 1 most before (k_acting m c k block waiting).kept
    acts (Some b) waiting e f =
        lines_own m c busy most before l small (never_attempted (λ is. none_some l.pending b e
        (own.holds.amid is).pending)) (block_needs l.attempt.cpu.prefix b) k _ own
        (λ u p. let h = p.holds in
        plain m c busy 1 most before (k_storing c u)
        (λ is. none_some l.pending b e (own.holds.amid is).pending)
        (record {
          parms = h.parms;
          rests = h.rests;
          fewer = h.fewer;
          amid = λ is. absurd (true≢false (sym is));
        }) p.started (λ off. let calm = p.calm off in record { none = calm.none; free = calm.free }))
    acts None (Some v) e f =
        lines_own m c busy most before l small (never_attempted (λ is. none_some l.waiting v f
        (own.holds.amid is).waiting)) (interruption_needs l.attempt.cpu.prefix v) k _ own
        (λ u p. let h = p.holds in
        plain m c busy 1 most before (k_taking c u)
        (λ is. none_some l.waiting v f (own.holds.amid is).waiting)
        (record {
          parms = h.parms;
          rests = h.rests;
          fewer = h.fewer;
          amid = λ is. absurd (true≢false (sym is));
        }) p.started (λ off. let calm = p.calm off in record { none = calm.none; free = calm.free }))
    acts None None e f = attempts (fate_by_progress (text_of m) k.storage l.attempt) e f refl

  -- ---- the turn

  module _ (some : 0 < m.image.parms.starve) (small : m.image.parms.starve ≤ 2 ^ 32 - 1)
      (stop : 0 < m.image.parms.stop) (low : (k.standings c).aborts ≤ m.image.parms.stop)
      (first : (k.standings c).aborts ≡ m.image.parms.stop → is_head k.state c ≡ true) where
    own_now : (most : ℕ) → HoldsOf m busy c k → NoEnd c before.history k.state.history
        → (busy ≡ false → Calm c k) → (k.state.numbers c).attempts ≡ (before.numbers c).attempts
        → nat_lt 0 (k.state.numbers c).delay ≡ false
        → (busy ≡ true → left_of m c k ≤ most) → Own m c busy most before l k
    own_now most h news calm same off paid = record {
      holds = h;
      well = well_now;
      news = news;
      calm = calm;
      started = same;
      rests = let low = ltb-false 0 (k.state.numbers c).delay off in omega (arith, low);
      local = refl;
      live = live_is m k t c;
      counted = (t.each c).count;
      first = λ full. first (let e : (k.standings c).aborts
          ≡ m.image.parms.stop = omega (arith, full, low) in e);
      paid = paid;
    }

    pub own_ruled : (tick waits : Bool) (most : ℕ) → nat_lt 0 (k.state.numbers c).delay ≡ waits
        → HoldsOf m busy c k → NoEnd c before.history k.state.history → (busy ≡ false → Calm c k)
        → (k.state.numbers c).attempts ≡ (before.numbers c).attempts
        → (busy ≡ true → left_of m c k + extra tick (attempt_turns m.image.parms) ≤ most)
        → After m c busy 1 most before (k_by_rules tick waits m c k).kept
    own_ruled true waits most e h news calm same paid =
        own_external 1 most (omega arith) paid h news calm same
    own_ruled false true most e h news calm same paid =
        own_wait most e h news calm same low (λ is. let whole = paid is in omega (arith, whole))
    own_ruled false false most e h news calm same paid =
        acts most
        (own_now most h news calm same e (λ is. let whole = paid is in omega (arith, whole))) some small stop
        l.pending l.waiting refl refl
