-- What a CPU does in its own turn, once the lines are there.
use Rattle.std.proofs.Common.{◌≡◌, ℕ, ◌+◌, ◌-◌, ◌<◌, ◌≤◌, Bool, true, false, List, [], ◌∷◌, ◌++◌, length}
use Rattle.std.proofs.Common.{take}
use Rattle.std.proofs.Common.{None, refl, sym, ap, ◌∙◌, subst, arith, inl, inr}
use Rattle.std.specs.Prelude.{if◌then◌else◌, nat_lt, ◌||◌, ◌⊎◌}
use Rattle.std.proofs.lemmas.Bool.{true≢false, or_left, eq-eqb, lt-ltb}
use Rattle.z_regs.specs.declared.image.RunState.{RunState}
use Rattle.z_regs.specs.declared.image.RunState.TheVariants.{Running, Halted, Interrupted}
use Rattle.z_regs.specs.declared.ranges.Range.{Range}
use Rattle.z_regs.specs.Cpu.{Cpu}
use Rattle.z_instr.specs.declared.instr.Instr.{Instr}
use Rattle.z_instr.specs.Table.{entry_at}
use Rattle.z_instr.specs.Roles.{begins, is_end}
use Rattle.z_effect.specs.After.{cpu_after}
use Rattle.z_effect.specs.Beginning as beginning
use Rattle.z_effect.specs.Beginning.{begin_of}
use Rattle.z_effect.specs.Outcome.{Outcome, Did, Divides, Aborts}
use Rattle.z_effect.specs.Outcome as effect
use Rattle.z_effect.proofs.Prefix.{keeps_prefix}
use Rattle.tx_control.specs.Nesting.{is_constrained, effective_pifc}
use Rattle.tx_control.specs.declared.begins.Begin.{Begin}
use Rattle.tx_control.specs.declared.causes.Why.{Why}
use Rattle.tx_ladder.specs.Rungs.{Standing, begun}
use Rattle.tx_journal.specs.declared.entries.Entry.TheVariants.{Commit}
use Rattle.z_instr.specs.Table.{kind_at}
use Rattle.tx_serial.specs.Apply.{is_running}
use Rattle.tx_serial.specs.Attempt.{at_rest}
use Rattle.tx_serial.specs.Fate.{Goes, fate}
use Rattle.tx_serial.specs.History.{start_of}
use Rattle.tx_serial.specs.Run.{nest_after}
use Rattle.tx_progress.specs.Local.{Local, Beside}
use Rattle.tx_progress.specs.Progress.{Progress, advanced, resting}
use Rattle.tx_progress.specs.Progress as progress
use Rattle.tx_progress.specs.Doing.{executed_where, inside, outside, closed_by, going_on, stores_of}
use Rattle.tx_progress.specs.Doing.{told_of, opened, done_outside}
use Rattle.z_effect.specs.TransactionEffect.{delay_given}
use Rattle.tx_progress.specs.Trial.{outcome_by}
use Rattle.tx_progress.specs.declared.done.Done.{Done}
use Rattle.tx_progress.specs.declared.done.Done.TheVariants as done
use Rattle.tx_progress.proofs.Moving.{executed_is}
use Rattle.tx_progress.proofs.Rows.{IsDone, role_done}
use Rattle.tx_meaning.specs.Limits.{Setting}
use Rattle.tx_meaning.specs.State.{Numbers, State, is_live}
use Rattle.tx_meaning.specs.Stretches.{ends_transaction, is_end_by, left_by, bound}
use Rattle.tx_keeping.specs.Kept.{Kept, text_of, with_beside, beside}
use Rattle.tx_keeping.specs.Moves.{k_aborting, k_continuing, k_committing, k_starting}
use Rattle.tx_keeping.specs.Turn.{k_ends_by, next_address, k_inside, k_outside, k_done, k_executing}
use Rattle.tx_bounds.proofs.Again.{IsConstrainedBegin, is_begin}
use Rattle.tx_bounds.proofs.AtBegin.{constrained_demand, opens_so}
use Rattle.tx_bounds.proofs.News.{Calm, IsBegun, same_news, not_ended, grown, lowered_calm}
use Rattle.tx_bounds.proofs.Barred.{AbortsNot, permitted_not}
use Rattle.tx_bounds.proofs.OwnEnds.{EndsIt, cause_so}
use Rattle.tx_bounds.proofs.Paid.{left_of, left_now, left_more, left_started, left_begun}
use Rattle.tx_progress.proofs.Parts.{not_live}
use Rattle.z_effect.specs.Facts.{is_service}
use Rattle.tx_keeping.proofs.Running.{keeps_running}
use Rattle.tx_bounds.proofs.Resuming.{Leads, leads, leads_on}
use Rattle.tx_bounds.proofs.UnderWay.{HoldsOf, AmidOf, lives, holds_same}
use Rattle.tx_bounds.proofs.UnderWay.{holds_quiet, SameParts}
use Rattle.tx_bounds.proofs.OtherTurns.{parms_always_by}
use Rattle.tx_bounds.proofs.OwnTurns.{After, Own, stays, plain, over, own_abort, ends_last, known_kind}
use Rattle.tx_serial.proofs.Entries.{at_put_same}

-- what an instruction outside transactions tells, that begins none
abbrev StepTells : Done → Type 0
StepTells done.Stepped = Unit {0}
StepTells (done.Paused turns) = Unit {0}
StepTells (done.Interrupted code) = Unit {0}
StepTells done.Began = ⊥
StepTells (done.Committed n) = ⊥
StepTells (done.Ended w) = ⊥

paused_tells : (b : Bool) (turns : ℕ) → StepTells (if b then done.Paused turns else done.Stepped)
paused_tells true turns = tt
paused_tells false turns = tt

step_tells : (state : RunState) (turns : ℕ) → StepTells (told_of state turns)
step_tells (Interrupted code) turns = tt
step_tells Running turns = paused_tells (nat_lt 0 turns) turns
step_tells Halted turns = paused_tells (nat_lt 0 turns) turns

module _ (m : Setting) (c : ℕ) (busy : Bool) (most : ℕ) (before : State) (l : Local) where
  abbrev F : Kept → Type 0
  F = After m c busy 1 most before

  -- ---- inside a transaction

  with_local : (t : Kept) (after : Beside) → Own m c busy most before l t → SameParts (t.locals c) after.local
      → HoldsOf m busy c (with_beside c after t)
  with_local t after p parts =
      let now = at_put_same t.locals c after.local in
      holds_same m busy (t.state.numbers c).completed (t.state.numbers c).delay (t.state.numbers c).completed
      (t.state.numbers c).delay (t.standings c) (t.standings c) (t.locals c)
      ((with_beside c after t).locals c) refl refl
      (record { parms = refl; aborts = refl; constrained = refl; refused = refl })
      (record {
        cpu = ap (λ (x : Local). x.cpu) now ∙ parts.cpu;
        pending = ap (λ (x : Local). x.pending) now ∙ parts.pending;
        waiting = ap (λ (x : Local). x.waiting) now ∙ parts.waiting;
      })
      p.holds

  -- what changes at the CPU alone leaves it calm
  after_calm : (t : Kept) (after : Beside) → Own m c busy most before l t → busy ≡ false
      → Calm c (with_beside c after t)
  after_calm t after p off = let calm = p.calm off in record { none = calm.none; free = calm.free }

  ends_inside : (t : Kept) (after : Beside) (w : Why) (at : ℕ) → Own m c busy most before l t
      → is_live t.state c ≡ true → SameParts (t.locals c) after.local
      → ((t.standings c).constrained ≡ true → Leads after.local) → (busy ≡ true → is_end_by w ≡ true)
      → F (k_aborting c w at (with_beside c after t))
  ends_inside t after w at p live parts leads ends =
      own_abort m c busy 1 most before m.image.parms.starve (with_beside c after t) w at live
      (with_local t after p parts) (λ kind. subst Leads (sym (at_put_same t.locals c after.local)) (leads kind))
      p.news (after_calm t after p) p.started (λ is goes. absurd (true≢false (sym (ends is) ∙ goes)))

  committed_history : (t : Kept) (n : ℕ) (after : Beside) → Own m c busy most before l t
      → ends_transaction before (k_committing c n after t).state c ≡ true
  committed_history t n after p =
      ends_last c before.history t.state.history (Commit c n) (grown p.news) (eq-eqb c c refl)

  committed_calm : (t : Kept) (n : ℕ) (after : Beside) → Own m c busy most before l t
      → is_live t.state c ≡ true
      → Calm c (k_committing c n after t)
  committed_calm t n after p live = record {
    none = ap (λ (s : Standing). s.aborts) (at_put_same t.standings c _)
        ∙ lowered_calm (t.standings c)
        (known_kind m c busy 1 most before t (λ is. (p.holds.amid is).kind live) p.calm);
    free = λ alive. absurd (true≢false (sym alive
        ∙ ap (λ (v : Numbers). lives v.completed)
        (at_put_same t.state.numbers c (record (t.state.numbers c) { completed = 0 }))));
  }

  commits : (t : Kept) (n : ℕ) (after : Beside) → Own m c busy most before l t → is_live t.state c ≡ true
      → F (k_committing c n after t)
  commits t n after p live =
      let u = k_committing c n after t in
      let now = at_put_same t.state.numbers c (record (t.state.numbers c) { completed = 0 }) in
      let off : lives (u.state.numbers c).completed ≡ false = ap (λ (v : Numbers). lives v.completed) now in
      let parms : (u.standings c).parms ≡ m.image.parms =
      ap (λ (s : Standing). s.parms) (at_put_same t.standings c _)
      ∙ parms_always_by (t.standings c).constrained (t.standings c) ∙ p.holds.parms in
      over m c busy 1 most before u (committed_history t n after p)
      (holds_quiet m (u.state.numbers c).completed (u.state.numbers c).delay (u.standings c)
      (u.locals c) parms
      off)
      (ap (λ (v : Numbers). v.attempts) now ∙ p.started) (committed_calm t n after p live)

  one_more : (n : ℕ) → lives n ≡ true → lives (n + 1) ≡ lives n
  one_more n live = lives_on n ∙ sym live
    where
      lives_on : (n : ℕ) → lives (n + 1) ≡ true
      lives_on n = grind arith

  continued_paid : (t : Kept) (after : Beside) → Own m c busy most before l t → is_live t.state c ≡ true
      → (busy ≡ true → l.attempt.count ≤ 33) → busy ≡ true → left_of m c (k_continuing c after t) + 1 ≤ most
  continued_paid t after p live few is =
      let n = (t.state.numbers c).completed in
      let now = at_put_same t.state.numbers c (record (t.state.numbers c) { completed = n + 1 }) in
      let kind = (p.holds.amid is).kind live in
      let same : left_of m c (k_continuing c after t)
      ≡ left_now m.image.parms (n + 1) (t.state.numbers c).delay (t.standings c) =
      ap (λ (v : Numbers). left_now m.image.parms v.completed v.delay (t.standings c)) now in
      let step = left_more m.image.parms n (t.state.numbers c).delay (t.standings c) live
      (subst (λ x. x ≤ 33) (sym p.counted) (few is)) (p.holds.fewer live kind) in
      let paid = p.paid is in
      omega (arith, same, step, paid)

  continues : (t : Kept) (after : Beside) → Own m c busy most before l t → is_live t.state c ≡ true
      → SameParts (t.locals c) after.local → (busy ≡ true → l.attempt.count ≤ 33)
      → F (k_continuing c after t)
  continues t after p live parts few =
      let u = k_continuing c after t in
      let now = at_put_same t.state.numbers c (record (t.state.numbers c) {
        completed = (t.state.numbers c).completed + 1;
      }) in
      let here = at_put_same t.locals c after.local in
      stays m c busy 1 most before u
      (holds_same m busy (t.state.numbers c).completed (t.state.numbers c).delay (u.state.numbers c).completed
      (u.state.numbers c).delay (t.standings c) (u.standings c) (t.locals c) (u.locals c)
      (ap (λ (v : Numbers). lives v.completed) now ∙ one_more (t.state.numbers c).completed live)
      (ap (λ (v : Numbers). v.delay) now)
      (record { parms = refl; aborts = refl; constrained = refl; refused = refl })
      (record {
        cpu = ap (λ (x : Local). x.cpu) here ∙ parts.cpu;
        pending = ap (λ (x : Local). x.pending) here ∙ parts.pending;
        waiting = ap (λ (x : Local). x.waiting) here ∙ parts.waiting;
      })
      p.holds)
      (ap (λ (v : Numbers). v.attempts) now ∙ p.started)
      (continued_paid t after p live few) (same_news refl p.news)
      (λ off.
      let calm = p.calm off in
      record { none = calm.none; free = λ alive. calm.free live })

  closes : (t : Kept) (q : Progress) (nest : List Begin) (at : ℕ) → Own m c busy most before l t
      → is_live t.state c ≡ true → (busy ≡ true → l.attempt.count ≤ 33)
      → F (k_inside c at (closed_by q nest (beside t c)).after t (closed_by q nest (beside t c)).told).kept
  closes t q [] at p live few = commits t q.count _ p live
  closes t q (outermost ∷ inner) at p live few =
      continues t (going_on q (beside t c)) p live (record { cpu = refl; pending = refl; waiting = refl }) few

  -- What is known of an instruction inside a constrained transaction: few came before it, it does not abort
  -- the transaction itself, no program exception is filtered, and a begin and an end are completed.
  pub record Inside (i : Instr) (o : Outcome) : Type 0 where
    pub few : busy ≡ true → l.attempt.count ≤ 33
    pub bars : busy ≡ true → AbortsNot o
    pub unfiltered : busy ≡ true → effective_pifc l.attempt.nest ≡ 0
    pub done : (begins (entry_at i.op.number) || is_end (entry_at i.op.number)) ≡ true → IsDone o

  -- an instruction that overflows neither begins nor ends a transaction
  plain_by : (x y : Bool) (cpu : Cpu) (bytes : List ℕ)
      → ((x || y) ≡ true → IsDone (effect.Overflowed cpu bytes)) → (x ≡ false) × (y ≡ false)
  plain_by true y cpu bytes done = let d = done refl in let n = d.is in absurd (cc)
  plain_by false true cpu bytes done = let d = done refl in let n = d.is in absurd (cc)
  plain_by false false cpu bytes done = (refl, refl)

  same_nest : (i : Instr) (general : List ℕ) (nest : List Begin) → begins (entry_at i.op.number) ≡ false
      → is_end (entry_at i.op.number) ≡ false → nest_after i general nest ≡ nest
  same_nest i general nest x y =
      (λ k. if x k then nest ++ begin_of i general ∷ []
      else (if y k then take (length nest - 1) nest else nest))

  -- what an instruction inside it leaves
  acts_inside : (t : Kept) (i : Instr) (ranges : List Range) (at : ℕ) (o : Outcome)
      → Own m c busy most before l t → is_live t.state c ≡ true
      → (cpu_after (t.locals c).attempt.cpu o).prefix ≡ (t.locals c).attempt.cpu.prefix
      → ((t.standings c).constrained ≡ true → is_running (cpu_after (t.locals c).attempt.cpu o).state ≡ true)
      → Inside i o
      → F (k_inside c at (inside i ranges (beside t c) o).after t (inside i ranges (beside t c) o).told).kept
  unfolding k_ends_by
  acts_inside t i ranges at (Did cpu bytes) p live same runs known =
      let q = (t.locals c).attempt in
      let next = advanced i ranges cpu (stores_of ranges bytes q) q in
      closes t next next.nest at p live known.few
  acts_inside t i ranges at (effect.Overflowed cpu bytes) p live same runs known =
      let q = (t.locals c).attempt in
      let next = advanced i ranges cpu (stores_of ranges bytes q) q in
      let off = plain_by (begins (entry_at i.op.number)) (is_end (entry_at i.op.number)) cpu bytes known.done
      in
      ends_inside t (going_on next (beside t c)) _ at p live
      (record { cpu = refl; pending = refl; waiting = refl })
      (λ kind. leads_on (t.locals c) i ranges cpu (stores_of ranges bytes q) (p.well live kind)
      (sym p.live ∙ live) same (runs kind))
      (λ is. cause_so EndsIt (λ e. refl) next.nest _
      (ap effective_pifc (same_nest i q.cpu.general q.nest off.0 off.1)
      ∙ ap (λ (x : Local). effective_pifc x.attempt.nest) p.local ∙ known.unfiltered is))
  acts_inside t i ranges at Divides p live same runs known =
      ends_inside t (beside t c) _ at p live (record { cpu = refl; pending = refl; waiting = refl })
      (λ kind. leads (t.locals c) (p.well live kind))
      (λ is. cause_so EndsIt (λ e. refl) (t.locals c).attempt.nest _
      (ap (λ (x : Local). effective_pifc x.attempt.nest) p.local ∙ known.unfiltered is))
  acts_inside t i ranges at (Aborts code) p live same runs known =
      ends_inside t (beside t c) _ at p live (record { cpu = refl; pending = refl; waiting = refl })
      (λ kind. leads (t.locals c) (p.well live kind)) (λ is. absurd (known.bars is))

  -- ---- outside transactions

  dead_holds : (t u : Kept) → Own m c busy most before l t → is_live t.state c ≡ false
      → (u.state.numbers c).completed ≡ (t.state.numbers c).completed
      → (u.standings c).parms ≡ (t.standings c).parms
      → HoldsOf m false c u
  dead_holds t u p off completed parms =
      holds_quiet m (u.state.numbers c).completed (u.state.numbers c).delay (u.standings c) (u.locals c)
      (parms ∙ p.holds.parms) (ap lives completed ∙ off)

  steps : (t : Kept) (after : Beside) (told : Done) → (busy ≡ true → ⊥) → Own m c busy most before l t
      → is_live t.state c ≡ false → StepTells told → F (k_outside c after t told).kept
  steps t after done.Stepped never p off is =
      plain m c busy 1 most before _ never
      (dead_holds t (k_outside c after t done.Stepped).kept p off refl refl) p.started
      (λ quiet. let calm = p.calm quiet in record { none = calm.none; free = calm.free })
  steps t after (done.Interrupted code) never p off is =
      plain m c busy 1 most before _ never
      (dead_holds t (k_outside c after t (done.Interrupted code)).kept p off refl refl) p.started
      (λ quiet. let calm = p.calm quiet in record { none = calm.none; free = calm.free })
  steps t after (done.Paused turns) never p off is =
      let now = at_put_same t.state.numbers c (record (t.state.numbers c) { delay = turns }) in
      plain m c busy 1 most before _ never
      (dead_holds t (k_outside c after t (done.Paused turns)).kept p off
      (ap (λ (v : Numbers). v.completed) now) refl)
      (ap (λ (v : Numbers). v.attempts) now ∙ p.started)
      (λ quiet.
      let calm = p.calm quiet in
      record {
        none = calm.none;
        free = λ alive. calm.free (sym (ap (λ (v : Numbers). lives v.completed) now) ∙ alive);
      })
  steps t after done.Began never p off is = absurd is
  steps t after (done.Committed n) never p off is = absurd is
  steps t after (done.Ended w) never p off is = absurd is

  -- ---- a transaction is begun

  opened_parts : (t : Kept) (i : Instr) (ranges : List Range) (o : Outcome)
      → SameParts (t.locals c) (opened i ranges (beside t c) o).local
  opened_parts t i ranges (Did cpu bytes) = record { cpu = refl; pending = refl; waiting = refl }
  opened_parts t i ranges (effect.Overflowed cpu bytes) =
      record { cpu = refl; pending = refl; waiting = refl }
  opened_parts t i ranges Divides = record { cpu = refl; pending = refl; waiting = refl }
  opened_parts t i ranges (Aborts code) = record { cpu = refl; pending = refl; waiting = refl }

  begun_amid : (t : Kept) (after : Beside) (i : Instr) → Own m c busy most before l t → IsConstrainedBegin i
      → fate (text_of m) (at_rest (start_of m.image).storage l.cpu) ≡ Goes i [] → l.pending ≡ None
      → l.waiting ≡ None → SameParts (t.locals c) after.local
      → is_constrained after.local.attempt.nest ≡ true → AmidOf m c (k_starting c after t)
  begun_amid t after i p is goes pending waiting parts kind =
      let u = k_starting c after t in
      let here = at_put_same t.locals c after.local in
      let none : (u.state.numbers c).delay ≡ 0 =
      ap (λ (v : Numbers). v.delay) (at_put_same t.state.numbers c _) ∙ p.rests in
      record {
        begin = i;
        is = is;
        goes = subst (λ x. fate (text_of m) (at_rest (start_of m.image).storage x) ≡ Goes i [])
            (sym (ap (λ (x : Local). x.cpu) here ∙ parts.cpu ∙ ap (λ (x : Local). x.cpu) p.local)) goes;
        pending = ap (λ (x : Local). x.pending) here ∙ parts.pending ∙ ap (λ (x : Local). x.pending) p.local
            ∙ pending;
        waiting = ap (λ (x : Local). x.waiting) here ∙ parts.waiting ∙ ap (λ (x : Local). x.waiting) p.local
            ∙ waiting;
        kind = λ live. ap (λ (s : Standing). s.constrained) (at_put_same t.standings c _) ∙ kind;
        short = omega (arith, none);
        queued = λ full. none;
        running = λ off.
            absurd (true≢false (sym (ap (λ (v : Numbers). lives v.completed) (at_put_same t.state.numbers c _))
            ∙ off));
      }

  -- what is known of an instruction of a live attempt
  pub record Known (i : Instr) : Type 0 where
    pub few : busy ≡ true → l.attempt.count ≤ 33
    pub permitted : busy ≡ true → (entry_at i.op.number).permitted ≡ true
    pub unfiltered : busy ≡ true → effective_pifc l.attempt.nest ≡ 0

  -- what is known of the next instruction of the CPU, where it goes
  pub record Next (i : Instr) : Type 0 where
    pub pending : l.pending ≡ None
    pub waiting : l.waiting ≡ None
    pub plain : progress.is_live l.attempt ≡ true → is_service (kind_at i.op.number) ≡ false
    pub nest : progress.is_live l.attempt ≡ false → l.attempt.nest ≡ []
    pub begins_it : progress.is_live l.attempt ≡ false → busy ≡ true → IsConstrainedBegin i
    pub inside : progress.is_live l.attempt ≡ true → Known i
    pub at_start : progress.is_live l.attempt ≡ false → IsConstrainedBegin i
        → fate (text_of m) (at_rest (start_of m.image).storage l.cpu) ≡ Goes i []

  quiet_here : (t : Kept) → Own m c busy most before l t → is_live t.state c ≡ false
      → progress.is_live l.attempt ≡ false
  quiet_here t p off = ap (λ (x : Local). progress.is_live x.attempt) (sym p.local) ∙ sym p.live ∙ off

  starts_holds : (t : Kept) (after : Beside) → 0 < m.image.parms.starve → Own m c busy most before l t
      → HoldsOf m false c (k_starting c after t)
  starts_holds t after some p =
      let now = at_put_same t.standings c (begun (is_constrained after.local.attempt.nest) (t.standings c)) in
      record {
        parms = ap (λ (s : Standing). s.parms) now ∙ p.holds.parms;
        rests = λ live. ap (λ (v : Numbers). v.delay) (at_put_same t.state.numbers c _) ∙ p.rests;
        fewer = λ live kind.
            subst (λ x. x < m.image.parms.starve) (sym (ap (λ (s : Standing). s.requests_rejected) now)) some;
        amid = λ is. absurd (true≢false (sym is));
      }

  started_paid : (t : Kept) (after : Beside) (some : 0 < m.image.parms.starve) → Own m c busy most before l t
      → is_live t.state c ≡ false → busy ≡ true → left_of m c (k_starting c after t) + 1 ≤ most
  started_paid t after some p off is =
      let kind = is_constrained after.local.attempt.nest in
      let n = t.state.numbers c in
      let now = at_put_same t.state.numbers c (record n {
        completed = 1;
        attempts = n.attempts + 1;
        given = 0;
        refused = 0;
      }) in
      let same : left_of m c (k_starting c after t)
      ≡ left_now m.image.parms 1 n.delay (begun kind (t.standings c)) =
      (λ k. left_now m.image.parms (now k).completed (now k).delay
      (at_put_same t.standings c (begun kind (t.standings c)) k)) in
      let step = left_started m.image.parms n.completed n.delay kind (t.standings c)
      (not_live n.completed off) some
      in
      let paid = p.paid is in
      omega (arith, same, step, paid)

  begun_paid : (t : Kept) (after : Beside) → 0 < m.image.parms.stop → Own m c busy most before l t
      → left_of m c (k_starting c after t) + 1 ≤ bound m.image.parms
  begun_paid t after some p =
      let kind = is_constrained after.local.attempt.nest in
      let n = t.state.numbers c in
      let now = at_put_same t.state.numbers c (record n {
        completed = 1;
        attempts = n.attempts + 1;
        given = 0;
        refused = 0;
      }) in
      let same : left_of m c (k_starting c after t)
      ≡ left_by m.image.parms (t.standings c).aborts n.delay 1 0 =
      (λ k. left_now m.image.parms (now k).completed (now k).delay
      (at_put_same t.standings c (begun kind (t.standings c)) k)) in
      let step = left_begun m.image.parms (t.standings c).aborts n.delay p.rests some in
      omega (arith, same, step)

  -- where no transaction was under way, one is begun, or the attempt is not constrained
  begun_or_calm : (t : Kept) (after : Beside) → Own m c busy most before l t → busy ≡ false → (kind : Bool)
      → is_constrained after.local.attempt.nest ≡ kind
      → Calm c (k_starting c after t) ⊎ IsBegun c before (k_starting c after t)
  begun_or_calm t after p quiet true e =
      let n = t.state.numbers c in
      let now = at_put_same t.state.numbers c (record n {
        completed = 1;
        attempts = n.attempts + 1;
        given = 0;
        refused = 0;
      }) in
      let first = p.started in
      inr (record {
        more = ap (λ (v : Numbers). nat_lt (before.numbers c).attempts v.attempts) now
            ∙ lt-ltb (before.numbers c).attempts (n.attempts + 1) (omega (arith, first));
        live = ap (λ (v : Numbers). lives v.completed) now;
        kind = ap (λ (x : Standing). x.constrained) (at_put_same t.standings c _) ∙ e;
      })
  begun_or_calm t after p quiet false e =
      let calm = p.calm quiet in
      inl (record {
        none = ap (λ (x : Standing). x.aborts) (at_put_same t.standings c _) ∙ calm.none;
        free = λ live. ap (λ (x : Standing). x.constrained) (at_put_same t.standings c _) ∙ e;
      })

  starts : (t : Kept) (i : Instr) (ranges : List Range) (o : Outcome) → 0 < m.image.parms.starve
      → 0 < m.image.parms.stop → IsDone o → Own m c busy most before l t → is_live t.state c ≡ false
      → begins (entry_at i.op.number) ≡ true → Next i
      → F (k_starting c (opened i ranges (beside t c) o) t)
  starts t i ranges o some stop d p off begin n =
      let after = opened i ranges (beside t c) o in
      let quiet = quiet_here t p off in
      let parts = opened_parts t i ranges o in
      let kind : is_constrained after.local.attempt.nest
      ≡ beginning.is_constrained (entry_at i.op.number).demand =
      opens_so i ranges (beside t c) o d (ap (λ (x : Local). x.attempt.nest) p.local ∙ n.nest quiet) begin in
      record {
        holds = starts_holds t after some p;
        ends = λ is.
            let so = n.begins_it quiet is in
            inr (record {
              amid = begun_amid t after i p so (n.at_start quiet so) n.pending n.waiting parts
                  (kind ∙ ap beginning.is_constrained so);
              paid = started_paid t after some p off is;
            });
        starts = λ is more live constrained.
            let same : is_constrained after.local.attempt.nest ≡ true =
            sym (ap (λ (s : Standing). s.constrained) (at_put_same t.standings c _)) ∙ constrained in
            let so = constrained_demand (entry_at i.op.number).demand (sym kind ∙ same) in
            record {
              amid = begun_amid t after i p so (n.at_start quiet so) n.pending n.waiting parts same;
              paid = begun_paid t after stop p;
            };
        settles = record {
          ended = λ is. absurd (true≢false (sym is
              ∙ not_ended c before (k_starting c after t).state (same_news refl p.news)));
          calm = λ quiet. begun_or_calm t after p quiet (is_constrained after.local.attempt.nest) refl;
        };
      }

  -- ---- the instruction

  inside_of : (t : Kept) (i : Instr) (ranges : List Range) → Known i
      → Inside i (outcome_by t.storage i ranges (t.locals c).attempt)
  inside_of t i ranges k = record {
    few = k.few;
    bars = λ is. permitted_not i (t.locals c).attempt.cpu _ _ (k.permitted is);
    unfiltered = k.unfiltered;
    done = role_done i (t.locals c).attempt.cpu _ _;
  }

  executes_by : (t : Kept) (i : Instr) (ranges : List Range) (live begin : Bool) → 0 < m.image.parms.starve
      → 0 < m.image.parms.stop → Own m c busy most before l t → Next i → is_live t.state c ≡ live
      → begins (entry_at i.op.number) ≡ begin
      → F (k_done live c (executed_where live begin i ranges (beside t c)
      (outcome_by t.storage i ranges (t.locals c).attempt)) t).kept
  executes_by t i ranges true begin some stop p n live e =
      let alive : progress.is_live l.attempt ≡ true =
      ap (λ (x : Local). progress.is_live x.attempt) (sym p.local) ∙ sym p.live ∙ live in
      acts_inside t i ranges (next_address t c) (outcome_by t.storage i ranges (t.locals c).attempt) p live
      (keeps_prefix i (t.locals c).attempt.cpu _ _)
      (λ kind. keeps_running i (t.locals c).attempt.cpu _ _ (n.plain alive) (p.well live kind).runs)
      (inside_of t i ranges (n.inside alive))
  executes_by t i ranges false true some stop p n off e =
      starts t i ranges (outcome_by t.storage i ranges (t.locals c).attempt) some stop
      (role_done i (t.locals c).attempt.cpu _ _
      (or_left (begins (entry_at i.op.number)) (is_end (entry_at i.op.number)) e)) p off e n
  executes_by t i ranges false false some stop p n off e =
      let o = outcome_by t.storage i ranges (t.locals c).attempt in
      let b = done_outside i (beside t c) (outside i ranges (beside t c) o) in
      steps t b.after b.told
      (λ is. true≢false (sym (is_begin i (n.begins_it (quiet_here t p off) is)) ∙ e)) p off
      (step_tells b.after.local.cpu.state (delay_given i (t.locals c).cpu))

  pub executes : (t : Kept) (i : Instr) (ranges : List Range) → 0 < m.image.parms.starve
      → 0 < m.image.parms.stop → Own m c busy most before l t → Next i → F (k_executing c i ranges t).kept
  unfolding k_executing
  executes t i ranges some stop p n =
      let live = is_live t.state c in
      let begin = begins (entry_at i.op.number) in
      subst (λ e. F (k_done live c e t).kept)
      (sym (executed_is i ranges (beside t c) live begin (sym p.live) refl))
      (executes_by t i ranges live begin some stop p n refl refl)
