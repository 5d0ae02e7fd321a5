-- One turn, and an external interruption: as the meaning has them, and all that is kept stays true.
use Rattle.std.proofs.Common.{◌≡◌, ℕ, ◌+◌, ◌<◌, Bool, true, false, List, [], ◌∷◌}
use Rattle.std.proofs.Common.{Option, Some, None, is_some, refl, sym, ap, subst, ◌∙◌}
use Rattle.std.specs.Prelude.{◌||◌, ◌&&◌, nat_lt, is_none, if◌then◌else◌}
use Rattle.std.proofs.lemmas.Bool.{cases_eq, and_from, and_parts, and_left, and_right, false_from_ne_true, leb-false}
use borrow.Enum.Arm.{by_way}
use Rattle.z_regs.specs.Cpu.{Cpu}
use Rattle.z_regs.specs.Absolute.{absolute_ranges}
use Rattle.z_regs.specs.declared.image.RunState.{RunState}
use Rattle.z_regs.specs.declared.image.RunState.TheVariants.{Running, Halted, Interrupted}
use Rattle.z_regs.specs.declared.ranges.Range.{Range}
use Rattle.z_regs.specs.declared.waiting.Waiting.{Waiting}
use Rattle.z_instr.specs.declared.instr.Instr.{Instr}
use Rattle.tx_control.specs.Nesting.{is_constrained}
use Rattle.tx_control.specs.declared.causes.Why.{Why}
use Rattle.tx_control.specs.declared.causes.Why.TheVariants as why
use Rattle.tx_control.specs.declared.exceptions.Exception.{Exception}
use Rattle.tx_footprint.specs.Places.{stores}
use Rattle.tx_ladder.specs.Rungs.{is_starved}
use Rattle.tx_journal.specs.Image.{cpu_of_event}
use Rattle.tx_journal.specs.declared.entries.Entry.{Entry}
use Rattle.tx_journal.specs.declared.entries.Entry.TheVariants as entry
use Rattle.tx_serial.specs.Changes.{cpu_of_entry}
use Rattle.tx_meaning.specs.Hits.{hits_after}
use Rattle.tx_journal.specs.declared.events.Event.{Event}
use Rattle.tx_journal.specs.declared.events.Event.TheVariants as event
use Rattle.tx_serial.specs.Apply.{may_act, is_running}
use Rattle.tx_serial.specs.Ending.{fits, has_operands, comes_from_outside, is_cause, ending, ending_of}
use Rattle.tx_serial.specs.Ending.{fate_cause, is_open}
use Rattle.tx_serial.specs.Fate.{Fate, Goes, Ends, Stops, fate}
use Rattle.tx_serial.specs.Flat.{FlatState, Pending}
use Rattle.tx_serial.specs.Run.{run}
use Rattle.tx_serial.specs.Attempt.{Run, Open}
use Rattle.tx_serial.proofs.SameCauses.{one_cause}
use Rattle.tx_progress.specs.Progress.{Progress}
use Rattle.tx_progress.proofs.Parts as parts
use Rattle.tx_progress.specs.Local.{Local, Beside, block_stored, interruption_taken}
use Rattle.tx_progress.specs.Doing.{stopped, told_of}
use Rattle.tx_progress.specs.Trial.{fate_by_progress}
use Rattle.tx_progress.specs.Reached.{progress_of}
use Rattle.tx_meaning.specs.declared.asking.Reject.{Reject}
use Rattle.tx_meaning.specs.declared.outcome.Outcome.{Outcome}
use Rattle.tx_meaning.specs.declared.outcome.Outcome.TheVariants as outcome
use Rattle.tx_meaning.specs.Limits.{Setting}
use Rattle.tx_meaning.specs.Meaning.{IsSetting}
use Rattle.tx_meaning.specs.Needs.{needs_of, operand_needs, stored, interruption_ranges}
use Rattle.tx_meaning.specs.State.{State, is_live, cpus_of, flat_of, attempt_of, cpu_of, standing_of}
use Rattle.tx_meaning.specs.Changes.{with_entry, with_event, counting_turn, waiting_turn}
use Rattle.tx_meaning.specs.Asking.{Asked}
use Rattle.tx_meaning.specs.Idle.{idle, idle_by, has_ended, is_spent, kept_back}
use Rattle.tx_meaning.specs.Turn.{Turned, turned, ends_by, refused_turn, once_given, with_lines, executing}
use Rattle.tx_meaning.specs.Turn.{attempting}
use Rattle.tx_meaning.specs.Turn.{stepping, storing_block, taking_interruption, acting, external}
use Rattle.tx_meaning.specs.Turn.{interrupting}
use Rattle.tx_meaning.specs.Turn.{to_tail, by_rules, counted_turn, turn_where, turn, happen, outcome_of_abort}
use Rattle.tx_meaning.specs.Turn.{is_tick}
use Rattle.tx_keeping.specs.Kept.{Kept, kept_flat, kept_footprint, text_of, with_state, with_beside, beside}
use Rattle.tx_keeping.specs.Kept.{kept_finished}
use Rattle.tx_keeping.specs.Moves.{k_aborting, k_stepping, k_storing, k_taking}
use Rattle.tx_keeping.specs.Asking.{KAsked, k_get_lines, k_get_each}
use Rattle.tx_keeping.specs.Turn.{KTurned, k_turned, k_ends_by, k_outside, next_address, k_refused_turn}
use Rattle.tx_keeping.specs.Turn.{k_once_given}
use Rattle.tx_keeping.specs.Turn.{k_with_lines, k_executing, k_stopping, k_attempting, k_storing_block}
use Rattle.tx_keeping.specs.Turn.{k_acting}
use Rattle.tx_keeping.specs.Turn.{k_taking_interruption, k_interrupting, k_external, k_by_rules}
use Rattle.tx_keeping.specs.Turn.{k_counted_turn, k_idle, k_turn_where, k_turn, k_happen}
use Rattle.tx_keeping.proofs.Stores.{ChangesIn}
use Rattle.tx_keeping.proofs.Needed.{fate_followed, fate_stays, is_awaited, waits_stopped}
use Rattle.tx_keeping.proofs.Needed.{stopped_leaves, block_leaves, taking_leaves, block_changes}
use Rattle.tx_keeping.proofs.Needed.{taking_changes}
use Rattle.tx_keeping.proofs.Needed.{stays_followed, StaysFollowed, Leaves}
use Rattle.tx_keeping.proofs.Truth.{Truth, kept_is, live_is, flat_is, attempt_is, cpu_is, standing_is}
use Rattle.tx_keeping.proofs.Truth.{same_text}
use Rattle.tx_keeping.specs.Told.{turned_of}
use Rattle.tx_keeping.proofs.Holding.{Holds}
use Rattle.tx_keeping.proofs.Moves.{IsGood, restated, SameNumbers, same_numbers, one_number}
use Rattle.tx_keeping.proofs.Endings.{Ended, moved_ended, abort_ended, outside_fits}
use Rattle.tx_keeping.proofs.Asking.{Keeps, keeps_then, keeps_restated, Grows, grows_not, grows_then}
use Rattle.tx_keeping.proofs.Asking.{AskKeeps}
use Rattle.tx_keeping.proofs.Asking.{live_aborting_is, asks_restated}
use Rattle.tx_keeping.proofs.Getting.{lines_got}
use Rattle.tx_keeping.proofs.Needing.{HasLines, has_lines}
use Rattle.std.proofs.Common.{arith}
use Rattle.tx_keeping.proofs.Room.{AllWithin, HasRoom}
use Rattle.tx_keeping.proofs.Few.{instruction_room, resting_room, small_interruption, few_interruption}
use Rattle.tx_keeping.proofs.Acting.{ActOk, ended_act, ended_restated, step_moved, executing_act}
use Rattle.tx_keeping.proofs.Acting.{stepping_act, rests_cpu}
use Rattle.tx_progress.proofs.Quiet.{ends_live, stops_quiet}

-- ---- the statement

-- a turn leaves what the meaning says, and every attempt that goes on as it was
pub record TurnOk (m : Setting) (k : Kept) (t : Turned) (q : KTurned) : Type 0 where
  pub is : t ≡ turned_of q
  pub good : IsGood m q.kept
  pub grows : Grows k q.kept
  pub within : AllWithin k.state.held → AllWithin q.kept.state.held
  pub keeps : (x : ℕ) → is_live k.state x ≡ true
      → (q.kept.state.numbers x).completed ≡ (k.state.numbers x).completed → Keeps k q.kept x

no_more : {P : Type 0} (n mid after : ℕ) → nat_lt 0 n ≡ true → after ≡ n → mid ≡ 0 → after ≡ mid → P
no_more n mid after live same gone kept =
    let e : nat_lt 0 n ≡ nat_lt 0 0 = ap (nat_lt 0) (sym same ∙ kept ∙ gone) in
    absurd (let x : false ≡ true = sym e ∙ live in cc)

-- first lines, then what is done
pub then_act : (m : Setting) (i : ℕ) (k mid : Kept) (t : Turned) (q : KTurned) → AskKeeps i k mid
    → (AllWithin k.state.held → AllWithin mid.state.held) → ActOk m i mid t q → TurnOk m k t q
then_act m i k mid t q asks within act = record {
  is = act.is;
  good = act.good;
  grows = grows_then k mid q.kept asks.grows act.grows;
  within = λ most. subst AllWithin (sym act.held) (within most);
  keeps = λ x live same. by_way (cases_eq x i)
      (λ own. subst (Keeps k q.kept) (sym own)
      (let live' : is_live k.state i ≡ true = ap (is_live k.state) (sym own) ∙ live in
      let same' : (q.kept.state.numbers i).completed ≡ (k.state.numbers i).completed =
      ap (λ y. (q.kept.state.numbers y).completed) (sym own) ∙ same
      ∙ ap (λ y. (k.state.numbers y).completed) own in
      keeps_then k mid q.kept i asks.own
      (act.own (ap (nat_lt 0) asks.own.completed ∙ live') (same' ∙ sym asks.own.completed))))
      (λ ne. by_way (asks.each x)
      (λ gone. no_more (k.state.numbers x).completed (mid.state.numbers x).completed
      (q.kept.state.numbers x).completed live same gone (act.others x ne).completed)
      (λ kept. keeps_then k mid q.kept x kept (act.others x ne)));
}

pub act_only : (m : Setting) (i : ℕ) (k : Kept) (t : Turned) (q : KTurned) → ActOk m i k t q → TurnOk m k t q
act_only m i k t q act = then_act m i k k t q (asks_restated i k k.state refl (λ x. refl)) (λ most. most) act

-- behind a change of the state alone
pub behind : (m : Setting) (k : Kept) (s : State) (t : Turned) (q : KTurned) → s.history ≡ k.state.history
    → s.held ≡ k.state.held
    → ((x : ℕ) → (s.numbers x).completed ≡ (k.state.numbers x).completed)
    → TurnOk m (with_state s k) t q → TurnOk m k t q
behind m k s t q history held numbers ok = record {
  is = ok.is;
  good = ok.good;
  grows = grows_then k (with_state s k) q.kept (grows_not k (with_state s k) history) ok.grows;
  within = λ most. ok.within (subst AllWithin (sym held) most);
  keeps = λ x live same. keeps_then k (with_state s k) q.kept x (keeps_restated k s x (numbers x))
      (ok.keeps x (ap (nat_lt 0) (numbers x) ∙ live) (same ∙ sym (numbers x)));
}

-- the state alone changes
restated_act : (m : Setting) (i : ℕ) (k : Kept) (s : State) (o : Outcome) (r : Option Reject) → IsGood m k
    → s.history ≡ k.state.history → s.held ≡ k.state.held
    → ((x : ℕ) → SameNumbers (k.state.numbers x) (s.numbers x))
    → ActOk m i k (record { state = s; outcome = o; reject = r })
    (record { kept = with_state s k; outcome = o; reject = r })
restated_act m i k s o r g history held numbers = record {
  is = refl;
  good = record {
    truth = restated m k s g.truth history numbers;
    holds = subst (λ h. Holds (cpus_of m) h (kept_footprint k)) (sym held) g.holds;
  };
  grows = grows_not k (with_state s k) history;
  held = held;
  others = λ x ne. keeps_restated k s x (numbers x).completed;
  own = λ live same. keeps_restated k s i (numbers i).completed;
}

-- a cause by which a test ends it
ends_fits_run : (text : List ℕ) (p : Run) (w : Why) → p.mark ≡ Open → fate text p ≡ Ends w
    → fits text p w ≡ true
unfolding fits ending
ends_fits_run text p w opens ends =
    ap (λ mark. is_cause (ending_of mark text p) w || (is_open p.mark && comes_from_outside text p w)) opens
    ∙ ap (λ f. is_cause (fate_cause p f) w || (is_open p.mark && comes_from_outside text p w)) ends
    ∙ ap (λ b. b || (is_open p.mark && comes_from_outside text p w)) (one_cause w)

-- ---- the end of a CPU's own attempt

module _ (m : Setting) (s : IsSetting m) where
  -- for a cause that fits its run
  pub ends_act : (i : ℕ) (k : Kept) (w : Why) → IsGood m k → is_live k.state i ≡ true
      → fits (text_of m) (run (kept_flat m k) i (k.locals i).attempt.count) w ≡ true
      → ActOk m i k (ends_by m i (k.state.numbers i).completed w k.state) (k_ends_by i w (next_address k i) k)
  unfolding k_ends_by
  ends_act i k w g live fit =
      ended_act m s i k (ends_by m i (k.state.numbers i).completed w k.state)
      (k_turned (k_aborting i w (next_address k i) k) (outcome_of_abort w))
      (ap (λ s. turned s (outcome_of_abort w)) (live_aborting_is m i w (next_address k i) k g.truth live))
      (abort_ended m s k i w g live fit)

  -- ---- an attempt as it was

  pub own_stays : (k mid : Kept) (i : ℕ) → Truth m k → Truth m mid → Keeps k mid i
      → StaysFollowed (kept_flat m k) (kept_flat m mid) i (k.locals i)
  own_stays k mid i t u keeps =
      stays_followed (kept_flat m k) (kept_flat m mid) i (k.locals i) (kept_is m s k t)
      (t.each i).followed refl
      (same_text m s (kept_flat m k)
      (kept_flat m mid) k.state.history mid.state.history t.replayed u.replayed)
      (ap (λ (l : Local). l.cpu) keeps.local) (ap (λ (l : Local). l.pending) keeps.local)
      (ap (λ (l : Local). l.waiting) keeps.local) keeps.bytes

  -- its next instruction has the same fate
  pub own_fate : (k mid : Kept) (i : ℕ) → Truth m k → Truth m mid → Keeps k mid i
      → fate_by_progress (text_of m) mid.storage (mid.locals i).attempt
      ≡ fate_by_progress (text_of m) k.storage (k.locals i).attempt
  own_fate k mid i t u keeps =
      ap (λ (l : Local). fate_by_progress (text_of m) mid.storage l.attempt) keeps.local
      ∙ fate_stays (kept_flat m k) (kept_flat m mid) i (k.locals i) (kept_is m s k t) (kept_is m s mid u)
      (t.each i).followed (own_stays k mid i t u keeps) refl
      (same_text m s (kept_flat m k)
      (kept_flat m mid) k.state.history mid.state.history t.replayed u.replayed)

  -- ---- a turn that is rejected

  starved_fits : (k : Kept) (i : ℕ) → Truth m k → is_live k.state i ≡ true → is_starved (k.standings i) ≡ true
      → has_operands (fate_by_progress (text_of m) k.storage (k.locals i).attempt) ≡ true
      → fits (text_of m) (run (kept_flat m k) i (k.locals i).attempt.count) why.Starved ≡ true
  unfolding progress_of
  starved_fits k i t live starved asks =
      let p = run (kept_flat m k) i (k.locals i).attempt.count in
      let h = (t.each i).followed in
      let constrained : (k.standings i).constrained ≡ true =
      (and_parts (k.standings i).constrained _ starved).0 in
      outside_fits m k i why.Starved t
      (and_from (is_constrained p.nest) (has_operands (fate (text_of m) p))
      (ap (λ (q : Progress). is_constrained q.nest) h.attempt ∙ sym ((t.each i).kind live) ∙ constrained)
      (ap has_operands (fate_followed (kept_flat m k) i (k.locals i) (kept_is m s k t) h) ∙ asks))

  refused_act : (b : Bool) (i : ℕ) (r : Reject) (k : Kept) → IsGood m k
      → (is_live k.state i && is_starved (k.standings i)) ≡ b
      → (is_live k.state i ≡ true
      → has_operands (fate_by_progress (text_of m) k.storage (k.locals i).attempt) ≡ true)
      → ActOk m i k (refused_turn b m i r k.state) (k_refused_turn b i r k)
  refused_act false i r k g e asks =
      restated_act m i k k.state (outcome.Rejected r.by r.line) (Some r) g refl refl
      (λ x. same_numbers (k.state.numbers x))
  refused_act true i r k g e asks =
      let both = and_parts (is_live k.state i) (is_starved (k.standings i)) e in
      let act = ends_act i k why.Starved g both.0 (starved_fits k i g.truth both.0 both.1 (asks both.0)) in
      record {
        is = ap (λ (t : Turned). record t { reject = Some r }) act.is;
        good = act.good;
        grows = act.grows;
        held = act.held;
        others = act.others;
        own = act.own;
      }

  starved_is : (i : ℕ) (k : Kept) (b : Bool) → Truth m k → is_live k.state i ≡ b
      → (is_live k.state i && is_starved (standing_of m k.state i)) ≡ (is_live k.state i && is_starved
      (k.standings i))
  starved_is i k true t live = ap (λ st. is_live k.state i && is_starved st) (standing_is m k t i live)
  starved_is i k false t live =
      ap (λ b. b && is_starved (standing_of m k.state i)) live
      ∙ sym (ap (λ b. b && is_starved (k.standings i)) live)

  -- ---- lines first

  given_act : (i : ℕ) (q : KAsked) (r : Option Reject) (next : State → Turned) (k_next : Kept → KTurned)
      → q.reject ≡ r → IsGood m q.kept
      → (is_live q.kept.state i ≡ true → (reject : Reject) → r ≡ Some reject
      → has_operands (fate_by_progress (text_of m) q.kept.storage (q.kept.locals i).attempt) ≡ true)
      → (r ≡ None → ActOk m i q.kept (next q.kept.state) (k_next q.kept))
      → ActOk m i q.kept (once_given m i r q.kept.state next) (k_once_given i r q.kept k_next)
  given_act i q None next k_next e g asks act = act refl
  given_act i q (Some r) next k_next e g asks act =
      subst (λ b. ActOk m i q.kept (refused_turn b m i r q.kept.state)
      (k_refused_turn (is_live q.kept.state i && is_starved (q.kept.standings i)) i r q.kept))
      (sym (starved_is i q.kept (is_live q.kept.state i) g.truth refl))
      (refused_act (is_live q.kept.state i && is_starved (q.kept.standings i)) i r q.kept g refl
      (λ live. asks live r refl))

  -- by ranges, as the CPU's prefix has them
  pub lines_act : (i : ℕ) (k : Kept) (prefix : Option ℕ) (ranges : List Range) (next : State → Turned)
      (k_next : Kept → KTurned) → IsGood m k → i < cpus_of m
      → (is_live k.state i ≡ true → (reject : Reject)
      → (k_get_lines m i (operand_needs prefix ranges) k).reject ≡ Some reject
      → has_operands (fate_by_progress (text_of m) k.storage (k.locals i).attempt) ≡ true)
      → HasRoom (kept_footprint k i) (operand_needs prefix ranges)
      → ((mid : Kept) → IsGood m mid → Keeps k mid i
      → HasLines (mid.state.held i) (absolute_ranges prefix ranges)
      → ActOk m i mid (next mid.state) (k_next mid))
      → TurnOk m k (with_lines m i (operand_needs prefix ranges) k.state next)
      (k_with_lines m i (operand_needs prefix ranges) k k_next)
  lines_act i k prefix ranges next k_next g within asks room act =
      let needs = operand_needs prefix ranges in
      let q = k_get_lines m i needs k in
      let got = lines_got m s i needs needs k g within (λ n h. h) in
      let mid = q.kept in
      let is : with_lines m i needs k.state next ≡ once_given m i q.reject mid.state next =
      ap (λ (a : Asked). once_given m i a.reject a.state next) got.is in
      subst (λ t. TurnOk m k t (k_with_lines m i needs k k_next)) (sym is)
      (then_act m i k mid (once_given m i q.reject mid.state next)
      (k_once_given i q.reject mid k_next) got.keeps (got.within room)
      (given_act i q q.reject next k_next refl got.good
      (λ live reject e. ap has_operands (own_fate k mid i g.truth got.good.truth got.keeps.own)
      ∙ asks (sym (ap (nat_lt 0) got.keeps.own.completed) ∙ live) reject e)
      (λ none. act mid got.good got.keeps.own
      (has_lines (mid.state.held i) (absolute_ranges prefix ranges) (got.there none)))))

  -- ---- the next instruction

  no_ranges : (i : ℕ) (k : Kept) (prefix : Option ℕ) (ranges : List Range) (instr : Instr) (reject : Reject)
      → (k_get_lines m i (operand_needs prefix ranges) k).reject ≡ Some reject
      → has_operands (Goes instr ranges) ≡ true
  unfolding k_get_each needs_of
  no_ranges i k prefix [] instr reject e = absurd (let x : None ≡ Some reject = e in cc)
  no_ranges i k prefix (r ∷ rs) instr reject e = refl

  ends_fits : (k : Kept) (i : ℕ) (w : Why) → Truth m k
      → fate_by_progress (text_of m) k.storage (k.locals i).attempt ≡ Ends w
      → fits (text_of m) (run (kept_flat m k) i (k.locals i).attempt.count) w ≡ true
  ends_fits k i w t ends =
      let p = run (kept_flat m k) i (k.locals i).attempt.count in
      let h = (t.each i).followed in
      ends_fits_run (text_of m) p w h.opens
      (fate_followed (kept_flat m k) i (k.locals i) (kept_is m s k t) h ∙ ends)

  same_act : (k mid : Kept) (i : ℕ) → Keeps k mid i → may_act (kept_flat m mid) i ≡ may_act (kept_flat m k) i
  same_act k mid i keeps = ap (λ (l : Local). is_running l.cpu.state && is_none l.pending) keeps.local

  stopping_act : (i : ℕ) (k : Kept) (e : Exception) (after : Beside) → IsGood m k
      → after ≡ record { local = stopped e (k.locals i); storage = k.storage }
      → Ended m s k (k_stepping i after k) i
      → ActOk m i k (stepping m i 0 k.state) (k_stopping i after k e.code)
  unfolding stopped
  stopping_act i k e after g is end =
      subst (λ (b : Beside). ActOk m i k (stepping m i 0 k.state) (k_outside i after k
      (told_of b.local.cpu.state 0)))
      is (stepping_act m s i 0 k after end)

  attempting_ok : (i : ℕ) (k : Kept) (f : Fate) → IsGood m k → i < cpus_of m
      → may_act (kept_flat m k) i ≡ true
      → fate_by_progress (text_of m) k.storage (k.locals i).attempt ≡ f
      → TurnOk m k (attempting m i k.state f) (k_attempting m i k f)
  attempting_ok i k (Goes instr ranges) g within acts goes =
      let prefix = (k.locals i).attempt.cpu.prefix in
      subst (λ (c : Cpu). TurnOk m k (with_lines m i (operand_needs c.prefix ranges) k.state
      (executing m i instr))
      (k_with_lines m i (operand_needs prefix ranges) k (k_executing i instr ranges)))
      (sym (cpu_is m k g.truth i))
      (lines_act i k prefix ranges (executing m i instr) (k_executing i instr ranges) g within
      (λ live reject e. ap has_operands goes ∙ no_ranges i k prefix ranges instr reject e)
      (instruction_room m k i instr ranges g goes)
      (λ mid good keeps has. executing_act m s mid i instr ranges good (same_act k mid i keeps ∙ acts)
      (own_fate k mid i g.truth good.truth keeps ∙ goes)
      (subst (λ (l : Local). HasLines (mid.state.held i) (absolute_ranges l.attempt.cpu.prefix ranges))
      (sym keeps.local) has)))
  attempting_ok i k (Ends w) g within acts ends =
      act_only m i k _ _
      (ends_act i k w g
      (live_is m k g.truth i ∙ ends_live (kept_flat m k) i (k.locals i) w (g.truth.each i).followed ends)
      (ends_fits k i w g.truth ends))
  attempting_ok i k (Stops e) g within acts stops =
      let h = (g.truth.each i).followed in
      let off = stops_quiet (kept_flat m k) i (k.locals i) e h stops in
      let after : Beside = record { local = stopped e (k.locals i); storage = k.storage } in
      let lines : ℕ → Bool = λ line. false in
      let end = moved_ended m s k (k_stepping i after k) i (entry.Step i) after lines g
      (step_moved m k i (entry.Step i) after lines g (live_is m k g.truth i ∙ off) refl
      (stopped_leaves (text_of m) k.storage k.locals i e (kept_is m s k g.truth) h off acts stops)
      (λ a is. refl) (λ line is. absurd (let x : false ≡ true = is in cc)) (λ n. refl)) in
      act_only m i k _ _ (stopping_act i k e after g refl end)

  -- ---- a block, and an interruption

  pub done_act : (i : ℕ) (k : Kept) (e : Entry) (b : Beside) (ranges : List Range) → IsGood m k
      → is_live k.state i ≡ false → cpu_of_entry e ≡ i → Leaves (text_of m) k.storage k.locals i e b
      → ChangesIn (stores ranges) k.storage b.storage → HasLines (k.state.held i) ranges
      → ((n : ℕ) → hits_after i (kept_flat m k) e n ≡ n)
      → ActOk m i k (turned (with_entry e k.state) outcome.Executed)
      (k_turned (with_beside i b (with_state (with_entry e k.state) k)) outcome.Executed)
  done_act i k e b ranges g off of leaves changes has plain =
      ended_act m s i k _ _ refl
      (moved_ended m s k (with_beside i b (with_state (with_entry e k.state) k)) i e b (stores ranges) g
      (step_moved m k i e b (stores ranges) g off of leaves changes has.stored plain))

  not_live : (i : ℕ) (k : Kept) → Truth m k → may_act (kept_flat m k) i ≡ false → is_live k.state i ≡ false
  not_live i k t off =
      false_from_ne_true (is_live k.state i) (λ live.
      let on = (t.each i).followed.acts (sym (live_is m k t i) ∙ live) in
      let x : false ≡ true = sym off ∙ on in cc)

  pub pending_rests : (i : ℕ) (k : Kept) (b : Pending) → Truth m k → (k.locals i).pending ≡ Some b
      → is_live k.state i ≡ false
  pending_rests i k b t is =
      not_live i k t
      (and_right (is_running (k.locals i).cpu.state) (is_none (k.locals i).pending) (ap is_none is))

  pub waiting_rests : (i : ℕ) (k : Kept) (w : Waiting) → Truth m k → (k.locals i).waiting ≡ Some w
      → is_live k.state i ≡ false
  waiting_rests i k w t is =
      not_live i k t
      (and_left (is_running (k.locals i).cpu.state) (is_none (k.locals i).pending)
      (waits_stopped m.image k.state.history (kept_flat m k) s.image t.replayed i w is))

  -- the prefix of a CPU that rests
  own_prefix : (i : ℕ) (k : Kept) → Truth m k → is_live k.state i ≡ false
      → (k.locals i).attempt.cpu ≡ (k.locals i).cpu
  own_prefix i k t off =
      rests_cpu (kept_flat m k) i (k.locals i) (t.each i).followed
      (sym (t.each i).count ∙ parts.not_live (k.state.numbers i).completed off)

  storing_ok : (i : ℕ) (k : Kept) (b : Pending) → IsGood m k → i < cpus_of m → (k.locals i).pending ≡ Some b
      → TurnOk m k (storing_block m i b k.state) (k_storing_block m i b k)
  storing_ok i k b g within is =
      let prefix = (k.locals i).attempt.cpu.prefix in
      let ranges = stored b.address 256 ∷ [] in
      let next : State → Turned = λ t. turned (with_entry (entry.Tdb i) t) outcome.Executed in
      let off = pending_rests i k b g.truth is in
      subst (λ (c : Cpu). TurnOk m k (with_lines m i (operand_needs c.prefix ranges) k.state next)
      (k_storing_block m i b k)) (sym (cpu_is m k g.truth i))
      (lines_act i k prefix ranges next (λ t. k_turned (k_storing i t) outcome.Executed) g within
      (λ live reject e. absurd (let x : false ≡ true = sym off ∙ live in cc))
      (resting_room m k i prefix ranges g off (omega arith, tt) (omega arith))
      (λ mid good keeps has.
      let kept = kept_is m s mid good.truth in
      let there : (mid.locals i).pending ≡ Some b = ap (λ (l : Local). l.pending) keeps.local ∙ is in
      let off' = pending_rests i mid b good.truth there in
      let cpu : (mid.locals i).cpu ≡ (k.locals i).attempt.cpu =
      ap (λ (l : Local). l.cpu) keeps.local ∙ sym (own_prefix i k g.truth off) in
      done_act i mid (entry.Tdb i) (block_stored (beside mid i))
      (absolute_ranges prefix ranges) good off' refl
      (block_leaves (text_of m) mid.storage mid.locals i b kept (good.truth.each i).followed there)
      (subst (λ (c : Cpu). ChangesIn (stores (absolute_ranges c.prefix ranges)) mid.storage
      (block_stored (beside mid i)).storage) cpu
      (block_changes mid.storage mid.locals i b (kept.prefixes i) there (kept.blocks i b there).size))
      has (λ n. refl)))

  taking_ok : (i : ℕ) (k : Kept) (w : Waiting) → IsGood m k → i < cpus_of m → (k.locals i).pending ≡ None
      → (k.locals i).waiting ≡ Some w
      → TurnOk m k (taking_interruption m i w k.state) (k_taking_interruption m i w k)
  taking_ok i k w g within none is =
      let prefix = (k.locals i).attempt.cpu.prefix in
      let ranges = interruption_ranges w.block in
      let next : State → Turned = λ t. turned (with_entry (entry.Interrupt i) t) outcome.Executed in
      let off = waiting_rests i k w g.truth is in
      subst (λ (c : Cpu). TurnOk m k (with_lines m i (operand_needs c.prefix ranges) k.state next)
      (k_taking_interruption m i w k)) (sym (cpu_is m k g.truth i))
      (lines_act i k prefix ranges next (λ t. k_turned (k_taking i t) outcome.Executed) g within
      (λ live reject e. absurd (let x : false ≡ true = sym off ∙ live in cc))
      (resting_room m k i prefix ranges g off (small_interruption w.block) (few_interruption w.block))
      (λ mid good keeps has.
      let kept = kept_is m s mid good.truth in
      let there : (mid.locals i).waiting ≡ Some w = ap (λ (l : Local). l.waiting) keeps.local ∙ is in
      let empty : (mid.locals i).pending ≡ None = ap (λ (l : Local). l.pending) keeps.local ∙ none in
      let off' = waiting_rests i mid w good.truth there in
      let cpu : (mid.locals i).cpu ≡ (k.locals i).attempt.cpu =
      ap (λ (l : Local). l.cpu) keeps.local ∙ sym (own_prefix i k g.truth off) in
      done_act i mid (entry.Interrupt i) (interruption_taken (beside mid i))
      (absolute_ranges prefix ranges) good
      off' refl
      (taking_leaves (text_of m) mid.storage mid.locals i w kept (good.truth.each i).followed empty there)
      (subst (λ (c : Cpu). ChangesIn (stores (absolute_ranges c.prefix ranges)) mid.storage
      (interruption_taken (beside mid i)).storage) cpu
      (taking_changes mid.storage mid.locals i w (kept.prefixes i) there
      (λ bytes e. (kept.interruptions i w there).size bytes e)))
      has (λ n. refl)))

  -- ---- what a turn does

  -- a program that is not at its end runs, where no interruption is to be taken
  runs_where : (state : RunState) (prefix : Option ℕ) → has_ended state prefix ≡ false
      → ((code first : ℕ) → state ≡ Interrupted code → prefix ≡ Some first → ⊥) → is_running state ≡ true
  runs_where Running prefix h never = refl
  runs_where Halted prefix h never = absurd (let x : true ≡ false = h in cc)
  runs_where (Interrupted code) None h never = absurd (let x : true ≡ false = h in cc)
  runs_where (Interrupted code) (Some first) h never = absurd (never code first refl refl)

  -- a CPU that has nothing else to do, and whose program is not at its end, may act
  pub may_by : (i : ℕ) (k : Kept) (live : Bool) → Truth m k → is_live k.state i ≡ live → kept_finished k i ≡ false
      → (k.locals i).pending ≡ None → (k.locals i).waiting ≡ None → may_act (kept_flat m k) i ≡ true
  may_by i k true t live unfinished none empty = (t.each i).followed.acts (sym (live_is m k t i) ∙ live)
  may_by i k false t off unfinished none empty =
      let l = k.locals i in
      let ended : has_ended l.cpu.state l.cpu.prefix ≡ false =
      ap (λ (c : Cpu). has_ended c.state c.prefix) (sym (own_prefix i k t off))
      ∙ ap (λ o. is_none o && has_ended l.attempt.cpu.state l.attempt.cpu.prefix) (sym none) ∙ unfinished in
      and_from (is_running l.cpu.state) (is_none l.pending)
      (runs_where l.cpu.state l.cpu.prefix ended (λ code first stopped prefix.
      let there = is_awaited m.image k.state.history (kept_flat m k) s.image t.replayed i code first stopped
      prefix in
      let x : false ≡ true = sym (ap is_some empty) ∙ there in cc))
      (ap is_none none)

  acting_by : (i : ℕ) (k : Kept) (pending : Option Pending) (waiting : Option Waiting) → IsGood m k
      → i < cpus_of m
      → kept_finished k i ≡ false → (k.locals i).pending ≡ pending → (k.locals i).waiting ≡ waiting
      → TurnOk m k (acting m i k.state pending waiting) (k_acting m i k pending waiting)
  acting_by i k (Some b) w g within unfinished is awaits = storing_ok i k b g within is
  acting_by i k None (Some w) g within unfinished none is = taking_ok i k w g within none is
  acting_by i k None None g within unfinished none empty =
      let h = (g.truth.each i).followed in
      let f = fate_by_progress (text_of m) k.storage (k.locals i).attempt in
      let is : fate (flat_of m k.state).text (attempt_of m k.state i) ≡ f =
      ap (λ (f : FlatState). fate f.text (attempt_of m k.state i)) (flat_is m k g.truth)
      ∙ ap (fate (text_of m)) (attempt_is m k g.truth i)
      ∙ fate_followed (kept_flat m k) i (k.locals i) (kept_is m s k g.truth) h in
      subst (λ fate. TurnOk m k (attempting m i k.state fate) (k_attempting m i k f)) (sym is)
      (attempting_ok i k f g within (may_by i k (is_live k.state i) g.truth refl unfinished none empty) refl)

  acting_ok : (i : ℕ) (k : Kept) → IsGood m k → i < cpus_of m → kept_finished k i ≡ false
      → TurnOk m k (acting m i k.state ((flat_of m k.state).pending i) ((flat_of m k.state).waiting i))
      (k_acting m i k (k.locals i).pending (k.locals i).waiting)
  acting_ok i k g within unfinished =
      subst (λ (f : FlatState). TurnOk m k (acting m i k.state (f.pending i) (f.waiting i))
      (k_acting m i k (k.locals i).pending (k.locals i).waiting)) (sym (flat_is m k g.truth))
      (acting_by i k (k.locals i).pending (k.locals i).waiting g within unfinished refl refl)

  -- ---- an external interruption

  external_by : (b : Bool) (i : ℕ) (k : Kept) → IsGood m k → is_live k.state i ≡ b
      → ActOk m i k (interrupting b m i k.state) (k_interrupting b i k)
  external_by true i k g live =
      let mid = k_aborting i why.External (next_address k i) k in
      let end = abort_ended m s k i why.External g live (outside_fits m k i why.External g.truth refl) in
      ended_act m s i k (interrupting true m i k.state) (k_interrupting true i k)
      (ap (λ s. turned (to_tail i s) (outcome_of_abort why.External))
      (live_aborting_is m i why.External (next_address k i) k g.truth live))
      (ended_restated m s k mid i (to_tail i mid.state) refl refl (λ x. same_numbers (mid.state.numbers x))
      (λ x ne. refl) end)
  external_by false i k g off =
      restated_act m i k (to_tail i k.state) outcome.External None g refl refl
      (λ x. same_numbers (k.state.numbers x))

  pub external_ok : (i : ℕ) (k : Kept) → IsGood m k → TurnOk m k (external m i k.state) (k_external i k)
  unfolding k_external
  external_ok i k g = act_only m i k _ _ (external_by (is_live k.state i) i k g refl)

  -- ---- a turn

  rules_ok : (tick waits : Bool) (i : ℕ) (k : Kept) → IsGood m k → i < cpus_of m → kept_finished k i ≡ false
      → TurnOk m k (by_rules tick waits m i k.state) (k_by_rules tick waits m i k)
  rules_ok true waits i k g within unfinished = external_ok i k g
  rules_ok false true i k g within unfinished =
      act_only m i k _ _ (restated_act m i k (waiting_turn i k.state) outcome.Delayed None g refl refl
      (one_number k.state.numbers i _ record { completed = refl; given = refl; refused = refl }))
  rules_ok false false i k g within unfinished = acting_ok i k g within unfinished

  counted_ok : (i : ℕ) (k : Kept) → IsGood m k → i < cpus_of m → kept_finished k i ≡ false
      → TurnOk m k (counted_turn m i k.state) (k_counted_turn m i k)
  unfolding k_counted_turn
  counted_ok i k g within unfinished =
      let n = k.state.numbers i in
      rules_ok (is_tick m.limits n.turns) (nat_lt 0 n.delay) i k g within unfinished

  pub idle_is : (i : ℕ) (k : Kept) → Truth m k → idle m k.state i ≡ k_idle m k i
  unfolding idle k_idle
  idle_is i k t =
      ap (λ (f : FlatState). idle_by m.limits (is_none (f.pending i)
      && has_ended (cpu_of m k.state i).state (cpu_of m k.state i).prefix) k.state.queue
      (k.state.numbers i) i)
      (flat_is m k t)
      ∙ ap (λ (c : Cpu). idle_by m.limits (is_none
      (k.locals i).pending && has_ended c.state c.prefix) k.state.queue
      (k.state.numbers i) i) (cpu_is m k t i)

  unfinished_by : (i : ℕ) (k : Kept) (b : Bool) → kept_finished k i ≡ b
      → idle_by m.limits b k.state.queue (k.state.numbers i) i ≡ None → b ≡ false
  unfinished_by i k true is none = absurd (let x : Some outcome.Halted ≡ None = none in cc)
  unfinished_by i k false is none = refl

  not_finished : (i : ℕ) (k : Kept) → k_idle m k i ≡ None → kept_finished k i ≡ false
  unfolding k_idle
  not_finished i k none = unfinished_by i k (kept_finished k i) refl none

  turn_by : (i : ℕ) (k : Kept) (o : Option Outcome) → IsGood m k → i < cpus_of m → k_idle m k i ≡ o
      → TurnOk m k (turn_where o m i k.state) (k_turn_where o m i k)
  turn_by i k (Some o) g within e =
      act_only m i k _ _ (restated_act m i k k.state o None g refl refl (λ x. same_numbers
      (k.state.numbers x)))
  turn_by i k None g within e =
      let counted = with_event (event.Turn i) (counting_turn i k.state) in
      let n = record (k.state.numbers i) { turns = (k.state.numbers i).turns + 1 } in
      let same = one_number k.state.numbers i n record { completed = refl; given = refl; refused = refl } in
      behind m k counted _ _ refl refl (λ x. (same x).completed)
      (counted_ok i (with_state counted k)
      (record { truth = restated m k counted g.truth refl same; holds = g.holds }) within
      (not_finished i k e))

  turn_ok : (i : ℕ) (k : Kept) → IsGood m k → i < cpus_of m → TurnOk m k (turn m i k.state) (k_turn m i k)
  unfolding turn k_turn
  turn_ok i k g within =
      subst (λ o. TurnOk m k (turn_where o m i k.state) (k_turn_where (k_idle m k i) m i k))
      (sym (idle_is i k g.truth)) (turn_by i k (k_idle m k i) g within refl)

  -- ---- an event

  pub happen_ok : (e : Event) (k : Kept) → IsGood m k → cpu_of_event e < cpus_of m
      → TurnOk m k (happen m e k.state) (k_happen m e k)
  unfolding happen k_happen
  happen_ok (event.Turn i) k g within = turn_ok i k g within
  happen_ok (event.External i) k g within =
      let told = with_event (event.External i) k.state in
      behind m k told _ _ refl refl (λ x. refl)
      (external_ok i (with_state told k)
      (record {
        truth = restated m k told g.truth refl (λ x. same_numbers
            (k.state.numbers x));
        holds = g.holds;
      }))

-- ---- turns that are left

-- a turn that is neither finished nor spent
spared : (finished spent : Bool) (o : Option Outcome)
    → (if finished then Some outcome.Halted else (if spent then Some outcome.Spent else o)) ≡ None
    → spent ≡ false
spared true spent o h = absurd cc
spared false true o h = absurd cc
spared false false o h = refl

-- a CPU whose turn is not idle has one left
pub turn_left : (m : Setting) (k : Kept) (i : ℕ) → k_idle m k i ≡ None
    → (k.state.numbers i).turns < m.limits.turns
unfolding k_idle
turn_left m k i none =
    leb-false m.limits.turns (k.state.numbers i).turns
    (spared (kept_finished k i) (is_spent m.limits (k.state.numbers i)) (kept_back k.state.queue i) none)
