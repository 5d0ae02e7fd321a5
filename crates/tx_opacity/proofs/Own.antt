-- What an event leaves of the attempt of the CPU that it is of: it is over, or it goes on from where it saw the
-- same as before, behind the lines that it asked for.
use Rattle.std.proofs.Common.{◌≡◌, ℕ, ◌+◌, ◌<◌, Bool, true, false, List, Option, Some, None, refl, sym, ap, ◌∙◌}
use Rattle.std.proofs.Common.{subst, inl, inr}
use Rattle.std.specs.Prelude.{◌⊎◌, ◌&&◌, nat_lt}
use Rattle.z_regs.specs.declared.ranges.Range.{Range}
use Rattle.z_instr.specs.declared.instr.Instr.{Instr}
use Rattle.tx_control.specs.declared.causes.Why.{Why}
use Rattle.tx_control.specs.declared.causes.Why.TheVariants as why
use Rattle.tx_ladder.specs.Rungs.{is_starved}
use Rattle.tx_journal.specs.Image.{cpu_of_event}
use Rattle.tx_journal.specs.declared.events.Event.{Event}
use Rattle.tx_journal.specs.declared.events.Event.TheVariants as event
use Rattle.tx_serial.specs.Fate.{Fate, Goes, Ends, Stops}
use Rattle.tx_serial.specs.Flat.{Pending}
use Rattle.z_regs.specs.declared.waiting.Waiting.{Waiting}
use Rattle.tx_bounds.specs.Local.{Beside}
use Rattle.tx_bounds.specs.Doing.{executed}
use Rattle.tx_bounds.specs.Trial.{fate_by_progress}
use Rattle.tx_bounds.specs.Done.{Done}
use Rattle.tx_bounds.specs.Done.TheVariants as done
use Rattle.tx_meaning.specs.declared.asking.Reject.{Reject}
use Rattle.tx_meaning.specs.declared.outcome.Outcome.{Outcome}
use Rattle.tx_meaning.specs.Limits.{Setting}
use Rattle.tx_meaning.specs.Meaning.{IsSetting}
use Rattle.tx_meaning.specs.Needs.{operand_needs}
use Rattle.tx_meaning.specs.State.{Numbers, State, is_live, cpus_of}
use Rattle.tx_meaning.specs.Changes.{with_event, counting_turn}
use Rattle.tx_meaning.specs.Turn.{is_tick}
use Rattle.tx_bounds.specs.Kept.{Kept, kept_flat, text_of, with_state, with_beside, beside}
use Rattle.tx_bounds.specs.Asking.{k_get_lines}
use Rattle.tx_bounds.specs.Turn.{KTurned, k_ends_by, k_once_given, k_refused_turn, k_inside, k_done, k_executing}
use Rattle.tx_bounds.specs.Turn.{k_attempting, k_acting, k_external, k_interrupting, k_by_rules, k_counted_turn}
use Rattle.tx_bounds.specs.Turn.{k_turn, k_turn_where, k_idle, k_happen, next_address}
use Rattle.tx_bounds.proofs.Truth.{Truth, live_is}
use Rattle.tx_bounds.proofs.Moves.{IsGood, restated, same_numbers, one_number}
use Rattle.tx_bounds.proofs.Asking.{Keeps, keeps_then, keeps_restated}
use Rattle.tx_bounds.proofs.Getting.{lines_got}
use Rattle.tx_bounds.proofs.Turning.{pending_rests, waiting_rests}
use Rattle.tx_bounds.proofs.OtherTurns.{aborted_dead}
use Rattle.tx_serial.proofs.Entries.{at_put_same}
use Rattle.tx_bounds.proofs.Quiet.{stops_quiet}

-- there was a moment with the same history as behind, at which the attempt saw what it had seen before
pub record Saw (m : Setting) (k q : Kept) (i : ℕ) : Type 0 where
  pub mid : Kept
  pub truth : Truth m mid
  pub keeps : Keeps k mid i
  pub history : q.state.history ≡ mid.state.history

abbrev pub Own : Setting → Kept → Kept → ℕ → Type 0
Own m k q i = (is_live q.state i ≡ false) ⊎ Saw m k q i

module _ (m : Setting) (s : IsSetting m) (i : ℕ) where
  clash : {P : Type 0} (b : Bool) → b ≡ true → b ≡ false → P
  clash b on off = absurd (let x : true ≡ false = sym on ∙ off in cc)

  -- the state alone has changed, and of the history nothing
  at_once : (k : Kept) (t : State) → Truth m k → t.history ≡ k.state.history → Own m k (with_state t k) i
  at_once k t truth is = inr record {
    mid = k;
    truth = truth;
    keeps = record { completed = refl; local = refl; bytes = λ a is. refl };
    history = is;
  }

  -- ---- an instruction, when its lines are there

  inside : (k mid : Kept) (at : ℕ) (after : Beside) (d : Done) → Truth m mid → Keeps k mid i
      → Own m k (k_inside i at after mid d).kept i
  unfolding k_ends_by
  inside k mid at after done.Stepped t keeps =
      inr record { mid = mid; truth = t; keeps = keeps; history = refl }
  inside k mid at after (done.Committed n) t keeps =
      inl (ap (λ (v : Numbers). nat_lt 0 v.completed)
      (at_put_same mid.state.numbers i (record (mid.state.numbers i) { completed = 0 })))
  inside k mid at after (done.Ended w) t keeps = inl (aborted_dead m i (with_beside i after mid) w at)
  inside k mid at after done.Began t keeps =
      inr record { mid = mid; truth = t; keeps = keeps; history = refl }
  inside k mid at after (done.Paused turns) t keeps =
      inr record { mid = mid; truth = t; keeps = keeps; history = refl }
  inside k mid at after (done.Interrupted code) t keeps =
      inr record { mid = mid; truth = t; keeps = keeps; history = refl }

  done_by : (b : Bool) (k mid : Kept) (instr : Instr) (ranges : List Range) → b ≡ true → Truth m mid
      → Keeps k mid i → Own m k (k_done b i (executed instr ranges (beside mid i)) mid).kept i
  done_by true k mid instr ranges live t keeps =
      let e = executed instr ranges (beside mid i) in inside k mid (next_address mid i) e.after e.told t keeps
  done_by false k mid instr ranges live t keeps = clash false live refl

  refused_by : (b : Bool) (r : Reject) (k mid : Kept) → Truth m mid → Keeps k mid i
      → Own m k (k_refused_turn b i r mid).kept i
  unfolding k_ends_by
  refused_by false r k mid t keeps = inr record { mid = mid; truth = t; keeps = keeps; history = refl }
  refused_by true r k mid t keeps = inl (aborted_dead m i mid why.Starved (next_address mid i))

  given_by : (o : Option Reject) (k mid : Kept) (instr : Instr) (ranges : List Range)
      → is_live k.state i ≡ true → Truth m mid → Keeps k mid i
      → Own m k (k_once_given i o mid (k_executing i instr ranges)).kept i
  unfolding k_executing
  given_by None k mid instr ranges live t keeps =
      done_by (is_live mid.state i) k mid instr ranges (ap (nat_lt 0) keeps.completed ∙ live) t keeps
  given_by (Some r) k mid instr ranges live t keeps =
      refused_by (is_live mid.state i && is_starved (mid.standings i)) r k mid t keeps

  -- ---- a turn

  attempted : (k : Kept) (f : Fate) → IsGood m k → i < cpus_of m → is_live k.state i ≡ true
      → fate_by_progress (text_of m) k.storage (k.locals i).attempt ≡ f → Own m k (k_attempting m i k f).kept i
  unfolding k_ends_by
  attempted k (Goes instr ranges) g within live is =
      let needs = operand_needs (k.locals i).attempt.cpu.prefix ranges in
      let q = k_get_lines m i needs k in
      let got = lines_got m s i needs needs k g within (λ n h. h) in
      given_by q.reject k q.kept instr ranges live got.good.truth got.keeps.own
  attempted k (Ends w) g within live is = inl (aborted_dead m i k w (next_address k i))
  attempted k (Stops e) g within live is =
      clash (is_live k.state i) live
      (live_is m k g.truth i ∙ stops_quiet (kept_flat m k) i (k.locals i) e (g.truth.each i).followed is)

  acted : (k : Kept) (pending : Option Pending) (waiting : Option Waiting) → IsGood m k → i < cpus_of m
      → is_live k.state i ≡ true → (k.locals i).pending ≡ pending → (k.locals i).waiting ≡ waiting
      → Own m k (k_acting m i k pending waiting).kept i
  acted k (Some b) w g within live is awaits =
      clash (is_live k.state i) live (pending_rests m s i k b g.truth is)
  acted k None (Some w) g within live none is =
      clash (is_live k.state i) live (waiting_rests m s i k w g.truth is)
  acted k None None g within live none empty =
      attempted k (fate_by_progress (text_of m) k.storage (k.locals i).attempt) g within live refl

  interrupted_by : (b : Bool) (k : Kept) → Truth m k → Own m k (k_interrupting b i k).kept i
  interrupted_by true k t = inl (aborted_dead m i k why.External (next_address k i))
  interrupted_by false k t = at_once k _ t refl

  interrupted : (k : Kept) → Truth m k → Own m k (k_external i k).kept i
  unfolding k_external
  interrupted k t = interrupted_by (is_live k.state i) k t

  ruled : (tick waits : Bool) (k : Kept) → IsGood m k → i < cpus_of m → is_live k.state i ≡ true
      → Own m k (k_by_rules tick waits m i k).kept i
  ruled true waits k g within live = interrupted k g.truth
  ruled false true k g within live = at_once k _ g.truth refl
  ruled false false k g within live = acted k (k.locals i).pending (k.locals i).waiting g within live refl refl

  counted : (k : Kept) → IsGood m k → i < cpus_of m → is_live k.state i ≡ true
      → Own m k (k_counted_turn m i k).kept i
  unfolding k_counted_turn
  counted k g within live =
      ruled (is_tick m.limits (k.state.numbers i).turns) (nat_lt 0 (k.state.numbers i).delay) k g within live

  -- behind a change of the state that leaves the history
  behind : (k : Kept) (t : State) (q : Kept) → (t.numbers i).completed ≡ (k.state.numbers i).completed
      → Own m (with_state t k) q i → Own m k q i
  behind k t q same (inl over) = inl over
  behind k t q same (inr saw) = inr record {
    mid = saw.mid;
    truth = saw.truth;
    keeps = keeps_then k (with_state t k) saw.mid i (keeps_restated k t i same) saw.keeps;
    history = saw.history;
  }

  turned : (o : Option Outcome) (k : Kept) → IsGood m k → i < cpus_of m → is_live k.state i ≡ true
      → Own m k (k_turn_where o m i k).kept i
  turned (Some o) k g within live = at_once k k.state g.truth refl
  turned None k g within live =
      let t = with_event (event.Turn i) (counting_turn i k.state) in
      let n = record (k.state.numbers i) { turns = (k.state.numbers i).turns + 1 } in
      let same = one_number k.state.numbers i n record { completed = refl; given = refl; refused = refl } in
      behind k t _ (same i).completed
      (counted (with_state t k) (record { truth = restated m k t g.truth refl same; holds = g.holds }) within
      (ap (nat_lt 0) (same i).completed ∙ live))

  pub own_turn : (k : Kept) → IsGood m k → i < cpus_of m → is_live k.state i ≡ true
      → Own m k (k_happen m (event.Turn i) k).kept i
  unfolding k_happen k_turn
  own_turn k g within live = turned (k_idle m k i) k g within live

  pub own_interruption : (k : Kept) → IsGood m k → Own m k (k_happen m (event.External i) k).kept i
  unfolding k_happen
  own_interruption k g =
      let t = with_event (event.External i) k.state in
      behind k t _ refl
      (interrupted (with_state t k) (restated m k t g.truth refl (λ x. same_numbers (k.state.numbers x))))

-- and so in any event of this CPU
pub own_event : (m : Setting) (s : IsSetting m) (e : Event) (k : Kept) → IsGood m k → cpu_of_event e < cpus_of m
    → is_live k.state (cpu_of_event e) ≡ true → Own m k (k_happen m e k).kept (cpu_of_event e)
own_event m s (event.Turn i) k g within live = own_turn m s i k g within live
own_event m s (event.External i) k g within live = own_interruption m s i k g
