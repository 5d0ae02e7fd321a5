-- What an event leaves of the attempt of the CPU that it is of: it is over, it has completed as many
-- instructions
-- as before, or one more, behind the lines that it asked for.
use Rattle.std.proofs.Common.{◌≡◌, ℕ, ◌+◌, ◌<◌, Bool, true, false, List, Option, Some, None, refl, sym, ap}
use Rattle.std.proofs.Common.{◌∙◌}
use Rattle.std.specs.Prelude.{◌&&◌, nat_lt}
use Rattle.z_regs.specs.declared.ranges.Range.{Range}
use Rattle.z_regs.specs.declared.waiting.Waiting.{Waiting}
use Rattle.z_instr.specs.declared.instr.Instr.{Instr}
use Rattle.tx_control.specs.declared.causes.Why.TheVariants as why
use Rattle.tx_ladder.specs.Rungs.{is_starved}
use Rattle.tx_journal.specs.declared.events.Event.TheVariants as event
use Rattle.tx_serial.specs.Fate.{Fate, Goes, Ends, Stops}
use Rattle.tx_serial.specs.Flat.{Pending}
use Rattle.tx_progress.specs.Local.{Beside}
use Rattle.tx_progress.specs.Doing.{executed}
use Rattle.tx_progress.specs.Trial.{fate_by_progress}
use Rattle.tx_progress.specs.declared.done.Done.{Done}
use Rattle.tx_progress.specs.declared.done.Done.TheVariants as done
use Rattle.tx_progress.proofs.Parts.{not_live}
use Rattle.tx_meaning.specs.declared.asking.Need.{Need}
use Rattle.tx_meaning.specs.declared.asking.Reject.{Reject}
use Rattle.tx_meaning.specs.declared.outcome.Outcome.{Outcome}
use Rattle.tx_meaning.specs.Limits.{Setting}
use Rattle.tx_meaning.specs.Meaning.{IsSetting}
use Rattle.tx_meaning.specs.State.{Numbers, State, is_live, cpus_of}
use Rattle.tx_meaning.specs.Changes.{with_event, counting_turn}
use Rattle.tx_meaning.specs.Turn.{is_tick}
use Rattle.tx_keeping.specs.Kept.{Kept, text_of, with_state, with_beside, beside}
use Rattle.tx_keeping.specs.Asking.{k_get_lines}
use Rattle.tx_keeping.specs.Turn.{KTurned, k_ends_by, k_once_given, k_refused_turn, k_inside, k_outside}
use Rattle.tx_keeping.specs.Turn.{k_done}
use Rattle.tx_keeping.specs.Turn.{k_executing, k_with_lines, k_attempting, k_acting, k_external}
use Rattle.tx_keeping.specs.Turn.{k_interrupting}
use Rattle.tx_keeping.specs.Turn.{k_by_rules, k_counted_turn, k_turn, k_turn_where, k_idle, k_happen}
use Rattle.tx_keeping.specs.Turn.{next_address}
use Rattle.tx_keeping.proofs.Truth.{Truth}
use Rattle.tx_keeping.proofs.Moves.{IsGood, restated, one_number}
use Rattle.tx_keeping.proofs.Asking.{Keeps, keeps_then, keeps_restated}
use Rattle.tx_keeping.proofs.Getting.{lines_got}
use Rattle.tx_schedule.proofs.OtherTurns.{aborted_dead}
use Rattle.tx_schedule.proofs.Own.{Saw}
use Rattle.tx_serial.proofs.Entries.{at_put_same}

abbrev pub completed : Kept → ℕ → ℕ
completed k i = (k.state.numbers i).completed

-- one instruction more is completed, on what was seen before, and nothing was left to do before it
pub record More (m : Setting) (k q : Kept) (i : ℕ) : Type 0 where
  pub saw : Saw m k q i
  pub count : completed q i ≡ completed k i + 1
  pub pending : (k.locals i).pending ≡ None
  pub waiting : (k.locals i).waiting ≡ None

pub data Went (m : Setting) (k q : Kept) (i : ℕ) : Type 0 where
  Over : is_live q.state i ≡ false → Went m k q i
  Same : completed q i ≡ completed k i → Went m k q i
  Further : More m k q i → Went m k q i

module _ (m : Setting) (s : IsSetting m) (i : ℕ) where
  -- nothing is left to do before the next instruction
  record Rests (k : Kept) : Type 0 where
    pending : (k.locals i).pending ≡ None
    waiting : (k.locals i).waiting ≡ None

  further : (k mid q : Kept) → Rests k → Truth m mid → Keeps k mid i → q.state.history ≡ mid.state.history
      → completed q i ≡ completed mid i + 1 → Went m k q i
  further k mid q rests t keeps history count = Further record {
    saw = record { mid = mid; truth = t; keeps = keeps; history = history };
    count = count ∙ ap (λ n. n + 1) keeps.completed;
    pending = rests.pending;
    waiting = rests.waiting;
  }

  -- ---- an instruction, when its lines are there

  inside : (k mid : Kept) (at : ℕ) (after : Beside) (d : Done) → Rests k → Truth m mid → Keeps k mid i
      → Went m k (k_inside i at after mid d).kept i
  unfolding k_ends_by
  inside k mid at after done.Stepped rests t keeps =
      further k mid _ rests t keeps refl
      (ap (λ (v : Numbers). v.completed)
      (at_put_same mid.state.numbers i (record (mid.state.numbers i) { completed = completed mid i + 1 })))
  inside k mid at after (done.Committed n) rests t keeps =
      Over (ap (λ (v : Numbers). nat_lt 0 v.completed)
      (at_put_same mid.state.numbers i (record (mid.state.numbers i) { completed = 0 })))
  inside k mid at after (done.Ended w) rests t keeps =
      Over (aborted_dead m i (with_beside i after mid) w at)
  inside k mid at after done.Began rests t keeps = Same keeps.completed
  inside k mid at after (done.Paused turns) rests t keeps = Same keeps.completed
  inside k mid at after (done.Interrupted code) rests t keeps = Same keeps.completed

  outside : (k mid : Kept) (after : Beside) (d : Done) → is_live mid.state i ≡ false → Rests k → Truth m mid
      → Keeps k mid i → Went m k (k_outside i after mid d).kept i
  outside k mid after done.Began off rests t keeps =
      let n = mid.state.numbers i in
      further k mid _ rests t keeps refl
      (ap (λ (v : Numbers). v.completed)
      (at_put_same mid.state.numbers i
      (record n { completed = 1; attempts = n.attempts + 1; given = 0; refused = 0 }))
      ∙ ap (λ c. c + 1) (sym (not_live (completed mid i) off)))
  outside k mid after done.Stepped off rests t keeps = Same keeps.completed
  outside k mid after (done.Paused turns) off rests t keeps =
      Same (ap (λ (v : Numbers). v.completed)
      (at_put_same mid.state.numbers i (record (mid.state.numbers i) { delay = turns })) ∙ keeps.completed)
  outside k mid after (done.Interrupted code) off rests t keeps = Same keeps.completed
  outside k mid after (done.Committed n) off rests t keeps = Same keeps.completed
  outside k mid after (done.Ended w) off rests t keeps = Same keeps.completed

  done_by : (b : Bool) (k mid : Kept) (instr : Instr) (ranges : List Range) → is_live mid.state i ≡ b → Rests k
      → Truth m mid → Keeps k mid i → Went m k (k_done b i (executed instr ranges (beside mid i)) mid).kept i
  done_by true k mid instr ranges live rests t keeps =
      let e = executed instr ranges (beside mid i) in
      inside k mid (next_address mid i) e.after e.told rests t keeps
  done_by false k mid instr ranges live rests t keeps =
      let e = executed instr ranges (beside mid i) in outside k mid e.after e.told live rests t keeps

  executing : (k mid : Kept) (instr : Instr) (ranges : List Range) → Rests k → Truth m mid → Keeps k mid i
      → Went m k (k_executing i instr ranges mid).kept i
  unfolding k_executing
  executing k mid instr ranges rests t keeps =
      done_by (is_live mid.state i) k mid instr ranges refl rests t keeps

  -- ---- lines first

  refused_by : (b : Bool) (r : Reject) (k mid : Kept) → Keeps k mid i
      → Went m k (k_refused_turn b i r mid).kept i
  unfolding k_ends_by
  refused_by false r k mid keeps = Same keeps.completed
  refused_by true r k mid keeps = Over (aborted_dead m i mid why.Starved (next_address mid i))

  given_by : (o : Option Reject) (k mid : Kept) (next : Kept → KTurned) → Keeps k mid i
      → Went m k (next mid).kept i → Went m k (k_once_given i o mid next).kept i
  given_by None k mid next keeps went = went
  given_by (Some r) k mid next keeps went =
      refused_by (is_live mid.state i && is_starved (mid.standings i)) r k mid keeps

  behind_lines : (k : Kept) (needs : List Need) (next : Kept → KTurned) → IsGood m k → i < cpus_of m
      → ((mid : Kept) → IsGood m mid → Keeps k mid i → Went m k (next mid).kept i)
      → Went m k (k_with_lines m i needs k next).kept i
  behind_lines k needs next g within act =
      let q = k_get_lines m i needs k in
      let got = lines_got m s i needs needs k g within (λ n h. h) in
      given_by q.reject k q.kept next got.keeps.own (act q.kept got.good got.keeps.own)

  -- ---- a turn

  attempted : (k : Kept) (f : Fate) → IsGood m k → i < cpus_of m → Rests k → Went m k (k_attempting m i k f).kept i
  unfolding k_ends_by
  attempted k (Goes instr ranges) g within rests =
      behind_lines k _ (k_executing i instr ranges) g within (λ mid good keeps.
      executing k mid instr ranges rests good.truth keeps)
  attempted k (Ends w) g within rests = Over (aborted_dead m i k w (next_address k i))
  attempted k (Stops e) g within rests = Same refl

  acted : (k : Kept) (pending : Option Pending) (waiting : Option Waiting) → IsGood m k → i < cpus_of m
      → (k.locals i).pending ≡ pending → (k.locals i).waiting ≡ waiting
      → Went m k (k_acting m i k pending waiting).kept i
  acted k (Some b) w g within is awaits =
      behind_lines k _ _ g within (λ mid good keeps. Same keeps.completed)
  acted k None (Some w) g within none is =
      behind_lines k _ _ g within (λ mid good keeps. Same keeps.completed)
  acted k None None g within none empty =
      attempted k (fate_by_progress (text_of m) k.storage (k.locals i).attempt) g within
      record { pending = none; waiting = empty }

  interrupted_by : (b : Bool) (k : Kept) → Went m k (k_interrupting b i k).kept i
  interrupted_by true k = Over (aborted_dead m i k why.External (next_address k i))
  interrupted_by false k = Same refl

  interrupted : (k : Kept) → Went m k (k_external i k).kept i
  unfolding k_external
  interrupted k = interrupted_by (is_live k.state i) k

  ruled : (tick waits : Bool) (k : Kept) → IsGood m k → i < cpus_of m → Went m k (k_by_rules tick waits m i k).kept i
  ruled true waits k g within = interrupted k
  ruled false true k g within =
      let n = k.state.numbers i in
      Same (ap (λ (v : Numbers). v.completed) (at_put_same k.state.numbers i _))
  ruled false false k g within = acted k (k.locals i).pending (k.locals i).waiting g within refl refl

  counted : (k : Kept) → IsGood m k → i < cpus_of m → Went m k (k_counted_turn m i k).kept i
  unfolding k_counted_turn
  counted k g within = ruled (is_tick m.limits (k.state.numbers i).turns) (nat_lt 0 (k.state.numbers i).delay) k g within

  -- behind a change of the state that leaves the history
  behind : (k : Kept) (t : State) (q : Kept) → (t.numbers i).completed ≡ (k.state.numbers i).completed
      → Went m (with_state t k) q i → Went m k q i
  behind k t q same (Over over) = Over over
  behind k t q same (Same e) = Same (e ∙ same)
  behind k t q same (Further more) = Further record {
    saw = record {
      mid = more.saw.mid;
      truth = more.saw.truth;
      keeps = keeps_then k (with_state t k) more.saw.mid i (keeps_restated k t i same) more.saw.keeps;
      history = more.saw.history;
    };
    count = more.count ∙ ap (λ n. n + 1) same;
    pending = more.pending;
    waiting = more.waiting;
  }

  turned : (o : Option Outcome) (k : Kept) → IsGood m k → i < cpus_of m → Went m k (k_turn_where o m i k).kept i
  turned (Some o) k g within = Same refl
  turned None k g within =
      let t = with_event (event.Turn i) (counting_turn i k.state) in
      let n = record (k.state.numbers i) { turns = (k.state.numbers i).turns + 1 } in
      let same = one_number k.state.numbers i n record { completed = refl; given = refl; refused = refl } in
      behind k t _ (same i).completed
      (counted (with_state t k) (record { truth = restated m k t g.truth refl same; holds = g.holds }) within)

  pub own_turn : (k : Kept) → IsGood m k → i < cpus_of m → Went m k (k_happen m (event.Turn i) k).kept i
  unfolding k_happen k_turn
  own_turn k g within = turned (k_idle m k i) k g within

  pub own_interruption : (k : Kept) → Went m k (k_happen m (event.External i) k).kept i
  unfolding k_happen
  own_interruption k =
      let t = with_event (event.External i) k.state in behind k t _ refl (interrupted (with_state t k))
