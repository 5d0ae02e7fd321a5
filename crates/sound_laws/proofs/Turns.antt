-- What the machine that keeps counts of an attempt took as many turns, over all events.
use Rattle.std.proofs.Common.{◌≡◌, ℕ, ◌+◌, ◌-◌, ◌<◌, ◌≤◌, Bool, true, false, List, [], ◌∷◌, ◌++◌, Option}
use Rattle.std.proofs.Common.{Some, None, refl, sym, ap, subst, ◌∙◌, arith}
use Rattle.std.specs.Prelude.{◌&&◌, nat_lt, if◌then◌else◌, All}
use Rattle.std.proofs.lemmas.List.Elements.{All-nil, All-push}
use Rattle.z_regs.specs.declared.ranges.Range.{Range}
use Rattle.z_regs.specs.declared.waiting.Waiting.{Waiting}
use Rattle.z_instr.specs.declared.instr.Instr.{Instr}
use Rattle.tx_control.specs.declared.causes.Why.{Why}
use Rattle.tx_control.specs.declared.causes.Why.TheVariants as why
use Rattle.tx_ladder.specs.Rungs.{Standing, is_starved, rejected, rejecting}
use Rattle.tx_journal.specs.declared.entries.Entry.{Entry}
use Rattle.tx_journal.specs.declared.entries.Entry.TheVariants as entry
use Rattle.tx_journal.specs.declared.events.Event.{Event}
use Rattle.tx_journal.specs.declared.events.Event.TheVariants as event
use Rattle.tx_serial.specs.Fate.{Fate, Goes, Ends, Stops}
use Rattle.tx_serial.specs.Flat.{Pending, at_put}
use Rattle.tx_progress.specs.Doing.{Executed, executed, stopped}
use Rattle.tx_progress.specs.Local.{Local, Beside, aborted, block_stored, interruption_taken}
use Rattle.tx_progress.specs.Trial.{fate_by_progress}
use Rattle.tx_progress.specs.declared.done.Done.{Done}
use Rattle.tx_progress.specs.declared.done.Done.TheVariants as done
use Rattle.tx_meaning.specs.declared.asking.Need.{Need}
use Rattle.tx_meaning.specs.declared.asking.Reject.{Reject}
use Rattle.tx_meaning.specs.declared.outcome.Outcome.{Outcome}
use Rattle.tx_meaning.specs.declared.outcome.Outcome.TheVariants as outcome
use Rattle.tx_meaning.specs.Limits.{Setting}
use Rattle.tx_meaning.specs.Meaning.{IsSetting, meaning}
use Rattle.tx_meaning.specs.Needs.{operand_needs, block_needs, interruption_needs}
use Rattle.tx_meaning.specs.State.{Numbers, State, is_live}
use Rattle.tx_meaning.specs.Changes.{with_numbers, with_event, counting_turn, waiting_turn, delaying}
use Rattle.tx_meaning.specs.Changes.{committing, aborting, without_attempt}
use Rattle.tx_meaning.specs.Changes.{rejecting_one}
use Rattle.tx_meaning.specs.Turn.{is_tick}
use Rattle.tx_meaning.specs.Views.{AreKnown}
use Rattle.tx_meaning.proofs.Walk.{at_put_case, at_put_kept, cause_case, leaving_case, conflict_on}
use Rattle.tx_keeping.specs.Asking.{k_get_lines}
use Rattle.tx_keeping.specs.Keeping.{keeping_from}
use Rattle.tx_keeping.specs.Kept.{Kept, kept_beginning, text_of, with_state}
use Rattle.tx_keeping.specs.Kept.{with_beside, beside}
use Rattle.tx_keeping.specs.Moves.{k_asking, k_rejecting, k_rejected, k_aborting, k_starting, k_continuing}
use Rattle.tx_keeping.specs.Moves.{k_committing, k_stepping, k_storing, k_taking}
use Rattle.tx_keeping.specs.Turn.{KTurned, k_ends_by, k_refused_turn, k_once_given, k_with_lines, k_inside}
use Rattle.tx_keeping.specs.Turn.{k_outside, k_done, k_executing, k_attempting, k_acting, k_to_tail}
use Rattle.tx_keeping.specs.Turn.{k_external}
use Rattle.tx_keeping.specs.Turn.{k_interrupting, k_by_rules, k_counted_turn, k_idle, k_turn_where, k_turn}
use Rattle.tx_keeping.specs.Turn.{k_happen, next_address}
use Rattle.tx_keeping.proofs.Events.{keeping_is}
use Rattle.tx_keeping.proofs.Turning.{turn_left}
use Rattle.tx_bounds.proofs.News.{aborted_history}
use Rattle.tx_bounds.proofs.Walk.{Asks, Behind, lines_got}
use Rattle.sound_laws.specs.Parts.{HasAtMost}
use Rattle.sound_laws.proofs.Counting.{TellsAtMost, count_in, executed_one, block_none, interruption_none}

-- ---- tables

-- the counted turns of a CPU
abbrev turns_in : State → ℕ → ℕ
turns_in s j = (s.numbers j).turns

-- and the completed instructions of its attempt
abbrev count_at : Kept → ℕ → ℕ
count_at k j = (k.locals j).attempt.count

-- numbers that change leave the turns
same_turns : (i : ℕ) (v : Numbers) (s : State) → v.turns ≡ (s.numbers i).turns → (j : ℕ)
    → turns_in (with_numbers i v s) j ≡ turns_in s j
same_turns i v s same j = at_put_kept (λ (n : Numbers). n.turns) s.numbers i v same j

-- and so does the end of an attempt
abort_turns : (i : ℕ) (st : Standing) (n : ℕ) (w : Why) (s : State) (j : ℕ)
    → turns_in (aborting i st n w s) j ≡ turns_in s j
unfolding aborting
abort_turns i st n w s j =
    let t = without_attempt i s in
    let base = same_turns i (record (s.numbers i) { completed = 0 }) s refl j in
    cause_case (λ r. turns_in r j ≡ turns_in s j) i st w t base
    (λ d. same_turns i (record (t.numbers i) { delay = d }) t refl j ∙ base) base base

-- ---- what is kept

module _ (most : ℕ) where
  -- each attempt took as many turns as it has completed instructions, no CPU has had more than so many, and
  -- neither has an attempt of the history completed more instructions
  record Spends (k : Kept) : Type 0 where
    counts : (j : ℕ) → count_at k j ≤ turns_in k.state j
    turns : (j : ℕ) → turns_in k.state j ≤ most
    history : All (HasAtMost most) k.state.history

  -- and the attempt of a CPU may complete one more
  record Acts (i : ℕ) (k : Kept) : Type 0 where
    spends : Spends k
    room : count_at k i + 1 ≤ turns_in k.state i

  -- only less is completed, and the turns are the same
  fewer : (k t : Kept) → ((j : ℕ) → count_at t j ≤ count_at k j)
      → ((j : ℕ) → turns_in t.state j ≡ turns_in k.state j) → All (HasAtMost most) t.state.history → Spends k
      → Spends t
  fewer k t counts turns history s = record {
    counts = λ j. let a = counts j in let b = turns j in let c = s.counts j in omega (arith, a, b, c);
    turns = λ j. let b = turns j in let c = s.turns j in omega (arith, b, c);
    history = history;
  }

  -- and the attempt may still complete one more
  fewer_acts : (i : ℕ) (k t : Kept) → ((j : ℕ) → count_at t j ≤ count_at k j)
      → ((j : ℕ) → turns_in t.state j ≡ turns_in k.state j) → All (HasAtMost most) t.state.history → Acts i k
      → Acts i t
  fewer_acts i k t counts turns history a = record {
    spends = fewer k t counts turns history a.spends;
    room = let x = counts i in let y = turns i in let z = a.room in omega (arith, x, y, z);
  }

  -- neither counts nor turns nor history change
  restated : (k t : Kept) → ((j : ℕ) → count_at t j ≡ count_at k j)
      → ((j : ℕ) → turns_in t.state j ≡ turns_in k.state j) → t.state.history ≡ k.state.history → Spends k
      → Spends t
  restated k t counts turns same s =
      fewer k t (λ j. let c = counts j in omega (arith, c)) turns
      (subst (All (HasAtMost most)) (sym same) s.history) s

  -- the same, while the attempt may complete one more
  restated_acts : (i : ℕ) (k t : Kept) → ((j : ℕ) → count_at t j ≡ count_at k j)
      → ((j : ℕ) → turns_in t.state j ≡ turns_in k.state j) → t.state.history ≡ k.state.history → Acts i k
      → Acts i t
  restated_acts i k t counts turns same a =
      fewer_acts i k t (λ j. let c = counts j in omega (arith, c)) turns
      (subst (All (HasAtMost most)) (sym same) a.spends.history) a

  -- ---- an abort

  -- nothing is completed of the attempt any more
  aborted_counts : (i : ℕ) (w : Why) (at : ℕ) (k : Kept) (j : ℕ)
      → count_at (k_aborting i w at k) j ≤ count_at k j
  unfolding k_aborting aborted
  aborted_counts i w at k j =
      at_put_case (λ (l : Local). l.attempt.count ≤ count_at k j) k.locals i
      (aborted w at (beside k i)).local j (λ e. omega arith) (λ ne. omega arith)

  -- no turn is counted
  aborted_turns : (i : ℕ) (w : Why) (at : ℕ) (k : Kept) (j : ℕ)
      → turns_in (k_aborting i w at k).state j ≡ turns_in k.state j
  unfolding k_aborting
  aborted_turns i w at k j = abort_turns i (k.standings i) (count_at k i) w k.state j

  -- the entry has the instructions of the attempt, for each of which there was a turn
  aborted_entries : (i : ℕ) (w : Why) (at : ℕ) (k : Kept) → Spends k
      → All (HasAtMost most) (k_aborting i w at k).state.history
  unfolding k_aborting
  aborted_entries i w at k s =
      let few : count_at k i ≤ most =
      (let a = s.counts i in let b = s.turns i in omega (arith, a, b)) in
      subst (All (HasAtMost most)) (sym (aborted_history i (k.standings i) (count_at k i) w k.state))
      (All-push (HasAtMost most) k.state.history (entry.Abort i (count_at k i) w) s.history few)

  -- so an abort keeps what holds
  abort_spends : (i : ℕ) (w : Why) (at : ℕ) (k : Kept) → Spends k → Spends (k_aborting i w at k)
  abort_spends i w at k s =
      fewer k (k_aborting i w at k) (aborted_counts i w at k) (aborted_turns i w at k)
      (aborted_entries i w at k s) s

  -- and another CPU may go on
  abort_acts : (i j : ℕ) (w : Why) (at : ℕ) (k : Kept) → Acts i k → Acts i (k_aborting j w at k)
  abort_acts i j w at k a =
      fewer_acts i k (k_aborting j w at k) (aborted_counts j w at k) (aborted_turns j w at k)
      (aborted_entries j w at k a.spends) a

  -- ---- questions

  -- all that happens while a CPU asks for lines
  asks : (i : ℕ) → Asks i (Acts i) Spends
  asks i = record {
    asks = λ k a.
        let n = k.state.numbers i in
        restated_acts i k (k_asking i k) (λ j. refl)
        (same_turns i (record n { asked = n.asked + 1 }) k.state refl) refl a;
    holds = λ k held a.
        restated_acts i k (with_state (record k.state { held = held }) k) (λ j. refl) (λ j. refl) refl a;
    rejects = λ k j other live head a.
        let s = k.state in
        let t = rejecting_one j (k.standings j) s in
        let r = k_rejecting j k in
        let refused = if is_live t i then (rejected (r.standings i)).requests_rejected
        else (t.numbers i).refused in
        let given = (rejecting (k.standings j)).rejects_given in
        let one = same_turns j (record (s.numbers j) { given = given }) s refl in
        let two = same_turns i (record (t.numbers i) {
          rejected = (t.numbers i).rejected + 1;
          refused = refused;
        }) t refl in
        restated k (k_rejected i r) (λ x. refl) (λ x. two x ∙ one x) refl a.spends;
    aborts = λ k j line stored at other live a. abort_acts i j (conflict_on stored line) at k a;
  }

  -- ---- what an instruction leaves

  -- a CPU that is left so, and another state with the same turns
  left_so : (i : ℕ) (k : Kept) (after : Beside) (t : Kept) → Acts i k → count_in after ≤ count_at k i + 1
      → ((j : ℕ) → count_at t j ≡ (at_put k.locals i after.local j).attempt.count)
      → ((j : ℕ) → turns_in t.state j ≡ turns_in k.state j) → All (HasAtMost most) t.state.history → Spends t
  left_so i k after t a less counts turns history = record {
    counts = λ j.
        let same = turns j in
        let count = counts j in
        let low = at_put_case (λ (l : Local). l.attempt.count ≤ turns_in k.state j) k.locals i after.local j
        (λ e.
        let own : turns_in k.state i ≡ turns_in k.state j = ap (turns_in k.state) (sym e) in
        let room = a.room in
        omega (arith, own, room, less))
        (λ ne. a.spends.counts j) in
        omega (arith, same, count, low);
    turns = λ j. let same = turns j in let c = a.spends.turns j in omega (arith, same, c);
    history = history;
  }

  -- one entry more
  one_entry : (k : Kept) (e : Entry) → HasAtMost most e → Spends k
      → All (HasAtMost most) (k.state.history ++ e ∷ [])
  one_entry k e h s = All-push (HasAtMost most) k.state.history e s.history h

  -- an instruction outside transactions
  stepped_so : (i : ℕ) (k : Kept) (after : Beside) → Acts i k → count_in after ≤ count_at k i + 1
      → Spends (k_stepping i after k)
  stepped_so i k after a less =
      left_so i k after (k_stepping i after k) a less (λ j. refl) (λ j. refl)
      (one_entry k (entry.Step i) tt a.spends)

  -- a commit counts no turn
  commit_turns : (i : ℕ) (constrained : Bool) (n : ℕ) (s : State) (j : ℕ)
      → turns_in (committing i constrained n s) j ≡ turns_in s j
  commit_turns i constrained n s j =
      let t = without_attempt i s in
      let base = same_turns i (record (s.numbers i) { completed = 0 }) s refl j in
      leaving_case (λ r. turns_in r j ≡ turns_in s j) i constrained t base base

  -- and writes one entry
  commit_history : (i : ℕ) (constrained : Bool) (n : ℕ) (s : State)
      → (committing i constrained n s).history ≡ s.history ++ entry.Commit i n ∷ []
  commit_history i constrained n s =
      ap (λ h. h ++ entry.Commit i n ∷ [])
      (leaving_case (λ r. r.history ≡ s.history) i constrained (without_attempt i s) refl refl)

  -- a commit
  committed_so : (i n : ℕ) (k : Kept) (after : Beside) → Acts i k → count_in after ≤ count_at k i + 1
      → n ≤ count_at k i + 1 → Spends (k_committing i n after k)
  committed_so i n k after a less few =
      let constrained = (k.standings i).constrained in
      let low : n ≤ most =
      (let room = a.room in let turns = a.spends.turns i in omega (arith, few, room, turns)) in
      left_so i k after (k_committing i n after k) a less (λ j. refl) (commit_turns i constrained n k.state)
      (subst (All (HasAtMost most)) (sym (commit_history i constrained n k.state))
      (one_entry k (entry.Commit i n) low a.spends))

  -- ---- an instruction, when its lines are there

  -- an instruction inside a transaction
  inside_so : (i at : ℕ) (after : Beside) (k : Kept) (told : Done) → Acts i k
      → count_in after ≤ count_at k i + 1 → TellsAtMost (count_at k i + 1) told
      → Spends (k_inside i at after k told).kept
  unfolding k_ends_by
  inside_so i at after k done.Stepped a less few =
      left_so i k after (k_continuing i after k) a less (λ j. refl)
      (same_turns i (record (k.state.numbers i) { completed = (k.state.numbers i).completed + 1 }) k.state
      refl) a.spends.history
  inside_so i at after k (done.Committed n) a less few = committed_so i n k after a less few
  inside_so i at after k (done.Ended w) a less few =
      abort_spends i w at (with_beside i after k)
      (left_so i k after (with_beside i after k) a less (λ j. refl) (λ j. refl) a.spends.history)
  inside_so i at after k done.Began a less few = a.spends
  inside_so i at after k (done.Paused turns) a less few = a.spends
  inside_so i at after k (done.Interrupted code) a less few = a.spends

  -- an instruction outside transactions, or a begin
  outside_so : (i : ℕ) (after : Beside) (k : Kept) (told : Done) → Acts i k
      → count_in after ≤ count_at k i + 1 → Spends (k_outside i after k told).kept
  outside_so i after k done.Began a less =
      let s = k.state in
      let n = s.numbers i in
      left_so i k after (k_starting i after k) a less (λ j. refl)
      (same_turns i (record n { completed = 1; attempts = n.attempts + 1; given = 0; refused = 0 }) s refl)
      a.spends.history
  outside_so i after k done.Stepped a less = stepped_so i k after a less
  outside_so i after k (done.Paused turns) a less =
      let next = k_stepping i after k in
      restated next (with_state (delaying i turns next.state) next) (λ j. refl)
      (same_turns i (record (next.state.numbers i) { delay = turns }) next.state refl) refl
      (stepped_so i k after a less)
  outside_so i after k (done.Interrupted code) a less = stepped_so i k after a less
  outside_so i after k (done.Committed n) a less = a.spends
  outside_so i after k (done.Ended w) a less = a.spends

  -- either
  done_so : (live : Bool) (i : ℕ) (e : Executed) (k : Kept) → Acts i k
      → count_in e.after ≤ count_at k i + 1 → TellsAtMost (count_at k i + 1) e.told
      → Spends (k_done live i e k).kept
  done_so true i e k a less few = inside_so i (next_address k i) e.after k e.told a less few
  done_so false i e k a less few = outside_so i e.after k e.told a less

  -- an instruction that goes
  executed_so : (i : ℕ) (instr : Instr) (ranges : List Range) (k : Kept) → Acts i k
      → Spends (k_executing i instr ranges k).kept
  unfolding k_executing
  executed_so i instr ranges k a =
      let one = executed_one instr ranges (beside k i) in
      done_so (is_live k.state i) i (executed instr ranges (beside k i)) k a one.after one.told

  -- ---- lines first

  -- a reject, which may starve the attempt
  refused_so : (b : Bool) (i : ℕ) (r : Reject) (k : Kept) → Spends k → Spends (k_refused_turn b i r k).kept
  unfolding k_ends_by
  refused_so false i r k s = s
  refused_so true i r k s = abort_spends i why.Starved (next_address k i) k s

  -- behind the questions
  given_so : (i : ℕ) (o : Option Reject) (k : Kept) (next : Kept → KTurned) → Behind (Acts i) Spends o k
      → ((t : Kept) → Acts i t → Spends (next t).kept) → Spends (k_once_given i o k next).kept
  given_so i None k next a go = go k a
  given_so i (Some r) k next s go = refused_so (is_live k.state i && is_starved (k.standings i)) i r k s

  -- lines are asked for, and what follows happens
  lines_so : (m : Setting) (i : ℕ) (needs : List Need) (k : Kept) (next : Kept → KTurned) → Acts i k
      → ((t : Kept) → Acts i t → Spends (next t).kept) → Spends (k_with_lines m i needs k next).kept
  lines_so m i needs k next a go =
      let q = k_get_lines m i needs k in
      given_so i q.reject q.kept next (lines_got m i (Acts i) Spends (asks i) needs needs k a) go

  -- ---- a turn

  -- the next instruction, by its fate
  attempted_so : (m : Setting) (i : ℕ) (k : Kept) (f : Fate) → Acts i k → Spends (k_attempting m i k f).kept
  unfolding k_ends_by stopped
  attempted_so m i k (Goes instr ranges) a =
      lines_so m i (operand_needs (k.locals i).attempt.cpu.prefix ranges) k (k_executing i instr ranges) a
      (executed_so i instr ranges)
  attempted_so m i k (Ends w) a = abort_spends i w (next_address k i) k a.spends
  attempted_so m i k (Stops e) a =
      stepped_so i k (record { local = stopped e (k.locals i); storage = k.storage }) a (omega arith)

  -- a block is stored
  stored_so : (i : ℕ) (k : Kept) → Acts i k → Spends (k_storing i k)
  stored_so i k a =
      let none = block_none (beside k i) in
      left_so i k (block_stored (beside k i)) (k_storing i k) a (omega (arith, none)) (λ j. refl)
      (λ j. refl) (one_entry k (entry.Tdb i) tt a.spends)

  -- an interruption is taken
  taken_so : (i : ℕ) (k : Kept) → Acts i k → Spends (k_taking i k)
  taken_so i k a =
      let none = interruption_none (beside k i) in
      left_so i k (interruption_taken (beside k i)) (k_taking i k) a (omega (arith, none)) (λ j. refl)
      (λ j. refl) (one_entry k (entry.Interrupt i) tt a.spends)

  -- what a CPU does in its turn
  acted_so : (m : Setting) (i : ℕ) (k : Kept) (block : Option Pending) (waiting : Option Waiting) → Acts i k
      → Spends (k_acting m i k block waiting).kept
  acted_so m i k (Some b) waiting a =
      lines_so m i (block_needs (k.locals i).attempt.cpu.prefix b) k _ a (stored_so i)
  acted_so m i k None (Some w) a =
      lines_so m i (interruption_needs (k.locals i).attempt.cpu.prefix w) k _ a (taken_so i)
  acted_so m i k None None a =
      attempted_so m i k (fate_by_progress (text_of m) k.storage (k.locals i).attempt) a

  -- an interruption from outside, with or without a live attempt
  interrupted_by : (b : Bool) (i : ℕ) (k : Kept) → Spends k → Spends (k_interrupting b i k).kept
  interrupted_by true i k s =
      let t = k_aborting i why.External (next_address k i) k in
      let ended = abort_spends i why.External (next_address k i) k s in
      restated t (k_to_tail i t) (λ j. refl) (λ j. refl) refl ended
  interrupted_by false i k s = restated k (k_to_tail i k) (λ j. refl) (λ j. refl) refl s

  -- an interruption from outside
  interrupted_so : (i : ℕ) (k : Kept) → Spends k → Spends (k_external i k).kept
  unfolding k_external
  interrupted_so i k s = interrupted_by (is_live k.state i) i k s

  -- a tick, a turn of a delay, or what the CPU does
  ruled_so : (tick waits : Bool) (m : Setting) (i : ℕ) (k : Kept) → Acts i k
      → Spends (k_by_rules tick waits m i k).kept
  ruled_so true waits m i k a = interrupted_so i k a.spends
  ruled_so false true m i k a =
      restated k (with_state (waiting_turn i k.state) k) (λ j. refl)
      (same_turns i (record (k.state.numbers i) { delay = (k.state.numbers i).delay - 1 }) k.state refl) refl
      a.spends
  ruled_so false false m i k a = acted_so m i k (k.locals i).pending (k.locals i).waiting a

-- ---- an event

-- a turn that is counted
counted_acts : (m : Setting) (i : ℕ) (k : Kept) → (k.state.numbers i).turns < m.limits.turns
    → Spends m.limits.turns k
    → Acts m.limits.turns i (with_state (with_event (event.Turn i) (counting_turn i k.state)) k)
counted_acts m i k left s =
    let n = record (k.state.numbers i) { turns = (k.state.numbers i).turns + 1 } in
    let counts = s.counts i in
    record {
      spends = record {
        counts = λ j.
            at_put_case (λ (v : Numbers). count_at k j ≤ v.turns) k.state.numbers i n j
            (λ e.
            let own : count_at k j ≡ count_at k i = ap (count_at k) e in
            omega (arith, own, counts))
            (λ ne. s.counts j);
        turns = λ j.
            at_put_case (λ (v : Numbers). v.turns ≤ m.limits.turns) k.state.numbers i n j
            (λ e. omega (arith, left)) (λ ne. s.turns j);
        history = s.history;
      };
      room = at_put_case (λ (v : Numbers). count_at k i + 1 ≤ v.turns) k.state.numbers i n i
          (λ e. omega (arith, counts)) (λ ne. absurd (ne refl));
    }

-- a turn, idle or not
turned_so : (m : Setting) (i : ℕ) (o : Option Outcome) (k : Kept)
    → (o ≡ None → (k.state.numbers i).turns < m.limits.turns) → Spends m.limits.turns k
    → Spends m.limits.turns (k_turn_where o m i k).kept
unfolding k_counted_turn
turned_so m i (Some o) k left s = s
turned_so m i None k left s =
    let t = with_state (with_event (event.Turn i) (counting_turn i k.state)) k in
    let n = t.state.numbers i in
    ruled_so m.limits.turns (is_tick m.limits n.turns) (nat_lt 0 n.delay) m i t
    (counted_acts m i k (left refl) s)

-- an event
happened_so : (m : Setting) (e : Event) (k : Kept) → Spends m.limits.turns k
    → Spends m.limits.turns (k_happen m e k).kept
unfolding k_happen k_turn
happened_so m (event.Turn i) k s = turned_so m i (k_idle m k i) k (turn_left m k i) s
happened_so m (event.External i) k s =
    let t = with_event (event.External i) k.state in
    interrupted_so m.limits.turns i (with_state t k)
    (restated m.limits.turns k (with_state t k) (λ j. refl) (λ j. refl) refl s)

-- ---- over events

-- before any event
begins_so : (m : Setting) → Spends m.limits.turns (kept_beginning m)
unfolding kept_beginning
begins_so m = record {
  counts = λ j. omega arith;
  turns = λ j. omega arith;
  history = All-nil (HasAtMost m.limits.turns);
}

-- after all events
all_so : (m : Setting) (events : List Event) (k : Kept) → Spends m.limits.turns k
    → Spends m.limits.turns (keeping_from m events k)
unfolding keeping_from
all_so m [] k s = s
all_so m (e ∷ rest) k s = all_so m rest (k_happen m e k).kept (happened_so m e k s)

-- no attempt of the history has completed more instructions than a CPU may have turns
pub took_turns : (m : Setting) (events : List Event) → IsSetting m → AreKnown m events
    → All (HasAtMost m.limits.turns) (meaning m events).history
took_turns m events setting known =
    let kept = all_so m events (kept_beginning m) (begins_so m) in
    subst (λ (s : State). All (HasAtMost m.limits.turns) s.history) (sym (keeping_is m setting events known))
    kept.history
