-- What happens does not depend on the schedule that an image gives, nor on how many interruptions may come.
use Rattle.std.proofs.Common.{◌≡◌, ℕ, suc, ◌+◌, Bool, true, false, ◌&&◌, List, [], ◌∷◌, map, length, Option, Some, None}
use Rattle.std.proofs.Common.{refl, ap, ◌∙◌}
use Rattle.std.specs.Prelude.{nat_lt, if◌then◌else◌}
use Rattle.std.specs.List.{range_with_len}
use Rattle.tx_control.specs.Nesting.{is_constrained}
use Rattle.tx_control.specs.declared.causes.Why.{Why}
use Rattle.tx_control.specs.declared.causes.Why.TheVariants as why
use Rattle.tx_ladder.specs.Rungs.{is_starved, is_late, Standing}
use Rattle.line_table.specs.declared.table.Mode.{Mode}
use Rattle.line_table.specs.Holders.{against}
use Rattle.interrogate.specs.declared.kinds.Answer.{Answer}
use Rattle.interrogate.specs.declared.kinds.Answer.TheVariants.{Yields, Rejects, Aborts}
use Rattle.interrogate.specs.declared.kinds.Asker.{Asker}
use Rattle.interrogate.specs.Replies as interrogate
use Rattle.z_regs.specs.declared.waiting.Waiting.{Waiting}
use Rattle.z_instr.specs.declared.instr.Instr.{Instr}
use Rattle.z_instr.specs.Table.{entry_at}
use Rattle.z_instr.specs.Roles.{begins}
use Rattle.z_effect.specs.TransactionEffect.{delay_given}
use Rattle.tx_journal.specs.declared.entries.Entry.TheVariants as entry
use Rattle.tx_journal.specs.declared.events.Event.{Event}
use Rattle.tx_journal.specs.declared.events.Event.TheVariants as event
use Rattle.tx_serial.specs.Flat.{FlatState, Pending, address_of, bytes_of}
use Rattle.tx_serial.specs.Attempt.{Run, Mark, Open, Committed, Overflowed, Missing, footprint}
use Rattle.tx_serial.specs.Fate.{Fate, Goes, Ends, Stops, fate}
use Rattle.tx_serial.specs.Run.{run}
use Rattle.tx_serial.specs.Ending.{ending}
use Rattle.tx_serial.specs.History.{replay, start_of}
use Rattle.tx_meaning.specs.Asking.{Asked, asker_of, reply, aborting_live, by_answer, ask_one, unless_rejected, then_ask}
use Rattle.tx_meaning.specs.Asking.{all_given, ask_each, is_there, take_line, get_unless, get_line, get_each, get_lines}
use Rattle.tx_meaning.specs.Changes.{with_entry, with_event, counting_turn, asking, rejecting_one, rejected_once}
use Rattle.tx_meaning.specs.Changes.{yielding, granting, aborting}
use Rattle.tx_meaning.specs.Hits.{hits}
use Rattle.tx_meaning.specs.Idle.{idle, idle_by, finished_by}
use Rattle.tx_meaning.specs.Limits.{RunLimits, Setting}
use Rattle.tx_meaning.specs.Meaning.{meaning, meaning_from}
use Rattle.tx_meaning.specs.Needs.{operand_needs, block_needs, interruption_needs}
use Rattle.tx_meaning.specs.State.{State, beginning, flat_of, flat_where, attempt_of, cpu_of, is_live, is_head}
use Rattle.tx_meaning.specs.State.{standing_of, footprint_of, cpus_of}
use Rattle.tx_meaning.specs.Turn.{Turned, turned, outcome_of_abort, ends_by, refused_turn, once_given, with_lines}
use Rattle.tx_meaning.specs.Turn.{stepped, stepping, step_outside, ends_where, by_mark, step_inside, executing_where}
use Rattle.tx_meaning.specs.Turn.{executing, attempting, storing_block, taking_interruption, acting, to_tail}
use Rattle.tx_meaning.specs.Turn.{interrupting, external, is_tick, by_rules, counted_turn, turn_where, turn, happen}
use Rattle.tx_meaning.specs.declared.asking.Need.{Need}
use Rattle.tx_meaning.specs.declared.asking.Reject.{Reject}
use Rattle.tx_meaning.specs.declared.outcome.Outcome.{Outcome}
use Rattle.tx_meaning.specs.declared.outcome.Outcome.TheVariants as outcome
use Rattle.ztx_answers.specs.Shown.{shown_in, cpus_shown, attempt_shown, counts_shown}
use Rattle.tx_meaning.specs.Shown.{counts_at}
use Rattle.report_text.specs.Shown.{Shown, ShownCpu}
use Rattle.schedule_laws.specs.Taken.{with_schedule}

-- the same with another schedule, and with another number of interruptions that may come
abbrev pub but_for : List Event → ℕ → Setting → Setting
but_for events count m =
    record { image = with_schedule events m.image; limits = record m.limits { externals = count } }

module _ (events : List Event) (count : ℕ) (m : Setting) where
  abbrev n : Setting
  n = but_for events count m

  -- ---- what the state is

  flat_same : (s : State) → flat_of n s ≡ flat_of m s
  unfolding flat_of start_of
  flat_same s = by (replay m.image s.history)
    where
      by : (o : Option FlatState) → flat_where n o ≡ flat_where m o
      by None = refl
      by (Some f) = refl

  attempt_same : (s : State) (i : ℕ) → attempt_of n s i ≡ attempt_of m s i
  attempt_same s i = ap (λ (f : FlatState). run f i (s.numbers i).completed) (flat_same s)

  standing_same : (s : State) (i : ℕ) → standing_of n s i ≡ standing_of m s i
  unfolding start_of
  standing_same s i = λ k. record {
    parms = m.image.parms;
    aborts = hits m.image s.history i;
    constrained = is_constrained (attempt_same s i k).nest;
    rejects_given = (s.numbers i).given;
    requests_rejected = (s.numbers i).refused;
  }

  idle_same : (s : State) (i : ℕ) → idle n s i ≡ idle m s i
  unfolding idle
  idle_same s i = λ k.
      idle_by m.limits (finished_by ((flat_same s k).pending i) (attempt_same s i k).cpu) s.queue (s.numbers i) i

  -- ---- questions

  asker_same : (s : State) (i : ℕ) → asker_of n s i ≡ asker_of m s i
  asker_same s i = λ k. record { head = is_head s i; late = is_live s i && is_late (standing_same s i k) }

  reply_same : (s : State) (j line : ℕ) (mode : Mode) (i : ℕ) → reply n s j line mode i ≡ reply m s j line mode i
  unfolding reply
  reply_same s j line mode i = λ k.
      interrogate.reply (is_live s j) (footprint (attempt_same s j k)).fetched (footprint (attempt_same s j k)).stored
      (standing_same s j k) line mode (asker_same s i k)

  aborting_same : (j : ℕ) (w : Why) (s : State) → aborting_live n j w s ≡ aborting_live m j w s
  aborting_same j w s = λ k. aborting j (standing_same s j k) (s.numbers j).completed w s

  answered_same : (i : ℕ) (need : Need) (j : ℕ) (s : State) (a : Answer)
      → by_answer n i need j s a ≡ by_answer m i need j s a
  answered_same i need j s Yields = refl
  answered_same i need j s Rejects = λ k. record {
    state = rejected_once i (is_live s i) (standing_same s i k) (rejecting_one j (standing_same s j k) s);
    reject = Some record { by = j; line = need.line };
  }
  answered_same i need j s (Aborts w) = λ k. record {
    state = yielding j need.line need.mode (aborting_same j w s k);
    reject = None;
  }

  one_same : (i : ℕ) (need : Need) (j : ℕ) (s : State) → ask_one n i need j s ≡ ask_one m i need j s
  one_same i need j s =
      ap (by_answer n i need j (asking i s)) (reply_same s j need.line need.mode i)
      ∙ answered_same i need j (asking i s) (reply m s j need.line need.mode i)

  unless_same : (o : Option Reject) (s : State) (f g : State → Asked) → ((t : State) → f t ≡ g t)
      → unless_rejected o s f ≡ unless_rejected o s g
  unless_same None s f g h = h s
  unless_same (Some r) s f g h = refl

  then_same : (a b : Asked) (f g : State → Asked) → a ≡ b → ((t : State) → f t ≡ g t) → then_ask a f ≡ then_ask b g
  then_same a b f g is h = ap (λ (x : Asked). then_ask x f) is ∙ unless_same b.reject b.state f g h

  each_same : (i : ℕ) (need : Need) (js : List ℕ) (s : State) → ask_each n i need js s ≡ ask_each m i need js s
  unfolding ask_each
  each_same i need [] s = refl
  each_same i need (j ∷ rest) s =
      then_same (ask_one n i need j s) (ask_one m i need j s) (ask_each n i need rest) (ask_each m i need rest)
      (one_same i need j s) (λ t. each_same i need rest t)

  take_same : (i : ℕ) (needs : List Need) (need : Need) (s : State)
      → take_line n i needs need s ≡ take_line m i needs need s
  take_same i needs need s = λ k.
      all_given (record s { held = granting i (footprint (attempt_same s i k)) needs need s.held })

  got_same : (there : Bool) (i : ℕ) (needs : List Need) (need : Need) (s : State)
      → get_unless there n i needs need s ≡ get_unless there m i needs need s
  got_same true i needs need s = refl
  got_same false i needs need s =
      let js = against (cpus_of m) s.held i need.line need.mode in
      then_same (ask_each n i need js s) (ask_each m i need js s) (take_line n i needs need) (take_line m i needs need)
      (each_same i need js s) (take_same i needs need)

  line_same : (i : ℕ) (needs : List Need) (need : Need) (s : State)
      → get_line n i needs need s ≡ get_line m i needs need s
  unfolding get_line
  line_same i needs need s = got_same (is_there need.mode (s.held i need.line)) i needs need s

  lines_same : (i : ℕ) (needs left : List Need) (s : State) → get_each n i needs left s ≡ get_each m i needs left s
  unfolding get_each
  lines_same i needs [] s = refl
  lines_same i needs (need ∷ rest) s =
      then_same (get_line n i needs need s) (get_line m i needs need s) (get_each n i needs rest)
      (get_each m i needs rest) (line_same i needs need s) (λ t. lines_same i needs rest t)

  -- ---- turns

  ends_same : (i c : ℕ) (w : Why) (s : State) → ends_by n i c w s ≡ ends_by m i c w s
  ends_same i c w s = λ k. turned (aborting i (standing_same s i k) c w s) (outcome_of_abort w)

  refused_same : (b : Bool) (i : ℕ) (r : Reject) (s : State) → refused_turn b n i r s ≡ refused_turn b m i r s
  refused_same false i r s = refl
  refused_same true i r s = λ k. record (ends_same i (s.numbers i).completed why.Starved s k) { reject = Some r }

  once_same : (i : ℕ) (o : Option Reject) (s : State) (f g : State → Turned) → ((t : State) → f t ≡ g t)
      → once_given n i o s f ≡ once_given m i o s g
  once_same i None s f g h = h s
  once_same i (Some r) s f g h =
      (λ k. refused_turn (is_live s i && is_starved (standing_same s i k)) n i r s)
      ∙ refused_same (is_live s i && is_starved (standing_of m s i)) i r s

  with_same : (i : ℕ) (needs : List Need) (s : State) (f g : State → Turned) → ((t : State) → f t ≡ g t)
      → with_lines n i needs s f ≡ with_lines m i needs s g
  with_same i needs s f g h =
      let a = lines_same i needs needs s in
      (λ k. once_given n i (a k).reject (a k).state f)
      ∙ once_same i (get_lines m i needs s).reject (get_lines m i needs s).state f g h

  stepping_same : (i turns : ℕ) (s : State) → stepping n i turns s ≡ stepping m i turns s
  stepping_same i turns s =
      let t = with_entry (entry.Step i) s in λ k. stepped i turns (attempt_same t i k).cpu.state t

  outside_same : (i : ℕ) (instr : Instr) (s : State) → step_outside n i instr s ≡ step_outside m i instr s
  outside_same i instr s =
      (λ k. stepping n i (delay_given instr (attempt_same s i k).cpu) s)
      ∙ stepping_same i (delay_given instr (cpu_of m s i)) s

  ends_where_same : (i c : ℕ) (o : Option Why) (s : State) → ends_where n i c o s ≡ ends_where m i c o s
  ends_where_same i c None s = refl
  ends_where_same i c (Some w) s = ends_same i c w s

  mark_same : (i : ℕ) (s : State) (p q : Run) (mark : Mark) → by_mark n i s p q mark ≡ by_mark m i s p q mark
  mark_same i s p q Open = refl
  mark_same i s p q Committed = refl
  mark_same i s p q Overflowed =
      (λ k. ends_where n i ((s.numbers i).completed + 1) (ending (flat_same s k).text q) s)
      ∙ ends_where_same i ((s.numbers i).completed + 1) (ending (flat_of m s).text q) s
  mark_same i s p q Missing =
      (λ k. ends_where n i (s.numbers i).completed (ending (flat_same s k).text p) s)
      ∙ ends_where_same i (s.numbers i).completed (ending (flat_of m s).text p) s

  inside_same : (i : ℕ) (s : State) → step_inside n i s ≡ step_inside m i s
  inside_same i s =
      let c = suc (s.numbers i).completed in
      (λ k. by_mark n i s (attempt_same s i k) (run (flat_same s k) i c) (run (flat_same s k) i c).mark)
      ∙ mark_same i s (attempt_of m s i) (run (flat_of m s) i c) (run (flat_of m s) i c).mark

  where_same : (live begin : Bool) (i : ℕ) (instr : Instr) (s : State)
      → executing_where live begin n i instr s ≡ executing_where live begin m i instr s
  where_same true begin i instr s = inside_same i s
  where_same false true i instr s = refl
  where_same false false i instr s = outside_same i instr s

  executing_same : (i : ℕ) (instr : Instr) (s : State) → executing n i instr s ≡ executing m i instr s
  executing_same i instr s = where_same (is_live s i) (begins (entry_at instr.op.number)) i instr s

  attempting_same : (i : ℕ) (s : State) (f : Fate) → attempting n i s f ≡ attempting m i s f
  attempting_same i s (Goes instr ranges) =
      (λ k. with_lines n i (operand_needs (attempt_same s i k).cpu.prefix ranges) s (executing n i instr))
      ∙ with_same i (operand_needs (cpu_of m s i).prefix ranges) s (executing n i instr) (executing m i instr)
      (executing_same i instr)
  attempting_same i s (Ends w) = ends_same i (s.numbers i).completed w s
  attempting_same i s (Stops e) = stepping_same i 0 s

  block_same : (i : ℕ) (b : Pending) (s : State) → storing_block n i b s ≡ storing_block m i b s
  block_same i b s =
      let next : State → Turned = λ t. turned (with_entry (entry.Tdb i) t) outcome.Executed in
      (λ k. with_lines n i (block_needs (attempt_same s i k).cpu.prefix b) s next)
      ∙ with_same i (block_needs (cpu_of m s i).prefix b) s next next (λ t. refl)

  taking_same : (i : ℕ) (w : Waiting) (s : State) → taking_interruption n i w s ≡ taking_interruption m i w s
  taking_same i w s =
      let next : State → Turned = λ t. turned (with_entry (entry.Interrupt i) t) outcome.Executed in
      (λ k. with_lines n i (interruption_needs (attempt_same s i k).cpu.prefix w) s next)
      ∙ with_same i (interruption_needs (cpu_of m s i).prefix w) s next next (λ t. refl)

  acting_same : (i : ℕ) (s : State) (b : Option Pending) (w : Option Waiting) → acting n i s b w ≡ acting m i s b w
  acting_same i s (Some b) w = block_same i b s
  acting_same i s None (Some w) = taking_same i w s
  acting_same i s None None =
      (λ k. attempting n i s (fate (flat_same s k).text (attempt_same s i k)))
      ∙ attempting_same i s (fate (flat_of m s).text (attempt_of m s i))

  interrupting_same : (live : Bool) (i : ℕ) (s : State) → interrupting live n i s ≡ interrupting live m i s
  interrupting_same true i s = λ k.
      turned (to_tail i (aborting_same i why.External s k)) (outcome_of_abort why.External)
  interrupting_same false i s = refl

  rules_same : (ticks waits : Bool) (i : ℕ) (s : State) → by_rules ticks waits n i s ≡ by_rules ticks waits m i s
  rules_same true waits i s = interrupting_same (is_live s i) i s
  rules_same false true i s = refl
  rules_same false false i s =
      (λ k. acting n i s ((flat_same s k).pending i) ((flat_same s k).waiting i))
      ∙ acting_same i s ((flat_of m s).pending i) ((flat_of m s).waiting i)

  counted_same : (i : ℕ) (s : State) → counted_turn n i s ≡ counted_turn m i s
  counted_same i s =
      rules_same (is_tick m.limits (s.numbers i).turns) (nat_lt 0 (s.numbers i).delay) i s

  turns_same : (o : Option Outcome) (i : ℕ) (s : State) → turn_where o n i s ≡ turn_where o m i s
  turns_same (Some o) i s = refl
  turns_same None i s = counted_same i (with_event (event.Turn i) (counting_turn i s))

  happen_same : (e : Event) (s : State) → happen n e s ≡ happen m e s
  unfolding happen turn
  happen_same (event.Turn i) s = (λ k. turn_where (idle_same s i k) n i s) ∙ turns_same (idle m s i) i s
  happen_same (event.External i) s =
      let t = with_event (event.External i) s in interrupting_same (is_live t i) i t

  meant_same : (es : List Event) (s : State) → meaning_from n es s ≡ meaning_from m es s
  unfolding meaning_from
  meant_same [] s = refl
  meant_same (e ∷ rest) s =
      ap (λ (t : Turned). meaning_from n rest t.state) (happen_same e s) ∙ meant_same rest (happen m e s).state

  -- events mean the same
  pub meaning_same : (es : List Event) → meaning n es ≡ meaning m es
  meaning_same es = meant_same es beginning

  -- ---- and what is shown is the same

  pub cpus_same : (s : State) → cpus_shown n s ≡ cpus_shown m s
  cpus_same s = λ k. map (λ i. record {
    cpu = (attempt_same s i k).cpu;
    attempt = attempt_shown (if is_live s i then Some (length (attempt_same s i k).nest, (s.numbers i).completed)
        else None);
    pending = address_of ((flat_same s k).pending i);
    counts = counts_shown (counts_at s i);
    finished = finished_by ((flat_same s k).pending i) (attempt_same s i k).cpu;
  }) (range_with_len 0 (cpus_of m))

  pub all_same : (s : State) → shown_in n s ≡ shown_in m s
  all_same s = λ k. record {
    cpus = cpus_same s k;
    shows = m.image.shows;
    storage = bytes_of (flat_same s k).storage;
    history = s.history;
    events = s.events;
  }
