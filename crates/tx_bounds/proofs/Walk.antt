-- A walk through an event of the machine that keeps: what every change in it keeps, the event keeps.
use Rattle.std.proofs.Common.{◌≡◌, ◌≢◌, ℕ, zero, suc, ◌+◌, Bool, true, false, cond, List, [], ◌∷◌}
use Rattle.std.proofs.Common.{Option, Some, None, refl, ◌∙◌}
use Rattle.std.specs.Prelude.{◌&&◌, ◌==◌, not, nat_lt, if◌then◌else◌, Result, Ok, Err}
use Rattle.std.specs.List.{filter, range_with_len}
use Rattle.std.proofs.lemmas.Bool.{eqb-false}
use Rattle.z_regs.specs.declared.image.RunState.{RunState}
use Rattle.z_regs.specs.declared.image.RunState.TheVariants.{Running, Halted, Interrupted}
use Rattle.z_regs.specs.declared.ranges.Range.{Range}
use Rattle.z_regs.specs.declared.waiting.Waiting.{Waiting}
use Rattle.z_instr.specs.declared.instr.Instr.{Instr}
use Rattle.z_instr.specs.Table.{entry_at}
use Rattle.z_effect.specs.Outcome.{Did, Divides, Aborts}
use Rattle.z_effect.specs.Outcome as effect
use Rattle.tx_control.specs.Filtering.{class, filters}
use Rattle.tx_control.specs.Nesting.{effective_pifc}
use Rattle.tx_control.specs.declared.begins.Begin.{Begin}
use Rattle.tx_control.specs.declared.exceptions.Exception.{Exception}
use Rattle.tx_control.specs.declared.causes.Why.{Why}
use Rattle.tx_control.specs.declared.causes.Why.TheVariants.{External, Program, FetchConflict}
use Rattle.tx_control.specs.declared.causes.Why.TheVariants.{StoreConflict, FetchOverflow, StoreOverflow}
use Rattle.tx_control.specs.declared.causes.Why.TheVariants.{Restricted, Filtered, Depth, Starved, Tabort}
use Rattle.tx_constraint.specs.Kept as constraint
use Rattle.tx_footprint.specs.Touched.{Sets, fit_of}
use Rattle.tx_footprint.specs.declared.footprint.Overflow.{Overflow}
use Rattle.tx_footprint.specs.declared.footprint.Overflow.TheVariants.{Fetch, Store}
use Rattle.tx_ladder.specs.Rungs.{is_starved}
use Rattle.tx_journal.specs.declared.events.Event.TheVariants as event
use Rattle.line_table.specs.declared.table.Mode.{Mode}
use Rattle.line_table.specs.Holders.{Holders, is_against, against}
use Rattle.tx_keeping.specs.Answer.{Answer}
use Rattle.tx_keeping.specs.Replies.{cause_at}
use Rattle.tx_serial.specs.Flat.{Storage, Pending}
use Rattle.tx_serial.specs.Fate.{Fate, Goes, Ends, Stops, Refusal, Excepts, Because, cause_in, fate_after}
use Rattle.tx_serial.specs.Fate.{first_refusal, excepted, aborts_where, overflow_of, overflow_in}
use Rattle.tx_serial.specs.Fate.{is_restricted, restricted_refusal, specified_refusal, depth_refusal}
use Rattle.tx_serial.specs.Fate.{operand_refusal, fetch_refusal, instruction_at}
use Rattle.tx_progress.specs.Progress.{Progress, advanced}
use Rattle.tx_progress.specs.Trial.{at_hand, breach_refusal, constraint_refusal, text_refusal_by}
use Rattle.tx_progress.specs.Trial.{place_refusal_by, overflow_refusal_by, tests_by, tried, fetched}
use Rattle.tx_progress.specs.Trial.{fate_by_progress, outcome_by}
use Rattle.tx_progress.specs.Local.{Beside}
use Rattle.tx_progress.specs.Doing.{outside}
use Rattle.z_effect.specs.TransactionEffect.{delay_given}
use Rattle.tx_progress.specs.Doing.{Executed, executed, executed_where, inside, closed_by, told_of, stores_of}
use Rattle.tx_progress.specs.declared.done.Done.{Done}
use Rattle.tx_progress.specs.declared.done.Done.TheVariants as done
use Rattle.tx_meaning.specs.declared.outcome.Outcome.{Outcome}
use Rattle.tx_meaning.specs.declared.asking.Reject.{Reject}
use Rattle.tx_meaning.specs.declared.asking.Need.{Need}
use Rattle.tx_meaning.specs.Limits.{Setting}
use Rattle.tx_meaning.specs.Needs.{operand_needs, block_needs, interruption_needs}
use Rattle.tx_meaning.specs.State.{is_live, is_head, cpus_of}
use Rattle.tx_meaning.specs.Changes.{yielding, granting, with_event, counting_turn, waiting_turn, delaying}
use Rattle.tx_meaning.specs.Asking.{is_there}
use Rattle.tx_meaning.specs.Turn.{is_tick}
use Rattle.tx_meaning.proofs.Replies.{replied}
use Rattle.tx_meaning.proofs.Walk.{conflict_on, live_asking, not_the_head}
use Rattle.tx_keeping.specs.Kept.{Kept, kept_footprint, kept_asker, with_state, with_beside, beside, text_of}
use Rattle.tx_keeping.specs.Moves.{k_asking, k_rejecting, k_rejected, k_aborting, k_starting}
use Rattle.tx_keeping.specs.Moves.{k_continuing, k_committing, k_stepping, k_storing, k_taking}
use Rattle.tx_keeping.specs.Asking.{KAsked, k_reply, k_by_answer, k_ask_one, k_unless_rejected, k_ask_each}
use Rattle.tx_keeping.specs.Asking.{k_granting, k_take_line, k_get_unless, k_get_line, k_get_each}
use Rattle.tx_keeping.specs.Asking.{k_get_lines}
use Rattle.tx_keeping.specs.Turn.{KTurned, k_ends_by, next_address, k_refused_turn, k_once_given}
use Rattle.tx_keeping.specs.Turn.{k_with_lines}
use Rattle.tx_keeping.specs.Turn.{k_inside, k_outside, k_done, k_executing, k_attempting, k_acting}
use Rattle.tx_keeping.specs.Turn.{k_external, k_by_rules, k_counted_turn, k_idle, k_turn_where, k_turn}

-- ---- causes by which an attempt ends in its own CPU's turn

abbrev pub IsOwn : Why → Type 0
IsOwn (FetchConflict line) = ⊥
IsOwn (StoreConflict line) = ⊥
IsOwn Starved = ⊥
IsOwn External = ⊥
IsOwn (Program e) = Unit {0}
IsOwn FetchOverflow = Unit {0}
IsOwn StoreOverflow = Unit {0}
IsOwn Restricted = Unit {0}
IsOwn (Filtered e) = Unit {0}
IsOwn Depth = Unit {0}
IsOwn (Tabort code) = Unit {0}

cause_by : (b : Bool) (e : Exception) → IsOwn (if b then Filtered e else Program e)
cause_by true e = tt
cause_by false e = tt

cause_own : (nest : List Begin) (e : Exception) → IsOwn (cause_in nest e)
unfolding cause_in
cause_own nest e = cause_by (filters (effective_pifc nest) (class e.code e.fetch)) e

abbrev RefusalOwn : Option Refusal → Type 0
RefusalOwn None = Unit {0}
RefusalOwn (Some (Excepts e)) = Unit {0}
RefusalOwn (Some (Because w)) = IsOwn w

abbrev pub FateOwn : Fate → Type 0
FateOwn (Goes i ranges) = Unit {0}
FateOwn (Ends w) = IsOwn w
FateOwn (Stops e) = Unit {0}

after_own : (nest : List Begin) (r : Refusal) → RefusalOwn (Some r) → FateOwn (fate_after nest r)
after_own [] (Excepts e) h = tt
after_own (outermost ∷ inner) (Excepts e) h = cause_own (outermost ∷ inner) e
after_own [] (Because w) h = h
after_own (outermost ∷ inner) (Because w) h = h

one_more_test : (o : Option Refusal) (rest : List (Option Refusal)) → RefusalOwn o
    → RefusalOwn (first_refusal rest) → RefusalOwn (first_refusal (o ∷ rest))
one_more_test None rest h later = later
one_more_test (Some r) rest h later = h

excepted_own : (i : Instr) (o : Option ℕ) → RefusalOwn (excepted i o)
excepted_own i None = tt
excepted_own i (Some code) = tt

where_own : (b : Bool) (w : Why) → IsOwn w → RefusalOwn (aborts_where b w)
where_own true w h = h
where_own false w h = tt

breach_own : (i : Instr) (o : Option ℕ) → RefusalOwn (breach_refusal i o)
breach_own i None = tt
breach_own i (Some number) = tt

constraint_own : (breach : constraint.Kept → Option ℕ) (i : Instr) (o : Option constraint.Kept)
    → RefusalOwn (constraint_refusal breach i o)
constraint_own breach i None = tt
constraint_own breach i (Some kept) = breach_own i (breach kept)

overflow_own_of : (r : Result (Unit {0}) Overflow) → RefusalOwn (overflow_of r)
overflow_own_of (Ok u) = tt
overflow_own_of (Err Fetch) = tt
overflow_own_of (Err Store) = tt

overflow_own : (nest : List Begin) (sets : Sets) → RefusalOwn (overflow_in nest sets)
overflow_own [] sets = tt
overflow_own (outermost ∷ inner) sets = overflow_own_of (fit_of sets)

tests_own : (text : List ℕ) (storage : Storage) (q : Progress) (i : Instr)
    → RefusalOwn (first_refusal (tests_by text storage q i))
tests_own text storage q i =
    let p = at_hand storage q in
    one_more_test (text_refusal_by q i) _ (constraint_own _ i q.constraint)
    (one_more_test (restricted_refusal p i) _ (where_own (is_restricted p.nest (entry_at i.op.number))
    Restricted tt)
    (one_more_test (specified_refusal p i) _ (excepted_own i _)
    (one_more_test (depth_refusal p i) _ (where_own _ Depth tt)
    (one_more_test (operand_refusal text p i) _ (excepted_own i _)
    (one_more_test (place_refusal_by q i) _ (constraint_own _ i q.constraint)
    (one_more_test (overflow_refusal_by q i) [] (overflow_own q.nest _) tt))))))

tried_own : (q : Progress) (i : Instr) (o : Option Refusal) → RefusalOwn o → FateOwn (tried q i o)
tried_own q i None h = tt
tried_own q i (Some r) h = after_own q.nest r h

fetched_own : (text : List ℕ) (storage : Storage) (q : Progress) (o : Option ℕ) (i : Option Instr)
    → FateOwn (fetched text storage q o i)
fetched_own text storage q (Some code) i = after_own q.nest (Excepts _) tt
fetched_own text storage q None None = after_own q.nest (Excepts _) tt
fetched_own text storage q None (Some i) = tried_own q i _ (tests_own text storage q i)

pub fate_own : (text : List ℕ) (storage : Storage) (q : Progress) → FateOwn (fate_by_progress text storage q)
unfolding fate_by_progress
fate_own text storage q =
    fetched_own text storage q (fetch_refusal text (at_hand storage q)) (instruction_at (at_hand storage q))

abbrev pub ToldOwn : Done → Type 0
ToldOwn (done.Ended w) = IsOwn w
ToldOwn done.Stepped = Unit {0}
ToldOwn (done.Committed n) = Unit {0}
ToldOwn done.Began = Unit {0}
ToldOwn (done.Paused turns) = Unit {0}
ToldOwn (done.Interrupted code) = Unit {0}

paused_own : (b : Bool) (delay : ℕ) → ToldOwn (if b then done.Paused delay else done.Stepped)
paused_own true delay = tt
paused_own false delay = tt

state_own : (state : RunState) (delay : ℕ) → ToldOwn (told_of state delay)
state_own (Interrupted code) delay = tt
state_own Running delay = paused_own (nat_lt 0 delay) delay
state_own Halted delay = paused_own (nat_lt 0 delay) delay

closed_own : (q : Progress) (nest : List Begin) (b : Beside) → ToldOwn (closed_by q nest b).told
closed_own q [] b = tt
closed_own q (outermost ∷ inner) b = tt

inside_own : (i : Instr) (ranges : List Range) (b : Beside) (o : effect.Outcome)
    → ToldOwn (inside i ranges b o).told
inside_own i ranges b (Did c bytes) =
    let q = b.local.attempt in
    let next = advanced i ranges c (stores_of ranges bytes q) q in
    closed_own next next.nest b
inside_own i ranges b (effect.Overflowed c bytes) = cause_own _ _
inside_own i ranges b Divides = cause_own _ _
inside_own i ranges b (Aborts code) = tt

where_told_own : (live begin : Bool) (i : Instr) (ranges : List Range) (b : Beside) (o : effect.Outcome)
    → ToldOwn (executed_where live begin i ranges b o).told
where_told_own true begin i ranges b o = inside_own i ranges b o
where_told_own false true i ranges b o = tt
where_told_own false false i ranges b o = state_own (outside i ranges b o).local.cpu.state (delay_given i
    b.local.cpu)

pub executed_own : (i : Instr) (ranges : List Range) (b : Beside) → ToldOwn (executed i ranges b).told
unfolding executed
executed_own i ranges b = where_told_own _ _ i ranges b (outcome_by b.storage i ranges b.local.attempt)

-- ---- what is kept

-- while a CPU asks, P holds, and Q behind a reject
pub record Asks (i : ℕ) (P Q : Kept → Type 0) : Type 0 where
  pub asks : (k : Kept) → P k → P (k_asking i k)
  pub holds : (k : Kept) (held : Holders) → P k → P (with_state (record k.state { held = held }) k)
  pub rejects : (k : Kept) (j : ℕ) → j ≢ i → is_live k.state j ≡ true → is_head k.state i ≡ false → P k
      → Q (k_rejected i (k_rejecting j k))
  pub aborts : (k : Kept) (j line : ℕ) (stored : Bool) (at : ℕ) → j ≢ i → is_live k.state j ≡ true → P k
      → P (k_aborting j (conflict_on stored line) at k)

-- in a turn of a CPU: P holds while it asks, Q behind a reject, and F at the end
pub record Walk (m : Setting) (i : ℕ) (P Q F : Kept → Type 0) : Type 0 where
  pub asking : Asks i P Q
  pub refused : (k : Kept) → Q k → F k
  pub starved : (k : Kept) (at : ℕ) → is_live k.state i ≡ true → Q k → F (k_aborting i Starved at k)
  pub nothing : (k : Kept) → P k → F k
  pub leaves : (k : Kept) (after : Beside) → P k → P (with_beside i after k)
  pub ends : (k : Kept) (w : Why) (at : ℕ) → IsOwn w → P k → F (k_aborting i w at k)
  pub steps : (k : Kept) (after : Beside) → P k → F (k_stepping i after k)
  pub pauses : (k : Kept) (after : Beside) (turns : ℕ) → P k
      → F (let next = k_stepping i after k in with_state (delaying i turns next.state) next)
  pub stores : (k : Kept) → P k → F (k_storing i k)
  pub takes : (k : Kept) → P k → F (k_taking i k)
  pub starts : (k : Kept) (after : Beside) → is_live k.state i ≡ false → P k → F (k_starting i after k)
  pub continues : (k : Kept) (after : Beside) → is_live k.state i ≡ true → P k → F (k_continuing i after k)
  pub commits : (k : Kept) (n : ℕ) (after : Beside) → is_live k.state i ≡ true → P k
      → F (k_committing i n after k)
  pub waits : (k : Kept) → P k → F (with_state (waiting_turn i k.state) k)
  pub interrupted : (k : Kept) → P k → F (k_external i k).kept

-- ---- questions

abbrev pub Behind : (Kept → Type 0) → (Kept → Type 0) → Option Reject → Kept → Type 0
Behind P Q None k = P k
Behind P Q (Some r) k = Q k

abbrev pub IsBehind : (Kept → Type 0) → (Kept → Type 0) → KAsked → Type 0
IsBehind P Q a = Behind P Q a.reject a.kept

and_then : (P Q : Kept → Type 0) (o : Option Reject) (k : Kept) (next : Kept → KAsked) → Behind P Q o k
    → ((t : Kept) → P t → IsBehind P Q (next t)) → IsBehind P Q (k_unless_rejected o k next)
and_then P Q None k next p go = go k p
and_then P Q (Some r) k next q go = q

abbrev AreOthers : ℕ → List ℕ → Type 0
AreOthers i [] = Unit {0}
AreOthers i (j ∷ rest) = (j ≢ i) × AreOthers i rest

module _ (m : Setting) (i : ℕ) (P Q : Kept → Type 0) (w : Asks i P Q) where
  one_asked : (need : Need) (j : ℕ) (k : Kept) → j ≢ i → P k → IsBehind P Q (k_ask_one i need j k)
  unfolding k_ask_one k_reply
  one_asked need j k other p =
      let t = k_asking i k in
      let q = w.asks k p in
      let lines = kept_footprint k j in
      let live_then : is_live k.state j ≡ true → is_live t.state j ≡ true = λ h. live_asking i k.state j ∙ h
      in
      replied (λ (a : Answer). IsBehind P Q (k_by_answer i need j t a)) (is_live k.state j) lines.fetched
      lines.stored (k.standings j) need.line need.mode (kept_asker k i)
      (w.holds t (yielding j need.line need.mode t.state).held q)
      (λ live holds.
      w.rejects t j other (live_then live) (not_the_head (k.standings j) (kept_asker k i) holds) q)
      (λ live _.
      let u = k_aborting j (cause_at lines.stored need.line) (t.locals j).attempt.cpu.address t in
      w.holds u (yielding j need.line need.mode u.state).held
      (w.aborts t j need.line (lines.stored need.line) (t.locals j).attempt.cpu.address other (live_then
      live) q))

  each_asked : (need : Need) (js : List ℕ) (k : Kept) → AreOthers i js → P k
      → IsBehind P Q (k_ask_each i need js k)
  unfolding k_ask_each
  each_asked need [] k others p = p
  each_asked need (j ∷ rest) k others p =
      let a = k_ask_one i need j k in
      and_then P Q a.reject a.kept (k_ask_each i need rest) (one_asked need j k others.0 p)
      (λ t q. each_asked need rest t others.1 q)

  other_at : (j : ℕ) (rest : List ℕ) (b c : Bool) → (j == i) ≡ b → AreOthers i rest
      → AreOthers i (cond (not b && c) (j ∷ rest) rest)
  other_at j rest true c e others = others
  other_at j rest false true e others = (eqb-false j i e, others)
  other_at j rest false false e others = others

  others_among : (test : ℕ → Bool) (a n : ℕ)
      → AreOthers i (filter (λ j. not (j == i) && test j) (range_with_len a n))
  others_among test a zero = tt
  others_among test a (suc n) =
      other_at a (filter (λ j. not (j == i) && test j) (range_with_len (a + 1) n)) (a == i) (test a) refl
      (others_among test (a + 1) n)

  all_others : (held : Holders) (line : ℕ) (mode : Mode) → AreOthers i (against (cpus_of m) held i line mode)
  unfolding against
  all_others held line mode = others_among (λ j. is_against mode (held j line)) 0 (cpus_of m)

  line_granted : (needs : List Need) (need : Need) (k : Kept) → P k → P (k_granting i needs need k)
  unfolding k_granting
  line_granted needs need k p = w.holds k (granting i (kept_footprint k i) needs need k.state.held) p

  line_taken : (b : Bool) (needs : List Need) (need : Need) (k : Kept) → P k
      → IsBehind P Q (k_get_unless b m i needs need k)
  line_taken true needs need k p = p
  line_taken false needs need k p =
      let js = against (cpus_of m) k.state.held i need.line need.mode in
      let a = k_ask_each i need js k in
      and_then P Q a.reject a.kept (k_take_line i needs need)
      (each_asked need js k (all_others k.state.held need.line need.mode) p)
      (λ t q. line_granted needs need t q)

  line_got : (needs : List Need) (need : Need) (k : Kept) → P k → IsBehind P Q (k_get_line m i needs need k)
  unfolding k_get_line
  line_got needs need k p = line_taken (is_there need.mode (k.state.held i need.line)) needs need k p

  pub lines_got : (needs rest : List Need) (k : Kept) → P k → IsBehind P Q (k_get_each m i needs rest k)
  unfolding k_get_each
  lines_got needs [] k p = p
  lines_got needs (need ∷ rest) k p =
      let a = k_get_line m i needs need k in
      and_then P Q a.reject a.kept (k_get_each m i needs rest) (line_got needs need k p)
      (λ t q. lines_got needs rest t q)

-- ---- what the turn does

module _ (m : Setting) (i : ℕ) (P Q F : Kept → Type 0) (w : Walk m i P Q F) where
  turned_away : (starved live : Bool) (r : Reject) (k : Kept) → is_live k.state i ≡ live → Q k
      → F (k_refused_turn (live && starved) i r k).kept
  unfolding k_ends_by
  turned_away true true r k e q = w.starved k (next_address k i) e q
  turned_away false true r k e q = w.refused k q
  turned_away starved false r k e q = w.refused k q

  given_then : (o : Option Reject) (k : Kept) (next : Kept → KTurned) → Behind P Q o k
      → ((t : Kept) → P t → F (next t).kept) → F (k_once_given i o k next).kept
  given_then None k next p go = go k p
  given_then (Some r) k next q go = turned_away (is_starved (k.standings i)) (is_live k.state i) r k refl q

  lines_then : (needs : List Need) (k : Kept) (next : Kept → KTurned) → P k
      → ((t : Kept) → P t → F (next t).kept) → F (k_with_lines m i needs k next).kept
  lines_then needs k next p go =
      let a = k_get_lines m i needs k in
      given_then a.reject a.kept next (lines_got m i P Q w.asking needs needs k p) go

  inside_told : (at : ℕ) (after : Beside) (k : Kept) (told : Done) → ToldOwn told → is_live k.state i ≡ true
      → P k → F (k_inside i at after k told).kept
  unfolding k_ends_by
  inside_told at after k done.Stepped own live p = w.continues k after live p
  inside_told at after k (done.Committed n) own live p = w.commits k n after live p
  inside_told at after k (done.Ended why) own live p = w.ends (with_beside i after k) why at own (w.leaves k
      after p)
  inside_told at after k done.Began own live p = w.nothing k p
  inside_told at after k (done.Paused turns) own live p = w.nothing k p
  inside_told at after k (done.Interrupted code) own live p = w.nothing k p

  outside_told : (after : Beside) (k : Kept) (told : Done) → is_live k.state i ≡ false → P k
      → F (k_outside i after k told).kept
  outside_told after k done.Began live p = w.starts k after live p
  outside_told after k done.Stepped live p = w.steps k after p
  outside_told after k (done.Paused turns) live p = w.pauses k after turns p
  outside_told after k (done.Interrupted code) live p = w.steps k after p
  outside_told after k (done.Committed n) live p = w.nothing k p
  outside_told after k (done.Ended why) live p = w.nothing k p

  done_told : (live : Bool) (e : Executed) (k : Kept) → is_live k.state i ≡ live → ToldOwn e.told → P k
      → F (k_done live i e k).kept
  done_told true e k live own p = inside_told (next_address k i) e.after k e.told own live p
  done_told false e k live own p = outside_told e.after k e.told live p

  instruction_done : (instr : Instr) (ranges : List Range) (k : Kept) → P k
      → F (k_executing i instr ranges k).kept
  unfolding k_executing
  instruction_done instr ranges k p =
      done_told (is_live k.state i) (executed instr ranges (beside k i)) k refl
      (executed_own instr ranges (beside k i)) p

  attempted : (k : Kept) (f : Fate) → FateOwn f → P k → F (k_attempting m i k f).kept
  unfolding k_ends_by
  attempted k (Goes instr ranges) own p =
      lines_then (operand_needs (k.locals i).attempt.cpu.prefix ranges) k (k_executing i instr ranges) p
      (instruction_done instr ranges)
  attempted k (Ends why) own p = w.ends k why (next_address k i) own p
  attempted k (Stops e) own p = w.steps k _ p

  acted : (k : Kept) (block : Option Pending) (waiting : Option Waiting) → P k
      → F (k_acting m i k block waiting).kept
  acted k (Some b) waiting p =
      lines_then (block_needs (k.locals i).attempt.cpu.prefix b) k _ p (λ t q. w.stores t q)
  acted k None (Some v) p =
      lines_then (interruption_needs (k.locals i).attempt.cpu.prefix v) k _ p (λ t q. w.takes t q)
  acted k None None p =
      let q = (k.locals i).attempt in
      attempted k (fate_by_progress (text_of m) k.storage q) (fate_own (text_of m) k.storage q) p

  ruled : (tick waits : Bool) (k : Kept) → P k → F (k_by_rules tick waits m i k).kept
  ruled true waits k p = w.interrupted k p
  ruled false true k p = w.waits k p
  ruled false false k p = acted k (k.locals i).pending (k.locals i).waiting p

  turned_where : (o : Option Outcome) (k : Kept) → k_idle m k i ≡ o
      → ((o : Outcome) → k_idle m k i ≡ Some o → F k)
      → (k_idle m k i ≡ None → P (with_state (with_event (event.Turn i) (counting_turn i k.state)) k))
      → F (k_turn_where o m i k).kept
  unfolding k_counted_turn
  turned_where (Some o) k e f p = f o e
  turned_where None k e f p =
      let t = with_state (with_event (event.Turn i) (counting_turn i k.state)) k in
      let n = t.state.numbers i in
      ruled (is_tick m.limits n.turns) (nat_lt 0 n.delay) t (p e)

  pub in_a_turn : (k : Kept) → ((o : Outcome) → k_idle m k i ≡ Some o → F k)
      → (k_idle m k i ≡ None → P (with_state (with_event (event.Turn i) (counting_turn i k.state)) k))
      → F (k_turn m i k).kept
  unfolding k_turn
  in_a_turn k f p = turned_where (k_idle m k i) k refl f p
