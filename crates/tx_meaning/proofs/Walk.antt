-- A walk through an event: what every change in it keeps, the event keeps.
use Rattle.std.proofs.Common.{◌≡◌, ◌≢◌, ℕ, zero, suc, ◌+◌, ◌<◌, ◌≤◌, Bool, true, false, cond, List, [], ◌∷◌}
use Rattle.std.proofs.Common.{◌++◌}
use Rattle.std.proofs.Common.{Option, Some, None, refl, sym, ap, ◌∙◌, arith}
use Rattle.std.specs.Prelude.{◌&&◌, ◌==◌, not, nat_lt, if◌then◌else◌}
use Rattle.std.specs.List.{filter, range_with_len}
use Rattle.std.proofs.lemmas.Bool.{eqb-true, eqb-false, and_parts, not-true}
use Rattle.z_regs.specs.declared.image.RunState.{RunState}
use Rattle.z_regs.specs.declared.image.RunState.TheVariants.{Running, Halted, Interrupted}
use Rattle.z_regs.specs.declared.waiting.Waiting.{Waiting}
use Rattle.z_instr.specs.declared.instr.Instr.{Instr}
use Rattle.z_instr.specs.Table.{entry_at}
use Rattle.z_instr.specs.Roles.{begins}
use Rattle.tx_control.specs.Nesting.{is_constrained}
use Rattle.tx_control.specs.declared.causes.Why.{Why}
use Rattle.tx_control.specs.declared.causes.Why.TheVariants.{External, Program, FetchConflict}
use Rattle.tx_control.specs.declared.causes.Why.TheVariants.{StoreConflict, FetchOverflow, StoreOverflow}
use Rattle.tx_control.specs.declared.causes.Why.TheVariants.{Restricted, Filtered, Depth, Starved, Tabort}
use Rattle.tx_ladder.specs.Rungs.{Standing, is_starved, next_rung, may_reject}
use Rattle.tx_ladder.specs.declared.ladder.Next.{Next}
use Rattle.tx_ladder.specs.declared.ladder.Next.TheVariants as rung
use Rattle.tx_serial.specs.Entry.TheVariants as entry
use Rattle.tx_serial.specs.Event.TheVariants as event
use Rattle.line_table.specs.declared.table.Mode.{Mode}
use Rattle.line_table.specs.Holders.{Holders, is_against, against}
use Rattle.interrogate.specs.declared.kinds.Answer.{Answer}
use Rattle.interrogate.specs.declared.kinds.Asker.{Asker}
use Rattle.interrogate.specs.Replies.{cause_at, may_hold_out}
use Rattle.tx_serial.specs.Flat.{Pending, at_put}
use Rattle.tx_serial.specs.Attempt.{Run, Mark, Open, Committed, Overflowed, Missing}
use Rattle.tx_serial.specs.Fate.{Fate, Goes, Ends, Stops, fate}
use Rattle.tx_serial.specs.Run.{run}
use Rattle.tx_serial.specs.Ending.{ending}
use Rattle.tx_serial.specs.TransactionEffect.{delay_given}
use Rattle.tx_meaning.specs.declared.outcome.Outcome.{Outcome}
use Rattle.tx_meaning.specs.Limits.{Setting}
use Rattle.tx_meaning.specs.Needs.{operand_needs, block_needs, interruption_needs}
use Rattle.tx_meaning.specs.State.{Numbers, State, is_live, is_head, flat_of, attempt_of, cpu_of, standing_of}
use Rattle.tx_meaning.specs.State.{footprint_of, cpus_of}
use Rattle.tx_meaning.specs.Changes.{asking, rejecting_one, rejected_once, yielding, granting, aborting}
use Rattle.tx_meaning.specs.Changes.{with_entry, with_event, counting_turn, waiting_turn, delaying, starting}
use Rattle.tx_meaning.specs.Changes.{continuing, committing, after_cause, on_rung, leaving, without_head}
use Rattle.tx_meaning.specs.Asking.{Asked, reply, asker_of, aborting_live, by_answer, ask_one, ask_each}
use Rattle.tx_meaning.specs.Asking.{unless_rejected, is_there, take_line, get_unless, get_line, get_each}
use Rattle.tx_meaning.specs.Asking.{get_lines}
use Rattle.tx_meaning.specs.Idle.{idle}
use Rattle.tx_meaning.specs.Turn.{Turned, refused_turn, once_given, with_lines, ends_where, by_mark}
use Rattle.tx_meaning.specs.Turn.{delaying_where, stepped, stepping, executing_where}
use Rattle.tx_meaning.specs.Turn.{executing, attempting, acting, to_tail, interrupting, external, is_tick}
use Rattle.tx_meaning.specs.Turn.{by_rules}
use Rattle.tx_meaning.specs.Turn.{turn_where, turn}
use Rattle.tx_meaning.proofs.Replies.{replied}
use Rattle.tx_meaning.specs.declared.asking.Reject.{Reject}
use Rattle.tx_meaning.specs.declared.asking.Need.{Need}

-- ---- tables

at_case : {A : Type 0} (T : A → Type 0) (v w : A) (b : Bool) → (b ≡ true → T v) → (b ≡ false → T w)
    → T (if b then v else w)
at_case T v w true here there = here refl
at_case T v w false here there = there refl

-- a value of a table that is changed at one place
pub at_put_case : {A : Type 0} (T : A → Type 0) (table : ℕ → A) (i : ℕ) (v : A) (j : ℕ) → (j ≡ i → T v)
    → (j ≢ i → T (table j)) → T (at_put table i v j)
at_put_case T table i v j here there =
    at_case T v (table j) (j == i) (λ e. here (eqb-true j i e)) (λ e. there (eqb-false j i e))

-- what is read of a value that is the same at the changed place
pub at_put_kept : {A B : Type 0} (f : A → B) (table : ℕ → A) (i : ℕ) (v : A) → f v ≡ f (table i) → (j : ℕ)
    → f (at_put table i v j) ≡ f (table j)
at_put_kept f table i v same j =
    at_put_case (λ n. f n ≡ f (table j)) table i v j (λ e. same ∙ ap (λ k. f (table k)) (sym e)) (λ n. refl)

pub live_asking : (i : ℕ) (s : State) (j : ℕ) → is_live (asking i s) j ≡ is_live s j
live_asking i s j =
    at_put_kept (λ (n : Numbers). nat_lt 0 n.completed) s.numbers i
    (record (s.numbers i) { asked = (s.numbers i).asked + 1 }) refl j

-- nobody rejects the head of the stop queue
pub not_the_head : (standing : Standing) (asker : Asker) → may_hold_out standing asker ≡ true → asker.head ≡
    false
not_the_head standing asker h =
    let late = asker.late && not standing.constrained in
    let others = and_parts (may_reject standing) (not asker.head && not late) h in
    not-true asker.head (and_parts (not asker.head) (not late) others.1).0

-- ---- what is kept

-- the CPUs that are asked are there, and are others
abbrev AreOthers : Setting → ℕ → List ℕ → Type 0
AreOthers m i [] = Unit {0}
AreOthers m i (j ∷ rest) = (j < cpus_of m) × ((j ≢ i) × AreOthers m i rest)

abbrev pub conflict_on : Bool → ℕ → Why
conflict_on stored line = if stored then StoreConflict line else FetchConflict line

-- in a turn of a CPU: P holds while it asks, Q behind a reject, and F at the end
pub record Walk (m : Setting) (i : ℕ) (P Q : State → Type 0) (F : Option Reject → State → Type 0) : Type 0
  where
    pub asks : (s : State) → P s → P (asking i s)
    pub holds : (s : State) (held : Holders) → P s → P (record s { held = held })
    pub rejects : (s : State) (j : ℕ) → j < cpus_of m → j ≢ i → is_live s j ≡ true → is_head s i ≡ false → P s
        → Q (rejected_once i (is_live s i) (standing_of m s i) (rejecting_one j (standing_of m s j) s))
    pub aborts : (s : State) (j line : ℕ) (stored : Bool) → j < cpus_of m → j ≢ i → is_live s j ≡ true → P s
        → P (aborting_live m j (conflict_on stored line) s)
    pub refused : (r : Reject) (s : State) → Q s → F (Some r) s
    pub starved : (r : Reject) (s : State) → is_live s i ≡ true → Q s → F (Some r) (aborting_live m i Starved s)
    pub nothing : (s : State) → P s → F None s
    pub ends : (s : State) (n : ℕ) (w : Why) → P s → F None (aborting i (standing_of m s i) n w s)
    pub steps : (s : State) → P s → F None (with_entry (entry.Step i) s)
    pub pauses : (s : State) (turns : ℕ) → P s → F None (delaying i turns (with_entry (entry.Step i) s))
    pub stores : (s : State) → P s → F None (with_entry (entry.Tdb i) s)
    pub takes : (s : State) → P s → F None (with_entry (entry.Interrupt i) s)
    pub starts : (s : State) → is_live s i ≡ false → P s → F None (starting i s)
    pub continues : (s : State) → is_live s i ≡ true → P s → F None (continuing i s)
    pub commits : (s : State) (constrained : Bool) (n : ℕ) → is_live s i ≡ true → P s
        → F None (committing i constrained n s)
    pub waits : (s : State) → P s → F None (waiting_turn i s)
    pub interrupted : (s : State) → is_live s i ≡ true → P s → F None (to_tail i (aborting_live m i External s))
    pub unmet : (s : State) → P s → F None (to_tail i s)

-- ---- questions

abbrev Behind : (State → Type 0) → (State → Type 0) → Option Reject → State → Type 0
Behind P Q None s = P s
Behind P Q (Some r) s = Q s

abbrev IsBehind : (State → Type 0) → (State → Type 0) → Asked → Type 0
IsBehind P Q a = Behind P Q a.reject a.state

and_then : (P Q : State → Type 0) (o : Option Reject) (s : State) (next : State → Asked) → Behind P Q o s
    → ((t : State) → P t → IsBehind P Q (next t)) → IsBehind P Q (unless_rejected o s next)
and_then P Q None s next p go = go s p
and_then P Q (Some r) s next q go = q

module _ (m : Setting) (i : ℕ) (P Q : State → Type 0) (F : Option Reject → State → Type 0)
    (w : Walk m i P Q F) where
  one_asked : (need : Need) (j : ℕ) (s : State) → j < cpus_of m → j ≢ i → P s
      → IsBehind P Q (ask_one m i need j s)
  unfolding reply
  one_asked need j s known other p =
      let t = asking i s in
      let q = w.asks s p in
      let lines = footprint_of m s j in
      let live_then : is_live s j ≡ true → is_live t j ≡ true = λ h. live_asking i s j ∙ h in
      replied (λ (a : Answer). IsBehind P Q (by_answer m i need j t a)) (is_live s j) lines.fetched
      lines.stored
      (standing_of m s j) need.line need.mode (asker_of m s i)
      (w.holds t (yielding j need.line need.mode t).held q)
      (λ live holds.
      w.rejects t j known other (live_then live) (not_the_head (standing_of m s j) (asker_of m s i) holds) q)
      (λ live _.
      let u = aborting_live m j (cause_at lines.stored need.line) t in
      w.holds u (yielding j need.line need.mode u).held
      (w.aborts t j need.line (lines.stored need.line) known other (live_then live) q))

  each_asked : (need : Need) (js : List ℕ) (s : State) → AreOthers m i js → P s
      → IsBehind P Q (ask_each m i need js s)
  unfolding ask_each
  each_asked need [] s others p = p
  each_asked need (j ∷ rest) s others p =
      let a = ask_one m i need j s in
      and_then P Q a.reject a.state (ask_each m i need rest) (one_asked need j s others.0 others.1.0 p)
      (λ t q. each_asked need rest t others.1.1 q)

  other_at : (j : ℕ) (rest : List ℕ) (b c : Bool) → (j == i) ≡ b → j < cpus_of m → AreOthers m i rest
      → AreOthers m i (cond (not b && c) (j ∷ rest) rest)
  other_at j rest true c e known others = others
  other_at j rest false true e known others = (known, (eqb-false j i e, others))
  other_at j rest false false e known others = others

  others_among : (test : ℕ → Bool) (a n : ℕ) → a + n ≤ cpus_of m
      → AreOthers m i (filter (λ j. not (j == i) && test j) (range_with_len a n))
  others_among test a zero h = tt
  others_among test a (suc n) h =
      let here : a < cpus_of m = omega arith in
      let later : a + 1 + n ≤ cpus_of m = omega arith in
      other_at a (filter (λ j. not (j == i) && test j) (range_with_len (a + 1) n)) (a == i) (test a) refl here
      (others_among test (a + 1) n later)

  all_others : (held : Holders) (line : ℕ) (mode : Mode)
      → AreOthers m i (against (cpus_of m) held i line mode)
  unfolding against
  all_others held line mode =
      let all : 0 + cpus_of m ≤ cpus_of m = omega arith in
      others_among (λ j. is_against mode (held j line)) 0 (cpus_of m) all

  line_taken : (b : Bool) (needs : List Need) (need : Need) (s : State) → P s
      → IsBehind P Q (get_unless b m i needs need s)
  line_taken true needs need s p = p
  line_taken false needs need s p =
      let js = against (cpus_of m) s.held i need.line need.mode in
      let a = ask_each m i need js s in
      and_then P Q a.reject a.state (take_line m i needs need)
      (each_asked need js s (all_others s.held need.line need.mode) p)
      (λ t q. w.holds t (granting i (footprint_of m t i) needs need t.held) q)

  line_got : (needs : List Need) (need : Need) (s : State) → P s → IsBehind P Q (get_line m i needs need s)
  unfolding get_line
  line_got needs need s p = line_taken (is_there need.mode (s.held i need.line)) needs need s p

  lines_got : (needs rest : List Need) (s : State) → P s → IsBehind P Q (get_each m i needs rest s)
  unfolding get_each
  lines_got needs [] s p = p
  lines_got needs (need ∷ rest) s p =
      let a = get_line m i needs need s in
      and_then P Q a.reject a.state (get_each m i needs rest) (line_got needs need s p)
      (λ t q. lines_got needs rest t q)

  -- ---- what the turn does

  turned_away : (starved live : Bool) (r : Reject) (s : State) → is_live s i ≡ live → Q s
      → F (refused_turn (live && starved) m i r s).reject (refused_turn (live && starved) m i r s).state
  turned_away true true r s e q = w.starved r s e q
  turned_away false true r s e q = w.refused r s q
  turned_away starved false r s e q = w.refused r s q

  given_then : (o : Option Reject) (s : State) (next : State → Turned) → Behind P Q o s
      → ((t : State) → P t → F (next t).reject (next t).state) → F (once_given m i o s next).reject
      (once_given m i o s next).state
  given_then None s next p go = go s p
  given_then (Some r) s next q go = turned_away (is_starved (standing_of m s i)) (is_live s i) r s refl q

  lines_then : (needs : List Need) (s : State) (next : State → Turned) → P s
      → ((t : State) → P t → F (next t).reject (next t).state) → F (with_lines m i needs s next).reject
      (with_lines m i needs s next).state
  lines_then needs s next p go =
      let a = get_lines m i needs s in
      given_then a.reject a.state next (lines_got needs needs s p) go

  paused : (b : Bool) (turns : ℕ) (s : State) → P s
      → F None (delaying_where b i turns (with_entry (entry.Step i) s))
  paused true turns s p = w.pauses s turns p
  paused false turns s p = w.steps s p

  step_told : (turns : ℕ) (state : RunState) (s : State) → P s
      → F (stepped i turns state (with_entry (entry.Step i) s)).reject (stepped i turns state (with_entry
      (entry.Step i) s)).state
  step_told turns Running s p = paused (nat_lt 0 turns) turns s p
  step_told turns Halted s p = paused (nat_lt 0 turns) turns s p
  step_told turns (Interrupted code) s p = w.steps s p

  step_made : (turns : ℕ) (s : State) → P s → F (stepping m i turns s).reject (stepping m i turns s).state
  step_made turns s p = step_told turns (cpu_of m (with_entry (entry.Step i) s) i).state s p

  ended_where : (n : ℕ) (o : Option Why) (s : State) → P s → F (ends_where m i n o s).reject (ends_where m i
      n o s).state
  ended_where n None s p = w.nothing s p
  ended_where n (Some why) s p = w.ends s n why p

  marked : (s : State) (before after : Run) (mark : Mark) → is_live s i ≡ true → P s
      → F (by_mark m i s before after mark).reject (by_mark m i s before after mark).state
  marked s before after Open live p = w.continues s live p
  marked s before after Committed live p =
      w.commits s (is_constrained before.nest) ((s.numbers i).completed + 1) live p
  marked s before after Overflowed live p =
      ended_where ((s.numbers i).completed + 1) (ending (flat_of m s).text after) s p
  marked s before after Missing live p =
      ended_where (s.numbers i).completed (ending (flat_of m s).text before) s p

  executed_where : (live begin : Bool) (instr : Instr) (s : State) → is_live s i ≡ live → P s
      → F (executing_where live begin m i instr s).reject (executing_where live begin m i instr s).state
  executed_where true begin instr s e p =
      let after = run (flat_of m s) i (suc (s.numbers i).completed) in
      marked s (attempt_of m s i) after after.mark e p
  executed_where false true instr s e p = w.starts s e p
  executed_where false false instr s e p = step_made (delay_given instr (cpu_of m s i)) s p

  instruction_done : (instr : Instr) (s : State) → P s → F (executing m i instr s).reject (executing m i
      instr s).state
  instruction_done instr s p = executed_where (is_live s i) (begins (entry_at instr.op.number)) instr s refl p

  attempted : (s : State) (f : Fate) → P s → F (attempting m i s f).reject (attempting m i s f).state
  attempted s (Goes instr ranges) p =
      lines_then (operand_needs (cpu_of m s i).prefix ranges) s (executing m i instr) p
      (instruction_done instr)
  attempted s (Ends why) p = w.ends s (s.numbers i).completed why p
  attempted s (Stops e) p = step_made 0 s p

  acted : (s : State) (block : Option Pending) (waiting : Option Waiting) → P s
      → F (acting m i s block waiting).reject (acting m i s block waiting).state
  acted s (Some b) waiting p =
      lines_then (block_needs (cpu_of m s i).prefix b) s _ p (λ t q. w.stores t q)
  acted s None (Some v) p =
      lines_then (interruption_needs (cpu_of m s i).prefix v) s _ p (λ t q. w.takes t q)
  acted s None None p = attempted s (fate (flat_of m s).text (attempt_of m s i)) p

  -- ---- the event

  interrupted_where : (live : Bool) (s : State) → is_live s i ≡ live → P s → F (interrupting live m i
      s).reject (interrupting live m i s).state
  interrupted_where true s e p = w.interrupted s e p
  interrupted_where false s e p = w.unmet s p

  pub externally : (s : State) → P s → F (external m i s).reject (external m i s).state
  externally s p = interrupted_where (is_live s i) s refl p

  ruled : (tick waits : Bool) (s : State) → P s → F (by_rules tick waits m i s).reject (by_rules tick waits m
      i s).state
  ruled true waits s p = externally s p
  ruled false true s p = w.waits s p
  ruled false false s p = acted s ((flat_of m s).pending i) ((flat_of m s).waiting i) p

  turned_where : (o : Option Outcome) (s : State) → idle m s i ≡ o
      → ((o : Outcome) → idle m s i ≡ Some o → F None s)
      → (idle m s i ≡ None → P (with_event (event.Turn i) (counting_turn i s))) → F (turn_where o m i
      s).reject (turn_where o m i s).state
  turned_where (Some o) s e f p = f o e
  turned_where None s e f p =
      let t = with_event (event.Turn i) (counting_turn i s) in
      ruled (is_tick m.limits (t.numbers i).turns) (nat_lt 0 (t.numbers i).delay) t (p e)

  -- an idle turn changes nothing; another one is counted and recorded first
  pub in_a_turn : (s : State) → ((o : Outcome) → idle m s i ≡ Some o → F None s)
      → (idle m s i ≡ None → P (with_event (event.Turn i) (counting_turn i s))) → F (turn m i s).reject (turn
      m i s).state
  unfolding turn
  in_a_turn s f p = turned_where (idle m s i) s refl f p

-- ---- behind an abort

pub rung_case : (R : State → Type 0) (i : ℕ) (next : Next) (s : State) → R s
    → ((turns : ℕ) → R (delaying i turns s)) → R (record s { queue = s.queue ++ i ∷ [] })
    → R (on_rung i next s)
rung_case R i rung.Plain s plain delays joins = plain
rung_case R i (rung.Delay turns) s plain delays joins = delays turns
rung_case R i rung.Queue s plain delays joins = joins

pub leaving_case : (R : State → Type 0) (i : ℕ) (constrained : Bool) (s : State) → R s
    → R (record s { queue = without_head i s.queue }) → R (leaving i constrained s)
leaving_case R i true s stays leaves = leaves
leaving_case R i false s stays leaves = stays

-- the CPU stays as it is, waits for some turns, joins the stop queue, or leaves it as its head
pub cause_case : (R : State → Type 0) (i : ℕ) (standing : Standing) (why : Why) (s : State) → R s
    → ((turns : ℕ) → R (delaying i turns s)) → R (record s { queue = s.queue ++ i ∷ [] })
    → R (record s { queue = without_head i s.queue }) → R (after_cause i standing why s)
cause_case R i standing (FetchConflict line) s stays delays joins leaves =
    rung_case R i (next_rung standing) s stays delays joins
cause_case R i standing (StoreConflict line) s stays delays joins leaves =
    rung_case R i (next_rung standing) s stays delays joins
cause_case R i standing Starved s stays delays joins leaves =
    rung_case R i (next_rung standing) s stays delays joins
cause_case R i standing (Program e) s stays delays joins leaves =
    leaving_case R i standing.constrained s stays leaves
cause_case R i standing External s stays delays joins leaves = stays
cause_case R i standing FetchOverflow s stays delays joins leaves = stays
cause_case R i standing StoreOverflow s stays delays joins leaves = stays
cause_case R i standing Restricted s stays delays joins leaves = stays
cause_case R i standing (Filtered e) s stays delays joins leaves = stays
cause_case R i standing Depth s stays delays joins leaves = stays
cause_case R i standing (Tabort code) s stays delays joins leaves = stays
