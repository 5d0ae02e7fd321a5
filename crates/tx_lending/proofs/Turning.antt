-- So many turns of the machine that keeps, whose instructions could be made away.
use Rattle.std.proofs.Common.{◌≡◌, ℕ, zero, suc, ◌+◌, ◌<◌, ◌≤◌, Bool, true, false, List, [], ◌∷◌, ◌++◌, Option}
use Rattle.std.proofs.Common.{refl, sym, ap, subst, ◌∙◌, arith, append-nil, append_assoc, replicate}
use Rattle.std.specs.Prelude.{◌==◌, if◌then◌else◌, nat_lt, nat_le}
use Rattle.std.proofs.lemmas.List.{replicate_more}
use Rattle.line_table.specs.declared.table.Mode.{Mode}
use Rattle.tx_serial.specs.Apply.{is_running}
use Rattle.tx_serial.specs.Flat.{at_put}
use Rattle.tx_serial.proofs.Entries.{at_put_same}
use Rattle.tx_journal.specs.declared.entries.Entry.{Entry}
use Rattle.tx_journal.specs.declared.entries.Entry.TheVariants.{Step}
use Rattle.tx_journal.specs.declared.events.Event.{Event}
use Rattle.tx_journal.specs.declared.events.Event.TheVariants.{Turn}
use Rattle.tx_progress.specs.Doing.{executed}
use Rattle.tx_progress.specs.Local.{Local, Beside}
use Rattle.tx_progress.specs.Progress as progress
use Rattle.tx_progress.proofs.Parts.{put_twice}
use Rattle.tx_meaning.specs.declared.outcome.Outcome.TheVariants as outcome
use Rattle.tx_meaning.specs.Idle.{is_spent}
use Rattle.tx_meaning.specs.Limits.{Setting}
use Rattle.tx_meaning.specs.State.{Numbers, is_live}
use Rattle.tx_meaning.specs.Turn.{is_tick}
use Rattle.tx_keeping.specs.Keeping.{keeping_from}
use Rattle.tx_keeping.specs.Kept.{Kept, text_of, beside}
use Rattle.tx_keeping.specs.Turn.{KTurned, k_turned, k_happen}
use Rattle.tx_lending.specs.Away.{lent_by, lent_turn, ran, GoesAway, GoAway}
use Rattle.tx_lending.specs.Turns.{MayMake, steps_of, with_turns}
use Rattle.tx_lending.proofs.Along.{fewer, last_one}
use Rattle.tx_lending.proofs.Leaving.{left_by, stays_live}
use Rattle.tx_lending.proofs.OneTurn.{IsReady, one_turn}

-- ---- what turns leave of their CPU

pub record Along (local left : Local) : Type 0 where
  pub pending : left.pending ≡ local.pending
  pub waiting : left.waiting ≡ local.waiting
  pub runs : is_running local.attempt.cpu.state ≡ true → is_running left.attempt.cpu.state ≡ true
  pub live : progress.is_live left.attempt ≡ progress.is_live local.attempt

-- one turn more
one_left : (text : List ℕ) (held : ℕ → Option Mode) (local : Local) (b : Beside) → Along local b.local
    → GoesAway text held b → Along local (lent_turn text b).local
one_left text held local b along away =
    let x = left_by away.instr away.ranges b.local b.storage away.plain away.told in
    subst (λ f. Along local (lent_by f b).local) (sym away.goes) record {
      pending = x.pending ∙ along.pending;
      waiting = x.waiting ∙ along.waiting;
      runs = λ h. x.runs (along.runs h);
      live = stays_live b.local (executed away.instr away.ranges b).after.local x ∙ along.live;
    }

pub all_left : (text : List ℕ) (held : ℕ → Option Mode) (k : ℕ) (b : Beside) → GoAway text held k b
    → Along b.local (ran text k b).local
unfolding ran
all_left text held zero b away = record { pending = refl; waiting = refl; runs = λ h. h; live = refl }
all_left text held (suc k) b away =
    one_left text held b.local (ran text k b) (all_left text held k b (fewer text held k b away))
    (last_one text held k b away)

-- ---- the machine with turns, and one more

-- an event more at the end
one_event_more : (m : Setting) (e : Event) (k : ℕ) (t : Kept)
    → keeping_from m (replicate (suc k) e) t ≡ (k_happen m e (keeping_from m (replicate k e) t)).kept
unfolding keeping_from
one_event_more m e zero t = refl
one_event_more m e (suc k) t = one_event_more m e k (k_happen m e t).kept

one_more_of : {A : Type 0} (k : ℕ) (x : A) (xs : List A)
    → (xs ++ replicate k x) ++ replicate 1 x ≡ xs ++ replicate (suc k) x
one_more_of k x xs =
    let e : k + 1 ≡ suc k = omega arith in
    append_assoc xs (replicate k x) (x ∷ []) ∙ ap (λ ys. xs ++ ys) (replicate_more k x ∙ ap (λ n. replicate n x) e)

one_step_more : (live : Bool) (i k : ℕ) (history : List Entry)
    → (history ++ steps_of live i k) ++ steps_of live i 1 ≡ history ++ steps_of live i (suc k)
one_step_more true i k history = append-nil (history ++ [])
one_step_more false i k history = one_more_of k (Step i) history

module _ (i : ℕ) (t : Kept) where
  -- the machine with this history, these events and numbers, and what is left of the CPU
  abbrev with_these : Beside → List Entry → List Event → (ℕ → Numbers) → (ℕ → Local) → Kept
  with_these after history events numbers locals = record {
    state = record t.state { history = history; events = events; numbers = numbers };
    storage = after.storage;
    locals = locals;
    standings = t.standings;
  }

  abbrev n : Numbers
  n = t.state.numbers i

  abbrev numbers_of : ℕ → Beside → Numbers
  numbers_of k b = record n { completed = b.local.attempt.count; turns = n.turns + k }

  put_back : {A : Type 0} (table : ℕ → A) (v : A) → v ≡ table i → at_put table i v ≡ table
  put_back table v e x j = by (j == i) refl x
    where
      by : (b : Bool) → (j == i) ≡ b → (if b then v else table j) ≡ table j
      by true h = let same : i ≡ j = grind (arith, h) in e ∙ ap table same
      by false h = refl

  pub no_turn : n.completed ≡ (t.locals i).attempt.count → t ≡ with_turns i 0 (beside t i) t
  no_turn e =
      let none : n.turns + 0 ≡ n.turns = omega arith in
      let numbers : numbers_of 0 (beside t i) ≡ n =
      λ x. record n { completed = sym e x; turns = none x } in
      let history : t.state.history ++ steps_of (is_live t.state i) i 0 ≡ t.state.history =
      nothing (is_live t.state i) in
      sym (λ x. with_these (beside t i) (history x) (append-nil t.state.events x)
      (put_back t.state.numbers (numbers_of 0 (beside t i)) numbers x) (put_back t.locals (t.locals i) refl x))
    where
      nothing : (live : Bool) → t.state.history ++ steps_of live i 0 ≡ t.state.history
      nothing true = append-nil t.state.history
      nothing false = append-nil t.state.history

  -- one turn behind so many is one turn more
  turn_more : (k : ℕ) (b after : Beside) → is_live (with_turns i k b t).state i ≡ is_live t.state i
      → with_turns i 1 after (with_turns i k b t) ≡ with_turns i (suc k) after t
  turn_more k b after live =
      let before = with_turns i k b t in
      let there : before.state.numbers i ≡ numbers_of k b = at_put_same t.state.numbers i (numbers_of k b) in
      let more : n.turns + k + 1 ≡ n.turns + suc k = omega arith in
      let numbers : at_put before.state.numbers i (record (before.state.numbers i) {
        completed = after.local.attempt.count;
        turns = (before.state.numbers i).turns + 1;
      }) ≡ at_put t.state.numbers i (numbers_of (suc k) after) =
      ap (λ (x : Numbers). at_put before.state.numbers i (record x {
        completed = after.local.attempt.count;
        turns = x.turns + 1;
      })) there
      ∙ put_twice t.state.numbers i (numbers_of k b)
      (record n { completed = after.local.attempt.count; turns = n.turns + k + 1 })
      ∙ ap (λ turns. at_put t.state.numbers i
      (record n { completed = after.local.attempt.count; turns = turns })) more in
      let history : before.state.history ++ steps_of (is_live before.state i) i 1
      ≡ t.state.history ++ steps_of (is_live t.state i) i (suc k) =
      ap (λ l. before.state.history ++ steps_of l i 1) live
      ∙ one_step_more (is_live t.state i) i k t.state.history in
      λ x. with_these after (history x) (one_more_of k (Turn i) t.state.events x) (numbers x)
      (put_twice t.locals i b.local after.local x)

-- ---- so many turns

module _ (m : Setting) (i : ℕ) (t : Kept) where
  abbrev start : Beside
  start = beside t i

  abbrev left : ℕ → Beside
  left k = ran (text_of m) k start

  abbrev behind : ℕ → Kept
  behind k = with_turns i k (left k) t

  behind_beside : (k : ℕ) → beside (behind k) i ≡ left k
  behind_beside k = λ x. record {
    local = at_put_same t.locals i (left k).local x;
    storage = (left k).storage;
  }

  module _ (most : ℕ) (needed : ℕ → Option Mode) (may : MayMake m i most needed t) where
    behind_numbers : (k : ℕ) → (behind k).state.numbers i
        ≡ record (t.state.numbers i) { completed = (left k).local.attempt.count; turns = (t.state.numbers i).turns + k }
    behind_numbers k = at_put_same t.state.numbers i _

    behind_live : (k : ℕ) → Along start.local (left k).local → is_live (behind k).state i ≡ is_live t.state i
    behind_live k along =
        ap (λ (x : Numbers). nat_lt 0 x.completed) (behind_numbers k)
        ∙ along.live
        ∙ sym (ap (nat_lt 0) may.completed)

    unspent : (turns k limit : ℕ) → k < most → turns + most ≤ limit → nat_le limit (turns + k) ≡ false
    unspent turns k limit less h = grind (arith, less, h)

    ready : (k : ℕ) → k < most → Along start.local (left k).local → IsReady m i (behind k)
    ready k less along =
        let here = at_put_same t.locals i (left k).local in
        let numbers = behind_numbers k in
        record {
          pending = ap (λ (l : Local). l.pending) here ∙ along.pending ∙ may.pending;
          waiting = ap (λ (l : Local). l.waiting) here ∙ along.waiting ∙ may.waiting;
          runs = ap (λ (l : Local). is_running l.attempt.cpu.state) here ∙ along.runs may.runs;
          completed = ap (λ (x : Numbers). x.completed) numbers
              ∙ sym (ap (λ (l : Local). l.attempt.count) here);
          delay = ap (λ (x : Numbers). x.delay) numbers ∙ may.delay;
          queue = may.queue;
          left = ap (λ (x : Numbers). is_spent m.limits x) numbers
              ∙ unspent (t.state.numbers i).turns k m.limits.turns less may.turns;
          tick = ap (λ (x : Numbers). is_tick m.limits (x.turns + 1)) numbers ∙ may.ticks k less;
        }

    -- what is needed is held
    held_too : (b : Beside) → GoesAway (text_of m) needed b → GoesAway (text_of m) (t.state.held i) b
    held_too b away = record {
      instr = away.instr;
      ranges = away.ranges;
      goes = away.goes;
      plain = away.plain;
      told = away.told;
      lines = λ k d less. may.held _ _ (away.lines k d less);
    }

    next : (k : ℕ) → k < most → Along start.local (left k).local → GoesAway (text_of m) needed (left k)
        → k_happen m (Turn i) (behind k) ≡ k_turned (behind (suc k)) outcome.Executed
    unfolding ran
    next k less along away =
        one_turn m i (behind k) (ready k less along)
        (subst (GoesAway (text_of m) (t.state.held i)) (sym (behind_beside k)) (held_too (left k) away))
        ∙ ap (λ b. k_turned (with_turns i 1 (lent_turn (text_of m) b) (behind k)) outcome.Executed) (behind_beside k)
        ∙ ap (λ u. k_turned u outcome.Executed)
        (turn_more i t k (left k) (left (suc k)) (behind_live k along))

    kept_by : (k : ℕ) → k ≤ most → GoAway (text_of m) needed k start
        → keeping_from m (replicate k (Turn i)) t ≡ behind k
    unfolding ran keeping_from
    kept_by zero within away = no_turn i t may.completed
    kept_by (suc k) within away =
        let before = fewer (text_of m) needed k start away in
        one_event_more m (Turn i) k t
        ∙ ap (λ u. (k_happen m (Turn i) u).kept) (kept_by k (omega (arith, within)) before)
        ∙ ap (λ (x : KTurned). x.kept) (next k (omega (arith, within)) (all_left (text_of m) needed k start before)
        (last_one (text_of m) needed k start away))

pub turns_kept : (m : Setting) (i k : ℕ) (needed : ℕ → Option Mode) (t : Kept) → MayMake m i k needed t
    → GoAway (text_of m) needed k (beside t i)
    → keeping_from m (replicate k (Turn i)) t ≡ with_turns i k (ran (text_of m) k (beside t i)) t
turns_kept m i k needed t may away = kept_by m i t k needed may k (omega arith) away

pub turns_each : (m : Setting) (i k : ℕ) (needed : ℕ → Option Mode) (t : Kept) → MayMake m i k needed t
    → GoAway (text_of m) needed k (beside t i) → (j : ℕ) → j < k
    → k_happen m (Turn i) (keeping_from m (replicate j (Turn i)) t)
    ≡ k_turned (keeping_from m (replicate (suc j) (Turn i)) t) outcome.Executed
turns_each m i k needed t may away j less =
    let fewer_away : GoAway (text_of m) needed j (beside t i) = λ l below. away l (omega (arith, below, less)) in
    let more_away : GoAway (text_of m) needed (suc j) (beside t i) = λ l below. away l (omega (arith, below, less)) in
    ap (k_happen m (Turn i)) (kept_by m i t k needed may j (omega (arith, less)) fewer_away)
    ∙ next m i t k needed may j less (all_left (text_of m) needed j (beside t i) fewer_away) (away j less)
    ∙ ap (λ u. k_turned u outcome.Executed) (sym (kept_by m i t k needed may (suc j) (omega (arith, less)) more_away))
