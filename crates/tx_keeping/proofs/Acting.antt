-- What a CPU does once its lines are there: as the meaning has it, and all that is kept stays true.
use Rattle.std.proofs.Common.{◌≡◌, ◌≢◌, ℕ, suc, ◌+◌, Bool, true, false, List}
use Rattle.std.proofs.Common.{Some, is_some, refl, sym, ap, subst, ◌∙◌, arith, inl, inr}
use Rattle.std.specs.Prelude.{◌||◌, nat_lt, if◌then◌else◌}
use Rattle.std.proofs.lemmas.Bool.{or_cases}
use borrow.Enum.Arm.{by_way}
use Rattle.z_regs.specs.Cpu.{Cpu}
use Rattle.z_regs.specs.Absolute.{absolute_ranges}
use Rattle.z_regs.specs.declared.image.RunState.{RunState}
use Rattle.z_regs.specs.declared.image.RunState.TheVariants.{Running, Halted, Interrupted}
use Rattle.z_regs.specs.declared.ranges.Range.{Range}
use Rattle.z_instr.specs.declared.instr.Instr.{Instr}
use Rattle.z_instr.specs.Table.{entry_at}
use Rattle.z_instr.specs.Roles.{begins}
use Rattle.tx_control.specs.Nesting.{is_constrained}
use Rattle.tx_control.specs.declared.begins.Begin.{Begin}
use Rattle.tx_control.specs.declared.causes.Why.{Why}
use Rattle.tx_footprint.specs.Places.{fetches, stores}
use Rattle.tx_ladder.specs.Rungs.{Standing, begun, descended}
use Rattle.tx_journal.specs.declared.entries.Entry.{Entry}
use Rattle.tx_journal.specs.declared.entries.Entry.TheVariants as entry
use Rattle.line_table.specs.declared.table.Mode.TheVariants.{Exclusive}
use Rattle.tx_serial.specs.Attempt.{Run}
use Rattle.tx_serial.specs.Apply.{may_act}
use Rattle.tx_serial.specs.Changes.{cpu_of_entry}
use Rattle.tx_serial.specs.Ending.{ending}
use Rattle.tx_serial.specs.Fate.{Goes}
use Rattle.tx_serial.specs.Flat.{FlatState, at_put}
use Rattle.tx_serial.specs.Run.{run}
use Rattle.tx_serial.proofs.Entries.{at_put_same, at_put_other}
use Rattle.tx_progress.specs.Progress.{Progress}
use Rattle.tx_progress.specs.Progress as progress
use Rattle.tx_progress.proofs.Parts.{not_live}
use Rattle.tx_progress.specs.Local.{Local, Beside, aborted}
use Rattle.tx_progress.specs.Doing.{executed, executed_where, told_of}
use Rattle.z_effect.specs.TransactionEffect.{delay_given}
use Rattle.tx_progress.specs.Trial.{fate_by_progress, outcome_by}
use Rattle.tx_progress.specs.Reached.{IsFollowed, progress_of}
use Rattle.tx_progress.specs.declared.done.Done.{Done}
use Rattle.tx_progress.specs.declared.done.Done.TheVariants as done
use Rattle.tx_meaning.specs.declared.outcome.Outcome.TheVariants as outcome
use Rattle.tx_meaning.specs.Hits.{hits, hits_after, tries_constrained}
use Rattle.tx_meaning.specs.Limits.{Setting}
use Rattle.tx_meaning.specs.Meaning.{IsSetting}
use Rattle.tx_meaning.specs.State.{State, Numbers, is_live, cpus_of, attempt_of, cpu_of}
use Rattle.tx_meaning.specs.Changes.{with_entry, delaying, starting, continuing, committing, aborting}
use Rattle.tx_meaning.specs.Changes.{without_attempt}
use Rattle.tx_meaning.specs.Turn.{Turned, turned, ends_by, ends_where, by_mark, step_inside, stepped}
use Rattle.tx_meaning.specs.Turn.{stepping}
use Rattle.tx_meaning.specs.Turn.{delaying_where, executing_where, executing, outcome_of_abort}
use Rattle.tx_keeping.specs.Kept.{Kept, kept_flat, kept_footprint, text_of, with_state, with_beside}
use Rattle.tx_keeping.specs.Kept.{beside}
use Rattle.tx_keeping.specs.Moves.{k_starting, k_continuing, k_committing, k_stepping}
use Rattle.tx_keeping.specs.Turn.{KTurned, k_turned, k_ends_by, k_inside, k_outside, k_done, k_executing}
use Rattle.tx_keeping.specs.Turn.{next_address}
use Rattle.tx_keeping.specs.Told.{turned_of}
use Rattle.tx_keeping.proofs.Stores.{ChangesIn}
use Rattle.tx_keeping.proofs.Needed.{Leaves, GoesOn, Commits, EndsBy, AttemptEnds, Inside, TouchesMore}
use Rattle.tx_keeping.proofs.Needed.{kind_is, executed_inside, executed_begins, executed_outside}
use Rattle.tx_keeping.proofs.Needed.{executed_touches}
use Rattle.tx_keeping.proofs.Truth.{Truth, Untouched, unentered, kept_is, live_is, flat_is, attempt_is}
use Rattle.tx_keeping.proofs.Truth.{cpu_is, nest_is, standing_is, hits_with}
use Rattle.tx_keeping.proofs.Holding.{Holds, touching_holds}
use Rattle.tx_keeping.proofs.Moves.{IsGood, Moved, true_at, restated, SameNumbers, one_number}
use Rattle.tx_keeping.proofs.Moves.{same_descended, commit_hits, ends_queued, ends_without}
use Rattle.tx_keeping.proofs.Endings.{Ended, moved_ended, ended_moved, ended_by, aborting_after}
use Rattle.tx_keeping.proofs.Asking.{Keeps, keeps_untouched, Grows, grows_not}
use Rattle.tx_keeping.proofs.Needing.{HasLines}

-- ---- the statement

-- what a CPU does leaves what the meaning says, and of other CPUs all that they have touched
pub record ActOk (m : Setting) (i : ℕ) (k : Kept) (t : Turned) (q : KTurned) : Type 0 where
  pub is : t ≡ turned_of q
  pub good : IsGood m q.kept
  pub grows : Grows k q.kept
  pub held : q.kept.state.held ≡ k.state.held
  pub others : (x : ℕ) → x ≢ i → Keeps k q.kept x
  pub own : is_live k.state i ≡ true → (q.kept.state.numbers i).completed ≡ (k.state.numbers i).completed
      → Keeps k q.kept i

-- an attempt that was live and has no instruction any more has changed
gone : {P : Type 0} (n after : ℕ) → nat_lt 0 n ≡ true → after ≡ 0 → after ≡ n → P
gone n after live none same =
    let e : nat_lt 0 n ≡ nat_lt 0 0 = ap (nat_lt 0) (sym same ∙ none) in
    absurd (let x : false ≡ true = sym e ∙ live in cc)

gone_on : {P : Type 0} (n after : ℕ) → after ≡ n + 1 → after ≡ n → P
gone_on n after more same = absurd (omega (arith, more, same))

module _ (m : Setting) (s : IsSetting m) where
  pub ended_act : (i : ℕ) (k : Kept) (t : Turned) (q : KTurned) → t ≡ turned_of q → Ended m s k q.kept i
      → ActOk m i k t q
  ended_act i k t q is e = record {
    is = is;
    good = e.good;
    grows = e.grows;
    held = e.held;
    others = λ x ne. keeps_untouched k q.kept x (e.others x ne);
    own = λ live same. gone (k.state.numbers i).completed
        (q.kept.state.numbers i).completed live e.completed same;
  }

  -- the state alone changes behind it
  pub ended_restated : (k after : Kept) (i : ℕ) (t : State) → t.history ≡ after.state.history
      → t.held ≡ after.state.held → ((x : ℕ) → SameNumbers (after.state.numbers x) (t.numbers x))
      → ((x : ℕ) → x ≢ i → t.numbers x ≡ after.state.numbers x) → Ended m s k after i
      → Ended m s k (with_state t after) i
  ended_restated k after i t history held numbers others e = record {
    good = record {
      truth = restated m after t e.good.truth history numbers;
      holds = subst (λ h. Holds (cpus_of m) h (kept_footprint after)) (sym held) e.good.holds;
    };
    others = λ x ne. let u = e.others x ne in record {
      numbers = others x ne ∙ u.numbers;
      local = u.local;
      standing = u.standing;
      bytes = u.bytes;
    };
    completed = (numbers i).completed ∙ e.completed;
    held = held ∙ e.held;
    grows = (e.grows.0, e.grows.1 ∙ sym history);
  }

-- ---- outside transactions

-- an entry that counts no conflict
pub step_moved : (m : Setting) (k : Kept) (i : ℕ) (e : Entry) (b : Beside) (lines : ℕ → Bool) → IsGood m k
    → is_live k.state i ≡ false → cpu_of_entry e ≡ i → Leaves (text_of m) k.storage k.locals i e b
    → ChangesIn lines k.storage b.storage
    → ((line : ℕ) → lines line ≡ true → k.state.held i line ≡ Some Exclusive)
    → ((n : ℕ) → hits_after i (kept_flat m k) e n ≡ n)
    → Moved m k (with_beside i b (with_state (with_entry e k.state) k)) i e b lines
step_moved m k i e b lines g off of leaves changes exclusive plain =
    let t = g.truth.each i in
    record {
      entry = of;
      history = refl;
      leaves = leaves;
      storage = refl;
      locals = refl;
      changes = changes;
      exclusive = exclusive;
      numbers = λ x ne. refl;
      standings = λ x ne. refl;
      held = refl;
      completed = not_live (k.state.numbers i).completed off;
      parms = t.parms;
      aborts = t.aborts ∙ sym (plain (hits m.image k.state.history i))
          ∙ sym (hits_with m.image i k.state.history e (kept_flat m k) g.truth.replayed);
      given = t.given;
      refused = t.refused;
    }

-- the CPU of an attempt that rests is its own
pub rests_cpu : (f : FlatState) (i : ℕ) (l : Local) → IsFollowed f i l → l.attempt.count ≡ 0
    → l.attempt.cpu ≡ l.cpu
unfolding run progress_of
rests_cpu f i l h rests =
    ap (λ (q : Progress). q.cpu) (sym h.attempt ∙ ap (λ n. progress_of (run f i n)) rests) ∙ h.cpu

module _ (m : Setting) (s : IsSetting m) where
  delayed : (i turns : ℕ) (b : Bool) (k : Kept) (after : Beside) → nat_lt 0 turns ≡ b
      → Ended m s k (k_stepping i after k) i
      → ActOk m i k (turned (delaying_where b i turns (k_stepping i after k).state) outcome.Executed)
      (k_outside i after k (if b then done.Paused turns else done.Stepped))
  delayed i turns true k after is e =
      let next = k_stepping i after k in
      let n = record (next.state.numbers i) { delay = turns } in
      ended_act m s i k _ _ refl
      (ended_restated m s k next i (delaying i turns next.state) refl refl
      (one_number next.state.numbers i n record { completed = refl; given = refl; refused = refl })
      (λ x ne. at_put_other next.state.numbers i n x ne) e)
  delayed i turns false k after is e = ended_act m s i k _ _ refl e

  told_is : (i turns : ℕ) (state : RunState) (k : Kept) (after : Beside)
      → Ended m s k (k_stepping i after k) i
      → ActOk m i k (stepped i turns state (k_stepping i after k).state)
      (k_outside i after k (told_of state turns))
  told_is i turns (Interrupted code) k after e = ended_act m s i k _ _ refl e
  told_is i turns Running k after e = delayed i turns (nat_lt 0 turns) k after refl e
  told_is i turns Halted k after e = delayed i turns (nat_lt 0 turns) k after refl e

  -- the CPU behind a step is the one that it left
  stepped_cpu : (i : ℕ) (k : Kept) (after : Beside) → Ended m s k (k_stepping i after k) i
      → cpu_of m (k_stepping i after k).state i ≡ after.local.cpu
  stepped_cpu i k after e =
      let next = k_stepping i after k in
      let t = e.good.truth.each i in
      let own : next.locals i ≡ after.local = at_put_same k.locals i after.local in
      cpu_is m next e.good.truth i
      ∙ rests_cpu (kept_flat m next) i (next.locals i) t.followed (sym t.count ∙ e.completed)
      ∙ ap (λ (l : Local). l.cpu) own

  pub stepping_act : (i turns : ℕ) (k : Kept) (after : Beside) → Ended m s k (k_stepping i after k) i
      → ActOk m i k (stepping m i turns k.state) (k_outside i after k (told_of after.local.cpu.state turns))
  stepping_act i turns k after e =
      subst (λ (c : Cpu). ActOk m i k (stepped i turns c.state (k_stepping i after k).state)
      (k_outside i after k (told_of after.local.cpu.state turns))) (sym (stepped_cpu i k after e))
      (told_is i turns after.local.cpu.state k after e)

-- ---- lines of an instruction

-- what its CPU stores, and what its attempt has stored, is held exclusively
pub all_exclusive : (m : Setting) (k : Kept) (i : ℕ) (ranges : List Range) → IsGood m k
    → HasLines (k.state.held i) ranges → (line : ℕ)
    → ((kept_footprint k i).stored line || stores ranges line) ≡ true → k.state.held i line ≡ Some Exclusive
all_exclusive m k i ranges g has line is =
    by_way (or_cases ((kept_footprint k i).stored line) (stores ranges line) is)
    (λ before. g.holds.stored i line before) (λ now. has.stored line now)

all_held : (m : Setting) (k : Kept) (i : ℕ) (ranges : List Range) → IsGood m k
    → HasLines (k.state.held i) ranges → (line : ℕ)
    → ((kept_footprint k i).fetched line || fetches ranges line) ≡ true → is_some (k.state.held i line) ≡ true
all_held m k i ranges g has line is =
    by_way (or_cases ((kept_footprint k i).fetched line) (fetches ranges line) is)
    (λ before. g.holds.fetched i line before) (λ now. has.fetched line now)

-- what the CPU left has touched is held
after_holds : (m : Setting) (k after : Kept) (i : ℕ) (ranges : List Range) (b : Beside) → IsGood m k
    → HasLines (k.state.held i) (absolute_ranges (k.locals i).attempt.cpu.prefix ranges)
    → TouchesMore (k.locals i).attempt k.storage ranges b → after.state.held ≡ k.state.held
    → after.locals ≡ at_put k.locals i b.local → Holds (cpus_of m) after.state.held (kept_footprint after)
after_holds m k after i ranges b g has more held locals =
    let absolute = absolute_ranges (k.locals i).attempt.cpu.prefix ranges in
    let own : after.locals i ≡ b.local =
    ap (λ (f : ℕ → Local). f i) locals ∙ at_put_same k.locals i b.local in
    subst (λ h. Holds (cpus_of m) h (kept_footprint after)) (sym held)
    (touching_holds (cpus_of m) k.state.held (kept_footprint k) (kept_footprint after) i g.holds
    (λ x ne. ap (λ (l : Local). l.attempt.footprint)
    (ap (λ (f : ℕ → Local). f x) locals ∙ at_put_other k.locals i b.local x ne))
    (λ line is. all_exclusive m k i absolute g has line
    (more.stored line (ap (λ (l : Local). l.attempt.footprint.stored line) (sym own) ∙ is)))
    (λ line is. all_held m k i absolute g has line
    (more.fetched line (ap (λ (l : Local). l.attempt.footprint.fetched line) (sym own) ∙ is))))

-- ---- an attempt goes on, or is begun

module _ (m : Setting) (s : IsSetting m) where
  goes_others : (k after : Kept) (i : ℕ) (b : Beside) (n : Numbers) → kept_flat m after ≡ kept_flat m k
      → after.locals ≡ at_put k.locals i b.local → after.state.numbers ≡ at_put k.state.numbers i n
      → ((x : ℕ) → x ≢ i → after.standings x ≡ k.standings x) → (x : ℕ) → x ≢ i → Untouched k after x
  goes_others k after i b n flat locals numbers standings x ne = record {
    numbers = ap (λ (f : ℕ → Numbers). f x) numbers ∙ at_put_other k.state.numbers i n x ne;
    local = ap (λ (f : ℕ → Local). f x) locals ∙ at_put_other k.locals i b.local x ne;
    standing = standings x ne;
    bytes = λ a is. ap (λ (f : FlatState). f.storage a) flat;
  }

  pub continuing_act : (k : Kept) (i : ℕ) (ranges : List Range) (after : Beside) (q : Run) → IsGood m k
      → is_live k.state i ≡ true
      → HasLines (k.state.held i) (absolute_ranges (k.locals i).attempt.cpu.prefix ranges)
      → TouchesMore (k.locals i).attempt k.storage ranges after
      → GoesOn (text_of m) k.storage k.locals i after q
      → ActOk m i k (turned (continuing i k.state) outcome.Executed)
      (k_turned (k_continuing i after k) outcome.Executed)
  continuing_act k i ranges after q g live has more goes =
      let next = k_continuing i after k in
      let n = record (k.state.numbers i) { completed = (k.state.numbers i).completed + 1 } in
      let t = g.truth.each i in
      let others = goes_others k next i after n goes.flat refl refl (λ x ne. refl) in
      let count : n.completed ≡ after.local.attempt.count = ap (λ c. c + 1) t.count ∙ sym goes.count in
      let same : (next.state.numbers i).completed ≡ (k.state.numbers i).completed + 1 =
      ap (λ (n : Numbers). n.completed) (at_put_same k.state.numbers i n) in
      record {
        is = refl;
        good = record {
          truth = unentered m s k next i g.truth refl goes.flat others
              (true_at m next i n after.local (k.standings i) (at_put_same k.state.numbers i n)
              (at_put_same k.locals i after.local) refl record {
                count = count;
                followed = goes.followed;
                parms = t.parms;
                aborts = t.aborts;
                kind = λ now. t.kind live
                    ∙ sym (kind_is (kept_flat m k) i (k.locals i) t.followed
                    (sym (live_is m k g.truth i) ∙ live))
                    ∙ ap (λ f. tries_constrained f i) (sym goes.flat)
                    ∙ kind_is (kept_flat m next) i after.local goes.followed (sym (ap (nat_lt 0) count)
                    ∙ now);
                given = t.given;
                refused = t.refused;
              });
          holds = after_holds m k next i ranges after g has more refl refl;
        };
        grows = grows_not k next refl;
        held = refl;
        others = λ x ne. keeps_untouched k next x (others x ne);
        own = λ live now. gone_on (k.state.numbers i).completed (next.state.numbers i).completed same now;
      }

  pub starting_act : (k : Kept) (i : ℕ) (ranges : List Range) (after : Beside) (q : Run) → IsGood m k
      → is_live k.state i ≡ false
      → HasLines (k.state.held i) (absolute_ranges (k.locals i).attempt.cpu.prefix ranges)
      → TouchesMore (k.locals i).attempt k.storage ranges after
      → GoesOn (text_of m) k.storage k.locals i after q
      → ActOk m i k (turned (starting i k.state) outcome.Executed)
      (k_turned (k_starting i after k) outcome.Executed)
  starting_act k i ranges after q g off has more goes =
      let next = k_starting i after k in
      let old = k.state.numbers i in
      let n = record old { completed = 1; attempts = old.attempts + 1; given = 0; refused = 0 } in
      let st = begun (is_constrained after.local.attempt.nest) (k.standings i) in
      let t = g.truth.each i in
      let none = not_live (k.state.numbers i).completed off in
      let others = goes_others k next i after n goes.flat refl refl
      (λ x ne. at_put_other k.standings i st x ne) in
      let count : 1 ≡ after.local.attempt.count =
      sym (goes.count ∙ ap (λ c. c + 1) (sym t.count ∙ none)) in
      record {
        is = refl;
        good = record {
          truth = unentered m s k next i g.truth refl goes.flat others
              (true_at m next i n after.local st (at_put_same k.state.numbers i n)
              (at_put_same k.locals i after.local) (at_put_same k.standings i st) record {
                count = count;
                followed = goes.followed;
                parms = t.parms;
                aborts = t.aborts;
                kind = λ now. refl;
                given = refl;
                refused = refl;
              });
          holds = after_holds m k next i ranges after g has more refl refl;
        };
        grows = grows_not k next refl;
        held = refl;
        others = λ x ne. keeps_untouched k next x (others x ne);
        own = λ live now. absurd (let e : false ≡ true = sym off ∙ live in cc);
      }

  -- ---- a commit

  commit_moved : (k : Kept) (i n : ℕ) (after : Beside) (lines : ℕ → Bool) → IsGood m k
      → is_live k.state i ≡ true
      → Leaves (text_of m) k.storage k.locals i (entry.Commit i n) after
      → ChangesIn lines k.storage after.storage
      → ((line : ℕ) → lines line ≡ true → k.state.held i line ≡ Some Exclusive)
      → Moved m k (k_committing i n after k) i (entry.Commit i n) after lines
  commit_moved k i n after lines g live leaves changes exclusive =
      let old = k.standings i in
      let st = if old.constrained then descended old else old in
      let ends = ends_queued i k.state (without_attempt i k.state)
      (committing i old.constrained n k.state).queue
      (ends_without i k.state) in
      let same = same_descended old.constrained old in
      let own = at_put_same k.standings i st in
      let t = g.truth.each i in
      record {
        entry = refl;
        history = refl;
        leaves = leaves;
        storage = refl;
        locals = refl;
        changes = changes;
        exclusive = exclusive;
        numbers = ends.others;
        standings = λ x ne. at_put_other k.standings i st x ne;
        held = refl;
        completed = ends.completed;
        parms = ap (λ (st : Standing). st.parms) own ∙ same.parms ∙ t.parms;
        aborts = ap (λ (st : Standing). st.aborts) own ∙ commit_hits m s k i n g.truth live;
        given = ap (λ (st : Standing). st.rejects_given) own ∙ same.given ∙ t.given ∙ sym ends.given;
        refused = ap (λ (st : Standing). st.requests_rejected) own ∙ same.refused ∙ t.refused
            ∙ sym ends.refused;
      }

-- ---- inside a transaction

-- what one instruction more is to the meaning, by the runs
abbrev marked : Setting → ℕ → Kept → Run → Turned
marked m i k q = by_mark m i k.state (attempt_of m k.state i) q q.mark

marked_is : (m : Setting) (i : ℕ) (k : Kept) → Truth m k
    → step_inside m i k.state ≡ marked m i k (run (kept_flat m k) i (suc (k.locals i).attempt.count))
marked_is m i k t =
    ap (λ f. marked m i k (run f i (suc (k.state.numbers i).completed))) (flat_is m k t)
    ∙ ap (λ n. marked m i k (run (kept_flat m k) i (suc n))) (t.each i).count

-- the end of an attempt by its instruction, as the meaning has it
ends_marked : (m : Setting) (i : ℕ) (k : Kept) (why : Why) (after : Beside) (q : Run) → Truth m k
    → AttemptEnds (text_of m) (run (kept_flat m k) i (k.locals i).attempt.count) q
    (k.locals i).attempt.count after why
    → marked m i k q ≡ ends_by m i after.local.attempt.count why k.state
ends_marked m i k why after q t (inl (mark, ends, count)) =
    ap (by_mark m i k.state (attempt_of m k.state i) q) mark
    ∙ ap (λ (f : FlatState). ends_where m i ((k.state.numbers i).completed + 1) (ending f.text q) k.state)
    (flat_is m k t)
    ∙ ap (λ o. ends_where m i ((k.state.numbers i).completed + 1) o k.state) ends
    ∙ ap (λ n. ends_by m i n why k.state) (ap (λ n. n + 1) (t.each i).count ∙ sym count)
ends_marked m i k why after q t (inr (mark, ends, count)) =
    ap (by_mark m i k.state (attempt_of m k.state i) q) mark
    ∙ ap (λ (f : FlatState). ends_where m i (k.state.numbers i).completed
    (ending f.text (attempt_of m k.state i)) k.state) (flat_is m k t)
    ∙ ap (λ p. ends_where m i (k.state.numbers i).completed (ending (text_of m) p) k.state)
    (attempt_is m k t i)
    ∙ ap (λ o. ends_where m i (k.state.numbers i).completed o k.state) ends
    ∙ ap (λ n. ends_by m i n why k.state) ((t.each i).count ∙ sym count)

module _ (m : Setting) (s : IsSetting m) where
  ending_act : (k : Kept) (i : ℕ) (ranges : List Range) (after : Beside) (why : Why) (q : Run) → IsGood m k
      → is_live k.state i ≡ true
      → HasLines (k.state.held i) (absolute_ranges (k.locals i).attempt.cpu.prefix ranges)
      → TouchesMore (k.locals i).attempt k.storage ranges after
      → EndsBy (text_of m) k.storage k.locals i why after (run (kept_flat m k) i (k.locals i).attempt.count) q
      → ActOk m i k (marked m i k q) (k_ends_by i why (next_address k i) (with_beside i after k))
  unfolding k_ends_by aborted
  ending_act k i ranges after why q g live has more ends =
      let at = next_address k i in
      let absolute = absolute_ranges (k.locals i).attempt.cpu.prefix ranges in
      let lines : ℕ → Bool = λ line. (kept_footprint k i).stored line || stores absolute line in
      let next = ended_by i why at after k in
      let e = moved_ended m s k next i (entry.Abort i after.local.attempt.count why)
      (aborted why at after) lines g
      (ended_moved m s k i why at after lines g live ends.leaves more.lasting
      (all_exclusive m k i absolute g has)) in
      let is : marked m i k q ≡ turned_of (k_turned next (outcome_of_abort why)) =
      ends_marked m i k why after q g.truth ends.ends
      ∙ ap (λ st. turned (aborting i st after.local.attempt.count why k.state) (outcome_of_abort why))
      (standing_is m k g.truth i live) in
      subst (λ next. ActOk m i k (marked m i k q) (k_turned next (outcome_of_abort why)))
      (sym (aborting_after i why at after k))
      (ended_act m s i k (marked m i k q) (k_turned next (outcome_of_abort why)) is e)

  committing_act : (k : Kept) (i n : ℕ) (ranges : List Range) (after : Beside) (q : Run) → IsGood m k
      → is_live k.state i ≡ true
      → HasLines (k.state.held i) (absolute_ranges (k.locals i).attempt.cpu.prefix ranges)
      → TouchesMore (k.locals i).attempt k.storage ranges after
      → Commits (text_of m) k.storage k.locals i n after q
      → ActOk m i k (marked m i k q) (k_turned (k_committing i n after k) outcome.Executed)
  committing_act k i n ranges after q g live has more commits =
      let absolute = absolute_ranges (k.locals i).attempt.cpu.prefix ranges in
      let lines : ℕ → Bool = λ line. (kept_footprint k i).stored line || stores absolute line in
      let next = k_committing i n after k in
      let t = g.truth.each i in
      ended_act m s i k (marked m i k q) (k_turned next outcome.Executed)
      (ap (by_mark m i k.state (attempt_of m k.state i) q) commits.mark
      ∙ ap (λ (nest : List Begin). turned (committing i (is_constrained nest)
      ((k.state.numbers i).completed + 1)
      k.state) outcome.Executed) (nest_is m k g.truth i)
      ∙ ap (λ b. turned (committing i b ((k.state.numbers i).completed + 1) k.state) outcome.Executed)
      (sym (t.kind live))
      ∙ ap (λ n. turned (committing i (k.standings i).constrained n k.state) outcome.Executed)
      (ap (λ n. n + 1) t.count ∙ sym commits.count))
      (moved_ended m s k next i (entry.Commit i n) after lines g
      (commit_moved m s k i n after lines g live commits.leaves more.bytes
      (all_exclusive m k i absolute g has)))

  inside_act : (k : Kept) (i : ℕ) (ranges : List Range) (after : Beside) (told : Done) → IsGood m k
      → is_live k.state i ≡ true
      → HasLines (k.state.held i) (absolute_ranges (k.locals i).attempt.cpu.prefix ranges)
      → TouchesMore (k.locals i).attempt k.storage ranges after
      → Inside (text_of m) k.storage k.locals i after told
      → ActOk m i k (marked m i k (run (kept_flat m k) i (suc (k.locals i).attempt.count)))
      (k_inside i (next_address k i) after k told)
  inside_act k i ranges after done.Stepped g live has more goes =
      let q = run (kept_flat m k) i (suc (k.locals i).attempt.count) in
      subst (λ mark. ActOk m i k (by_mark m i k.state (attempt_of m k.state i) q mark)
      (k_turned (k_continuing i after k) outcome.Executed)) (sym goes.mark)
      (continuing_act m s k i ranges after q g live has more goes)
  inside_act k i ranges after (done.Committed n) g live has more commits =
      committing_act k i n ranges after (run (kept_flat m k) i (suc
      (k.locals i).attempt.count)) g live has more
      commits
  inside_act k i ranges after (done.Ended why) g live has more ends =
      ending_act k i ranges after why (run (kept_flat m k) i (suc
      (k.locals i).attempt.count)) g live has more ends
  inside_act k i ranges after done.Began g live has more never = absurd never
  inside_act k i ranges after (done.Paused turns) g live has more never = absurd never
  inside_act k i ranges after (done.Interrupted code) g live has more never = absurd never

  -- ---- the instruction

  -- what it tells where it begins a transaction, and where it is done outside transactions
  told_began : (instr : Instr) (ranges : List Range) (b : Beside) → progress.is_live b.local.attempt ≡ false
      → begins (entry_at instr.op.number) ≡ true → (executed instr ranges b).told ≡ done.Began
  unfolding executed
  told_began instr ranges b off begin =
      ap (λ live. (executed_where live (begins (entry_at instr.op.number)) instr ranges b
      (outcome_by b.storage instr ranges b.local.attempt)).told) off
      ∙ ap (λ begin. (executed_where false begin instr ranges b
      (outcome_by b.storage instr ranges b.local.attempt)).told) begin

  told_outside : (instr : Instr) (ranges : List Range) (b : Beside) (live begin : Bool) → live ≡ false
      → begin ≡ false
      → (executed_where live begin instr ranges b (outcome_by b.storage instr ranges b.local.attempt)).told
      ≡ told_of (executed_where live begin instr ranges b
      (outcome_by b.storage instr ranges b.local.attempt)).after.local.cpu.state
      (delay_given instr b.local.cpu)
  told_outside instr ranges b true begin e f = absurd (cc)
  told_outside instr ranges b false true e f = absurd (cc)
  told_outside instr ranges b false false e f = refl

  told_done : (instr : Instr) (ranges : List Range) (b : Beside) → progress.is_live b.local.attempt ≡ false
      → begins (entry_at instr.op.number) ≡ false
      → (executed instr ranges b).told
      ≡ told_of (executed instr ranges b).after.local.cpu.state (delay_given instr b.local.cpu)
  unfolding executed
  told_done instr ranges b off plain =
      told_outside instr ranges b (progress.is_live b.local.attempt) (begins
      (entry_at instr.op.number)) off plain

  executing_by : (k : Kept) (i : ℕ) (instr : Instr) (ranges : List Range) (live begin : Bool) → IsGood m k
      → may_act (kept_flat m k) i ≡ true
      → fate_by_progress (text_of m) k.storage (k.locals i).attempt ≡ Goes instr ranges
      → HasLines (k.state.held i) (absolute_ranges (k.locals i).attempt.cpu.prefix ranges)
      → is_live k.state i ≡ live → begins (entry_at instr.op.number) ≡ begin
      → ActOk m i k (executing_where live begin m i instr k.state) (k_done live i (executed instr ranges
      (beside k i)) k)
  executing_by k i instr ranges true begin g acts goes has live is =
      let e = executed instr ranges (beside k i) in
      let h = (g.truth.each i).followed in
      subst (λ t. ActOk m i k t (k_inside i (next_address k i) e.after k e.told)) (sym
      (marked_is m i k g.truth))
      (inside_act k i ranges e.after e.told g live has
      (executed_touches (text_of m) k.storage k.locals i instr ranges (kept_is m s k g.truth) h goes)
      (executed_inside (text_of m) k.storage k.locals i instr ranges (kept_is m s k g.truth) h
      (sym (live_is m k g.truth i) ∙ live) goes))
  executing_by k i instr ranges false true g acts goes has off begin =
      let e = executed instr ranges (beside k i) in
      let h = (g.truth.each i).followed in
      let off' = sym (live_is m k g.truth i) ∙ off in
      subst (λ told. ActOk m i k (turned (starting i k.state) outcome.Executed) (k_outside i e.after k told))
      (sym (told_began instr ranges (beside k i) off' begin))
      (starting_act m s k i ranges e.after (run (kept_flat m k) i (suc (k.locals i).attempt.count)) g off has
      (executed_touches (text_of m) k.storage k.locals i instr ranges (kept_is m s k g.truth) h goes)
      (executed_begins (text_of m) k.storage k.locals i instr ranges
      (kept_is m s k g.truth) h off' acts goes begin))
  executing_by k i instr ranges false false g acts goes has off plain =
      let e = executed instr ranges (beside k i) in
      let h = (g.truth.each i).followed in
      let off' = sym (live_is m k g.truth i) ∙ off in
      let more = executed_touches (text_of m) k.storage k.locals i instr ranges
      (kept_is m s k g.truth) h goes in
      let absolute = absolute_ranges (k.locals i).attempt.cpu.prefix ranges in
      let lines : ℕ → Bool = λ line. (kept_footprint k i).stored line || stores absolute line in
      let turns = delay_given instr (k.locals i).cpu in
      let end = moved_ended m s k (k_stepping i e.after k) i (entry.Step i) e.after lines g
      (step_moved m k i (entry.Step i) e.after lines g off refl
      (executed_outside (text_of m) k.storage k.locals i instr ranges
      (kept_is m s k g.truth) h off' acts goes plain)
      more.bytes (all_exclusive m k i absolute g has) (λ n. refl)) in
      let cpu : cpu_of m k.state i ≡ (k.locals i).cpu =
      cpu_is m k g.truth i
      ∙ rests_cpu (kept_flat m k) i (k.locals i) h
      (sym (g.truth.each i).count ∙ not_live (k.state.numbers i).completed off) in
      subst (λ (c : Cpu). ActOk m i k (stepping m i (delay_given instr c) k.state)
      (k_outside i e.after k e.told))
      (sym cpu)
      (subst (λ told. ActOk m i k (stepping m i turns k.state) (k_outside i e.after k told))
      (sym (told_done instr ranges (beside k i) off' plain))
      (stepping_act m s i turns k e.after end))

  pub executing_act : (k : Kept) (i : ℕ) (instr : Instr) (ranges : List Range) → IsGood m k
      → may_act (kept_flat m k) i ≡ true
      → fate_by_progress (text_of m) k.storage (k.locals i).attempt ≡ Goes instr ranges
      → HasLines (k.state.held i) (absolute_ranges (k.locals i).attempt.cpu.prefix ranges)
      → ActOk m i k (executing m i instr k.state) (k_executing i instr ranges k)
  unfolding k_executing
  executing_act k i instr ranges g acts goes has =
      executing_by k i instr ranges (is_live k.state i) (begins
      (entry_at instr.op.number)) g acts goes has refl refl
