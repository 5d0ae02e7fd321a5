-- What an entry changes, what remains of attempts that are alike, and histories in two parts.
use Rattle.std.proofs.Common.{◌≡◌, ◌≢◌, ℕ, Bool, true, false, List, [], ◌∷◌, ◌++◌, Option, Some, None, refl}
use Rattle.std.proofs.Common.{sym, ap, subst, ◌∙◌, arith}
use Rattle.std.specs.Prelude.{◌==◌, if◌then◌else◌, ◌&&◌, not, nat_lt}
use Rattle.z_regs.specs.declared.ranges.Range.{Range}
use Rattle.z_regs.specs.declared.waiting.Waiting.{Waiting}
use Rattle.z_instr.specs.declared.instr.Instr.{Instr}
use Rattle.z_instr.specs.Table.{entry_at}
use Rattle.z_instr.specs.Roles.{begins}
use Rattle.z_effect.specs.Outcome.{Outcome, Did, Divides, Aborts}
use Rattle.z_effect.specs.Outcome as outcome
use Rattle.tx_control.specs.Nesting.{outermost_block}
use Rattle.tx_control.specs.declared.causes.Why.{Why}
use Rattle.tx_journal.specs.declared.entries.Entry.{Entry}
use Rattle.tx_journal.specs.declared.entries.Entry.TheVariants.{Step, Commit, Abort, Tdb, Interrupt}
use Rattle.tx_serial.specs.Flat.{FlatState, Pending, at_put, laid_over}
use Rattle.tx_serial.specs.Attempt.{Run, Mark, Open, Committed, Overflowed, Missing}
use Rattle.tx_serial.specs.Fate.{Fate, Goes, Ends, Stops, fate}
use Rattle.tx_serial.specs.Run.{run, outcome_of}
use Rattle.tx_serial.specs.Ending.{fits}
use Rattle.tx_serial.specs.Remains.{remains, cpu_after_abort, pending_after, waiting_after, block_after}
use Rattle.tx_serial.specs.Apply.{apply, only_where, may_act, with_outcome, after_step, after_commit}
use Rattle.tx_serial.specs.Apply.{after_block, after_interruption}
use Rattle.tx_serial.specs.History.{on_some, replay_from}
use Rattle.tx_serial.specs.Alike.{track_of}
use Rattle.tx_serial.specs.Changes.{cpu_of_entry, ChangesOnly, ChangeAlike}
use Rattle.tx_serial.proofs.Frame.{with_its_copy}

-- ---- tables

test_same : (i : ℕ) → (i == i) ≡ true
test_same i = grind (arith)

test_other : (i j : ℕ) → j ≢ i → (j == i) ≡ false
test_other i j h = grind (arith, h)

pub at_put_same : {A : Type 0} (table : ℕ → A) (i : ℕ) (v : A) → at_put table i v i ≡ v
at_put_same table i v = ap (λ b. if b then v else table i) (test_same i)

pub at_put_other : {A : Type 0} (table : ℕ → A) (i : ℕ) (v : A) (j : ℕ) → j ≢ i → at_put table i v j ≡ table j
at_put_other table i v j h = ap (λ b. if b then v else table j) (test_other i j h)

-- ---- what an entry changes

-- where there is a state, it changes only that of the CPU
abbrev Only : ℕ → FlatState → Option FlatState → Type 0
Only i f None = Unit {0}
Only i f (Some after) = ChangesOnly i f after

nothing_else : (i : ℕ) (f : FlatState) → ChangesOnly i f f
nothing_else i f = record { text = refl; cpus = λ j n. refl; pending = λ j n. refl; waiting = λ j n. refl }

only_if : (i : ℕ) (f : FlatState) (b : Bool) (o : Option FlatState) → Only i f o → Only i f (only_where b o)
only_if i f true o h = h
only_if i f false o h = tt

only_outcome : (f : FlatState) (i : ℕ) (instr : Instr) (ranges : List Range) (o : Outcome)
    → ChangesOnly i f (with_outcome f i instr ranges o)
only_outcome f i instr ranges (Did c bytes) = record {
  text = refl;
  cpus = λ j n. at_put_other f.cpus i _ j n;
  pending = λ j n. refl;
  waiting = λ j n. refl;
}
only_outcome f i instr ranges (outcome.Overflowed c bytes) = record {
  text = refl;
  cpus = λ j n. at_put_other f.cpus i _ j n;
  pending = λ j n. refl;
  waiting = λ j n. at_put_other f.waiting i _ j n;
}
only_outcome f i instr ranges Divides = record {
  text = refl;
  cpus = λ j n. at_put_other f.cpus i _ j n;
  pending = λ j n. refl;
  waiting = λ j n. at_put_other f.waiting i _ j n;
}
only_outcome f i instr ranges (Aborts code) = nothing_else i f

only_step : (f : FlatState) (i : ℕ) (o : Fate) → Only i f (after_step f i o)
only_step f i (Goes instr ranges) =
    only_if i f (not (begins (entry_at instr.op.number))) _
    (only_outcome f i instr ranges (outcome_of instr ranges (run f i 0)))
only_step f i (Ends why) = tt
only_step f i (Stops e) = record {
  text = refl;
  cpus = λ j n. at_put_other f.cpus i _ j n;
  pending = λ j n. refl;
  waiting = λ j n. at_put_other f.waiting i _ j n;
}

only_commit : (f : FlatState) (i : ℕ) (p : Run) (m : Mark) → Only i f (after_commit f i p m)
only_commit f i p Committed = record {
  text = refl;
  cpus = λ j n. at_put_other f.cpus i _ j n;
  pending = λ j n. refl;
  waiting = λ j n. refl;
}
only_commit f i p Open = tt
only_commit f i p Overflowed = tt
only_commit f i p Missing = tt

only_remains : (f : FlatState) (i : ℕ) (p : Run) (why : Why) → ChangesOnly i f (remains f i p why)
unfolding remains
only_remains f i p why = record {
  text = refl;
  cpus = λ j n. at_put_other f.cpus i _ j n;
  pending = λ j n. at_put_other f.pending i _ j n;
  waiting = λ j n. at_put_other f.waiting i _ j n;
}

only_block : (f : FlatState) (i : ℕ) (o : Option Pending) → Only i f (after_block f i o)
only_block f i None = tt
only_block f i (Some b) = record {
  text = refl;
  cpus = λ j n. refl;
  pending = λ j n. at_put_other f.pending i _ j n;
  waiting = λ j n. refl;
}

only_interruption : (f : FlatState) (i : ℕ) (o : Option Pending) (w : Option Waiting)
    → Only i f (after_interruption f i o w)
only_interruption f i (Some b) w = tt
only_interruption f i None None = tt
only_interruption f i None (Some w) = record {
  text = refl;
  cpus = λ j n. at_put_other f.cpus i _ j n;
  pending = λ j n. refl;
  waiting = λ j n. at_put_other f.waiting i _ j n;
}

only_entry : (f : FlatState) (e : Entry) → Only (cpu_of_entry e) f (apply f e)
unfolding apply
only_entry f (Step i) = only_if i f (may_act f i) _ (only_step f i (fate f.text (run f i 0)))
only_entry f (Commit i n) = only_if i f (may_act f i) _ (only_commit f i (run f i n) (run f i n).mark)
only_entry f (Abort i n why) =
    only_if i f (may_act f i && (nat_lt 0 n && fits f.text (run f i n) why)) _ (only_remains f i (run f i
    n) why)
only_entry f (Tdb i) = only_block f i (f.pending i)
only_entry f (Interrupt i) = only_interruption f i (f.pending i) (f.waiting i)

pub entry_changes : (f after : FlatState) (e : Entry) → apply f e ≡ Some after
    → ChangesOnly (cpu_of_entry e) f after
entry_changes f after e h = subst (Only (cpu_of_entry e) f) h (only_entry f e)

-- ---- what remains

pub remains_alike : (f g : FlatState) (i k : ℕ) (why : Why) → g.cpus i ≡ f.cpus i
    → track_of (run g i k) ≡ track_of (run f i k)
    → ChangeAlike i f g (remains f i (run f i k) why) (remains g i (run g i k) why)
unfolding remains
remains_alike f g i k why cpu same =
    let p = run f i k in
    let q = run g i k in
    record {
      stores = p.lasting;
      storage = refl;
      other_storage = ap (λ t. laid_over g.storage t.lasting) same;
      cpu =
          at_put_same g.cpus i (cpu_after_abort (g.cpus i) q why)
          ∙ ap (λ c. cpu_after_abort c q why) cpu
          ∙ ap (λ z. cpu_after_abort (f.cpus i) z why) (with_its_copy p q same)
          ∙ sym (at_put_same f.cpus i (cpu_after_abort (f.cpus i) p why));
      pending =
          at_put_same g.pending i (pending_after (outermost_block q.nest) (block_after q why))
          ∙ ap (λ z. pending_after (outermost_block z.nest) (block_after z why)) (with_its_copy p q same)
          ∙ sym (at_put_same f.pending i (pending_after (outermost_block p.nest) (block_after p why)));
      waiting =
          at_put_same g.waiting i (waiting_after q.cpu.prefix (block_after q why) why)
          ∙ ap (λ z. waiting_after z.cpu.prefix (block_after z why) why) (with_its_copy p q same)
          ∙ sym (at_put_same f.waiting i (waiting_after p.cpu.prefix (block_after p why) why));
    }

-- ---- histories

pub replay_twice : (xs ys : List Entry) (o : Option FlatState) → replay_from (xs ++ ys) o
    ≡ replay_from ys (replay_from xs o)
unfolding replay_from
replay_twice [] ys o = refl
replay_twice (x ∷ xs) ys o = replay_twice xs ys (on_some (λ f. apply f x) o)

pub replay_none : (xs : List Entry) → replay_from xs None ≡ None
unfolding replay_from
replay_none [] = refl
replay_none (x ∷ xs) = replay_none xs
