-- What an instruction tells says how many instructions of an attempt are completed behind it.
use Rattle.std.proofs.Common.{◌≡◌, ℕ, ◌+◌, Bool, true, false, List, [], ◌∷◌, Option, Some, None, is_some}
use Rattle.std.proofs.Common.{refl, sym, ap, subst, ◌∙◌, arith, take}
use Rattle.std.specs.Prelude.{if◌then◌else◌, nat_lt, ◌++◌, ◌-◌}
use Rattle.std.proofs.lemmas.Bool.{or_left, lt-ltb}
use Rattle.z_regs.specs.Cpu.{Cpu}
use Rattle.z_regs.specs.declared.image.RunState.{RunState}
use Rattle.z_regs.specs.declared.image.RunState.TheVariants.{Running, Halted, Interrupted}
use Rattle.z_regs.specs.declared.ranges.Range.{Range}
use Rattle.z_regs.specs.declared.waiting.Waiting.{Waiting}
use Rattle.z_instr.specs.declared.instr.Instr.{Instr}
use Rattle.z_instr.specs.Table.{entry_at}
use Rattle.z_instr.specs.Roles.{begins, is_end}
use Rattle.z_effect.specs.Beginning.{begin_of}
use Rattle.z_effect.specs.Outcome.{Outcome, Did, Divides, Aborts}
use Rattle.z_effect.specs.Outcome as outcome
use Rattle.tx_control.specs.Nesting.{is_constrained}
use Rattle.tx_control.specs.declared.begins.Begin.{Begin}
use Rattle.tx_control.specs.declared.exceptions.Exception.{Exception}
use Rattle.tx_progress.specs.Progress.{Progress, resting, is_live, advanced, begins_constrained}
use Rattle.tx_progress.specs.Local.{Local, Beside, taken_by, block_stored, interruption_taken}
use Rattle.tx_progress.specs.Doing.{executed, executed_where, inside, outside, opened, closed_by}
use Rattle.tx_progress.specs.Doing.{told_of, stopped, stores_of}
use Rattle.z_effect.specs.TransactionEffect.{delay_given}
use Rattle.tx_progress.specs.Trial.{outcome_by}
use Rattle.tx_progress.specs.declared.done.Done.{Done}
use Rattle.tx_progress.specs.declared.done.Done.TheVariants as done
use Rattle.tx_progress.proofs.Rows.{IsDone, role_done}
use Rattle.tx_progress.proofs.Parts.{not_live}

-- ---- inside a transaction

abbrev pub IsCountedInside : ℕ → ℕ → Done → Type 0
IsCountedInside before after done.Stepped = after ≡ before + 1
IsCountedInside before after (done.Committed n) = after ≡ 0
IsCountedInside before after (done.Ended why) = nat_lt 0 after ≡ true
IsCountedInside before after done.Began = ⊥
IsCountedInside before after (done.Paused turns) = ⊥
IsCountedInside before after (done.Interrupted code) = ⊥

closed_counted : (n : ℕ) (q : Progress) (nest : List Begin) (b : Beside) → q.count ≡ n + 1
    → IsCountedInside n (closed_by q nest b).after.local.attempt.count (closed_by q nest b).told
closed_counted n q [] b more = refl
closed_counted n q (outermost ∷ inner) b more = more

inside_counted : (i : Instr) (ranges : List Range) (b : Beside) (o : Outcome) → is_live b.local.attempt ≡ true
    → IsCountedInside b.local.attempt.count (inside i ranges b o).after.local.attempt.count
    (inside i ranges b o).told
inside_counted i ranges b (Did c bytes) live =
    let q = b.local.attempt in
    let next = advanced i ranges c (stores_of ranges bytes q) q in
    closed_counted q.count next next.nest b refl
inside_counted i ranges b (outcome.Overflowed c bytes) live = lt-ltb 0 (b.local.attempt.count + 1) (omega arith)
inside_counted i ranges b Divides live = live
inside_counted i ranges b (Aborts code) live = live

pub told-inside : (i : Instr) (ranges : List Range) (b : Beside) → is_live b.local.attempt ≡ true
    → IsCountedInside b.local.attempt.count (executed i ranges b).after.local.attempt.count
    (executed i ranges b).told
unfolding executed
told-inside i ranges b live =
    let o = outcome_by b.storage i ranges b.local.attempt in
    subst (λ (way : Bool). IsCountedInside b.local.attempt.count
    (executed_where way (begins (entry_at i.op.number)) i ranges b o).after.local.attempt.count
    (executed_where way (begins (entry_at i.op.number)) i ranges b o).told) (sym live)
    (inside_counted i ranges b o live)

-- ---- outside transactions

abbrev pub IsCountedOutside : ℕ → Done → Type 0
IsCountedOutside after done.Began = after ≡ 1
IsCountedOutside after done.Stepped = after ≡ 0
IsCountedOutside after (done.Paused turns) = after ≡ 0
IsCountedOutside after (done.Interrupted code) = after ≡ 0
IsCountedOutside after (done.Committed n) = ⊥
IsCountedOutside after (done.Ended why) = ⊥

paused_counted : (n turns : ℕ) (b : Bool) → n ≡ 0
    → IsCountedOutside n (if b then done.Paused turns else done.Stepped)
paused_counted n turns true none = none
paused_counted n turns false none = none

told_counted : (n delay : ℕ) (s : RunState) → n ≡ 0 → IsCountedOutside n (told_of s delay)
told_counted n delay (Interrupted code) none = none
told_counted n delay Running none = paused_counted n delay (nat_lt 0 delay) none
told_counted n delay Halted none = paused_counted n delay (nat_lt 0 delay) none

outside_none : (i : Instr) (ranges : List Range) (b : Beside) (o : Outcome) → b.local.attempt.count ≡ 0
    → (outside i ranges b o).local.attempt.count ≡ 0
outside_none i ranges b (Did c bytes) none = refl
outside_none i ranges b (outcome.Overflowed c bytes) none = refl
outside_none i ranges b Divides none = refl
outside_none i ranges b (Aborts code) none = none

opened_one : (i : Instr) (ranges : List Range) (b : Beside) (o : Outcome) → IsDone o
    → b.local.attempt.count ≡ 0 → (opened i ranges b o).local.attempt.count ≡ 1
opened_one i ranges b o d none =
    ap (λ (o : Outcome). (opened i ranges b o).local.attempt.count) d.is ∙ ap (λ n. n + 1) none

begun_done : (storage : ℕ → ℕ) (i : Instr) (ranges : List Range) (q : Progress)
    → begins (entry_at i.op.number) ≡ true → IsDone (outcome_by storage i ranges q)
begun_done storage i ranges q is =
    role_done i _ _ _ (or_left (begins (entry_at i.op.number)) (is_end (entry_at i.op.number)) is)

outside_counted : (i : Instr) (ranges : List Range) (b : Beside) (begin : Bool)
    → begins (entry_at i.op.number) ≡ begin → is_live b.local.attempt ≡ false
    → let e = executed_where false begin i ranges b (outcome_by b.storage i ranges b.local.attempt) in
    IsCountedOutside e.after.local.attempt.count e.told
outside_counted i ranges b true is rests =
    opened_one i ranges b (outcome_by b.storage i ranges b.local.attempt)
    (begun_done b.storage i ranges b.local.attempt is) (not_live b.local.attempt.count rests)
outside_counted i ranges b false is rests =
    let o = outcome_by b.storage i ranges b.local.attempt in
    let after = outside i ranges b o in
    told_counted after.local.attempt.count _ after.local.cpu.state
    (outside_none i ranges b o (not_live b.local.attempt.count rests))

pub told-outside : (i : Instr) (ranges : List Range) (b : Beside) → is_live b.local.attempt ≡ false
    → IsCountedOutside (executed i ranges b).after.local.attempt.count (executed i ranges b).told
unfolding executed
told-outside i ranges b rests =
    let o = outcome_by b.storage i ranges b.local.attempt in
    subst (λ (way : Bool).
    IsCountedOutside
    (executed_where way (begins (entry_at i.op.number)) i ranges b o).after.local.attempt.count
    (executed_where way (begins (entry_at i.op.number)) i ranges b o).told) (sym rests)
    (outside_counted i ranges b (begins (entry_at i.op.number)) refl rests)

-- ---- the kind of an attempt that is begun

some_where : {A : Type 0} (b : Bool) (v : A) → is_some (if b then Some v else None) ≡ b
some_where true v = refl
some_where false v = refl

advanced_kind : (i : Instr) (ranges : List Range) (c now : Cpu) (bytes : List ℕ)
    → begins (entry_at i.op.number) ≡ true
    → let q = advanced i ranges now (stores_of ranges bytes (resting c)) (resting c) in
    is_some q.constraint ≡ is_constrained q.nest
advanced_kind i ranges c now bytes is =
    some_where (begins_constrained i) _
    ∙ sym (ap (λ (b : Bool). is_constrained
    (if b then [] ++ begin_of i c.general ∷ [] else if is_end (entry_at i.op.number) then take (0 - 1) [] else []))
    is)

opened_kind : (i : Instr) (ranges : List Range) (b : Beside) (c : Cpu) (o : Outcome) → IsDone o
    → b.local.attempt ≡ resting c → begins (entry_at i.op.number) ≡ true
    → let q = (opened i ranges b o).local.attempt in is_some q.constraint ≡ is_constrained q.nest
opened_kind i ranges b c o d rests is =
    subst (λ (o : Outcome). is_some (opened i ranges b o).local.attempt.constraint
    ≡ is_constrained (opened i ranges b o).local.attempt.nest) (sym d.is)
    (subst (λ (q : Progress). is_some (advanced i ranges d.cpu (stores_of ranges d.bytes q) q).constraint
    ≡ is_constrained (advanced i ranges d.cpu (stores_of ranges d.bytes q) q).nest) (sym rests)
    (advanced_kind i ranges c d.cpu d.bytes is))

paused_not : (b : Bool) (turns : ℕ) → (if b then done.Paused turns else done.Stepped) ≡ done.Began → ⊥
paused_not true turns e = cc
paused_not false turns e = cc

not_begun : (s : RunState) (delay : ℕ) → told_of s delay ≡ done.Began → ⊥
not_begun (Interrupted code) delay e = cc
not_begun Running delay e = paused_not (nat_lt 0 delay) delay e
not_begun Halted delay e = paused_not (nat_lt 0 delay) delay e

begun_kind : (i : Instr) (ranges : List Range) (b : Beside) (c : Cpu) (begin : Bool)
    → begins (entry_at i.op.number) ≡ begin → b.local.attempt ≡ resting c
    → let e = executed_where false begin i ranges b (outcome_by b.storage i ranges b.local.attempt) in
    e.told ≡ done.Began
    → is_some e.after.local.attempt.constraint ≡ is_constrained e.after.local.attempt.nest
begun_kind i ranges b c true is rests told =
    opened_kind i ranges b c (outcome_by b.storage i ranges b.local.attempt)
    (begun_done b.storage i ranges b.local.attempt is) rests is
begun_kind i ranges b c false is rests told =
    let o = outcome_by b.storage i ranges b.local.attempt in
    absurd (not_begun (outside i ranges b o).local.cpu.state (delay_given i b.local.cpu) told)

pub kind-begun : (i : Instr) (ranges : List Range) (b : Beside) (c : Cpu) → b.local.attempt ≡ resting c
    → (executed i ranges b).told ≡ done.Began
    → is_some (executed i ranges b).after.local.attempt.constraint
    ≡ is_constrained (executed i ranges b).after.local.attempt.nest
unfolding executed
kind-begun i ranges b c rests =
    let o = outcome_by b.storage i ranges b.local.attempt in
    let begin = begins (entry_at i.op.number) in
    let live : is_live b.local.attempt ≡ false = ap is_live rests in
    subst (λ (way : Bool). (executed_where way begin i ranges b o).told ≡ done.Began
    → is_some (executed_where way begin i ranges b o).after.local.attempt.constraint
    ≡ is_constrained (executed_where way begin i ranges b o).after.local.attempt.nest) (sym live)
    (begun_kind i ranges b c begin refl rests)

-- ---- what leaves the number of completed instructions

pub block-counted : (b : Beside) → (block_stored b).local.attempt.count ≡ b.local.attempt.count
unfolding block_stored
block-counted b = refl

taken_counted : (waiting : Option Waiting) (b : Beside) → is_live b.local.attempt ≡ false
    → (taken_by waiting b).local.attempt.count ≡ b.local.attempt.count
taken_counted None b rests = refl
taken_counted (Some w) b rests = sym (not_live b.local.attempt.count rests)

pub taken-counted : (b : Beside) → is_live b.local.attempt ≡ false
    → (interruption_taken b).local.attempt.count ≡ b.local.attempt.count
unfolding interruption_taken
taken-counted b rests = taken_counted b.local.waiting b rests

pub stopped-counted : (e : Exception) (local : Local) → is_live local.attempt ≡ false
    → (stopped e local).attempt.count ≡ local.attempt.count
unfolding stopped
stopped-counted e local rests = sym (not_live local.attempt.count rests)
