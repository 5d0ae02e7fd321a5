-- What a CPU does, as the machine that keeps says it.
use Rattle.std.proofs.Common.{◌≡◌, ℕ, ◌+◌, ◌<◌, Bool, true, false, None, sym, ap, subst, ◌∙◌, is_some}
use Rattle.std.proofs.Common.{arith}
use Rattle.std.specs.Prelude.{nat_lt, List}
use Rattle.z_regs.specs.declared.ranges.Range.{Range}
use Rattle.z_instr.specs.declared.instr.Instr.{Instr}
use Rattle.tx_control.specs.Nesting.{is_constrained}
use Rattle.tx_control.specs.declared.causes.Why.{Why}
use Rattle.tx_control.specs.declared.exceptions.Exception.{Exception}
use Rattle.tx_journal.specs.declared.entries.Entry.TheVariants as entry
use Rattle.tx_serial.proofs.Entries.{at_put_same}
use Rattle.tx_progress.specs.Progress.{resting}
use Rattle.tx_progress.specs.Local.{Local, Beside, block_stored, interruption_taken}
use Rattle.tx_progress.specs.Doing.{Executed, executed, stopped}
use Rattle.tx_progress.specs.declared.done.Done.{Done}
use Rattle.tx_progress.specs.declared.done.Done.TheVariants as done
use Rattle.tx_meaning.specs.State.{Numbers, is_live}
use Rattle.tx_meaning.specs.declared.outcome.Outcome.{Outcome}
use Rattle.tx_meaning.specs.declared.outcome.Outcome.TheVariants as outcome
use Rattle.tx_meaning.specs.Turn.{outcome_of_abort}
use Rattle.tx_keeping.specs.Kept.{Kept, beside}
use Rattle.tx_keeping.specs.Moves.{k_aborting, k_starting, k_continuing, k_committing, k_stepping, k_storing}
use Rattle.tx_keeping.specs.Moves.{k_taking}
use Rattle.tx_keeping.specs.Turn.{KTurned, k_turned, k_ends_by, k_inside, k_outside, k_stopping}
use Rattle.tx_works.specs.declared.acting.Turned.{Turned}
use Rattle.tx_works.specs.Turned.{turned_as}
use Rattle.tx_works.specs.Ready.{MayEndBy}
use Rattle.tx_works.specs.Steps.{k_left, k_written, k_descended, k_begun, k_delayed}
use Rattle.tx_works.proofs.Made.{aborting-left, starting-made, continuing-made, committing-made}
use Rattle.tx_works.proofs.Made.{stepping-made, storing-made, taking-made}
use Rattle.tx_works.proofs.Told.{IsCountedInside, IsCountedOutside, told-inside, told-outside, kind-begun}
use Rattle.tx_works.proofs.Told.{block-counted, taken-counted, stopped-counted}
use Rattle.tx_works.proofs.Own.{told-own}
use Rattle.tx_works.proofs.Climbing.{may-end-own}

-- ---- what is told

abbrev pub plainly : Outcome → Turned
plainly o = record { outcome = o; reject = None }

pub turned-is : (k next : Kept) (t : Turned) (o : Outcome) → t ≡ plainly o → k ≡ next
    → turned_as k t ≡ k_turned next o
turned-is k next t o told same x = turned_as (same x) (told x)

pub ended-is : (i : ℕ) (why : Why) (at : ℕ) (k next : Kept) (t : Turned) (o : Outcome)
    → o ≡ outcome_of_abort why → t ≡ plainly o → next ≡ k_aborting i why at k
    → turned_as next t ≡ k_ends_by i why at k
unfolding k_ends_by
ended-is i why at k next t o named told same =
    turned-is next (k_aborting i why at k) t (outcome_of_abort why) (told ∙ ap plainly named) same

-- ---- an instruction

-- what is kept of a CPU before an instruction
pub record IsBefore (i : ℕ) (k : Kept) (live : Bool) : Type 0 where
  pub counted : (k.state.numbers i).completed ≡ (k.locals i).attempt.count
  pub live_is : is_live k.state i ≡ live

rests_or_not : (i : ℕ) (k : Kept) (live : Bool) → IsBefore i k live
    → nat_lt 0 (k.locals i).attempt.count ≡ live
rests_or_not i k live b = sym (ap (nat_lt 0) b.counted) ∙ b.live_is

-- the number of a CPU that was left so
pub left-number : (i : ℕ) (after : Beside) (k : Kept)
    → ((k_left i after k).state.numbers i)
    ≡ record (k.state.numbers i) { completed = after.local.attempt.count }
left-number i after k =
    at_put_same k.state.numbers i (record (k.state.numbers i) { completed = after.local.attempt.count })

none_is : (n : ℕ) → nat_lt 0 n ≡ false → 0 ≡ n
none_is n none = grind (arith, none)

abbrev what : ℕ → Kept → Instr → List Range → Executed
what i k instr need = executed instr need (beside k i)

-- ---- inside a transaction

pub inside_so : (i : ℕ) (k : Kept) (instr : Instr) (need : List Range) (d : Done) → IsBefore i k true
    → d ≡ (what i k instr need).told
    → IsCountedInside (k.locals i).attempt.count (what i k instr need).after.local.attempt.count d
inside_so i k instr need d b told =
    let e = what i k instr need in
    subst (IsCountedInside (k.locals i).attempt.count e.after.local.attempt.count) (sym told)
    (told-inside instr need (beside k i) (rests_or_not i k true b))

pub stepped-inside : (i at : ℕ) (k next : Kept) (instr : Instr) (need : List Range) (t : Turned)
    → IsBefore i k true → done.Stepped ≡ (what i k instr need).told
    → next ≡ k_left i (what i k instr need).after k → t ≡ plainly outcome.Executed
    → turned_as next t ≡ k_inside i at (what i k instr need).after k (what i k instr need).told
stepped-inside i at k next instr need t b told left plain =
    let e = what i k instr need in
    let more : e.after.local.attempt.count ≡ (k.state.numbers i).completed + 1 =
    inside_so i k instr need done.Stepped b told ∙ ap (λ n. n + 1) (sym b.counted) in
    turned-is next (k_continuing i e.after k) t outcome.Executed plain
    (left ∙ sym (continuing-made i e.after k more))
    ∙ ap (k_inside i at e.after k) told

pub committed-inside : (i at n : ℕ) (k left next : Kept) (instr : Instr) (need : List Range) (t : Turned)
    → IsBefore i k true → done.Committed n ≡ (what i k instr need).told
    → left ≡ k_left i (what i k instr need).after k → next ≡ k_written (entry.Commit i n) (k_descended i left)
    → t ≡ plainly outcome.Executed
    → turned_as next t ≡ k_inside i at (what i k instr need).after k (what i k instr need).told
committed-inside i at n k left next instr need t b told is_left written plain =
    let e = what i k instr need in
    let none : e.after.local.attempt.count ≡ 0 = inside_so i k instr need (done.Committed n) b told in
    turned-is next (k_committing i n e.after k) t outcome.Executed plain
    (written ∙ ap (λ q. k_written (entry.Commit i n) (k_descended i q)) is_left
    ∙ sym (committing-made i n e.after k none))
    ∙ ap (k_inside i at e.after k) told

pub ended-inside : (i at : ℕ) (why : Why) (k left : Kept) (instr : Instr) (need : List Range) (q : KTurned)
    → done.Ended why ≡ (what i k instr need).told → left ≡ k_left i (what i k instr need).after k
    → q ≡ k_ends_by i why at left
    → q ≡ k_inside i at (what i k instr need).after k (what i k instr need).told
unfolding k_ends_by
ended-inside i at why k left instr need q told is_left ended =
    let e = what i k instr need in
    ended ∙ ap (k_ends_by i why at) is_left
    ∙ ap (λ r. k_turned r (outcome_of_abort why)) (aborting-left i why at e.after k)
    ∙ ap (k_inside i at e.after k) told

pub ended-live : (i : ℕ) (why : Why) (k left : Kept) (instr : Instr) (need : List Range) → IsBefore i k true
    → done.Ended why ≡ (what i k instr need).told → left ≡ k_left i (what i k instr need).after k
    → is_live left.state i ≡ true
ended-live i why k left instr need b told is_left =
    let e = what i k instr need in
    ap (λ (q : Kept). is_live q.state i) is_left
    ∙ ap (λ (n : Numbers). nat_lt 0 n.completed) (left-number i e.after k)
    ∙ inside_so i k instr need (done.Ended why) b told

-- so the attempt may end by it
pub ended-may : (i : ℕ) (why : Why) (k left : Kept) (instr : Instr) (need : List Range)
    → done.Ended why ≡ (what i k instr need).told → MayEndBy why left i
ended-may i why k left instr need told =
    may-end-own why left i (told-own instr need (beside k i) why (sym told))

-- ---- outside transactions

pub outside_so : (i : ℕ) (k : Kept) (instr : Instr) (need : List Range) (d : Done) → IsBefore i k false
    → d ≡ (what i k instr need).told
    → IsCountedOutside (what i k instr need).after.local.attempt.count d
outside_so i k instr need d b told =
    let e = what i k instr need in
    subst (IsCountedOutside e.after.local.attempt.count) (sym told)
    (told-outside instr need (beside k i) (rests_or_not i k false b))

step_so : (i : ℕ) (k left next : Kept) (after : Beside) → IsBefore i k false → after.local.attempt.count ≡ 0
    → left ≡ k_left i after k → next ≡ k_written (entry.Step i) left → next ≡ k_stepping i after k
step_so i k left next after b none is_left written =
    written ∙ ap (k_written (entry.Step i)) is_left
    ∙ sym (stepping-made i after k (none ∙ none_is (k.state.numbers i).completed b.live_is))

pub stepped-outside : (i : ℕ) (k left next : Kept) (instr : Instr) (need : List Range) (t : Turned)
    → IsBefore i k false → done.Stepped ≡ (what i k instr need).told
    → left ≡ k_left i (what i k instr need).after k → next ≡ k_written (entry.Step i) left
    → t ≡ plainly outcome.Executed
    → turned_as next t ≡ k_outside i (what i k instr need).after k (what i k instr need).told
stepped-outside i k left next instr need t b told is_left written plain =
    let e = what i k instr need in
    turned-is next (k_stepping i e.after k) t outcome.Executed plain
    (step_so i k left next e.after b (outside_so i k instr need done.Stepped b told) is_left written)
    ∙ ap (k_outside i e.after k) told

pub interrupted-outside : (i code : ℕ) (k left next : Kept) (instr : Instr) (need : List Range) (t : Turned)
    → IsBefore i k false → done.Interrupted code ≡ (what i k instr need).told
    → left ≡ k_left i (what i k instr need).after k → next ≡ k_written (entry.Step i) left
    → t ≡ plainly (outcome.Interrupted code)
    → turned_as next t ≡ k_outside i (what i k instr need).after k (what i k instr need).told
interrupted-outside i code k left next instr need t b told is_left written plain =
    let e = what i k instr need in
    turned-is next (k_stepping i e.after k) t (outcome.Interrupted code) plain
    (step_so i k left next e.after b (outside_so i k instr need (done.Interrupted code) b told) is_left
    written)
    ∙ ap (k_outside i e.after k) told

pub paused-outside : (i turns : ℕ) (k left step next : Kept) (instr : Instr) (need : List Range) (t : Turned)
    → IsBefore i k false → done.Paused turns ≡ (what i k instr need).told
    → left ≡ k_left i (what i k instr need).after k → step ≡ k_written (entry.Step i) left
    → next ≡ k_delayed i turns step → t ≡ plainly outcome.Executed
    → turned_as next t ≡ k_outside i (what i k instr need).after k (what i k instr need).told
paused-outside i turns k left step next instr need t b told is_left written delayed plain =
    let e = what i k instr need in
    let stepped =
    step_so i k left step e.after b (outside_so i k instr need (done.Paused turns) b told) is_left written in
    turned-is next (k_delayed i turns (k_stepping i e.after k)) t outcome.Executed plain
    (delayed ∙ ap (k_delayed i turns) stepped)
    ∙ ap (k_outside i e.after k) told

pub began-outside : (i : ℕ) (constrained : Bool) (k left next : Kept) (instr : Instr) (need : List Range)
    (t : Turned) → IsBefore i k false → (k.locals i).attempt ≡ resting (k.locals i).cpu
    → done.Began ≡ (what i k instr need).told
    → left ≡ k_left i (what i k instr need).after k
    → constrained ≡ is_some (left.locals i).attempt.constraint → next ≡ k_begun i constrained left
    → t ≡ plainly outcome.Executed
    → turned_as next t ≡ k_outside i (what i k instr need).after k (what i k instr need).told
began-outside i constrained k left next instr need t b rests told is_left kind begun plain =
    let e = what i k instr need in
    let one : e.after.local.attempt.count ≡ 1 = outside_so i k instr need done.Began b told in
    let same : constrained ≡ is_constrained e.after.local.attempt.nest =
    kind ∙ ap (λ (q : Kept). is_some (q.locals i).attempt.constraint) is_left
    ∙ ap (λ (l : Local). is_some l.attempt.constraint) (at_put_same k.locals i e.after.local)
    ∙ kind-begun instr need (beside k i) (k.locals i).cpu rests (sym told) in
    turned-is next (k_starting i e.after k) t outcome.Executed plain
    (begun ∙ ap (k_begun i constrained) is_left ∙ sym (starting-made i e.after constrained k one same))
    ∙ ap (k_outside i e.after k) told

-- the CPU has as many attempts and turns as before
pub left-attempts : (i : ℕ) (after : Beside) (k left : Kept) → left ≡ k_left i after k
    → (k.state.numbers i).attempts < (k.state.numbers i).turns
    → (left.state.numbers i).attempts < (left.state.numbers i).turns
left-attempts i after k left is_left few =
    subst (λ (n : Numbers). n.attempts < n.turns)
    (sym (ap (λ (q : Kept). q.state.numbers i) is_left ∙ left-number i after k)) few

-- ---- blocks, interruptions, and exceptions

pub stored-is : (i : ℕ) (k left next : Kept) (t : Turned) → (k.state.numbers i).completed ≡
    (k.locals i).attempt.count
    → left ≡ k_left i (block_stored (beside k i)) k → next ≡ k_written (entry.Tdb i) left
    → t ≡ plainly outcome.Executed → turned_as next t ≡ k_turned (k_storing i k) outcome.Executed
stored-is i k left next t counted is_left written plain =
    turned-is next (k_storing i k) t outcome.Executed plain
    (written ∙ ap (k_written (entry.Tdb i)) is_left
    ∙ sym (storing-made i k (block-counted (beside k i) ∙ sym counted)))

pub taken-is : (i : ℕ) (k left next : Kept) (t : Turned) → IsBefore i k false
    → left ≡ k_left i (interruption_taken (beside k i)) k → next ≡ k_written (entry.Interrupt i) left
    → t ≡ plainly outcome.Executed → turned_as next t ≡ k_turned (k_taking i k) outcome.Executed
taken-is i k left next t b is_left written plain =
    turned-is next (k_taking i k) t outcome.Executed plain
    (written ∙ ap (k_written (entry.Interrupt i)) is_left
    ∙ sym (taking-made i k (taken-counted (beside k i) (rests_or_not i k false b) ∙ sym b.counted)))

pub stopping-is : (i : ℕ) (e : Exception) (k left next : Kept) (t : Turned) → IsBefore i k false
    → left ≡ k_left i (record { local = stopped e (k.locals i); storage = k.storage }) k
    → next ≡ k_written (entry.Step i) left → t ≡ plainly (outcome.Interrupted e.code)
    → turned_as next t ≡ k_stopping i (record { local = stopped e (k.locals i); storage = k.storage }) k
    e.code
stopping-is i e k left next t b is_left written plain =
    let after : Beside = record { local = stopped e (k.locals i); storage = k.storage } in
    turned-is next (k_stepping i after k) t (outcome.Interrupted e.code) plain
    (written ∙ ap (k_written (entry.Step i)) is_left
    ∙ sym (stepping-made i after k (stopped-counted e (k.locals i) (rests_or_not i k false b) ∙ sym
    b.counted)))
