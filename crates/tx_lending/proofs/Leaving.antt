-- What an instruction that is made away leaves of its CPU: it runs, with nothing to be done before the next.
use Rattle.std.proofs.Common.{◌≡◌, ℕ, ◌+◌, Bool, true, false, List, [], ◌∷◌, refl, sym, ap, subst, ◌∙◌}
use Rattle.std.specs.Prelude.{if◌then◌else◌, nat_lt}
use Rattle.z_regs.specs.Cpu.{Cpu}
use Rattle.z_regs.specs.declared.ranges.Range.{Range}
use Rattle.z_instr.specs.declared.instr.Instr.{Instr}
use Rattle.z_instr.specs.Roles.{begins, is_end, stores_lastingly, asks_for_time}
use Rattle.z_instr.specs.Table.{entry_at, kind_at}
use Rattle.z_effect.specs.Outcome.{Outcome, Did, Divides, Aborts}
use Rattle.z_effect.specs.Outcome as outcome
use Rattle.tx_control.specs.declared.begins.Begin.{Begin}
use Rattle.tx_serial.specs.Apply.{is_running}
use Rattle.tx_serial.specs.Flat.{Storage, operand_bytes}
use Rattle.tx_progress.specs.Doing.{executed, executed_where, closed_by, stores_of}
use Rattle.tx_progress.specs.Local.{Local}
use Rattle.tx_progress.specs.Progress.{is_live, advanced, seen_through}
use Rattle.tx_progress.specs.Trial.{outcome_by}
use Rattle.tx_progress.specs.declared.done.Done.TheVariants.{Stepped}
use Rattle.tx_progress.proofs.Parts.{not_live}
use Rattle.tx_keeping.proofs.Running.{Keeps, keeps_running}
use Rattle.tx_lending.specs.Away.{is_abort, is_service, is_plain}
use Rattle.tx_lending.proofs.Along.{no_begin}
use Rattle.tx_lending.proofs.OneMore.{more_live}
use Rattle.tx_lending.proofs.Touching.{on}
use Rattle.std.proofs.lemmas.Bool.{not-true}
use Rattle.tx_serial.proofs.TextStays.{or_second}

-- ---- no service call

no_service : (i : Instr) → is_plain i ≡ true → is_service (kind_at i.op.number) ≡ false
unfolding kind_at
no_service i h =
    let e = entry_at i.op.number in
    or_second (asks_for_time e) _ (or_second (stores_lastingly e) _ (or_second (is_abort e.kind) _
    (or_second (is_end e) _ (or_second (begins e) _ (not-true _ h)))))

-- ---- what is left

abbrev pub count_after : Bool → ℕ → ℕ
count_after live n = if live then n + 1 else n

pub record IsLeft (live : Bool) (local left : Local) : Type 0 where
  pub pending : left.pending ≡ local.pending
  pub waiting : left.waiting ≡ local.waiting
  pub count : left.attempt.count ≡ count_after live local.attempt.count
  pub runs : is_running local.attempt.cpu.state ≡ true → is_running left.attempt.cpu.state ≡ true

closed_left : (i : Instr) (ranges : List Range) (local : Local) (s : Storage) (c : Cpu) (bytes : List ℕ)
    (nest : List Begin) → Keeps (Did c bytes) local.attempt.cpu
    → (closed_by (advanced i ranges c (stores_of ranges bytes local.attempt) local.attempt) nest
    (on local s)).told ≡ Stepped
    → IsLeft true local (closed_by (advanced i ranges c (stores_of ranges bytes local.attempt) local.attempt)
    nest (on local s)).after.local
closed_left i ranges local s c bytes [] keeps told = absurd (cc)
closed_left i ranges local s c bytes (outermost ∷ inner) keeps told =
    record { pending = refl; waiting = refl; count = refl; runs = keeps }

left_where : (live : Bool) (i : Instr) (ranges : List Range) (local : Local) (s : Storage) (o : Outcome)
    → is_live local.attempt ≡ live → Keeps o local.attempt.cpu
    → (executed_where live false i ranges (on local s) o).told ≡ Stepped
    → IsLeft live local (executed_where live false i ranges (on local s) o).after.local
left_where true i ranges local s (Did c bytes) is keeps told =
    let q = local.attempt in
    closed_left i ranges local s c bytes (advanced i ranges c (stores_of ranges bytes q) q).nest keeps told
left_where true i ranges local s (outcome.Overflowed c bytes) is keeps told = absurd (cc)
left_where true i ranges local s Divides is keeps told = absurd (cc)
left_where true i ranges local s (Aborts code) is keeps told = absurd (cc)
left_where false i ranges local s (Did c bytes) is keeps told =
    record { pending = refl; waiting = refl; count = sym (not_live local.attempt.count is); runs = keeps }
left_where false i ranges local s (outcome.Overflowed c bytes) is keeps told = absurd (cc)
left_where false i ranges local s Divides is keeps told = absurd (cc)
left_where false i ranges local s (Aborts code) is keeps told =
    record { pending = refl; waiting = refl; count = refl; runs = λ h. h }

pub left_by : (i : Instr) (ranges : List Range) (local : Local) (s : Storage) → is_plain i ≡ true
    → (executed i ranges (on local s)).told ≡ Stepped
    → IsLeft (is_live local.attempt) local (executed i ranges (on local s)).after.local
unfolding executed
left_by i ranges local s plain told =
    let q = local.attempt in
    let live = is_live q in
    let o = outcome_by s i ranges q in
    let keeps = keeps_running i q.cpu _ (operand_bytes q.cpu.prefix (seen_through q.overlay s) ranges)
    (no_service i plain) in
    subst (λ (b : Bool). (executed_where live b i ranges (on local s) o).told ≡ Stepped
    → IsLeft live local (executed_where live b i ranges (on local s) o).after.local) (sym (no_begin i plain))
    (left_where live i ranges local s o refl keeps) told

live_by : (live : Bool) (n m : ℕ) → nat_lt 0 n ≡ live → m ≡ count_after live n → nat_lt 0 m ≡ live
live_by true n m h e = ap (nat_lt 0) e ∙ more_live n
live_by false n m h e = ap (nat_lt 0) e ∙ h

-- inside transactions it stays inside, outside outside
pub stays_live : (local left : Local) → IsLeft (is_live local.attempt) local left
    → is_live left.attempt ≡ is_live local.attempt
stays_live local left h = live_by (is_live local.attempt) local.attempt.count left.attempt.count refl h.count
