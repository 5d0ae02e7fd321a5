-- The begin of a constrained transaction, at a CPU at rest, goes over the start's storage where it goes over
-- the storage that is kept.
use Rattle.std.proofs.Common.{◌≡◌, ℕ, ◌-◌, Bool, true, false, List, [], ◌∷◌, ◌++◌, refl, sym, ap, ◌∙◌}
use Rattle.std.proofs.Common.{length, take}
use Rattle.std.specs.Prelude.{if◌then◌else◌}
use Rattle.std.proofs.lemmas.Bool.{true≢false}
use Rattle.z_regs.specs.Cpu.{Cpu}
use Rattle.z_regs.specs.Prefix.{absolute_of, is_prefix}
use Rattle.z_regs.specs.declared.ranges.Range.{Range}
use Rattle.z_instr.specs.declared.instr.Instr.{Instr}
use Rattle.z_instr.specs.declared.operand.Demand.{Demand}
use Rattle.z_instr.specs.declared.operand.Demand.TheVariants.{BeginConstrained}
use Rattle.z_instr.specs.Table.{entry_at}
use Rattle.z_instr.specs.Roles.{begins, is_end}
use Rattle.z_effect.specs.Beginning as beginning
use Rattle.z_effect.specs.Beginning.{begin_of}
use Rattle.z_effect.specs.Outcome.{Outcome}
use Rattle.tx_control.specs.Nesting.{is_constrained}
use Rattle.tx_serial.specs.Alike.{AgreeInText}
use Rattle.tx_serial.specs.Attempt.{at_rest}
use Rattle.tx_serial.specs.Fate.{Fate, Goes, Ends, Stops, fate}
use Rattle.tx_serial.specs.History.{start_of}
use Rattle.tx_serial.specs.Run.{run}
use Rattle.tx_serial.proofs.Starting.{replay_keeps_text}
use Rattle.tx_progress.specs.Doing.{opened}
use Rattle.tx_progress.specs.Local.{Beside}
use Rattle.tx_progress.specs.Progress.{is_live}
use Rattle.tx_progress.specs.Trial.{fate_by_progress}
use Rattle.tx_progress.proofs.Lines.{text_there}
use Rattle.tx_progress.proofs.Parts.{followed_fate, quiet_run}
use Rattle.tx_progress.proofs.Rows.{IsDone}
use Rattle.tx_meaning.specs.Limits.{Setting}
use Rattle.tx_meaning.specs.Meaning.{IsSetting}
use Rattle.tx_keeping.specs.Kept.{Kept, kept_flat, text_of}
use Rattle.tx_keeping.proofs.Truth.{Truth, kept_is}
use Rattle.tx_bounds.proofs.Again.{IsConstrainedBegin, goes_again}

-- ---- over other storage

module _ (m : Setting) (s : IsSetting m) (k : Kept) (t : Truth m k) (c : ℕ) where
  abbrev cpu : Cpu
  cpu = (k.locals c).cpu

  has_prefix : is_prefix cpu.prefix ≡ true
  has_prefix = (kept_is m s k t).prefixes c

  agrees : AgreeInText cpu.prefix (text_of m) (start_of m.image).storage k.storage
  agrees a h =
      replay_keeps_text m.image k.state.history (kept_flat m k) s.image t.replayed (absolute_of cpu.prefix a)
      (text_there cpu.prefix (text_of m) a has_prefix h)

  pub goes_now : (i : Instr) → IsConstrainedBegin i
      → fate (text_of m) (at_rest (start_of m.image).storage cpu) ≡ Goes i []
      → fate (text_of m) (at_rest k.storage cpu) ≡ Goes i []
  goes_now i is goes =
      goes_again (text_of m) (start_of m.image).storage k.storage cpu cpu i [] is refl refl agrees goes

  pub goes_at_start : (i : Instr) (ranges : List Range) → IsConstrainedBegin i
      → fate (text_of m) (at_rest k.storage cpu) ≡ Goes i ranges
      → fate (text_of m) (at_rest (start_of m.image).storage cpu) ≡ Goes i []
  goes_at_start i ranges is goes =
      goes_again (text_of m) k.storage (start_of m.image).storage cpu cpu i ranges is refl refl
      (λ a h. sym (agrees a h)) goes

  pub quiet_fate : is_live (k.locals c).attempt ≡ false
      → fate (text_of m) (at_rest k.storage cpu) ≡ fate_by_progress (text_of m) k.storage (k.locals c).attempt
  unfolding run
  quiet_fate quiet =
      ap (fate (text_of m)) (quiet_run (kept_flat m k) c (k.locals c) quiet)
      ∙ followed_fate (kept_flat m k) c (k.locals c) (t.each c).followed

  -- the CPU at rest, where its next instruction has this fate
  pub fate_at_rest : (f : Fate) → is_live (k.locals c).attempt ≡ false
      → fate_by_progress (text_of m) k.storage (k.locals c).attempt ≡ f
      → fate (text_of m) (at_rest k.storage cpu) ≡ f
  fate_at_rest f quiet h = quiet_fate quiet ∙ h

-- ---- one fate

goes : Fate → Bool
goes (Goes i ranges) = true
goes (Ends why) = false
goes (Stops e) = false

abbrev pub GoesNot : Fate → Type 0
GoesNot (Goes i ranges) = ⊥
GoesNot (Ends why) = Unit {0}
GoesNot (Stops e) = Unit {0}

pub never_goes : {A : Type 0} (f : Fate) (i : Instr) (x : List Range) → f ≡ Goes i x → GoesNot f → A
unfolding goes
never_goes (Goes j y) i x h off = absurd off
never_goes (Ends w) i x h off = absurd (true≢false (sym (ap goes h)))
never_goes (Stops e) i x h off = absurd (true≢false (sym (ap goes h)))

-- ---- what is begun

pub constrained_demand : (d : Demand) → beginning.is_constrained d ≡ true → d ≡ BeginConstrained
constrained_demand BeginConstrained h = refl
constrained_demand d h = absurd (true≢false (sym h))

pub opens_so : (i : Instr) (ranges : List Range) (b : Beside) (o : Outcome) → IsDone o
    → b.local.attempt.nest ≡ [] → begins (entry_at i.op.number) ≡ true
    → is_constrained (opened i ranges b o).local.attempt.nest
    ≡ beginning.is_constrained (entry_at i.op.number).demand
opens_so i ranges b o d none begin =
    let general = b.local.attempt.cpu.general in
    ap (λ x. is_constrained (opened i ranges b x).local.attempt.nest) d.is
    ∙ ap (λ nest. is_constrained (if begins (entry_at i.op.number) then nest ++ begin_of i general ∷ []
    else if is_end (entry_at i.op.number) then take (length nest - 1) nest else nest)) none
    ∙ ap (λ x. is_constrained (if x then begin_of i general ∷ []
    else if is_end (entry_at i.op.number) then [] else [])) begin
