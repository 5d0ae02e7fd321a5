-- An attempt of a constrained transaction that is aborted leaves its CPU at the begin, and nothing to be
-- done.
use Rattle.std.proofs.Common.{◌≡◌, ℕ, zero, suc, ◌+◌, ◌-◌, Bool, true, false, List, [], ◌∷◌, ◌++◌}
use Rattle.std.proofs.Common.{Option, Some, None, refl, sym, ap, ◌∙◌, length, take}
use Rattle.std.specs.Prelude.{◌&&◌, cond, if◌then◌else◌}
use Rattle.std.proofs.lemmas.Bool.{true≢false}
use Rattle.z_regs.specs.Cpu.{Cpu}
use Rattle.z_regs.specs.declared.ranges.Range.{Range}
use Rattle.z_instr.specs.declared.instr.Instr.{Instr}
use Rattle.z_instr.specs.declared.operand.Demand.{Demand}
use Rattle.z_instr.specs.declared.operand.Demand.TheVariants.{Begin}
use Rattle.z_instr.specs.Table.{entry_at}
use Rattle.z_instr.specs.Roles.{may_name_block, begins, is_end}
use Rattle.z_effect.specs.Beginning as beginning
use Rattle.z_effect.specs.One.{length_of}
use Rattle.z_effect.specs.Beginning.{begin_of}
use Rattle.tx_control.specs.Nesting.{is_constrained, outermost_block}
use Rattle.tx_control.specs.declared.begins.Begin as opened
use Rattle.tx_control.specs.declared.causes.Why.{Why}
use Rattle.tx_control.specs.declared.causes.Why.TheVariants.{Program}
use Rattle.tx_constraint.specs.Constraints.{Step}
use Rattle.tx_serial.specs.Overlay.{Store}
use Rattle.tx_serial.specs.Flat.{FlatState}
use Rattle.tx_serial.specs.Remains.{interrupted_after, pending_after, waiting_after}
use Rattle.tx_serial.specs.Run.{run}
use Rattle.tx_progress.specs.Local.{Local}
use Rattle.tx_progress.specs.Progress.{Progress, is_live, advanced, begins_constrained}
use Rattle.tx_progress.specs.Reached.{progress_of, IsFollowed}
use Rattle.tx_progress.proofs.Facts.{keeps_constraints, keeps_prefix, live_runs}
use Rattle.tx_progress.proofs.Parts.{rests}
use Rattle.tx_serial.specs.Apply.{is_running}
use Rattle.tx_bounds.proofs.Running.{run_runs}
use Rattle.tx_progress.proofs.Standing.{Stands, is_begun_so, run_stands}
use Rattle.tx_meaning.specs.Stretches.{is_end_by}

-- what an abort then makes of the CPU: at its begin, with its prefix, and with no block
pub record Resumes (l : Local) : Type 0 where
  pub kind : is_constrained l.attempt.nest ≡ true
  pub again : l.attempt.resumes_at ≡ l.cpu.address
  pub prefix : l.attempt.cpu.prefix ≡ l.cpu.prefix
  pub block : outermost_block l.attempt.nest ≡ None
  pub runs : is_running l.attempt.cpu.state ≡ true

no_block_by : (d : Demand) (b : Bool) (a : ℕ) → beginning.is_constrained d ≡ true
    → cond (may_name_block d && b) (Some a) None ≡ None
no_block_by Begin b a h = absurd (true≢false (sym h))
no_block_by d b a h = refl

block_of : (c now : Cpu) (steps : List Step) (nest : List opened.Begin) → Stands c now steps nest
    → is_constrained nest ≡ true → outermost_block nest ≡ None
block_of c now [] [] h k = refl
block_of c now [] (b ∷ bs) h k = absurd h
block_of c now (s ∷ ss) [] h k = absurd h
block_of c now (s ∷ ss) (b ∷ bs) h k =
    ap (λ (x : opened.Begin). x.block) h.opened
    ∙ no_block_by (entry_at s.instruction.op.number).demand _ _ (sym (is_begun_so c s ss b bs h) ∙ k)

live_by : (f : FlatState) (i : ℕ) (l : Local) → IsFollowed f i l → is_constrained l.attempt.nest ≡ true
    → (b : Bool) → is_live l.attempt ≡ b → is_live l.attempt ≡ true
live_by f i l is kind true e = e
live_by f i l is kind false e =
    absurd (true≢false (sym kind ∙ ap (λ (q : Progress). is_constrained q.nest) (rests f i l is e)))

runs_now : (f : FlatState) (i : ℕ) (l : Local) → IsFollowed f i l → is_constrained l.attempt.nest ≡ true
    → is_running l.attempt.cpu.state ≡ true
unfolding progress_of
runs_now f i l is kind =
    ap (λ (q : Progress). is_running q.cpu.state) (sym is.attempt)
    ∙ run_runs f i l.attempt.count (ap (λ (c : Cpu). is_running c.state) is.cpu
    ∙ ap is_running (live_runs f i l is (live_by f i l is kind (is_live l.attempt) refl)))

pub resumes : (f : FlatState) (i : ℕ) (l : Local) → IsFollowed f i l → is_constrained l.attempt.nest ≡ true
    → Resumes l
unfolding progress_of
resumes f i l is kind =
    let p = run f i l.attempt.count in
    record {
      kind = kind;
      again = (keeps_constraints f i l is kind).again;
      prefix = keeps_prefix f i l is;
      block = ap (λ (q : Progress). outermost_block q.nest) (sym is.attempt)
          ∙ block_of (f.cpus i) p.cpu p.steps p.nest (run_stands f i l.attempt.count is.opens)
          (ap (λ (q : Progress). is_constrained q.nest) is.attempt ∙ kind);
      runs = runs_now f i l is kind;
    }

-- ---- with one instruction more

taken_block : (n : ℕ) (b : opened.Begin) (bs : List opened.Begin) → b.block ≡ None
    → outermost_block (take n (b ∷ bs)) ≡ None
taken_block zero b bs e = refl
taken_block (suc n) b bs e = e

nest_block : (x y : Bool) (new : opened.Begin) (n : ℕ) (nest : List opened.Begin) → is_constrained nest ≡ true
    → outermost_block nest ≡ None
    → outermost_block (if x then nest ++ new ∷ [] else if y then take n nest else nest) ≡ None
nest_block x y new n [] k e = absurd (true≢false (sym k))
nest_block true y new n (b ∷ bs) k e = e
nest_block false true new n (b ∷ bs) k e = taken_block n b bs e
nest_block false false new n (b ∷ bs) k e = e

-- where an abort leads
pub record Leads (l : Local) : Type 0 where
  pub runs : is_running l.attempt.cpu.state ≡ true
  pub again : l.attempt.resumes_at ≡ l.cpu.address
  pub prefix : l.attempt.cpu.prefix ≡ l.cpu.prefix
  pub block : outermost_block l.attempt.nest ≡ None

pub leads : (l : Local) → Resumes l → Leads l
leads l r = record { runs = r.runs; again = r.again; prefix = r.prefix; block = r.block }

pub leads_on : (l : Local) (i : Instr) (ranges : List Range) (c : Cpu) (stores : List Store) → Resumes l
    → is_live l.attempt ≡ true → c.prefix ≡ l.attempt.cpu.prefix → is_running c.state ≡ true
    → Leads (record l { attempt = advanced i ranges c stores l.attempt })
leads_on l i ranges c stores r live same runs = record {
  runs = runs;
  again = ap (λ b. if b then l.attempt.resumes_at
      else (if begins_constrained i then l.attempt.cpu.address else l.attempt.cpu.address + length_of i)) live
      ∙ r.again;
  prefix = same ∙ r.prefix;
  block = nest_block (begins (entry_at i.op.number)) (is_end (entry_at i.op.number))
      (begin_of i l.attempt.cpu.general) (length l.attempt.nest - 1) l.attempt.nest r.kind r.block;
}

-- ---- causes that do not end the transaction

pub interrupts_not : (w : Why) (c : Cpu) → is_end_by w ≡ false → interrupted_after w c ≡ c
interrupts_not (Program e) c h = absurd (true≢false h)
interrupts_not w c h = refl

pub waits_not : (prefix : Option ℕ) (bytes : List ℕ) (w : Why) → is_end_by w ≡ false
    → waiting_after prefix bytes w ≡ None
waits_not prefix bytes (Program e) h = absurd (true≢false h)
waits_not prefix bytes w h = refl

pub no_pending : (named : Option ℕ) (bytes : List ℕ) → named ≡ None → pending_after named bytes ≡ None
no_pending named bytes e = ap (λ o. pending_after o bytes) e
