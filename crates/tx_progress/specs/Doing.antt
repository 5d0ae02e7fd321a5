-- What an instruction that goes makes of a CPU and of storage.
use Rattle.std.specs.Prelude.{ℕ, Bool, true, false, nat_lt, if◌then◌else◌, List, [], ◌∷◌, None}
use Rattle.z_regs.specs.Cpu.{Cpu}
use Rattle.z_regs.specs.declared.image.RunState.{RunState}
use Rattle.z_regs.specs.declared.image.RunState.TheVariants.{Running, Halted, Interrupted}
use Rattle.z_regs.specs.declared.ranges.Range.{Range}
use Rattle.z_instr.specs.declared.instr.Instr.{Instr}
use Rattle.z_instr.specs.Table.{entry_at}
use Rattle.z_instr.specs.Roles.{begins}
use Rattle.z_effect.specs.After.{exception}
use Rattle.z_effect.specs.One.{length_of}
use Rattle.z_effect.specs.Outcome.{Outcome, Did, Divides, Aborts}
use Rattle.z_effect.specs.Outcome as outcome
use Rattle.z_effect.specs.Interrupted.{interrupted_by, cpu_outside}
use Rattle.z_effect.specs.TransactionEffect.{delay_given}
use Rattle.tx_control.specs.declared.begins.Begin.{Begin}
use Rattle.tx_control.specs.declared.causes.Why.{Why}
use Rattle.tx_control.specs.declared.causes.Why.TheVariants.{Tabort}
use Rattle.tx_control.specs.Codes.{fixed_point_overflow_code, fixed_point_divide_code}
use Rattle.tx_control.specs.declared.exceptions.Exception.{Exception}
use Rattle.tx_serial.specs.Overlay.{Store}
use Rattle.tx_serial.specs.Flat.{operand_stores, laid_over}
use Rattle.tx_serial.specs.Fate.{cause_in}
use Rattle.tx_serial.specs.Remains.{waiting_with}
use Rattle.tx_progress.specs.Progress.{Progress, resting, is_live, advanced, seen_through}
use Rattle.tx_progress.specs.Trial.{outcome_by}
use Rattle.tx_progress.specs.Local.{Local, Beside}
use Rattle.tx_progress.specs.declared.done.Done.{Done}
use Rattle.tx_progress.specs.declared.done.Done.TheVariants as done

-- what is left of a CPU and of storage, and what is told
pub record Executed : Type 0 where
  pub after : Beside
  pub told : Done

-- the stores of an instruction, by absolute addresses
abbrev pub stores_of : List Range → List ℕ → Progress → List Store
stores_of ranges bytes q = operand_stores q.cpu.prefix ranges bytes

-- ---- outside transactions

abbrev pub told_of : RunState → ℕ → Done
told_of (Interrupted code) delay = done.Interrupted code
told_of Running delay = if nat_lt 0 delay then done.Paused delay else done.Stepped
told_of Halted delay = if nat_lt 0 delay then done.Paused delay else done.Stepped

-- the CPU is this one, and nothing else of it changes
abbrev pub moved_to : Cpu → Local → Local
moved_to c local = record local { cpu = c; attempt = resting c }

-- it is interrupted; with a prefix, the interruption waits to be taken
abbrev pub interrupted_at : Cpu → ℕ → Local → Local
interrupted_at c length local = record (moved_to c local) { waiting = waiting_with c.prefix length None }

abbrev pub outside : Instr → List Range → Beside → Outcome → Beside
outside i ranges b (Did c bytes) = record {
  local = moved_to c b.local;
  storage = laid_over b.storage (stores_of ranges bytes b.local.attempt);
}
outside i ranges b (outcome.Overflowed c bytes) = record {
  local =
      interrupted_at (cpu_outside (length_of i) b.local.cpu (outcome.Overflowed c bytes)) (length_of i)
      b.local;
  storage = laid_over b.storage (stores_of ranges bytes b.local.attempt);
}
outside i ranges b Divides =
    record b { local = interrupted_at (cpu_outside (length_of i) b.local.cpu Divides) (length_of i) b.local }
outside i ranges b (Aborts code) = b

abbrev pub done_outside : Instr → Beside → Beside → Executed
done_outside i b after = record {
  after = after;
  told = told_of after.local.cpu.state (delay_given i b.local.cpu);
}

-- ---- a transaction is begun

abbrev pub opened : Instr → List Range → Beside → Outcome → Beside
opened i ranges b (Did c bytes) =
    let q = b.local.attempt in
    record b { local = record b.local { attempt = advanced i ranges c (stores_of ranges bytes q) q } }
opened i ranges b (outcome.Overflowed c bytes) = b
opened i ranges b Divides = b
opened i ranges b (Aborts code) = b

-- ---- inside transactions

abbrev pub going_on : Progress → Beside → Beside
going_on q b = record b { local = record b.local { attempt = q } }

-- all its stores go into storage
abbrev pub committed : Progress → Beside → Beside
committed q b = record { local = moved_to q.cpu b.local; storage = seen_through q.overlay b.storage }

-- the transaction is committed where no begin is left open
abbrev pub closed_by : Progress → List Begin → Beside → Executed
closed_by q [] b = record { after = committed q b; told = done.Committed q.count }
closed_by q (outermost ∷ inner) b = record { after = going_on q b; told = done.Stepped }

abbrev pub ended : Beside → Why → Executed
ended b why = record { after = b; told = done.Ended why }

abbrev pub inside : Instr → List Range → Beside → Outcome → Executed
inside i ranges b (Did c bytes) =
    let q = b.local.attempt in
    let next = advanced i ranges c (stores_of ranges bytes q) q in
    closed_by next next.nest b
inside i ranges b (outcome.Overflowed c bytes) =
    let q = b.local.attempt in
    let next = advanced i ranges c (stores_of ranges bytes q) q in
    ended (going_on next b) (cause_in next.nest (exception fixed_point_overflow_code (length_of i)))
inside i ranges b Divides =
    ended b (cause_in b.local.attempt.nest (exception fixed_point_divide_code (length_of i)))
inside i ranges b (Aborts code) = ended b (Tabort code)

-- ---- the instruction

abbrev pub executed_where : Bool → Bool → Instr → List Range → Beside → Outcome → Executed
executed_where true begin i ranges b o = inside i ranges b o
executed_where false true i ranges b o = record { after = opened i ranges b o; told = done.Began }
executed_where false false i ranges b o = done_outside i b (outside i ranges b o)

-- an instruction that goes, with its operands by real addresses
unfoldable pub executed : Instr → List Range → Beside → Executed
executed i ranges b =
    let q = b.local.attempt in
    executed_where (is_live q) (begins (entry_at i.op.number)) i ranges b (outcome_by b.storage i ranges q)

-- ---- an exception outside transactions, before anything has changed

unfoldable pub stopped : Exception → Local → Local
stopped e local = interrupted_at (interrupted_by e local.cpu) e.length local
