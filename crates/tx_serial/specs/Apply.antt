-- What an entry of the history makes of a flat state, where it fits.
use Rattle.std.specs.Prelude.{ℕ, ◌/◌, ◌%◌, Bool, true, false, ◌&&◌, not, nat_lt, is_none, List, [], ◌∷◌}
use Rattle.std.specs.Prelude.{Option, Some, None}
use Rattle.z_regs.specs.Cpu.{Cpu}
use Rattle.z_regs.specs.Psw.{psw_of, loaded}
use Rattle.z_regs.specs.declared.image.RunState.{RunState}
use Rattle.z_regs.specs.declared.image.RunState.TheVariants.{Running, Halted, Interrupted}
use Rattle.z_regs.specs.declared.ranges.Range.{Range}
use Rattle.z_regs.specs.declared.waiting.Waiting.{Waiting}
use Rattle.z_instr.specs.declared.instr.Instr.{Instr}
use Rattle.z_instr.specs.Table.{entry_at}
use Rattle.z_instr.specs.Roles.{begins}
use Rattle.z_effect.specs.One.{length_of}
use Rattle.z_effect.specs.Outcome.{Outcome, Did, Divides, Aborts}
use Rattle.z_effect.specs.Outcome as outcome
use Rattle.z_effect.specs.Interrupted.{interrupted_by, cpu_outside}
use Rattle.tx_journal.specs.declared.entries.Entry.{Entry}
use Rattle.tx_journal.specs.declared.entries.Entry.TheVariants.{Step, Commit, Abort, Tdb, Interrupt}
use Rattle.tx_serial.specs.Flat.{FlatState, Storage, Pending, with_cpu, with_pending, with_waiting}
use Rattle.tx_serial.specs.Flat.{with_storage, bytes_seen, operand_stores, laid_over, with_bytes_at}
use Rattle.tx_serial.specs.Attempt.{Run, Mark, Open, Committed, Overflowed, Missing}
use Rattle.tx_serial.specs.Fate.{Fate, Goes, Ends, Stops, fate}
use Rattle.tx_serial.specs.Run.{run, outcome_of}
use Rattle.tx_serial.specs.Ending.{fits}
use Rattle.tx_serial.specs.Remains.{remains, waiting_with}

abbrev pub only_where : {A : Type 0} → Bool → Option A → Option A
only_where true o = o
only_where false o = None

-- the CPU is running, and nothing is pending for it
abbrev pub is_running : RunState → Bool
is_running Running = true
is_running Halted = false
is_running (Interrupted code) = false

abbrev pub may_act : FlatState → ℕ → Bool
may_act f i = is_running (f.cpus i).state && is_none (f.pending i)

-- ---- one instruction outside transactions

-- an interruption of a program outside transactions, with the length of the instruction
abbrev pub with_interrupted : ℕ → Cpu → ℕ → FlatState → FlatState
with_interrupted i c length f = with_waiting i (waiting_with c.prefix length None) (with_cpu i c f)

-- the stores of its operands
abbrev pub with_operands : ℕ → List Range → List ℕ → FlatState → FlatState
with_operands i ranges bytes f =
    with_storage (laid_over f.storage (operand_stores (f.cpus i).prefix ranges bytes)) f

abbrev pub with_outcome : FlatState → ℕ → Instr → List Range → Outcome → FlatState
with_outcome f i instr ranges (Did c bytes) = with_cpu i c (with_operands i ranges bytes f)
with_outcome f i instr ranges (outcome.Overflowed c bytes) =
    with_interrupted i
    (cpu_outside (length_of instr) (f.cpus i) (outcome.Overflowed c bytes))
    (length_of instr)
    (with_operands i ranges bytes f)
with_outcome f i instr ranges Divides =
    with_interrupted i (cpu_outside (length_of instr) (f.cpus i) Divides) (length_of instr) f
with_outcome f i instr ranges (Aborts code) = f

-- it is no begin that goes, since this opens a transaction
abbrev pub after_step : FlatState → ℕ → Fate → Option FlatState
after_step f i (Goes instr ranges) =
    only_where (not (begins (entry_at instr.op.number)))
    (Some (with_outcome f i instr ranges (outcome_of instr ranges (run f i 0))))
after_step f i (Ends why) = None
after_step f i (Stops e) = Some (with_interrupted i (interrupted_by e (f.cpus i)) e.length f)

-- ---- a transaction that commits

abbrev pub after_commit : FlatState → ℕ → Run → Mark → Option FlatState
after_commit f i p Committed = Some (with_cpu i p.cpu (with_storage p.copy f))
after_commit f i p Open = None
after_commit f i p Overflowed = None
after_commit f i p Missing = None

-- ---- a block that is stored

abbrev pub after_block : FlatState → ℕ → Option Pending → Option FlatState
after_block f i None = None
after_block f i (Some b) =
    Some (with_pending i None (with_storage (with_bytes_at (f.cpus i).prefix b.address b.bytes f.storage) f))

-- ---- an interruption that is taken

abbrev pub interruption_code : RunState → ℕ
interruption_code Running = 0
interruption_code Halted = 0
interruption_code (Interrupted code) = code

-- the real addresses of the length and the code, of the old program status word, of the new one, and of the
-- interruption block
abbrev pub identification : ℕ
identification = 0x8c

abbrev pub old_psw : ℕ
old_psw = 0x150

abbrev pub new_psw : ℕ
new_psw = 0x1d0

abbrev pub interruption_block : ℕ
interruption_block = 0x1800

abbrev pub identified : Cpu → Waiting → List ℕ
identified c w = let code = interruption_code c.state in 0 ∷ w.length ∷ code / 256 ∷ code % 256 ∷ []

abbrev pub with_block : Option ℕ → Option (List ℕ) → Storage → Storage
with_block prefix None storage = storage
with_block prefix (Some bytes) storage = with_bytes_at prefix interruption_block bytes storage

abbrev pub with_stored_interruption : Cpu → Waiting → Storage → Storage
with_stored_interruption c w storage =
    with_block c.prefix w.block
    (with_bytes_at c.prefix old_psw (psw_of c)
    (with_bytes_at c.prefix identification (identified c w) storage))

abbrev pub with_new_psw : Cpu → Storage → Cpu
with_new_psw c storage = loaded (bytes_seen c.prefix storage new_psw 16) c

abbrev pub after_interruption : FlatState → ℕ → Option Pending → Option Waiting → Option FlatState
after_interruption f i (Some b) w = None
after_interruption f i None None = None
after_interruption f i None (Some w) =
    let c = f.cpus i in
    let storage = with_stored_interruption c w f.storage in
    Some (with_waiting i None (with_cpu i (with_new_psw c storage) (with_storage storage f)))

-- ---- the entry

unfoldable pub apply : FlatState → Entry → Option FlatState
apply f (Step i) = only_where (may_act f i) (after_step f i (fate f.text (run f i 0)))
apply f (Commit i n) = only_where (may_act f i) (after_commit f i (run f i n) (run f i n).mark)
apply f (Abort i n why) =
    only_where (may_act f i && (nat_lt 0 n && fits f.text (run f i n) why))
    (Some (remains f i (run f i n) why))
apply f (Tdb i) = after_block f i (f.pending i)
apply f (Interrupt i) = after_interruption f i (f.pending i) (f.waiting i)
