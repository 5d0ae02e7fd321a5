-- Turns that a CPU makes away from the machine, on storage of its own.
use Rattle.std.specs.Prelude.{◌≡◌, ℕ, zero, suc, ◌<◌, Bool, true, false, ◌||◌, not, if◌then◌else◌, List, []}
use Rattle.std.specs.Prelude.{◌++◌, All, Option, None}
use Rattle.z_regs.specs.declared.ranges.Range.{Range}
use Rattle.z_instr.specs.declared.instr.Instr.{Instr}
use Rattle.z_instr.specs.declared.kind.Kind.{Kind}
use Rattle.z_instr.specs.declared.kind.Kind.TheVariants.{Transaction}
use Rattle.z_instr.specs.declared.kind.Transaction.TheVariants.{Abort}
use Rattle.z_instr.specs.Table.{Entry, entry_at}
use Rattle.z_instr.specs.Roles.{begins, is_end, stores_lastingly, asks_for_time}
pub use Rattle.z_effect.specs.Facts.{is_service}
use Rattle.tx_serial.specs.Fate.{Fate, Goes, Ends, Stops}
use Rattle.tx_serial.specs.Flat.{Storage}
use Rattle.tx_progress.specs.Progress.{Progress, is_live}
use Rattle.tx_progress.specs.Trial.{fate_by_progress}
use Rattle.tx_progress.specs.Local.{Beside}
use Rattle.tx_progress.specs.Doing.{Executed, executed}
use Rattle.tx_progress.specs.declared.done.Done.TheVariants.{Stepped}
use Rattle.line_table.specs.declared.table.Mode.{Mode}
use Rattle.tx_meaning.specs.Asking.{is_there}
use Rattle.tx_meaning.specs.Needs.{operand_needs}
use Rattle.tx_lending.specs.Places.{is_among, text_places, operand_places, stored_places, AreStoredAlike}

-- ---- instructions that are made at home

-- it aborts the transaction
abbrev pub is_abort : Kind → Bool
is_abort (Transaction Abort) = true
is_abort _ = false

-- it begins or ends a transaction or aborts it, its stores outlive an abort, it asks for time, or it ends the
-- program
abbrev pub is_at_home : Entry → Bool
is_at_home e =
    begins e
    || (is_end e || (is_abort e.kind || (stores_lastingly e || (asks_for_time e || is_service e.kind))))

-- all others may be made away from the machine
abbrev pub is_plain : Instr → Bool
is_plain i = not (is_at_home (entry_at i.op.number))

-- ---- turns

abbrev pub lent_by : Fate → Beside → Beside
lent_by (Goes instr ranges) b = (executed instr ranges b).after
lent_by (Ends why) b = b
lent_by (Stops e) b = b

-- what the next instruction makes of a CPU and of its storage, where it goes
abbrev pub lent_turn : List ℕ → Beside → Beside
lent_turn text b = lent_by (fate_by_progress text b.storage b.local.attempt) b

-- so many of them, one after the other
unfoldable pub ran : List ℕ → ℕ → Beside → Beside
ran text zero b = b
ran text (suc k) b = lent_turn text (ran text k b)

-- the next instruction goes, is one that may be made away, completes, and needs no line but those that are held
pub record GoesAway (text : List ℕ) (held : ℕ → Option Mode) (b : Beside) : Type 0 where
  pub instr : Instr
  pub ranges : List Range
  pub goes : fate_by_progress text b.storage b.local.attempt ≡ Goes instr ranges
  pub plain : is_plain instr ≡ true
  pub told : (executed instr ranges b).told ≡ Stepped
  pub lines : All (λ need. is_there need.mode (held need.line) ≡ true)
      (operand_needs b.local.attempt.cpu.prefix ranges)

-- each of so many turns does
abbrev pub GoAway : List ℕ → (ℕ → Option Mode) → ℕ → Beside → Type 0
GoAway text held k b = (j : ℕ) → j < k → GoesAway text held (ran text j b)

-- ---- what they touch

abbrev pub fate_places : Fate → Progress → List ℕ
fate_places (Goes instr ranges) q = operand_places ranges q
fate_places (Ends why) q = []
fate_places (Stops e) q = []

-- the bytes of the next instruction, and of its operands
abbrev pub turn_places : List ℕ → Beside → List ℕ
turn_places text b =
    text_places b.storage b.local.attempt
    ++ fate_places (fate_by_progress text b.storage b.local.attempt) b.local.attempt

unfoldable pub touched : List ℕ → ℕ → Beside → ℕ → Bool
touched text zero b a = false
touched text (suc k) b a = touched text k b a || is_among (turn_places text (ran text k b)) a

-- into storage go the stores of an instruction outside transactions; inside them they wait
abbrev pub fate_stores : Fate → Progress → List ℕ
fate_stores (Goes instr ranges) q = if is_live q then [] else stored_places ranges q
fate_stores (Ends why) q = []
fate_stores (Stops e) q = []

abbrev pub turn_stores : List ℕ → Beside → List ℕ
turn_stores text b = fate_stores (fate_by_progress text b.storage b.local.attempt) b.local.attempt

unfoldable pub stored : List ℕ → ℕ → Beside → ℕ → Bool
stored text zero b a = false
stored text (suc k) b a = stored text k b a || is_among (turn_stores text (ran text k b)) a

-- ---- the same turn on two storages

-- an instruction has left the same CPU, has told the same, and has stored the same
pub record AreDoneAlike (s t : Storage) (x y : Executed) : Type 0 where
  pub local : y.after.local ≡ x.after.local
  pub told : y.told ≡ x.told
  pub storage : AreStoredAlike s t x.after.storage y.after.storage

-- outside transactions no store waits
abbrev pub IsClear : Progress → Type 0
IsClear q = is_live q ≡ false → (a : ℕ) → q.overlay a ≡ None
