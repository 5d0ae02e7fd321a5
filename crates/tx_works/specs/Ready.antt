-- What holds whenever a machine asks or aborts, so that what it keeps has room for what comes of it.
use Rattle.std.specs.Prelude.{◌≡◌, ◌≢◌, ℕ, ◌+◌, ◌*◌, ◌<◌, ◌≤◌, ◌||◌, true, false, List, length}
use Rattle.std.specs.Prelude.{All}
use Rattle.bit_set.specs.Counts.{count_below}
use Rattle.line_table.specs.Sizes.{storage_lines, held_limit}
use Rattle.line_table.specs.Holders.{lines_held}
use Rattle.tx_control.specs.declared.causes.Why.{Why}
use Rattle.tx_control.specs.declared.causes.Why.TheVariants.{External, Program, FetchConflict}
use Rattle.tx_control.specs.declared.causes.Why.TheVariants.{StoreConflict, FetchOverflow, StoreOverflow}
use Rattle.tx_control.specs.declared.causes.Why.TheVariants.{Restricted, Filtered, Depth, Starved, Tabort}
use Rattle.tx_ladder.specs.Waiting.{waits_in}
use Rattle.tx_meaning.specs.declared.asking.Need.{Need}
use Rattle.tx_meaning.specs.Changes.{is_needed}
use Rattle.tx_meaning.specs.State.{is_live, is_head, cpus_of}
use Rattle.tx_keeping.specs.Kept.{Kept, kept_footprint}
use Rattle.std.specs.Prelude.{Some, Option}
use Rattle.z_regs.specs.Prefix.{storage_size}
use Rattle.z_regs.specs.Absolute.{IsAccessible}
use Rattle.z_regs.specs.declared.ranges.Range.{Range}
use Rattle.z_regs.specs.declared.waiting.Waiting.{Waiting}
use Rattle.z_instr.specs.declared.instr.Instr.{Instr}
use Rattle.tx_serial.specs.Flat.{Storage, Pending}
use Rattle.tx_serial.specs.History.{start_of}
use Rattle.tx_control.specs.declared.exceptions.Exception.{Exception}
use Rattle.tx_serial.specs.Fate.{Goes, Ends, Stops}
use Rattle.tx_progress.specs.Progress.{resting}
use Rattle.tx_progress.specs.Trial.{fate_by_progress}
use Rattle.tx_meaning.specs.Limits.{Setting}
use Rattle.tx_meaning.specs.Limits.{turn_limit}
use Rattle.tx_meaning.specs.Needs.{operand_needs, block_needs, interruption_needs}
use Rattle.tx_keeping.specs.Kept.{text_of}
use Rattle.tx_works.specs.Works.{Works, Seat, numbers_of}

abbrev pub image_storage : Setting → Storage
image_storage m = (start_of m.image).storage

-- ---- the ladder and the stop queue

-- the attempt of the CPU can be aborted by a conflict: a constrained one is below the number of conflict
-- aborts that leads to the stop queue, and its CPU is not in it
pub record MayClimb (k : Kept) (i : ℕ) : Type 0 where
  pub below : (k.standings i).constrained ≡ true → (k.standings i).aborts < (k.standings i).parms.stop
  pub out : (k.standings i).constrained ≡ true → waits_in k.state.queue i ≡ false

-- the attempt of the CPU can be aborted for this cause
abbrev pub MayEndBy : Why → Kept → ℕ → Type 0
MayEndBy (FetchConflict line) k i = MayClimb k i
MayEndBy (StoreConflict line) k i = MayClimb k i
MayEndBy Starved k i = MayClimb k i
MayEndBy (Program e) k i = Unit {0}
MayEndBy External k i = Unit {0}
MayEndBy FetchOverflow k i = Unit {0}
MayEndBy StoreOverflow k i = Unit {0}
MayEndBy Restricted k i = Unit {0}
MayEndBy (Filtered e) k i = Unit {0}
MayEndBy Depth k i = Unit {0}
MayEndBy (Tabort code) k i = Unit {0}

-- in a turn of one of so many CPUs: those of all others that are live, and its own unless it is the head of
-- the stop queue
pub record MayAsk (cpus i : ℕ) (k : Kept) : Type 0 where
  pub others : (j : ℕ) → j < cpus → j ≢ i → is_live k.state j ≡ true → MayClimb k j
  pub own : is_head k.state i ≡ false → MayClimb k i

-- ---- the history

-- how many entries there are and may come of the attempts that are live
abbrev pub owed : Works → Kept → ℕ
owed w k = length w.history + count_below (length w.slots) (is_live k.state)

-- ---- lines

-- a CPU that needs lines holds no more than it may, and what its attempt has touched and what it needs are
-- together no more than that
pub record MayHold (i : ℕ) (needs : List Need) (k : Kept) : Type 0 where
  pub within : lines_held k.state.held i ≤ held_limit
  pub few : count_below storage_lines (λ line.
      ((kept_footprint k i).fetched line || (kept_footprint k i).stored line) || is_needed needs line) ≤ held_limit

-- ---- a turn

-- operands that an instruction can have: at most two, each of it accessible
pub record IsInReach (prefix : Option ℕ) (ranges : List Range) : Type 0 where
  pub few : length ranges ≤ 2
  pub accessible : All (IsAccessible prefix) ranges

-- what a turn of a CPU asks of what is kept: the ladder, the lines that it can need, that the next instruction
-- is the one that the image's storage says, that nothing is taken inside a transaction, and that what is left to
-- do lies in storage
pub record MayTurn (m : Setting) (i : ℕ) (k : Kept) : Type 0 where
  pub asks : MayAsk (cpus_of m) i k
  pub goes : (instr : Instr) (ranges : List Range)
      → fate_by_progress (text_of m) k.storage (k.locals i).attempt ≡ Goes instr ranges
      → MayHold i (operand_needs (k.locals i).attempt.cpu.prefix ranges) k
  pub stores : (b : Pending) → (k.locals i).pending ≡ Some b
      → MayHold i (block_needs (k.locals i).attempt.cpu.prefix b) k
  pub takes : (w : Waiting) → (k.locals i).waiting ≡ Some w
      → MayHold i (interruption_needs (k.locals i).attempt.cpu.prefix w) k
  pub rests : (w : Waiting) → (k.locals i).waiting ≡ Some w → is_live k.state i ≡ false
  pub rested : is_live k.state i ≡ false → (k.locals i).attempt ≡ resting (k.locals i).cpu
  pub inside : (b : Pending) → (k.locals i).pending ≡ Some b → b.address + 256 ≤ storage_size
  pub reach : (instr : Instr) (ranges : List Range)
      → fate_by_progress (text_of m) k.storage (k.locals i).attempt ≡ Goes instr ranges
      → IsInReach (k.locals i).attempt.cpu.prefix ranges
  pub ends : (why : Why) → fate_by_progress (text_of m) k.storage (k.locals i).attempt ≡ Ends why
      → is_live k.state i ≡ true
  pub stops : (e : Exception) → fate_by_progress (text_of m) k.storage (k.locals i).attempt ≡ Stops e
      → is_live k.state i ≡ false
  pub text : fate_by_progress (text_of m) (image_storage m) (k.locals i).attempt
      ≡ fate_by_progress (text_of m) k.storage (k.locals i).attempt

-- ---- counts

-- each attempt and each completed instruction took a turn, and a turn asks at most 128 questions: for at most
-- 8 lines, each of at most 15 other CPUs
pub record IsCounted (s : Seat) : Type 0 where
  pub turns : s.tally.turns ≤ turn_limit
  pub attempts : s.tally.attempts ≤ s.tally.turns
  pub completed : (numbers_of s).completed ≤ s.tally.turns
  pub asked : s.tally.asked ≤ 128 * s.tally.turns
  pub rejected : s.tally.rejected ≤ s.tally.asked

-- the turn that is counted last has done nothing yet but ask, and may ask so many more questions
pub record HasTurn (s : Seat) (questions : ℕ) : Type 0 where
  pub attempts : s.tally.attempts < s.tally.turns
  pub completed : (numbers_of s).completed < s.tally.turns
  pub asked : s.tally.asked + questions ≤ 128 * s.tally.turns
