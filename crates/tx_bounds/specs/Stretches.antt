-- What holds of a CPU while a stretch of it is open.
use Rattle.std.specs.Prelude.{◌≡◌, ℕ, ◌≤◌, ◌<◌, ◌↔◌, true, false, [], length, None}
use Rattle.z_regs.specs.declared.image.RunState.TheVariants.{Running}
use Rattle.z_instr.specs.declared.instr.Instr.{Instr}
use Rattle.z_instr.specs.declared.operand.Demand.TheVariants.{BeginConstrained}
use Rattle.z_instr.specs.Table.{entry_at}
use Rattle.tx_ladder.specs.Rungs.{delay_after}
use Rattle.tx_ladder.specs.Waiting.{waits_in}
use Rattle.tx_serial.specs.Fate.{Goes, fate}
use Rattle.tx_meaning.specs.Hits.{hits}
use Rattle.tx_meaning.specs.Limits.{Setting}
use Rattle.tx_meaning.specs.State.{State, is_live, is_head, flat_of, attempt_of, cpu_of, standing_of}

-- the next instruction of the CPU begins a constrained transaction, and goes
pub record BeginsNext (m : Setting) (s : State) (i : ℕ) : Type 0 where
  pub begin : Instr
  pub is_constrained : (entry_at begin.op.number).demand ≡ BeginConstrained
  pub goes : fate (flat_of m s).text (attempt_of m s i) ≡ Goes begin []

-- The CPU is in the middle of a constrained transaction. It is running. Nothing is left to be done before
-- its next instruction. Between attempts that is the begin. A live attempt is constrained and not nested,
-- waits no turns, and has completed at least one instruction and at most 33. Its CPU waits where it may: as
-- long as its conflict aborts ask, and not in the stop queue, which it joins with the last of them.
pub record IsUnderWay (m : Setting) (s : State) (i : ℕ) : Type 0 where
  pub running : (cpu_of m s i).state ≡ Running
  pub no_block : (flat_of m s).pending i ≡ None
  pub no_interruption : (flat_of m s).waiting i ≡ None
  pub begins : is_live s i ≡ false → BeginsNext m s i
  pub constrained : is_live s i ≡ true → (standing_of m s i).constrained ≡ true
  pub single : is_live s i ≡ true → length (attempt_of m s i).nest ≡ 1
  pub undelayed : is_live s i ≡ true → (s.numbers i).delay ≡ 0
  pub some : is_live s i ≡ true → 1 ≤ (s.numbers i).completed
  pub few : is_live s i ≡ true → (s.numbers i).completed ≤ 33
  pub refused : is_live s i ≡ true → (s.numbers i).refused < m.image.parms.starve
  pub stop : (waits_in s.queue i ≡ true) ↔ (hits m.image s.history i ≡ m.image.parms.stop)
  pub queued : waits_in s.queue i ≡ true → (s.numbers i).delay ≡ 0
  pub head : waits_in s.queue i ≡ true → is_live s i ≡ true → is_head s i ≡ true
  pub delay : (s.numbers i).delay ≤ delay_after m.image.parms (hits m.image s.history i)
