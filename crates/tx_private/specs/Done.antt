-- What one instruction leaves.
use Rattle.std.specs.Prelude.{◌≡◌, ℕ, List, Bool, true, false}
use Rattle.z_instr.specs.declared.kind.Kind.{Kind}
use Rattle.z_instr.specs.declared.kind.Kind.TheVariants as kind
use Rattle.z_instr.specs.declared.kind.Transaction.TheVariants as transaction
use Rattle.z_regs.specs.Cpu.{Cpu}
use Rattle.z_instr.specs.declared.instr.Instr.{Instr}
use Rattle.z_effect.specs.One.{one}
use Rattle.z_effect.specs.After.{touched, ranges_of, cpu_after, storage_after}
use Rattle.z_effect.specs.Outcome.{Outcome, Did, Divides, Aborts}
use Rattle.z_effect.specs.Outcome as outcome
use Rattle.tx_private.specs.declared.execution.Completion.{Completion}
use Rattle.tx_private.specs.declared.execution.Completion.TheVariants as completion

abbrev pub completion_of : Outcome → Completion
completion_of (Did c bytes) = completion.Completed
completion_of (outcome.Overflowed c bytes) = completion.Overflowed
completion_of Divides = completion.Divides
completion_of (Aborts code) = completion.Aborts code

-- the instruction at a nesting depth, by the bytes of its operands
abbrev pub outcome_at : ℕ → Instr → Cpu → List ℕ → Outcome
outcome_at depth i c seen = one i c depth (touched (ranges_of i c) seen)

-- a call has done what the instruction does to a CPU and to storage in the order of its real addresses
pub record IsExecuted (depth : ℕ) (i : Instr) (c after : Cpu) (s t : List ℕ) (done : Completion) : Type 0
  where
    pub answer : done ≡ completion_of (outcome_at depth i c s)
    pub image : after ≡ cpu_after c (outcome_at depth i c s)
    pub storage : t ≡ storage_after (ranges_of i c) s (outcome_at depth i c s)

-- NTSTG, whose stores outlive an abort
abbrev pub is_lasting_kind : Kind → Bool
is_lasting_kind (kind.Transaction transaction.StoreLasting) = true
is_lasting_kind _ = false
