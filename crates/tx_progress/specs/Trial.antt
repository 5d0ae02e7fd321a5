-- Whether the next instruction goes, by what is kept of the attempt.
use Rattle.std.specs.Prelude.{ℕ, List, [], ◌∷◌, Option, Some, None}
use Rattle.z_regs.specs.Absolute.{absolute_ranges}
use Rattle.z_regs.specs.declared.ranges.Range.{Range}
use Rattle.z_instr.specs.declared.instr.Instr.{Instr}
use Rattle.z_effect.specs.Outcome.{Outcome}
use Rattle.tx_control.specs.Codes.{transaction_constraint_code}
use Rattle.tx_constraint.specs.Kept.{Kept, next_text_breach, next_operand_breach}
use Rattle.tx_footprint.specs.Touched.{touching}
use Rattle.tx_serial.specs.Refusals.{refused, at_fetch}
use Rattle.tx_serial.specs.Flat.{Storage}
use Rattle.tx_serial.specs.Attempt.{Run, Open}
use Rattle.tx_serial.specs.Fate.{Fate, Goes, Refusal, Excepts, fate_after, first_refusal, operands}
use Rattle.tx_serial.specs.Fate.{fetch_refusal, instruction_at, unreadable, restricted_refusal}
use Rattle.tx_serial.specs.Fate.{specified_refusal, depth_refusal, operand_refusal, overflow_in}
use Rattle.tx_serial.specs.Run.{outcome_of}
use Rattle.tx_progress.specs.Progress.{Progress, seen_through}

-- as a run, as far as the tests ask that look at the CPU, the bytes that it sees, and the open begins
abbrev pub at_hand : Storage → Progress → Run
at_hand storage q = record {
  cpu = q.cpu;
  copy = seen_through q.overlay storage;
  stores = [];
  lasting = [];
  nest = q.nest;
  touched = [];
  steps = [];
  mark = Open;
}

-- ---- the tests that ask what the attempt has done before

abbrev pub breach_refusal : Instr → Option ℕ → Option Refusal
breach_refusal i None = None
breach_refusal i (Some number) = Some (Excepts (refused i transaction_constraint_code))

-- a constraint that a constrained attempt would break
abbrev pub constraint_refusal : (Kept → Option ℕ) → Instr → Option Kept → Option Refusal
constraint_refusal breach i None = None
constraint_refusal breach i (Some kept) = breach_refusal i (breach kept)

abbrev pub text_refusal_by : Progress → Instr → Option Refusal
text_refusal_by q i = constraint_refusal (λ kept. next_text_breach kept i q.cpu.address) i q.constraint

abbrev pub place_refusal_by : Progress → Instr → Option Refusal
place_refusal_by q i =
    constraint_refusal (λ kept. next_operand_breach kept i (operands i q.cpu)) i q.constraint

abbrev pub overflow_refusal_by : Progress → Instr → Option Refusal
overflow_refusal_by q i =
    overflow_in q.nest (touching q.footprint (absolute_ranges q.cpu.prefix (operands i q.cpu)))

-- ---- all tests, in order

abbrev pub tests_by : List ℕ → Storage → Progress → Instr → List (Option Refusal)
tests_by text storage q i =
    text_refusal_by q i
    ∷ restricted_refusal (at_hand storage q) i
    ∷ specified_refusal (at_hand storage q) i
    ∷ depth_refusal (at_hand storage q) i
    ∷ operand_refusal text (at_hand storage q) i
    ∷ place_refusal_by q i
    ∷ overflow_refusal_by q i
    ∷ []

abbrev pub tried : Progress → Instr → Option Refusal → Fate
tried q i None = Goes i (operands i q.cpu)
tried q i (Some refusal) = fate_after q.nest refusal

abbrev pub fetched : List ℕ → Storage → Progress → Option ℕ → Option Instr → Fate
fetched text storage q (Some code) i = fate_after q.nest (Excepts (at_fetch code))
fetched text storage q None None = fate_after q.nest (Excepts (unreadable (at_hand storage q)))
fetched text storage q None (Some i) = tried q i (first_refusal (tests_by text storage q i))

-- the fate of the next instruction, by the text pages and the bytes of storage
unfoldable pub fate_by_progress : List ℕ → Storage → Progress → Fate
fate_by_progress text storage q =
    fetched text storage q (fetch_refusal text (at_hand storage q)) (instruction_at (at_hand storage q))

-- what an instruction does next, by the bytes of its operands
abbrev pub outcome_by : Storage → Instr → List Range → Progress → Outcome
outcome_by storage i ranges q = outcome_of i ranges (at_hand storage q)
