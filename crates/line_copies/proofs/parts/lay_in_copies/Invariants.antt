use Rattle.std.proofs.Common.{◌≡◌, ◌<◌, ◌≤◌, ℕ}
use Rattle.std.specs.Option.{option_map}
use Rattle.l1_data.specs.Copies.{with_copy, laid}
use Rattle.line_copies.specs.Seen.{copied}
use Rattle.line_copies.proofs.parts.lay_in_copies.Given as goal

abbrev pub invariant-loop-l1 : goal.invariant-loop-l1
invariant-loop-l1 l =
    record {
      done : (cpu : ℕ) → cpu < l.l1-index → copied l.copies cpu
          ≡ with_copy (copied l.initial.copies cpu) l.line
          (option_map (λ copy. laid copy l.at l.bytes) (copied l.initial.copies cpu l.line));
      rest : (cpu : ℕ) → l.l1-index ≤ cpu → copied l.copies cpu ≡ copied l.initial.copies cpu;
    }
