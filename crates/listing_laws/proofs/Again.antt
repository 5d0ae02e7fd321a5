-- What the assembler's second reading makes of the generator's lines.
use Rattle.std.proofs.Common.{◌≡◌, ℕ, ◌+◌, ◌<◌, ◌≤◌, false, ◌&&◌, List, [], ◌∷◌, ◌++◌, length}
use Rattle.std.proofs.Common.{None, refl, ap, ap₂, ◌∙◌, arith, lt-ltb, le-leb}
use Rattle.std.specs.Prelude.{pos, Result, Ok, Err, if◌then◌else◌, nat_lt, nat_le, sum_by}
use Rattle.z_text.specs.declared.token.Token.{Token}
use Rattle.z_text.specs.declared.token.TextFault.{TextFault}
use Rattle.tx_journal.specs.declared.image.Show.{Show}
use Rattle.z_fields.specs.Chain.{◌>>=◌}
use Rattle.z_operands.specs.Values.{operands_on}
use Rattle.z_fields.specs.declared.fault.Kind.{Kind}
use Rattle.z_fields.specs.declared.fault.Kind.TheVariants.{WrongOperands, BadDirective, OutOfRange}
use Rattle.z_operands.specs.declared.operand.Operand.{Operand}
use Rattle.z_operands.specs.declared.operation.Operation.{Operation}
use Rattle.z_operands.specs.declared.operation.Operation.TheVariants as operations
use Rattle.z_reading.specs.Listing.{Task, operands_in}
use Rattle.z_setup.specs.Machine.{Machine, Known, task_gives, read_again, tokens_in, tokens_or, code_line}
use Rattle.z_setup.specs.Machine.{directive_line, entry_line, show_line, shown, with_address, change_at}
use Rattle.z_setup.specs.Machine.{size_of_show, show}
use Rattle.z_reading.specs.Text.{write_at}
use Rattle.listing_laws.proofs.Words.{Word, tokens_for}
use Rattle.listing_laws.proofs.Lines.{line_with, IsSaid, words_at}
use Rattle.listing_laws.proofs.Codes.{HasCode, plain}
use Rattle.listing_laws.proofs.Placed.{tokens, operands_behind}

-- the second reading takes the line whatever the lines before have made, and shows nothing by it
abbrev pub Goes : Known → Task → Type 0
Goes k t = (m : Machine) → (q : Machine) × (task_gives k t m ≡ Ok q) × (q.shows ≡ m.shows)

module _ (label op : List ℕ) (ws : List Word) (said : IsSaid label op ws) where
  abbrev text : List ℕ
  text = line_with label op ws

  abbrev operand_tokens : List Token
  operand_tokens = tokens_for (words_at label op ws) ws

  abbrev pub task : Operation → ℕ → ℕ → Task
  task o n here = record { line = n; here = here; text = line_with label op ws; operation = o }

  pub instruction_goes : (k : Known) (n here row : ℕ) (os : List Operand)
      → operands_on WrongOperands (line_with label op ws) k.labels here (tokens_for (words_at label op ws)
      ws) ≡ Ok os → HasCode row here os
      → Goes k (task (operations.Instruction row None) n here)
  unfolding task_gives read_again tokens_in code_line
  instruction_goes k n here row os values code m = (
    record m { storage = write_at here code.0 m.storage },
    ap (λ (r : Result (List Token) TextFault). operands_on WrongOperands text k.labels here (operands_in
        (tokens_or r)) >>= λ os. code_line row None here os m) (tokens label op ws said)
        ∙ ap (λ (ts : List Token). operands_on WrongOperands text k.labels here ts >>= λ os. code_line row
        None here os m) (operands_behind label op ws said)
        ∙ ap (λ (r : Result (List Operand) Kind). r >>= λ os. code_line row None here os m) values
        ∙ ap (λ (r : Result (List ℕ) Kind). r >>= λ bs. Ok (record m {
          storage = write_at here bs m.storage;
        })) code.1,
    refl,
  )

  pub cpu_goes : (k : Known) (n here entry : ℕ) → entry < 1048576
      → operands_on BadDirective (line_with label op ws) k.labels here (tokens_for (words_at label op ws) ws)
      ≡ Ok (plain (pos entry) ∷ [])
      → Goes k (task operations.Cpu n here)
  unfolding task_gives read_again tokens_in directive_line entry_line
  cpu_goes k n here entry low values m =
      let q =
      record m { cpus = change_at m.entered (with_address entry) m.cpus; entered = m.entered + 1 } in (
        q,
        ap (λ (r : Result (List Token) TextFault). operands_on BadDirective text k.labels here (operands_in
            (tokens_or r)) >>= λ os. entry_line os m) (tokens label op ws said)
            ∙ ap (λ (ts : List Token). operands_on BadDirective text k.labels here ts >>= λ os. entry_line os
            m)
            (operands_behind label op ws said)
            ∙ ap (λ (r : Result (List Operand) Kind). r >>= λ os. entry_line os m) values
            ∙ ap (λ b. if b then Ok q else Err OutOfRange) (lt-ltb entry 1048576 low),
        refl,
      )

  pub show_passes : (k : Known) (n here first size : ℕ) (m : Machine) → 0 < size → size ≤ 65536 → 8192 ≤
      first → first + size ≤ 1048576 → m.shows ≡ []
      → operands_on BadDirective (line_with label op ws) k.labels here (tokens_for (words_at label op ws) ws)
      ≡ Ok (plain (pos first) ∷ plain (pos size) ∷ [])
      → (q : Machine) × (task_gives k (task operations.Show n here) m ≡ Ok q)
  unfolding task_gives read_again tokens_in directive_line show_line shown
  show_passes k n here first size m some few low high none values =
      let q = record m { shows = m.shows ++ show first size false ∷ [] } in (
        q,
        ap (λ (r : Result (List Token) TextFault). operands_on BadDirective text k.labels here (operands_in
            (tokens_or r)) >>= λ os. show_line os m) (tokens label op ws said)
            ∙ ap (λ (ts : List Token). operands_on BadDirective text k.labels here ts >>= λ os. show_line os
            m)
            (operands_behind label op ws said)
            ∙ ap (λ (r : Result (List Operand) Kind). r >>= λ os. show_line os m) values
            ∙ ap (λ (ss : List Show). if (nat_lt 0 size && (nat_le 8192 first && nat_le (first + size)
            1048576))
            && (nat_lt (length ss) 64 && nat_le (sum_by size_of_show ss + size) 65536) then Ok q else Err
            OutOfRange) none
            ∙ ap (λ b. if (b && (nat_le 8192 first && nat_le (first + size) 1048576)) && nat_le (0 + size)
            65536
            then Ok q else Err OutOfRange) (lt-ltb 0 size some)
            ∙ ap₂ (λ b c. if (b && c) && nat_le (0 + size) 65536 then Ok q else Err OutOfRange) (le-leb 8192
            first low) (le-leb (first + size) 1048576 high)
            ∙ ap (λ b. if b then Ok q else Err OutOfRange) (le-leb (0 + size) 65536 (omega arith)),
      )
