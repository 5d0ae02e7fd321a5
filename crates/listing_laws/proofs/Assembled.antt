-- Both readings of an instruction's printed line.
use Rattle.std.proofs.Common.{◌≡◌, ℕ, ◌<◌, ◌^◌, Bool, false, List, [], ◌++◌}
use Rattle.std.proofs.Common.{Option, Some, None, sym, ap, ap₂, ◌∙◌, arith, subst}
use Rattle.std.specs.Prelude.{Result, Ok, Err, if◌then◌else◌}
use Rattle.z_text.specs.Line.{span}
use Rattle.z_text.specs.Tokens.{tokens_of}
use Rattle.z_text.specs.declared.token.Token.{Token}
use Rattle.z_text.specs.declared.token.TextFault.{TextFault}
use Rattle.z_instr.specs.declared.instr.Instr.{Instr}
use Rattle.z_instr.specs.Reading.{Reads}
use Rattle.z_regs.specs.Prefix.{storage_size}
use Rattle.z_fields.specs.Chain.{◌>>=◌}
use Rattle.z_operands.specs.Operations.{operation_named}
use Rattle.z_operands.specs.Values.{operands_on}
use Rattle.z_fields.specs.declared.fault.Kind.{Kind}
use Rattle.z_fields.specs.declared.fault.Kind.TheVariants.{WrongOperands, BadDirective}
use Rattle.z_operands.specs.declared.operand.Operand.{Operand}
use Rattle.z_operands.specs.declared.operation.Operation.{Operation}
use Rattle.z_operands.specs.declared.operation.Operation.TheVariants.{Instruction}
use Rattle.z_reading.specs.Listing.{Plan, line_gives, instruction_line, operation_line, by_kind}
use Rattle.z_reading.specs.Listing.{said_line, operation_in, named_line, operands_in}
use Rattle.z_setup.specs.Machine.{Machine, Known, task_gives, read_again, tokens_in, tokens_or}
use Rattle.z_setup.specs.Machine.{code_line}
use Rattle.z_reading.specs.Text.{write_at}
use Rattle.listing_laws.specs.Printed.{TakesAgain, GivesBack}
use Rattle.listing_laws.proofs.Words.{tokens_for}
use Rattle.listing_laws.proofs.Lines.{line_with, heads, words_at, op_at, op_end, tokens_of_line, op_there}
use Rattle.listing_laws.proofs.Printed.{name, words, said, line_is, operation_is, operands_are, code_is}

module _ (i : Instr) where
  text : List ℕ
  text = line_with [] (name i) (words i)

  ts : List Token
  ts = tokens_for (words_at [] (name i) (words i)) (words i)

  tokens : tokens_of text ≡ Ok (heads [] (name i) ++ ts)
  unfolding text ts
  tokens = tokens_of_line [] (name i) (words i) (said i)

  operation : operation_named (span (op_at []) (op_end [] (name i)) text)
      ≡ Some (Instruction i.op.number None)
  unfolding text
  operation = ap operation_named (op_there [] (name i) (words i) (said i))
      ∙ operation_is i.op.number i.op.known

  -- the first reading
  taken : (n : ℕ) (p : Plan) → p.ended ≡ false
      → line_gives n text p ≡ instruction_line n [] text i.op.number None p
  unfolding line_gives operation_line
  taken n p open_yet =
      ap (λ (r : Result (List Token) TextFault). by_kind r >>= λ us. said_line n text us (operation_in us)
      p) tokens
      ∙ ap₂ (λ (b : Bool) (o : Option Operation). if b then Err BadDirective
      else named_line o n [] text (op_end [] (name i)) ts p) open_yet operation

  pub takes_again : TakesAgain i
  unfolding text
  takes_again n p open_yet =
      subst (λ (l : List ℕ). line_gives n l p ≡ instruction_line n [] l i.op.number None p) (line_is i)
      (taken n p open_yet)

  -- the second reading
  written : (k : Known) (here line : ℕ) (m : Machine) (bytes : List ℕ) → here < storage_size → Reads bytes i
      → task_gives k (record {
        line = line;
        here = here;
        text = text;
        operation = Instruction i.op.number
            None;
      }) m
      ≡ Ok (record m { storage = write_at here bytes m.storage })
  unfolding task_gives read_again tokens_in code_line text ts
  written k here line m bytes low reads =
      let fits : here < 2 ^ 32 = omega arith in
      ap (λ (r : Result (List Token) TextFault). operands_on WrongOperands text k.labels here (operands_in
      (tokens_or r)) >>= λ os. code_line i.op.number None here os m) tokens
      ∙ ap (λ (r : Result (List Operand) Kind). r >>= λ os. code_line i.op.number None here os m)
      (operands_are i k.labels here)
      ∙ ap (λ (r : Result (List ℕ) Kind). r >>= λ bs. Ok (record m {
        storage = write_at here bs m.storage;
      })) (code_is i k.labels here fits)
      ∙ ap (λ (bs : List ℕ). Ok (record m { storage = write_at here bs m.storage })) (sym reads)

  pub gives_back : GivesBack i
  unfolding text
  gives_back k t m bytes there kind low reads =
      ap₂ (λ (l : List ℕ) (o : Operation). task_gives k (record {
        line = t.line;
        here = t.here;
        text = l;
        operation = o;
      }) m) (there ∙ sym (line_is i)) kind
      ∙ written k t.here t.line m bytes low reads
