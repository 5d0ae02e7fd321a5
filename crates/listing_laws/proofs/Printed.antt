-- The printed line of an instruction: its tokens, its operation, and its bytes again.
use Rattle.std.proofs.Common.{◌≡◌, ℕ, ◌<◌, ◌≤◌, ◌^◌, true, false, not, ◌&&◌}
use Rattle.std.proofs.Common.{List, [], ◌∷◌, ◌++◌, length, map}
use Rattle.std.proofs.Common.{Option, Some, None, is_none, refl, sym, ap, ap₂, ◌∙◌, arith, lt-ltb}
use Rattle.std.proofs.Common.{length-append, cond}
use Rattle.std.specs.Prelude.{ℤ, pos, ◌+ℤ◌, ◌-◌, Ok, Err, nat_lt, nat_le, if◌then◌else◌}
use Rattle.std.specs.List.{list_all, list_any}
use Rattle.std.specs.Char.{to_ascii_uppercase, is_ascii_uppercase}
use Rattle.std.proofs.lemmas.Bool.{and_parts, leb-true, not-true}
use Rattle.z_regs.proofs.Elements.{is_nothing}
use Rattle.z_text.specs.Line.{is_name, keeps_operands_whole}
use Rattle.z_instr.specs.declared.instr.Instr.{Instr}
use Rattle.z_instr.specs.declared.table.TheConstants.{ROWS}
use Rattle.z_instr.specs.Forms.{slots}
use Rattle.z_instr.specs.Made.{no_fields, fields_of}
use Rattle.z_instr.specs.Reading.{spelling}
use Rattle.z_instr.specs.Table.{Entry, entry_at}
use Rattle.z_instr.proofs.Within.{instr_fits}
use Rattle.z_instr.proofs.TableFacts.{passes_row, fitting_name}
use Rattle.z_fields.specs.Chain.{◌>>=◌}
use Rattle.z_operands.specs.Code.{code_of, code_for}
use Rattle.z_operands.specs.Operands.{operands_from, operands_of as read_operands, instruction_in}
use Rattle.z_operands.specs.Operands.{lacks_value, fields_from, allowed}
use Rattle.z_operands.specs.Operands.{goes_on_rightly, with_operand}
use Rattle.z_operands.specs.Operations.{operation_named, directive_named, instruction, or_else}
use Rattle.z_operands.specs.Operations.{extended, branch_mask}
use Rattle.z_operands.specs.Values.{Table, operands_on, wanted}
use Rattle.z_fields.specs.declared.fault.Kind.TheVariants.{OutOfRange, UnknownLabel, WrongOperands}
use Rattle.z_operands.specs.declared.operand.Atom.{Atom}
use Rattle.z_operands.specs.declared.operand.Atom.TheVariants as atoms
use Rattle.z_operands.specs.declared.operand.Operand as read
use Rattle.z_operands.specs.declared.operand.Operand.TheVariants.{Plain, Short, Full}
use Rattle.z_operands.specs.declared.operation.Operation.{Operation}
use Rattle.z_operands.specs.declared.operation.Operation.TheVariants.{Instruction}
use Rattle.z_operands.proofs.Rows.{row_found}
use Rattle.z_list.specs.declared.parts.Operand.{Operand}
use Rattle.z_list.specs.declared.parts.Operand.TheVariants.{Number, Target, Indexed, Based, Counted}
use Rattle.z_list.specs.Operands.{operands_of, instruction_text}
use Rattle.listing_laws.proofs.Words.{Word, tokens_for}
use Rattle.listing_laws.proofs.Lines.{field, line_with, IsSaid, words_at}
use Rattle.listing_laws.proofs.Lines.{words_lie}
use Rattle.listing_laws.proofs.Spelled.{words_of, field_is, words_cut, field_short, AreAllFew}
use Rattle.listing_laws.proofs.Values.{atoms_of, further_atoms, all_atoms, all_parts}
use Rattle.listing_laws.proofs.Given.{made, all_have_values, given}
use Rattle.listing_laws.proofs.Few.{few_operands, at_most_four, has_its_form}

-- ---- the names of the table

name_named : (n : ℕ) → n < ROWS → is_name (entry_at n).name ≡ true
name_named = passes_row (λ (e : Entry). is_name e.name) refl

name_split : (n : ℕ) → n < ROWS → keeps_operands_whole (entry_at n).name ≡ false
name_split n h = not-true _ (passes_row (λ (e : Entry). not (keeps_operands_whole e.name)) refl n h)

-- capitals stay capitals
capital : (b : ℕ) → is_ascii_uppercase b ≡ true → to_ascii_uppercase b ≡ b
capital b h =
    let parts = and_parts (nat_le 65 b) (nat_le b 90) h in
    let low : b ≤ 90 = leb-true b 90 parts.1 in
    let below : b < 97 = omega arith in
    ap (λ c. cond c b (cond (nat_lt b 123) (b - 32) b)) (lt-ltb b 97 below)

capitals : (bs : List ℕ) → list_all is_ascii_uppercase bs ≡ true → map to_ascii_uppercase bs ≡ bs
capitals [] h = refl
capitals (b ∷ bs) h =
    let parts = and_parts (is_ascii_uppercase b) (list_all is_ascii_uppercase bs) h in
    ap₂ (λ (c : ℕ) (cs : List ℕ). c ∷ cs) (capital b parts.0) (capitals bs parts.1)

name_capital : (n : ℕ) → n < ROWS → map to_ascii_uppercase (entry_at n).name ≡ (entry_at n).name
name_capital n h = capitals _ (passes_row (λ (e : Entry). list_all is_ascii_uppercase e.name) refl n h)

name_short : (n : ℕ) → n < ROWS → length (entry_at n).name ≤ 8
name_short n h =
    let e = entry_at n in
    let some = and_parts (nat_lt 0 (length e.name)) (nat_le (length e.name) 8 && list_all (λ letter. nat_lt
    letter 128) e.name) (fitting_name n h) in
    leb-true _ _ (and_parts (nat_le (length e.name) 8) (list_all (λ letter. nat_lt letter 128) e.name)
    some.1).0

directives_apart : (k : ℕ) → k < ROWS → is_none (directive_named (entry_at k).name) ≡ true
unfolding directive_named
directives_apart = passes_row (λ (e : Entry). is_none (directive_named e.name)) refl

no_directive : (n : ℕ) → n < ROWS → directive_named (entry_at n).name ≡ None
no_directive n h = is_nothing (directive_named (entry_at n).name) (directives_apart n h)

pub operation_is : (n : ℕ) → n < ROWS → operation_named (entry_at n).name ≡ Some (Instruction n None)
unfolding operation_named
operation_is n h =
    let name = (entry_at n).name in
    ap₂ (λ (d : Option Operation) (r : Option ℕ). or_else d (or_else (instruction r None) (extended name
    (branch_mask name))))
    (no_directive n h) (sym (row_found name n h refl))

-- ---- the line

module _ (i : Instr) where
  abbrev pub row : ℕ
  row = i.op.number

  abbrev pub name : List ℕ
  name = (entry_at i.op.number).name

  abbrev pub words : List Word
  words = words_of (operands_of i)

  few : AreAllFew (operands_of i)
  few = few_operands (slots (entry_at i.op.number).form) i

  pub said : IsSaid [] name words
  said = record {
    label_named = refl;
    named = name_named i.op.number i.op.known;
    split = name_split i.op.number i.op.known;
    label_capital = refl;
    op_capital = name_capital i.op.number i.op.known;
    words = words_cut (operands_of i) few;
    short = omega (
      arith,
      length-append name (field words),
      name_short i.op.number i.op.known,
      field_short
          (operands_of i) few,
      at_most_four i,
    );
  }

  pub line_is : line_with [] name words ≡ 32 ∷ instruction_text i
  unfolding instruction_text
  line_is = ap (λ (f : List ℕ). 32 ∷ (name ++ f)) (field_is (operands_of i))

-- ---- operands out of their parts

module _ (line : List ℕ) (labels : Table) (here : ℕ) where
  abbrev behind : List Operand → List Atom
  behind os = further_atoms line labels here os

  goes_on : (os : List Operand) → goes_on_rightly (behind os) ≡ true
  goes_on [] = refl
  goes_on (Number z ∷ os) = refl
  goes_on (Target z ∷ os) = refl
  goes_on (Indexed d x b ∷ os) = refl
  goes_on (Based d b ∷ os) = refl
  goes_on (Counted d c b ∷ os) = refl

  one_read : (o : read.Operand) (rest : List Operand) (k : Option (List read.Operand))
      → operands_from 1 (behind rest) ≡ k
      → with_operand (if goes_on_rightly (behind rest) then Some o
      else None) (operands_from 1 (behind rest)) ≡ with_operand (Some o) k
  one_read o rest k e = ap₂ (λ b r. with_operand (if b then Some o else None) r) (goes_on rest) e

  plain_read : (x : Option ℤ) (rest : List Operand) (k : List read.Operand)
      → operands_from 1 (behind rest) ≡ Some k
      → operands_from 0 (atoms.Value x ∷ behind rest) ≡ Some (Plain x ∷ k)
  unfolding operands_from
  plain_read x [] k e = one_read (Plain x) [] (Some k) e
  plain_read x (o ∷ os) k e = one_read (Plain x) (o ∷ os) (Some k) e

  short_read : (x y : Option ℤ) (rest : List Operand) (k : List read.Operand)
      → operands_from 1 (behind rest) ≡ Some k
      → operands_from 0 (atoms.Value x ∷ atoms.Open ∷ atoms.Value y ∷ atoms.Close ∷ behind rest)
      ≡ Some (Short x y ∷ k)
  unfolding operands_from
  short_read x y rest k e = one_read (Short x y) rest (Some k) e

  full_read : (x y z : Option ℤ) (rest : List Operand) (k : List read.Operand)
      → operands_from 1 (behind rest) ≡ Some k
      → operands_from 0 (atoms.Value x ∷ atoms.Open ∷ atoms.Value y ∷ atoms.Comma ∷ atoms.Value z ∷
      atoms.Close ∷ behind rest) ≡ Some (Full x y z ∷ k)
  unfolding operands_from
  full_read x y z rest k e = one_read (Full x y z) rest (Some k) e

  operand_read : (o : Operand) (rest : List Operand) (k : List read.Operand)
      → operands_from 1 (behind rest) ≡ Some k
      → operands_from 0 (atoms_of line labels here o ++ behind rest) ≡ Some (made here o ∷ k)
  operand_read (Number z) rest k e = plain_read (Some z) rest k e
  operand_read (Target z) rest k e = plain_read (Some (pos here +ℤ z)) rest k e
  operand_read (Indexed d x b) rest k e = full_read (Some d) (Some (pos x)) (Some (pos b)) rest k e
  operand_read (Based d b) rest k e = short_read (Some d) (Some (pos b)) rest k e
  operand_read (Counted d c b) rest k e = full_read (Some d) (Some (pos c)) (Some (pos b)) rest k e

  behind_read : (os : List Operand) → operands_from 1 (behind os) ≡ Some (map (made here) os)
  unfolding operands_from
  behind_read [] = refl
  behind_read (o ∷ os) = operand_read o os (map (made here) os) (behind_read os)

  all_read : (os : List Operand) → operands_from 0 (all_atoms line labels here os)
      ≡ Some (map (made here) os)
  unfolding operands_from
  all_read [] = refl
  all_read (o ∷ os) = operand_read o os (map (made here) os) (behind_read os)

-- ---- the operands and the bytes of the line

module _ (i : Instr) (labels : Table) (here : ℕ) where
  abbrev pub printed : List ℕ
  printed = line_with [] (name i) (words i)

  abbrev pub place : ℕ
  place = words_at [] (name i) (words i)

  pub operands_are : operands_on WrongOperands printed labels here (tokens_for place (words i))
      ≡ Ok (map (made here) (operands_of i))
  unfolding read_operands
  operands_are =
      ap (wanted WrongOperands)
      (ap (operands_from 0) (all_parts printed labels here (operands_of i) place (few i) (words_lie []
      (name i) (words i) (said i)))
      ∙ all_read printed labels here (operands_of i))

  pub code_is : here < 2 ^ 32 → code_for (entry_at i.op.number) None here (map (made here) (operands_of i))
      ≡ Ok (spelling (entry_at i.op.number) i)
  unfolding instruction_in code_of
  code_is low =
      let e = entry_at i.op.number in
      let os = map (made here) (operands_of i) in
      let form = has_its_form here (slots e.form) (fields_of i) in
      ap (λ b. (if not b then Err WrongOperands else (if list_any lacks_value os then Err UnknownLabel
      else allowed e (fields_from here (slots e.form) os no_fields))) >>= λ f. Ok (code_of e f)) form
      ∙ ap (λ b. (if b then Err UnknownLabel else allowed e (fields_from here (slots e.form) os no_fields))
      >>= λ f. Ok (code_of e f)) (all_have_values here (operands_of i))
      ∙ ap (λ o. allowed e o >>= λ f. Ok (code_of e f)) (given here low i)
      ∙ ap (λ b. (if b then Ok (fields_of i) else Err OutOfRange) >>= λ f. Ok (code_of e f)) (instr_fits i)
