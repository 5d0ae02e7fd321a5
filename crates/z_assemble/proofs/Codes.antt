-- What the second reading writes: the code of each instruction, which later lines leave.
use Rattle.std.proofs.Common.{◌≡◌, ℕ, suc, ◌+◌, ◌<◌, Bool, true, not, List, [], ◌∷◌, length, get_or, drop}
use Rattle.std.proofs.Common.{Option, Some, None, Ok, Err, refl, sym, ap, ◌∙◌, subst, arith}
use Rattle.std.specs.Prelude.{All, AllPairs, if◌then◌else◌}
use Rattle.std.specs.List.{list_any}
use Rattle.std.proofs.lemmas.List.Elements.{All-cons, All-head, All-tail, All-nil}
use Rattle.z_instr.proofs.Within.{below_sixteen}
use Rattle.z_instr.specs.Ranges.{limits_of}
use Rattle.z_instr.specs.Reading.{Reads, code, number_of}
use Rattle.z_instr.specs.Table.{Entry, entry_at}
use Rattle.z_instr.specs.declared.instr.Fields.{Fields}
use Rattle.z_instr.specs.declared.instr.Instr.{Instr}
use Rattle.z_instr.specs.declared.table.TheConstants.{ROWS}
use Rattle.z_text.specs.declared.token.Token.{Token}
use Rattle.z_operands.specs.Code.{code_of, code_for}
use Rattle.z_reading.specs.Listing.{Task, operands_in, operation_in, field_behind, heads_in}
use Rattle.z_setup.specs.Machine.{Machine, Known, entry_line, register_line, shown, show_line, block_line}
use Rattle.z_setup.specs.Machine.{parameter_line, prefix_line, schedule_line, code_line, named_parameter}
use Rattle.z_setup.specs.Machine.{parameter_in, directive_line, read_again, task_gives, tokens_in}
use Rattle.z_setup.specs.Machine.{operands_for, end_of}
use Rattle.z_operands.specs.Operands.{instruction_in, has_form, slots_for, lacks_value, allowed, are_allowed}
use Rattle.z_operands.specs.Operands.{fields_from, fields_for}
use Rattle.z_operands.specs.Operations.{size_of_row}
use Rattle.z_fields.specs.Schedule.{scheduled}
use Rattle.z_reading.specs.Text.{write_at}
use Rattle.z_operands.specs.Values.{one_in, two_in, three_in}
use Rattle.z_assemble.specs.Whole.{Second}
use Rattle.z_fields.specs.declared.fault.Kind.TheVariants.{OutOfRange, BadDirective, WrongOperands}
use Rattle.z_fields.specs.declared.fault.Kind.TheVariants.{UnknownLabel}
use Rattle.z_operands.specs.declared.operand.Operand.{Operand}
use Rattle.z_operands.specs.declared.operation.Operation.{Operation}
use Rattle.z_operands.specs.declared.operation.Operation.TheVariants as operations
use Rattle.z_setup.specs.declared.parameter.Parameter.{Parameter}
use Rattle.z_assemble.proofs.Over.{write_size, write_other, write_inside}
use Rattle.z_assemble.proofs.Passed.{then_ok, where_ok, unless_ok, same_ok, is_true}
use Rattle.z_assemble.proofs.Plans.{Places, PlacesAt, AreApart, IsWithin, IsInTable, IsInRoom}
use Rattle.z_instr.proofs.Wholes.{length_spelled}

-- ---- the code of an instruction

pub size_in : (row : ℕ) (f : Fields) → length (code (entry_at row) f) ≡ size_of_row row
size_in row f =
    let e = entry_at row in
    length_spelled e.form (number_of e.opcode f)

-- the bytes read as an instruction, and have the row's size
pub record IsCode (row : ℕ) (bytes : List ℕ) : Type 0 where
  pub instr : Instr
  pub reads : Reads bytes instr
  pub size : length bytes ≡ size_of_row row

is_code : (row : ℕ) (f : Fields) → row < ROWS → are_allowed (entry_at row) f ≡ true →
    IsCode row (code_of (entry_at row) f)
unfolding code_of
is_code row f known a =
    let e = entry_at row in
    let b = below_sixteen (limits_of e) e f.r1 f.r2 f.r3 f.x f.b f.d f.b2 f.d2 f.imm f.mask refl a in
    let i : Instr = record {
      op = record { number = row; known = known };
      r1 = f.r1;
      r2 = f.r2;
      r3 = f.r3;
      x = f.x;
      b = f.b;
      d = f.d;
      b2 = f.b2;
      d2 = f.d2;
      imm = f.imm;
      mask = f.mask;
      r1_in = b.r1_in;
      r2_in = b.r2_in;
      r3_in = b.r3_in;
      x_in = b.x_in;
      b_in = b.b_in;
      b2_in = b.b2_in;
      mask_in = b.mask_in;
      shaped = is_true _ a;
    } in
    record { instr = i; reads = refl; size = size_in row f }

allowed_holds : (e : Entry) (o : Option Fields) (f : Fields) → allowed e o ≡ Ok f → are_allowed e f ≡ true
allowed_holds e None f h = absurd (cc)
allowed_holds e (Some g) f h = let w = where_ok (are_allowed e g) g f OutOfRange h in subst
    (λ q. are_allowed e q ≡ true) w.1 w.0

fields_allowed : (e : Entry) (mask : Option ℕ) (here : ℕ) (os : List Operand) (f : Fields) →
    instruction_in e mask here os ≡ Ok f → are_allowed e f ≡ true
unfolding instruction_in
fields_allowed e mask here os f h =
    let a = unless_ok (not (has_form (slots_for e mask) os)) _ f WrongOperands h in
    let b = unless_ok (list_any lacks_value os) _ f UnknownLabel a.1 in
    allowed_holds e (fields_from here (slots_for e mask) os (fields_for mask)) f b.1

-- ---- what a line writes

abbrev pub WritesAt : ℕ → Operation → Machine → Machine → Type 0
WritesAt here (operations.Instruction row mask) m r =
    (bytes : List ℕ) × IsCode row bytes × (r.storage ≡ write_at here bytes m.storage)
WritesAt here _ m r = r.storage ≡ m.storage

code_writes : (row : ℕ) (mask : Option ℕ) (here : ℕ) (os : List Operand) (m r : Machine) → row < ROWS →
    code_line row mask here os m ≡ Ok r →
    (bytes : List ℕ) × IsCode row bytes × (r.storage ≡ write_at here bytes m.storage)
unfolding code_line
code_writes row mask here os m r known e =
    let t = then_ok (code_for (entry_at row) mask here os)
    (λ bytes. Ok (record m { storage = write_at here bytes m.storage })) r e in
    let f = then_ok (instruction_in (entry_at row) mask here os)
    (λ f. Ok (code_of (entry_at row) f)) t.0 t.1 in
    let code = is_code row f.0 known (fields_allowed (entry_at row) mask here os f.0 f.1) in
    (t.0, subst (IsCode row) (same_ok _ t.0 f.2) code, sym (ap (λ x. x.storage) (same_ok _ r t.2)))

where_same : (t : Bool) (x r : Machine) → (if t then Ok x else Err OutOfRange) ≡ Ok r → r.storage ≡ x.storage
where_same t x r e = let w = where_ok t x r OutOfRange e in sym (ap (λ (m : Machine). m.storage) w.1)

entry_leaves : (os : List Operand) (m r : Machine) → entry_line os m ≡ Ok r → r.storage ≡ m.storage
unfolding entry_line
entry_leaves os m r e = let t = then_ok (one_in os) _ r e in where_same _ _ r t.2

register_leaves : (os : List Operand) (m r : Machine) → register_line os m ≡ Ok r → r.storage ≡ m.storage
unfolding register_line
register_leaves os m r e = let t = then_ok (three_in os) _ r e in where_same _ _ r t.2

prefix_leaves : (tasks : List Task) (os : List Operand) (m r : Machine) → prefix_line tasks os m ≡ Ok r →
    r.storage ≡ m.storage
unfolding prefix_line
prefix_leaves tasks os m r e = let t = then_ok (two_in os) _ r e in where_same _ _ r t.2

show_leaves : (os : List Operand) (m r : Machine) → show_line os m ≡ Ok r → r.storage ≡ m.storage
unfolding show_line shown
show_leaves os m r e = let t = then_ok (two_in os) _ r e in where_same _ _ r t.2

block_leaves : (os : List Operand) (m r : Machine) → block_line os m ≡ Ok r → r.storage ≡ m.storage
unfolding block_line shown
block_leaves os m r e = let t = then_ok (one_in os) _ r e in where_same _ _ r t.2

parameter_leaves : (p : Parameter) (os : List Operand) (m r : Machine) → parameter_line p os m ≡ Ok r →
    r.storage ≡ m.storage
unfolding parameter_line
parameter_leaves p os m r e = let t = then_ok (one_in os) _ r e in where_same _ _ r t.2

named_leaves : (o : Option Parameter) (k : Known) (t : Task) (ts : List Token) (m r : Machine) →
    named_parameter o k t ts m ≡ Ok r → r.storage ≡ m.storage
named_leaves None k t ts m r e = absurd (cc)
named_leaves (Some p) k t ts m r e = let g = then_ok
    (operands_for BadDirective k t ts) _ r e in parameter_leaves p g.0 m r g.2

schedule_leaves : (field : List ℕ) (m r : Machine) → schedule_line field m ≡ Ok r → r.storage ≡ m.storage
unfolding schedule_line
schedule_leaves field m r e =
    let t = then_ok (scheduled (length m.cpus) field m.schedule)
    (λ es. Ok (record m { schedule = es; scheduled = true })) r e in
    sym (ap (λ (x : Machine). x.storage) (same_ok _ r t.2))

directive_leaves : (op : Operation) (k : Known) (os : List Operand) (m r : Machine) →
    directive_line op k os m ≡ Ok r → r.storage ≡ m.storage
unfolding directive_line
directive_leaves operations.Cpu k os m r e = entry_leaves os m r e
directive_leaves operations.Reg k os m r e = register_leaves os m r e
directive_leaves operations.Show k os m r e = show_leaves os m r e
directive_leaves operations.Tdb k os m r e = block_leaves os m r e
directive_leaves operations.Prefix k os m r e = prefix_leaves k.tasks os m r e
directive_leaves _ k os m r e = sym (ap (λ (x : Machine). x.storage) (same_ok m r e))

read_writes : (op : Operation) (k : Known) (t : Task) (ts : List Token) (m r : Machine) → IsInTable op →
    read_again op k t ts m ≡ Ok r → WritesAt t.here op m r
unfolding read_again
read_writes (operations.Instruction row mask) k t ts m r known e =
    let g = then_ok (operands_for WrongOperands k t
    (operands_in ts)) _ r e in code_writes row mask t.here g.0 m r known g.2
read_writes operations.Sched k t ts m r known e = schedule_leaves
    (field_behind (end_of (operation_in ts)) t.text) m r e
read_writes operations.Parm k t ts m r known e = named_leaves (parameter_in t.text (operands_in ts)) k t
    (drop (heads_in ts + 2) ts) m r e
read_writes op k t ts m r known e =
    let g = then_ok (operands_for BadDirective k t
    (operands_in ts)) _ r e in directive_leaves op k g.0 m r g.2

pub task_writes : (k : Known) (t : Task) (m r : Machine) → IsWithin t → task_gives k t m ≡ Ok r →
    WritesAt t.here t.operation m r
unfolding task_gives
task_writes k t m r w e = read_writes t.operation k t (tokens_in t.text) m r w.row e

-- ---- storage after a line

-- the bytes of the instruction's code stand there
pub record HasCode (storage : List ℕ) (here row : ℕ) : Type 0 where
  pub bytes : List ℕ
  pub code : IsCode row bytes
  pub there : (j : ℕ) → j < length bytes → get_or storage (here + j) 0 ≡ get_or bytes j 0

abbrev pub HasCodeAt : List ℕ → ℕ → Operation → Type 0
HasCodeAt storage here (operations.Instruction row mask) = HasCode storage here row
HasCodeAt storage here _ = Unit {0}

abbrev pub IsCoded : List ℕ → Task → Type 0
IsCoded storage t = HasCodeAt storage t.here t.operation

pub step_size : (here : ℕ) (op : Operation) (m r : Machine) → IsInRoom here op → WritesAt here op m r →
    length m.storage ≡ 1048576 → length r.storage ≡ 1048576
step_size here (operations.Instruction row mask) m r room w s =
    let size = w.1.size in
    ap length w.2 ∙ write_size here w.0 m.storage (λ some. omega (arith, size, room.1)) ∙ s
step_size here _ m r room w s = ap length w ∙ s

step_stays : (here : ℕ) (op : Operation) (m r : Machine) → IsInRoom here op → WritesAt here op m r →
    length m.storage ≡ 1048576 →
    (x : ℕ) → (PlacesAt here op x → ⊥) → get_or r.storage x 0 ≡ get_or m.storage x 0
step_stays here (operations.Instruction row mask) m r room w s x o =
    let size = w.1.size in
    ap (λ q. get_or q x 0) w.2 ∙ write_other here w.0 m.storage x 0 (λ some. omega (arith, size, room.1))
    (λ a b. o (a, omega (arith, size)))
step_stays here _ m r room w s x o = ap (λ q. get_or q x 0) w

step_codes : (here : ℕ) (op : Operation) (m r : Machine) → IsInRoom here op → WritesAt here op m r →
    length m.storage ≡ 1048576 → HasCodeAt r.storage here op
step_codes here (operations.Instruction row mask) m r room w s =
    let size = w.1.size in
    record {
      bytes = w.0;
      code = w.1;
      there = λ j l. ap (λ q. get_or q (here + j) 0) w.2
          ∙ write_inside here w.0 m.storage j 0 (omega (arith, room.1)) l;
    }
step_codes here _ m r room w s = tt

-- ---- storage after all lines

pub stays : (k : Known) (ts : List Task) (m q : Machine) → Second k ts m q → All IsWithin ts →
    length m.storage ≡ 1048576 →
    (x : ℕ) → All (λ t. Places t x → ⊥) ts → get_or q.storage x 0 ≡ get_or m.storage x 0
stays k [] m q h w s x o = ap (λ (r : Machine). get_or r.storage x 0) (sym h)
stays k (t ∷ ts) m q h w s x o =
    let inside = All-head IsWithin t ts w in
    let writes = task_writes k t m h.0 inside h.1 in
    let size = step_size t.here t.operation m h.0 inside.room writes s in
    stays k ts h.0 q h.2 (All-tail IsWithin t ts w) size x (All-tail (λ u. Places u x → ⊥) t ts o)
    ∙ step_stays t.here t.operation m h.0 inside.room writes s x (All-head (λ u. Places u x → ⊥) t ts o)

pub keeps_size : (k : Known) (ts : List Task) (m q : Machine) → Second k ts m q → All IsWithin ts →
    length m.storage ≡ 1048576 → length q.storage ≡ 1048576
keeps_size k [] m q h w s = ap (λ (r : Machine). length r.storage) (sym h) ∙ s
keeps_size k (t ∷ ts) m q h w s =
    let inside = All-head IsWithin t ts w in
    let writes = task_writes k t m h.0 inside h.1 in
    keeps_size k ts h.0 q h.2 (All-tail IsWithin t ts w)
    (step_size t.here t.operation m h.0 inside.room writes s)

code_stays : (here : ℕ) (op : Operation) (old new : List ℕ) →
    ((x : ℕ) → PlacesAt here op x → get_or new x 0 ≡ get_or old x 0) → HasCodeAt old here op →
    HasCodeAt new here op
code_stays here (operations.Instruction row mask) old new same c =
    let size = c.code.size in
    record {
      bytes = c.bytes;
      code = c.code;
      there = λ j l. same (here + j) (omega arith, omega (arith, size))
          ∙ c.there j l;
    }
code_stays here _ old new same c = tt

pub coded : (k : Known) (ts : List Task) (m q : Machine) → Second k ts m q → All IsWithin ts →
    AllPairs AreApart ts → length m.storage ≡ 1048576 → All (IsCoded q.storage) ts
coded k [] m q h w a s = All-nil (IsCoded q.storage)
coded k (t ∷ ts) m q h w a s =
    let inside = All-head IsWithin t ts w in
    let writes = task_writes k t m h.0 inside h.1 in
    let size = step_size t.here t.operation m h.0 inside.room writes s in
    let rest = All-tail IsWithin t ts w in
    let same : (x : ℕ) → Places t x → get_or q.storage x 0 ≡ get_or h.0.storage x 0 =
    λ x p. stays k ts h.0 q h.2 rest size x (λ j d l u. a 0 (suc j) d (omega arith) (omega arith) x p u) in
    All-cons (IsCoded q.storage) t ts
    (code_stays t.here t.operation h.0.storage q.storage same
    (step_codes t.here t.operation m h.0 inside.room writes s))
    (coded k ts h.0 q h.2 rest (λ i j d l g. a (suc i) (suc j) d (omega arith) (omega arith)) size)
