-- As many CPUs as CPU lines.
use Rattle.std.proofs.Common.{◌≡◌, ℕ, pos, ◌+◌, List, [], ◌∷◌, length, Option, Ok, sym, ap}
use Rattle.std.proofs.Common.{◌∙◌, arith, nat_lt}
use Rattle.z_text.specs.declared.token.Token.{Token}
use Rattle.z_fields.specs.Data.{data_of}
use Rattle.z_operands.specs.Operations.{size_of_row}
use Rattle.z_fields.specs.declared.fault.Kind.TheVariants.{OutOfRange, BadDirective}
use Rattle.z_operands.specs.declared.operation.Operation.{Operation}
use Rattle.z_operands.specs.declared.operation.Operation.TheVariants.{Instruction, Org, Equ, Ds, Dc, Cpu, Reg}
use Rattle.z_operands.specs.declared.operation.Operation.TheVariants.{Show, Tdb, Sched, Parm, Prefix, End}
use Rattle.z_reading.specs.Listing.{Plan, labelled, value_on, placed, written, started}
use Rattle.z_reading.specs.Listing.{org_line, equ_line, ds_line, dc_line, instruction_line, cpu_line}
use Rattle.z_reading.specs.Listing.{end_line}
use Rattle.z_reading.specs.Listing.{operation_line, is_doubleword, is_below, to_nat, field_behind}
use Rattle.statement_laws.specs.Statements.{Statement}
use Rattle.statement_laws.proofs.Acted.{Walk}
use Rattle.z_assemble.proofs.Passed.{then_ok, where_ok, unless_ok, same_ok}
use Rattle.z_assemble.proofs.Plans.{place_holds, ds_by}

-- no CPU more
abbrev Keeps : Plan → Plan → Type 0
Keeps p r = r.cpus ≡ p.cpus

from_same : (p r : Plan) → p ≡ r → Keeps p r
from_same p r e = sym (ap (λ (x : Plan). x.cpus) e)

placed_keeps : (n : ℕ) (l r : Plan) → placed n l ≡ Ok r → Keeps l r
placed_keeps n l r e = sym (ap (λ (x : Plan). x.cpus) (place_holds n l r e).is)

written_keeps : (bytes : List ℕ) (l r : Plan) → written bytes l ≡ Ok r → Keeps l r
unfolding written
written_keeps bytes l r e =
    let t = then_ok (placed (length bytes) l) _ r e in
    from_same _ r (same_ok _ r t.2) ∙ placed_keeps (length bytes) l t.0 t.1

started_keeps : (n : ℕ) (l r : Plan) → started n l ≡ Ok r → Keeps l r
unfolding started
started_keeps n l r e =
    let u = unless_ok _ _ r OutOfRange e in
    let t = then_ok (placed n l) _ r u.1 in
    from_same _ r (same_ok _ r t.2) ∙ placed_keeps n l t.0 t.1

instruction_keeps : (n row : ℕ) (mask : Option ℕ) (label line : List ℕ) (p r : Plan) →
    instruction_line n label line row mask p ≡ Ok r → Keeps p r
unfolding instruction_line
instruction_keeps n row mask label line p r e =
    let l = labelled label (pos p.here) p in
    let t = then_ok (started (size_of_row row) l) _ r e in
    from_same _ r (same_ok _ r t.2) ∙ started_keeps (size_of_row row) l t.0 t.1

ds_keeps : (label line : List ℕ) (ts : List Token) (p r : Plan) → ds_line label line ts p ≡ Ok r → Keeps p r
unfolding ds_line
ds_keeps label line ts p r e =
    let t = then_ok (value_on line ts p) _ r e in
    let l = labelled label (pos p.here) p in
    placed_keeps (to_nat t.0) l r (ds_by (is_below 1048577 t.0) (placed (to_nat t.0) l) r t.2)

dc_keeps : (label field : List ℕ) (p r : Plan) → dc_line label field p ≡ Ok r → Keeps p r
unfolding dc_line
dc_keeps label field p r e =
    let t = then_ok (data_of field) _ r e in
    written_keeps t.0 (labelled label (pos p.here) p) r t.2

equ_keeps : (label line : List ℕ) (ts : List Token) (p r : Plan) → equ_line label line ts p ≡ Ok r → Keeps p r
unfolding equ_line
equ_keeps label line ts p r e =
    let t = then_ok (value_on line ts p) _ r e in
    let w = where_ok (is_doubleword t.0) (labelled label t.0 p) r OutOfRange t.2 in
    from_same _ r w.1

org_keeps : (line : List ℕ) (ts : List Token) (p r : Plan) → org_line line ts p ≡ Ok r → Keeps p r
unfolding org_line
org_keeps line ts p r e =
    let t = then_ok (value_on line ts p) _ r e in
    let w = where_ok _ _ r OutOfRange t.2 in
    from_same _ r w.1

end_keeps : (ts : List Token) (p r : Plan) → end_line ts p ≡ Ok r → Keeps p r
unfolding end_line
end_keeps ts p r e = let w = where_ok _ _ r BadDirective e in from_same _ r w.1

cpu_adds : (n : ℕ) (line : List ℕ) (p r : Plan) → cpu_line n line p ≡ Ok r → r.cpus ≡ p.cpus + 1
unfolding cpu_line
cpu_adds n line p r e =
    let w = where_ok (nat_lt p.cpus 16) _ r OutOfRange e in from_same _ r w.1

-- CPU is one more
abbrev pub count_by : Operation → ℕ
count_by Cpu = 1
count_by _ = 0

abbrev pub count_of : Statement → ℕ
count_of s = count_by s.operation

-- how many CPU lines
abbrev pub count_all : List Statement → ℕ
count_all [] = 0
count_all (s ∷ ss) = count_of s + count_all ss

none : (p r : Plan) → Keeps p r → r.cpus ≡ p.cpus + 0
none p r k = omega (arith, k)

count_step : (op : Operation) (s : Statement) (p r : Plan) →
    operation_line op s.number s.label s.text s.end s.operands p ≡ Ok r → r.cpus ≡ p.cpus + count_by op
unfolding operation_line
count_step (Instruction row mask) s p r e = none p r
    (instruction_keeps s.number row mask s.label s.text p r e)
count_step Org s p r e = none p r (org_keeps s.text s.operands p r e)
count_step Equ s p r e = none p r (equ_keeps s.label s.text s.operands p r e)
count_step Ds s p r e = none p r (ds_keeps s.label s.text s.operands p r e)
count_step Dc s p r e = none p r (dc_keeps s.label (field_behind s.end s.text) p r e)
count_step Cpu s p r e = cpu_adds s.number s.text p r e
count_step Reg s p r e = none p r (from_same _ r (same_ok _ r e))
count_step Show s p r e = none p r (from_same _ r (same_ok _ r e))
count_step Tdb s p r e = none p r (from_same _ r (same_ok _ r e))
count_step Sched s p r e = none p r (from_same _ r (same_ok _ r e))
count_step Parm s p r e = none p r (from_same _ r (same_ok _ r e))
count_step Prefix s p r e = none p r (from_same _ r (same_ok _ r e))
count_step End s p r e = none p r (end_keeps s.operands p r e)

pub all_counted : (ss : List Statement) (p q : Plan) → Walk ss p q → q.cpus ≡ p.cpus + count_all ss
all_counted [] p q w = let k = from_same p q w in omega (arith, k)
all_counted (s ∷ ss) p q w =
    let k = all_counted ss w.0 q w.2 in
    let c = count_step s.operation s p w.0 w.1.does in
    omega (arith, k, c)
