-- What each line of the second reading leaves of the machine.
use Rattle.std.proofs.Common.{◌≡◌, ℕ, ℤ, pos, ◌+◌, Bool, true, false, List, [], ◌∷◌, ◌++◌, length}
use Rattle.std.proofs.Common.{drop, drop-drop, Option, Some, None, Ok, refl, ap, ◌∙◌}
use Rattle.z_text.specs.declared.token.Token.{Token}
use Rattle.z_instr.specs.Reading.{modulo}
use Rattle.z_instr.specs.Table.{entry_at}
use Rattle.z_fields.specs.Chain.{◌>>=◌}
use Rattle.z_operands.specs.Code.{code_for}
use Rattle.z_fields.specs.Schedule.{scheduled}
use Rattle.z_operands.specs.Values.{one_in, two_in, three_in}
use Rattle.z_fields.specs.declared.fault.Kind.TheVariants.{OutOfRange, BadDirective, WrongOperands}
use Rattle.z_operands.specs.declared.operand.Operand.{Operand}
use Rattle.z_operands.specs.declared.operation.Operation.{Operation}
use Rattle.z_operands.specs.declared.operation.Operation.TheVariants as operations
use Rattle.tx_journal.specs.declared.events.Event.{Event}
use Rattle.z_reading.specs.Listing.{Task, operands_in, operation_in, field_behind, heads_in, to_nat}
use Rattle.z_setup.specs.Machine.{Machine, Known, entry_line, register_line, shown, show_line, block_line}
use Rattle.z_setup.specs.Machine.{parameter_line, prefix_line, schedule_line, code_line, named_parameter}
use Rattle.z_setup.specs.Machine.{parameter_in, directive_line, read_again, task_gives, tokens_in}
use Rattle.z_setup.specs.Machine.{operands_for, end_of, change_at, with_address, with_general, with_prefix}
use Rattle.z_setup.specs.Machine.{with_parameter, is_prefix_for, show}
use Rattle.z_reading.specs.Text.{write_at}
use Rattle.z_setup.specs.declared.parameter.Parameter.{Parameter}
use Rattle.z_assemble.proofs.Passed.{then_ok, where_ok, same_ok}

-- the next CPU has its entry
abbrev pub entered : ℕ → Machine → Machine
entered n m = record m { cpus = change_at m.entered (with_address n) m.cpus; entered = m.entered + 1 }

abbrev pub filled : ℤ × ℤ × ℤ → Machine → Machine
filled x m = record m { cpus = change_at (to_nat x.0) (with_general (to_nat x.1) (modulo 64 x.2)) m.cpus }

abbrev pub prefixed : ℕ → ℕ → Machine → Machine
prefixed cpu n m = record m { cpus = change_at cpu (with_prefix n) m.cpus }

-- one range more is shown
abbrev pub showing : ℕ → ℕ → Bool → Machine → Machine
showing e n fields m = record m { shows = m.shows ++ show e n fields ∷ [] }

-- a number of the retry ladder has this value
abbrev pub numbered : Parameter → ℕ → Machine → Machine
numbered p n m = record m { parms = with_parameter p n m.parms }

-- the lines of each operation, by the operands that they have
abbrev pub Effect : Operation → Known → Task → List Token → Machine → Machine → Type 0
Effect operations.Cpu k t ts m r =
    (v : ℤ) × ((operands_for BadDirective k t (operands_in ts) >>= one_in) ≡ Ok v)
    × (entered (to_nat v) m ≡ r)
Effect operations.Reg k t ts m r =
    (x : ℤ × ℤ × ℤ) × ((operands_for BadDirective k t (operands_in ts) >>= three_in) ≡ Ok x)
    × (filled x m ≡ r)
Effect operations.Prefix k t ts m r =
    (x : ℤ × ℤ) × ((operands_for BadDirective k t (operands_in ts) >>= two_in) ≡ Ok x)
    × (is_prefix_for k.tasks m.cpus x ≡ true) × (prefixed (to_nat x.0) (to_nat x.1) m ≡ r)
Effect operations.Sched k t ts m r =
    (es : List Event)
    × (scheduled (length m.cpus) (field_behind (end_of (operation_in ts)) t.text) m.schedule ≡ Ok es)
    × (record m { schedule = es; scheduled = true } ≡ r)
Effect operations.Show k t ts m r =
    (x : ℤ × ℤ) × ((operands_for BadDirective k t (operands_in ts) >>= two_in) ≡ Ok x)
    × (showing (to_nat x.0) (to_nat x.1) false m ≡ r)
Effect operations.Tdb k t ts m r =
    (v : ℤ) × ((operands_for BadDirective k t (operands_in ts) >>= one_in) ≡ Ok v)
    × (showing (to_nat v) 256 true m ≡ r)
Effect operations.Parm k t ts m r =
    (p : Parameter) × (parameter_in t.text (operands_in ts) ≡ Some p)
    × (v : ℤ) × ((operands_for BadDirective k t (drop 2 (operands_in ts)) >>= one_in) ≡ Ok v)
    × (numbered p (to_nat v) m ≡ r)
Effect _ k t ts m r = (storage : List ℕ) × (record m { storage = storage } ≡ r)

range_is : (e n : ℤ) (fields : Bool) (m r : Machine) → shown e n fields m ≡ Ok r →
    showing (to_nat e) (to_nat n) fields m ≡ r
unfolding shown
range_is e n fields m r h =
    let w = where_ok _ (showing (to_nat e) (to_nat n) fields m) r OutOfRange h in w.1

show_is : (os : List Operand) (m r : Machine) → show_line os m ≡ Ok r →
    (x : ℤ × ℤ) × (two_in os ≡ Ok x) × (showing (to_nat x.0) (to_nat x.1) false m ≡ r)
unfolding show_line
show_is os m r e =
    let t = then_ok (two_in os) (λ x. shown x.0 x.1 false m) r e in
    (t.0, t.1, range_is t.0.0 t.0.1 false m r t.2)

block_is : (os : List Operand) (m r : Machine) → block_line os m ≡ Ok r →
    (v : ℤ) × (one_in os ≡ Ok v) × (showing (to_nat v) 256 true m ≡ r)
unfolding block_line
block_is os m r e =
    let t = then_ok (one_in os) (λ x. shown x (pos 256) true m) r e in
    (t.0, t.1, range_is t.0 (pos 256) true m r t.2)

parameter_is : (p : Parameter) (os : List Operand) (m r : Machine) → parameter_line p os m ≡ Ok r →
    (v : ℤ) × (one_in os ≡ Ok v) × (numbered p (to_nat v) m ≡ r)
unfolding parameter_line
parameter_is p os m r e =
    let t = then_ok (one_in os) _ r e in
    let w = where_ok _ (numbered p (to_nat t.0) m) r OutOfRange t.2 in
    (t.0, t.1, w.1)

named_is : (o : Option Parameter) (k : Known) (t : Task) (ts : List Token) (m r : Machine) →
    named_parameter o k t ts m ≡ Ok r →
    (p : Parameter) × (o ≡ Some p) × (v : ℤ) × ((operands_for BadDirective k t ts >>= one_in) ≡ Ok v)
    × (numbered p (to_nat v) m ≡ r)
named_is None k t ts m r e = absurd (cc)
named_is (Some p) k t ts m r e =
    let g = then_ok (operands_for BadDirective k t ts) (λ os. parameter_line p os m) r e in
    let f = parameter_is p g.0 m r g.2 in
    (p, refl, f.0, ap (λ o. o >>= one_in) g.1 ∙ f.1, f.2)

-- nothing but storage
abbrev Leaves : Machine → Machine → Type 0
Leaves m r = (storage : List ℕ) × (record m { storage = storage } ≡ r)

code_leaves : (row : ℕ) (mask : Option ℕ) (here : ℕ) (os : List Operand) (m r : Machine) →
    code_line row mask here os m ≡ Ok r → Leaves m r
unfolding code_line
code_leaves row mask here os m r e =
    let t = then_ok (code_for (entry_at row) mask here os)
    (λ bytes. Ok (record m { storage = write_at here bytes m.storage })) r e in
    (write_at here t.0 m.storage, same_ok _ r t.2)

entry_is : (os : List Operand) (m r : Machine) → entry_line os m ≡ Ok r →
    (v : ℤ) × (one_in os ≡ Ok v) × (entered (to_nat v) m ≡ r)
unfolding entry_line
entry_is os m r e =
    let t = then_ok (one_in os) _ r e in
    let w = where_ok _ (entered (to_nat t.0) m) r OutOfRange t.2 in
    (t.0, t.1, w.1)

register_is : (os : List Operand) (m r : Machine) → register_line os m ≡ Ok r →
    (x : ℤ × ℤ × ℤ) × (three_in os ≡ Ok x) × (filled x m ≡ r)
unfolding register_line
register_is os m r e =
    let t = then_ok (three_in os) _ r e in
    let w = where_ok _ (filled t.0 m) r OutOfRange t.2 in
    (t.0, t.1, w.1)

prefix_is : (tasks : List Task) (os : List Operand) (m r : Machine) → prefix_line tasks os m ≡ Ok r →
    (x : ℤ × ℤ) × (two_in os ≡ Ok x) × (is_prefix_for tasks m.cpus x ≡ true)
    × (prefixed (to_nat x.0) (to_nat x.1) m ≡ r)
unfolding prefix_line
prefix_is tasks os m r e =
    let t = then_ok (two_in os) _ r e in
    let w = where_ok (is_prefix_for tasks m.cpus t.0) (prefixed (to_nat t.0.0) (to_nat t.0.1) m) r OutOfRange
    t.2 in
    (t.0, t.1, w.0, w.1)

schedule_is : (field : List ℕ) (m r : Machine) → schedule_line field m ≡ Ok r →
    (es : List Event) × (scheduled (length m.cpus) field m.schedule ≡ Ok es)
    × (record m { schedule = es; scheduled = true } ≡ r)
unfolding schedule_line
schedule_is field m r e =
    let t = then_ok (scheduled (length m.cpus) field m.schedule)
    (λ es. Ok (record m { schedule = es; scheduled = true })) r e in
    (t.0, t.1, same_ok _ r t.2)

-- the operands of a directive, and what it does with these
directive : (op : Operation) (k : Known) (t : Task) (ts : List Token) (m r : Machine) →
    (operands_for BadDirective k t (operands_in ts) >>= λ os. directive_line op k os m) ≡ Ok r →
    (os : List Operand) × (operands_for BadDirective k t (operands_in ts) ≡ Ok os)
    × (directive_line op k os m ≡ Ok r)
directive op k t ts m r e =
    then_ok (operands_for BadDirective k t (operands_in ts)) (λ os. directive_line op k os m) r e

same_machine : (m r : Machine) → m ≡ r → Leaves m r
same_machine m r e = (m.storage, e)

effect : (op : Operation) (k : Known) (t : Task) (ts : List Token) (m r : Machine) →
    read_again op k t ts m ≡ Ok r → Effect op k t ts m r
unfolding read_again directive_line
effect (operations.Instruction row mask) k t ts m r e =
    let g = then_ok (operands_for WrongOperands k t (operands_in ts))
    (λ os. code_line row mask t.here os m) r e in
    code_leaves row mask t.here g.0 m r g.2
effect operations.Sched k t ts m r e = schedule_is (field_behind (end_of (operation_in ts)) t.text) m r e
effect operations.Parm k t ts m r e =
    let f = named_is (parameter_in t.text (operands_in ts)) k t (drop (heads_in ts + 2) ts) m r e in (
      f.0,
      f.1,
      f.2,
      ap (λ us. operands_for BadDirective k t us >>= one_in) (drop-drop 2 (heads_in ts) ts) ∙ f.3,
      f.4,
    )
effect operations.Cpu k t ts m r e =
    let g = directive operations.Cpu k t ts m r e in
    let f = entry_is g.0 m r g.2 in
    (f.0, ap (λ o. o >>= one_in) g.1 ∙ f.1, f.2)
effect operations.Reg k t ts m r e =
    let g = directive operations.Reg k t ts m r e in
    let f = register_is g.0 m r g.2 in
    (f.0, ap (λ o. o >>= three_in) g.1 ∙ f.1, f.2)
effect operations.Show k t ts m r e =
    let g = directive operations.Show k t ts m r e in
    let f = show_is g.0 m r g.2 in
    (f.0, ap (λ o. o >>= two_in) g.1 ∙ f.1, f.2)
effect operations.Tdb k t ts m r e =
    let g = directive operations.Tdb k t ts m r e in
    let f = block_is g.0 m r g.2 in
    (f.0, ap (λ o. o >>= one_in) g.1 ∙ f.1, f.2)
effect operations.Prefix k t ts m r e =
    let g = directive operations.Prefix k t ts m r e in
    let f = prefix_is k.tasks g.0 m r g.2 in
    (f.0, ap (λ o. o >>= two_in) g.1 ∙ f.1, f.2, f.3)
effect operations.Org k t ts m r e = let g = directive operations.Org k t ts m r e in
    same_machine m r (same_ok m r g.2)
effect operations.Equ k t ts m r e = let g = directive operations.Equ k t ts m r e in
    same_machine m r (same_ok m r g.2)
effect operations.Ds k t ts m r e = let g = directive operations.Ds k t ts m r e in
    same_machine m r (same_ok m r g.2)
effect operations.Dc k t ts m r e = let g = directive operations.Dc k t ts m r e in
    same_machine m r (same_ok m r g.2)
effect operations.End k t ts m r e = let g = directive operations.End k t ts m r e in
    same_machine m r (same_ok m r g.2)

-- a line that is read again
pub task_effect : (k : Known) (t : Task) (m r : Machine) → task_gives k t m ≡ Ok r →
    Effect t.operation k t (tokens_in t.text) m r
unfolding task_gives
task_effect k t m r e = effect t.operation k t (tokens_in t.text) m r e
