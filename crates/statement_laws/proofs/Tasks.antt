-- The lines that are read again are those of the statements, and each instruction among them writes its code.
use Rattle.std.proofs.Common.{◌≡◌, ℕ, suc, pos, ◌+◌, List, [], ◌∷◌}
use Rattle.std.proofs.Common.{◌++◌}
use Rattle.std.proofs.Common.{length, get_or, Option, Result, Ok, refl, sym, ap, ◌∙◌}
use Rattle.std.proofs.Common.{subst}
use Rattle.std.proofs.Common.{arith, inl, inr, append_assoc, append-nil}
use Rattle.std.specs.Prelude.{All, AllPairs}
use Rattle.std.specs.List.{Contains, flat_map}
use Rattle.std.proofs.lemmas.List.Elements.{All-cons, All-nil, All-head, All-tail, Contains-append_cases}
use Rattle.std.proofs.lemmas.List.Elements.{Contains-append_left, Contains-append_right}
use Rattle.z_text.specs.declared.token.Token.{Token}
use Rattle.z_instr.specs.Table.{entry_at}
use Rattle.z_instr.specs.declared.instr.Fields.{Fields}
use Rattle.z_fields.specs.Chain.{◌>>=◌}
use Rattle.z_operands.specs.Code.{code_of, code_for}
use Rattle.z_fields.specs.Data.{data_of}
use Rattle.z_operands.specs.Operands.{instruction_in}
use Rattle.z_operands.specs.Operations.{size_of_row}
use Rattle.z_operands.specs.Values.{operands_on}
use Rattle.z_fields.specs.declared.fault.Kind.{Kind}
use Rattle.z_fields.specs.declared.fault.Kind.TheVariants.{OutOfRange, BadDirective, WrongOperands}
use Rattle.z_operands.specs.declared.operand.Operand.{Operand}
use Rattle.z_operands.specs.declared.operation.Operation.{Operation}
use Rattle.z_operands.specs.declared.operation.Operation.TheVariants.{Instruction, Org, Equ, Ds, Dc, Cpu, Reg}
use Rattle.z_operands.specs.declared.operation.Operation.TheVariants.{Show, Tdb, Sched, Parm, Prefix, End}
use Rattle.z_reading.specs.Listing.{Plan, Task, labelled, value_on, placed, tasked, written, started}
use Rattle.z_reading.specs.Listing.{operands_in}
use Rattle.z_reading.specs.Listing.{org_line, equ_line, ds_line, dc_line, instruction_line, cpu_line}
use Rattle.z_reading.specs.Listing.{end_line}
use Rattle.z_reading.specs.Listing.{operation_line, is_doubleword, is_below, to_nat, field_behind}
use Rattle.z_setup.specs.Machine.{Machine, Known, task_gives, read_again, code_line, tokens_in}
use Rattle.z_setup.specs.Machine.{operands_for}
use Rattle.statement_laws.specs.Statements.{Statement, Stand}
use Rattle.z_reading.specs.Text.{write_at}
use Rattle.z_assemble.specs.Whole.{Second}
use Rattle.statement_laws.proofs.Acted.{Walk, first_is, later_is, either_is, none_is}
use Rattle.z_assemble.proofs.Codes.{size_in, task_writes, step_size, stays}
use Rattle.z_assemble.proofs.Over.{write_inside}
use Rattle.z_assemble.proofs.Passed.{then_ok, where_ok, unless_ok, same_ok}
use Rattle.z_assemble.proofs.Plans.{place_holds, ds_by, Places, PlacesAt, AreApart, IsWithin, IsInRoom}

-- ---- tasks

abbrev pub task_by : Operation → Statement → Task
task_by op s = record { line = s.number; here = s.here; text = s.text; operation = op }

-- instructions, and the directives that need all labels, are read again
abbrev pub tasks_by : Operation → Statement → List Task
tasks_by Org s = []
tasks_by Equ s = []
tasks_by Ds s = []
tasks_by Dc s = []
tasks_by End s = []
tasks_by op s = task_by op s ∷ []

abbrev pub tasks_of : Statement → List Task
tasks_of s = tasks_by s.operation s

tasks_from : (p r : Plan) → p ≡ r → r.tasks ≡ p.tasks
tasks_from p r e = sym (ap (λ (x : Plan). x.tasks) e)

placed_tasks : (n : ℕ) (l r : Plan) → placed n l ≡ Ok r → r.tasks ≡ l.tasks
placed_tasks n l r e = sym (ap (λ (x : Plan). x.tasks) (place_holds n l r e).is)

written_tasks : (bytes : List ℕ) (l r : Plan) → written bytes l ≡ Ok r → r.tasks ≡ l.tasks
unfolding written
written_tasks bytes l r e =
    let t = then_ok (placed (length bytes) l) _ r e in
    tasks_from _ r (same_ok _ r t.2) ∙ placed_tasks (length bytes) l t.0 t.1

started_tasks : (n : ℕ) (l r : Plan) → started n l ≡ Ok r → r.tasks ≡ l.tasks
unfolding started
started_tasks n l r e =
    let u = unless_ok _ _ r OutOfRange e in
    let t = then_ok (placed n l) _ r u.1 in
    tasks_from _ r (same_ok _ r t.2) ∙ placed_tasks n l t.0 t.1

-- one task more
abbrev AddsTask : Operation → Statement → Plan → Plan → Type 0
AddsTask op s p r = r.tasks ≡ p.tasks ++ task_by op s ∷ []

added : (op : Operation) (s : Statement) (p q r : Plan) → s.here ≡ p.here → q.tasks ≡ p.tasks →
    tasked s.number p.here s.text op q ≡ r → AddsTask op s p r
added op s p q r h t e =
    tasks_from _ r e
    ∙ ap (λ ts. ts ++ record { line = s.number; here = p.here; text = s.text; operation = op } ∷ []) t
    ∙ ap (λ (x : ℕ). p.tasks ++ record { line = s.number; here = x; text = s.text; operation = op } ∷ [])
    (sym h)

instruction_tasks : (row : ℕ) (mask : Option ℕ) (s : Statement) (p r : Plan) → s.here ≡ p.here →
    instruction_line s.number s.label s.text row mask p ≡ Ok r → AddsTask (Instruction row mask) s p r
unfolding instruction_line
instruction_tasks row mask s p r h e =
    let l = labelled s.label (pos p.here) p in
    let t = then_ok (started (size_of_row row) l) _ r e in
    added (Instruction row mask) s p t.0 r h (started_tasks (size_of_row row) l t.0 t.1) (same_ok _ r t.2)

-- no task more
abbrev AddsNone : Plan → Plan → Type 0
AddsNone p r = r.tasks ≡ p.tasks ++ []

kept : (p r : Plan) → r.tasks ≡ p.tasks → AddsNone p r
kept p r e = e ∙ sym (append-nil p.tasks)

ds_tasks : (label line : List ℕ) (ts : List Token) (p r : Plan) → ds_line label line ts p ≡ Ok r →
    AddsNone p r
unfolding ds_line
ds_tasks label line ts p r e =
    let t = then_ok (value_on line ts p) _ r e in
    let l = labelled label (pos p.here) p in
    kept p r (placed_tasks (to_nat t.0) l r (ds_by (is_below 1048577 t.0) (placed (to_nat t.0) l) r t.2))

dc_tasks : (label field : List ℕ) (p r : Plan) → dc_line label field p ≡ Ok r → AddsNone p r
unfolding dc_line
dc_tasks label field p r e =
    let t = then_ok (data_of field) _ r e in
    kept p r (written_tasks t.0 (labelled label (pos p.here) p) r t.2)

equ_tasks : (label line : List ℕ) (ts : List Token) (p r : Plan) → equ_line label line ts p ≡ Ok r →
    AddsNone p r
unfolding equ_line
equ_tasks label line ts p r e =
    let t = then_ok (value_on line ts p) _ r e in
    let w = where_ok (is_doubleword t.0) (labelled label t.0 p) r OutOfRange t.2 in
    kept p r (tasks_from _ r w.1)

org_tasks : (line : List ℕ) (ts : List Token) (p r : Plan) → org_line line ts p ≡ Ok r → AddsNone p r
unfolding org_line
org_tasks line ts p r e =
    let t = then_ok (value_on line ts p) _ r e in
    let w = where_ok _ _ r OutOfRange t.2 in
    kept p r (tasks_from _ r w.1)

end_tasks : (ts : List Token) (p r : Plan) → end_line ts p ≡ Ok r → AddsNone p r
unfolding end_line
end_tasks ts p r e = let w = where_ok _ _ r BadDirective e in kept p r (tasks_from _ r w.1)

cpu_tasks : (s : Statement) (p r : Plan) → s.here ≡ p.here → cpu_line s.number s.text p ≡ Ok r →
    AddsTask Cpu s p r
unfolding cpu_line
cpu_tasks s p r h e =
    let w = where_ok _ _ r OutOfRange e in added Cpu s p (record p { cpus = p.cpus + 1 }) r h refl w.1

task_step : (op : Operation) (s : Statement) (p r : Plan) → s.here ≡ p.here →
    operation_line op s.number s.label s.text s.end s.operands p ≡ Ok r → r.tasks ≡ p.tasks ++ tasks_by op s
unfolding operation_line
task_step (Instruction row mask) s p r h e = instruction_tasks row mask s p r h e
task_step Org s p r h e = org_tasks s.text s.operands p r e
task_step Equ s p r h e = equ_tasks s.label s.text s.operands p r e
task_step Ds s p r h e = ds_tasks s.label s.text s.operands p r e
task_step Dc s p r h e = dc_tasks s.label (field_behind s.end s.text) p r e
task_step Cpu s p r h e = cpu_tasks s p r h e
task_step Reg s p r h e = added Reg s p p r h refl (same_ok _ r e)
task_step Show s p r h e = added Show s p p r h refl (same_ok _ r e)
task_step Tdb s p r h e = added Tdb s p p r h refl (same_ok _ r e)
task_step Sched s p r h e = added Sched s p p r h refl (same_ok _ r e)
task_step Parm s p r h e = added Parm s p p r h refl (same_ok _ r e)
task_step Prefix s p r h e = added Prefix s p p r h refl (same_ok _ r e)
task_step End s p r h e = end_tasks s.operands p r e

pub tasks_are : (ss : List Statement) (p q : Plan) → Walk ss p q → q.tasks ≡ p.tasks ++ flat_map tasks_of ss
tasks_are [] p q w = tasks_from p q w ∙ sym (append-nil p.tasks)
tasks_are (s ∷ ss) p q w =
    tasks_are ss w.0 q w.2
    ∙ ap (λ ts. ts ++ flat_map tasks_of ss) (task_step s.operation s p w.0 w.1.here w.1.does)
    ∙ append_assoc p.tasks (tasks_of s) (flat_map tasks_of ss)

-- ---- a task is a statement's

pub record IsTaskOf (ss : List Statement) (t : Task) : Type 0 where
  pub statement : Statement
  pub among : Contains ss statement
  pub is : t ≡ task_by statement.operation statement

only : {X : Type 0} (x y : X) → Contains (x ∷ []) y → y ≡ x
only x y c = elim (either_is x y [] c) [ inl e ↦ sym e | inr n ↦ absurd (none_is y n) ]

only_task : (op : Operation) (s : Statement) (t : Task) → Contains (tasks_by op s) t → t ≡ task_by op s
only_task Org s t c = absurd (none_is t c)
only_task Equ s t c = absurd (none_is t c)
only_task Ds s t c = absurd (none_is t c)
only_task Dc s t c = absurd (none_is t c)
only_task End s t c = absurd (none_is t c)
only_task op s t c = only (task_by op s) t c

pub task_from : (ss : List Statement) (t : Task) → Contains (flat_map tasks_of ss) t → IsTaskOf ss t
task_from [] t c = absurd (none_is t c)
task_from (s ∷ ss) t c =
    elim (Contains-append_cases (tasks_of s) (flat_map tasks_of ss) t c) [
      | inl a ↦ record { statement = s; among = first_is s ss; is = only_task s.operation s t a }
      | inr b ↦ let f = task_from ss t b in
          record { statement = f.statement; among = later_is s f.statement ss f.among; is = f.is }
    ]

pub task_there : (ss : List Statement) (s : Statement) (t : Task) → Contains ss s → Contains (tasks_of s) t →
    Contains (flat_map tasks_of ss) t
task_there [] s t c d = absurd (none_is s c)
task_there (u ∷ ss) s t c d =
    elim (either_is u s ss c) [
      | inl e ↦ Contains-append_left (tasks_of u) (flat_map tasks_of ss) t
          (subst (λ x. Contains (tasks_of x) t) (sym e) d)
      | inr l ↦ Contains-append_right (tasks_of u) (flat_map tasks_of ss) t (task_there ss s t l d)
    ]

-- ---- the code that an instruction writes

-- the code of a line by its operands
abbrev pub code_on : Known → ℕ → Option ℕ → ℕ → List ℕ → List Token → Result (List ℕ) Kind
code_on k row mask here text operands =
    operands_on WrongOperands text k.labels here operands >>= code_for (entry_at row) mask here

pub record HasBytes (k : Known) (row : ℕ) (mask : Option ℕ) (here : ℕ) (text storage : List ℕ) : Type 0 where
  pub bytes : List ℕ
  pub are : code_on k row mask here text (operands_in (tokens_in text)) ≡ Ok bytes
  pub stand : Stand bytes here storage

abbrev pub IsWritten : Known → List ℕ → ℕ → List ℕ → Operation → Type 0
IsWritten k storage here text (Instruction row mask) = HasBytes k row mask here text storage
IsWritten k storage here text _ = Unit {0}

abbrev Writes : Operation → Known → Task → List Token → Machine → Machine → Type 0
Writes (Instruction row mask) k t ts m r =
    (bytes : List ℕ) × (code_on k row mask t.here t.text (operands_in ts) ≡ Ok bytes)
    × (r.storage ≡ write_at t.here bytes m.storage)
Writes _ k t ts m r = Unit {0}

code_step : (row : ℕ) (mask : Option ℕ) (here : ℕ) (os : List Operand) (m r : Machine) →
    code_line row mask here os m ≡ Ok r →
    (bytes : List ℕ) × (code_for (entry_at row) mask here os ≡ Ok bytes) ×
    (r.storage ≡ write_at here bytes m.storage)
unfolding code_line
code_step row mask here os m r e =
    let t = then_ok (code_for (entry_at row) mask here os)
    (λ bytes. Ok (record m { storage = write_at here bytes m.storage })) r e in
    (t.0, t.1, sym (ap (λ (x : Machine). x.storage) (same_ok _ r t.2)))

read_step : (op : Operation) (k : Known) (t : Task) (ts : List Token) (m r : Machine) →
    read_again op k t ts m ≡ Ok r → Writes op k t ts m r
unfolding read_again
read_step (Instruction row mask) k t ts m r e =
    let g = then_ok (operands_for WrongOperands k t (operands_in ts))
    (λ os. code_line row mask t.here os m) r e in
    let c = code_step row mask t.here g.0 m r g.2 in
    (c.0, ap (λ o. o >>= code_for (entry_at row) mask t.here) g.1 ∙ c.1, c.2)
read_step _ k t ts m r e = tt

task_step_writes : (k : Known) (t : Task) (m r : Machine) → task_gives k t m ≡ Ok r →
    Writes t.operation k t (tokens_in t.text) m r
unfolding task_gives
task_step_writes k t m r e = read_step t.operation k t (tokens_in t.text) m r e

code_size : (row : ℕ) (f : Fields) → length (code_of (entry_at row) f) ≡ size_of_row row
unfolding code_of
code_size row f = size_in row f

pub bytes_size : (k : Known) (row : ℕ) (mask : Option ℕ) (here : ℕ) (text : List ℕ) (operands : List Token)
    (bytes : List ℕ) → code_on k row mask here text operands ≡ Ok bytes → length bytes ≡ size_of_row row
bytes_size k row mask here text operands bytes e =
    let g = then_ok (operands_on WrongOperands text k.labels here operands)
    (code_for (entry_at row) mask here) bytes e in
    let f = then_ok (instruction_in (entry_at row) mask here g.0)
    (λ f. Ok (code_of (entry_at row) f)) bytes g.2 in
    ap length (sym (same_ok (code_of (entry_at row) f.0) bytes f.2)) ∙ code_size row f.0

-- an instruction's code stands where it was written, as long as later lines leave it
settled : (op : Operation) (k : Known) (t : Task) (m r : Machine) (new : List ℕ) → IsInRoom t.here op →
    Writes op k t (tokens_in t.text) m r → length m.storage ≡ 1048576 →
    ((at : ℕ) → PlacesAt t.here op at → get_or new at 0 ≡ get_or r.storage at 0) →
    IsWritten k new t.here t.text op
settled (Instruction row mask) k t m r new room w size same =
    let n = bytes_size k row mask t.here t.text (operands_in (tokens_in t.text)) w.0 w.1 in
    record {
      bytes = w.0;
      are = w.1;
      stand = λ i l. same (t.here + i) (omega arith, omega (arith, n))
          ∙ ap (λ q. get_or q (t.here + i) 0) w.2
          ∙ write_inside t.here w.0 m.storage i 0 (omega (arith, room.1, n)) l;
    }
settled _ k t m r new room w size same = tt

pub all_written : (k : Known) (ts : List Task) (m q : Machine) → Second k ts m q → All IsWithin ts →
    AllPairs AreApart ts → length m.storage ≡ 1048576 →
    All (λ t. IsWritten k q.storage t.here t.text t.operation) ts
all_written k [] m q h w a s = All-nil (λ t. IsWritten k q.storage t.here t.text t.operation)
all_written k (t ∷ ts) m q h w a s =
    let inside = All-head IsWithin t ts w in
    let size = step_size t.here t.operation m h.0 inside.room (task_writes k t m h.0 inside h.1) s in
    let rest = All-tail IsWithin t ts w in
    let same : (at : ℕ) → Places t at → get_or q.storage at 0 ≡ get_or h.0.storage at 0 =
    λ at p. stays k ts h.0 q h.2 rest size at (λ j d l u. a 0 (suc j) d (omega arith) (omega arith) at p u) in
    All-cons (λ u. IsWritten k q.storage u.here u.text u.operation) t ts
    (settled t.operation k t m h.0 q.storage inside.room (task_step_writes k t m h.0 h.1) s same)
    (all_written k ts h.0 q h.2 rest (λ i j d l g. a (suc i) (suc j) d (omega arith) (omega arith)) size)
