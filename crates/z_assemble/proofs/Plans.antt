-- What each line of the first reading keeps of the plan: instructions stand apart in accessible storage, and
-- their places are marked.
use Rattle.std.proofs.Common.{◌≡◌, ℕ, suc, pos, ◌+◌, ◌-◌, ◌<◌, ◌≤◌, ◌%◌, Bool, true, false, not, ◌&&◌}
use Rattle.std.proofs.Common.{List, [], ◌∷◌, length, get_or, drop, Option, Some, None, Result, Ok, Err}
use Rattle.std.proofs.Common.{sym, ap, ◌∙◌, subst, arith, nat_lt, nat_le, ◌==◌, inl, inr, lt-ltb, lit≤}
use Rattle.std.specs.Prelude.{All, AllPairs, if◌then◌else◌, codes}
use Rattle.std.proofs.Math.ListN.{set}
use Rattle.std.specs.List.{Contains}
use Rattle.std.specs.Str.{bytes_eq}
use Rattle.std.proofs.lemmas.Bool.{and_parts, ltb-true, leb-true, false≢true, cases_lt, cases_eq, or_cases, false_from_ne_true, not-true, not-false}
use Rattle.std.proofs.lemmas.List.{get_or-set_other, length-set, get_or-take, get_or-drop}
use Rattle.std.proofs.lemmas.List.Elements.{All-nil, All-push, All-weaker, Contains-append_left}
use Rattle.std.proofs.lemmas.List.Elements.{Contains-push}
use Rattle.std.proofs.lemmas.List.Quantifiers.{all_pairs_push}
use Rattle.std.proofs.lemmas.List.Folds.{list_any_at}
use Rattle.z_instr.proofs.TableFacts.{same_table}
use Rattle.z_instr.specs.Layout.{form_length}
use Rattle.z_instr.specs.Table.{Entry, table, entry_at}
use Rattle.z_instr.specs.declared.form.Form.{Form}
use Rattle.z_instr.specs.declared.form.Form.TheVariants.{RR}
use Rattle.z_instr.specs.declared.table.TheConstants.{ROWS}
use Rattle.z_fields.specs.Chain.{◌>>=◌}
use Rattle.z_fields.specs.Data.{data_of}
use Rattle.z_reading.specs.Listing.{Plan, Task, labelled, has_room, is_taken, placed, tasked, value_on}
use Rattle.z_reading.specs.Listing.{org_line, equ_line, ds_line, written, dc_line, started, instruction_line}
use Rattle.z_reading.specs.Listing.{cpu_line, end_line, operation_line, named_line, said_line, line_gives}
use Rattle.z_reading.specs.Listing.{is_below, to_nat, by_kind, operation_in, is_bad_label, is_defined}
use Rattle.z_reading.specs.Listing.{label_in, operands_in, field_behind}
use Rattle.z_operands.specs.Operations.{operation_named, directive_named, branch_mask, row_named, row_from}
use Rattle.z_operands.specs.Operations.{instruction, extended, or_else, size_of_row}
use Rattle.z_fields.specs.Pieces.{without_end}
use Rattle.z_reading.specs.Text.{write_at, cut, copies}
use Rattle.z_assemble.specs.Whole.{First, blank}
use Rattle.z_fields.specs.declared.fault.Kind.{Kind}
use Rattle.z_fields.specs.declared.fault.Kind.TheVariants.{OutOfRange, Overlap, BadDirective, DoubleLabel}
use Rattle.z_operands.specs.declared.operation.Operation.{Operation}
use Rattle.z_operands.specs.declared.operation.Operation.TheVariants.{Instruction, Org, Equ, Ds, Dc, Cpu, Reg}
use Rattle.z_operands.specs.declared.operation.Operation.TheVariants.{Show, Tdb, Sched, Parm, Prefix, End}
use Rattle.z_text.specs.Line.{span}
use Rattle.z_text.specs.Tokens.{tokens_of}
use Rattle.z_text.specs.declared.token.Token.{Token}
use Rattle.z_assemble.proofs.Over.{HasRoom, write_size, write_other, write_inside, copies_size, copies_at}
use Rattle.z_assemble.proofs.Over.{copies_inside}
use Rattle.z_assemble.proofs.Passed.{then_ok, where_ok, unless_ok, same_ok}
use Rattle.tx_ladder.proofs.Kept.{marked_below}

-- ---- what instructions place

pub some_size : (f : Form) → 0 < form_length f
some_size RR = omega arith
some_size _ = omega arith

-- the operation places the byte
abbrev pub PlacesAt : ℕ → Operation → ℕ → Type 0
PlacesAt here (Instruction row mask) k = (here ≤ k) × (k < here + size_of_row row)
PlacesAt here _ k = ⊥

abbrev pub Places : Task → ℕ → Type 0
Places t k = PlacesAt t.here t.operation k

abbrev pub AreApart : Task → Task → Type 0
AreApart t u = (k : ℕ) → Places t k → Places u k → ⊥

-- an instruction begins there
abbrev pub BeginsAt : ℕ → Operation → ℕ → Type 0
BeginsAt here (Instruction row mask) k = here ≡ k
BeginsAt here _ k = ⊥

-- the row is in the table
abbrev pub IsInTable : Operation → Type 0
IsInTable (Instruction row mask) = row < ROWS
IsInTable _ = Unit {0}

-- an instruction is in accessible storage
abbrev pub IsInRoom : ℕ → Operation → Type 0
IsInRoom here (Instruction row mask) = (8192 ≤ here) × (here + size_of_row row ≤ 1048576)
IsInRoom here _ = Unit {0}

abbrev pub IsTaken : List Bool → Task → Type 0
IsTaken taken t = (k : ℕ) → Places t k → get_or taken k false ≡ true

pub record IsWithin (t : Task) : Type 0 where
  pub row : IsInTable t.operation
  pub room : IsInRoom t.here t.operation

-- a task begins at the byte
pub record IsBegun (tasks : List Task) (k : ℕ) : Type 0 where
  pub task : Task
  pub among : Contains tasks task
  pub begins : BeginsAt task.here task.operation k

pub record Fits (storage : List ℕ) (taken begins : List Bool) (cpus : ℕ) (tasks : List Task) : Type 0 where
  pub size : length storage ≡ 1048576
  pub taken_size : length taken ≡ 1048576
  pub begins_size : length begins ≡ 1048576
  pub low : (k : ℕ) → k < 8192 → get_or storage k 0 ≡ 0
  pub cpus_few : cpus ≤ 16
  pub within : All IsWithin tasks
  pub taken_all : All (IsTaken taken) tasks
  pub apart : AllPairs AreApart tasks
  pub marks : (k : ℕ) → get_or begins k false ≡ true → IsBegun tasks k

abbrev pub IsPlan : Plan → Type 0
IsPlan p = Fits p.storage p.taken p.begins p.cpus p.tasks

-- ---- bytes that are placed

pub record HasPlaced (n : ℕ) (p q : Plan) : Type 0 where
  pub is : record p { here = p.here + n; taken = write_at p.here (copies n true) p.taken } ≡ q
  pub room : 0 < n → (8192 ≤ p.here) × (p.here + n ≤ 1048576)
  pub free : (k : ℕ) → p.here ≤ k → k < p.here + n → get_or p.taken k false ≡ false

room_of : (n here : ℕ) → has_room n here ≡ true → 0 < n → (8192 ≤ here) × (here + n ≤ 1048576)
room_of n here h some =
    elim (or_cases (not (nat_lt 0 n)) (nat_le 8192 here && nat_le (here + n) 1048576) h) [
      | inl e ↦ absurd (false≢true (sym (not-true _ e) ∙ lt-ltb 0 n some))
      | inr e ↦ let p = and_parts _ _ e in (leb-true _ _ p.0, leb-true _ _ p.1)
    ]

free_of : (from n : ℕ) (taken : List Bool) → is_taken from (from + n) taken ≡ false → (k : ℕ) → from ≤ k →
    k < from + n → get_or taken k false ≡ false
free_of from n taken e k l h =
    let j : ℕ = k - from in
    let m : ℕ = from + n - from in
    let s : from + j ≡ k = omega arith in
    let part : get_or (cut from (from + n) taken) j false ≡ get_or taken k false =
    get_or-take m (drop from taken) j false (omega arith) ∙ get_or-drop from taken j false
    ∙ ap (λ q. get_or taken q false) s in
    false_from_ne_true (get_or taken k false) (λ t.
    let here : get_or (cut from (from + n) taken) j false ≡ true = part ∙ t in
    false≢true (sym e ∙ list_any_at (λ b. b) (cut from (from + n) taken) j false
    (marked_below (cut from (from + n) taken) j here) here))

pub place_holds : (n : ℕ) (p q : Plan) → placed n p ≡ Ok q → HasPlaced n p q
unfolding placed
place_holds n p q e =
    let a = unless_ok (not (has_room n p.here)) _ q OutOfRange e in
    let b = unless_ok (is_taken p.here (p.here + n) p.taken) _ q Overlap a.1 in
    record {
      is = same_ok _ q b.1;
      room = room_of n p.here (not-false _ a.0);
      free = free_of p.here n p.taken b.0;
    }

-- marks that are set, and those that were there
abbrev pub marked : ℕ → ℕ → List Bool → List Bool
marked here n taken = write_at here (copies n true) taken

pub mark_room : (here n : ℕ) (taken : List Bool) → length taken ≡ 1048576 →
    (0 < n → (8192 ≤ here) × (here + n ≤ 1048576)) → HasRoom here (copies n true) taken
mark_room here n taken size room some =
    let s : length (copies n true) ≡ n = copies_size n true in
    let r = room (omega arith) in
    omega (arith, r.1)

pub mark_sets : (here n : ℕ) (taken : List Bool) → HasRoom here (copies n true) taken → (k : ℕ) → here ≤ k →
    k < here + n → get_or (marked here n taken) k false ≡ true
mark_sets here n taken room k l h =
    let s : length (copies n true) ≡ n = copies_size n true in
    let r : here + length (copies n true) ≤ length taken = room (omega arith) in
    let j : ℕ = k - here in
    let e : here + j ≡ k = omega arith in
    ap (λ q. get_or (marked here n taken) q false) (sym e)
    ∙ write_inside here (copies n true) taken j false (omega arith) (omega arith)
    ∙ copies_inside n true j false (omega arith)

mark_stays : (here n : ℕ) (taken : List Bool) → HasRoom here (copies n true) taken → (k : ℕ) →
    get_or taken k false ≡ true → get_or (marked here n taken) k false ≡ true
mark_stays here n taken room k e =
    let s : length (copies n true) ≡ n = copies_size n true in
    elim (cases_lt k here) [
      | inl l ↦ write_other here (copies n true) taken k false room (λ a b. absurd (omega arith)) ∙ e
      | inr g ↦ elim (cases_lt k (here + n)) [
        | inl l ↦ mark_sets here n taken room k g l
        | inr b ↦ write_other here (copies n true) taken k false room (λ a c. absurd (omega arith)) ∙ e
      ]
    ]

-- ---- lines that place bytes

placed_fits : (n : ℕ) (p q : Plan) → HasPlaced n p q → IsPlan p → IsPlan q
placed_fits n p q h i =
    let room = mark_room p.here n p.taken i.taken_size h.room in
    subst IsPlan h.is (record {
      size = i.size;
      taken_size = write_size p.here (copies n true) p.taken room ∙ i.taken_size;
      begins_size = i.begins_size;
      low = i.low;
      cpus_few = i.cpus_few;
      within = i.within;
      taken_all = All-weaker (IsTaken p.taken) (IsTaken (marked p.here n p.taken))
          (λ t a k at. mark_stays p.here n p.taken room k (a k at)) p.tasks i.taken_all;
      apart = i.apart;
      marks = i.marks;
    })

stored_fits : (bytes : List ℕ) (here : ℕ) (p : Plan) →
    (0 < length bytes → (8192 ≤ here) × (here + length bytes ≤ 1048576)) → IsPlan p →
    IsPlan (record p { storage = write_at here bytes p.storage })
stored_fits bytes here p h i =
    let room : HasRoom here bytes p.storage = λ some. let r = h some in omega (arith, r.1, i.size) in
    record {
      size = write_size here bytes p.storage room ∙ i.size;
      taken_size = i.taken_size;
      begins_size = i.begins_size;
      low = λ k l. write_other here bytes p.storage k 0 room
          (λ a b. let some : 0 < length bytes = omega arith in let r = h some in absurd (omega (arith, r.0)))
          ∙ i.low k l;
      cpus_few = i.cpus_few;
      within = i.within;
      taken_all = i.taken_all;
      apart = i.apart;
      marks = i.marks;
    }

written_fits : (bytes : List ℕ) (p q : Plan) → written bytes p ≡ Ok q → IsPlan p → IsPlan q
unfolding written
written_fits bytes p q e i =
    let t = then_ok (placed (length bytes) p) _ q e in
    let h = place_holds (length bytes) p t.0 t.1 in
    subst IsPlan (same_ok _ q t.2) (stored_fits bytes p.here t.0 h.room
    (placed_fits (length bytes) p t.0 h i))

-- ---- an instruction

begin_fits : (n row : ℕ) (mask : Option ℕ) (line : List ℕ) (p q : Plan) → row < ROWS →
    HasPlaced (size_of_row row) p q → IsPlan p →
    IsPlan (tasked n p.here line (Instruction row mask) (record q { begins = set q.begins p.here true }))
begin_fits n row mask line p q known h i =
    let j = placed_fits (size_of_row row) p q h i in
    let t : Task = record { line = n; here = p.here; text = line; operation = Instruction row mask } in
    let some : 0 < size_of_row row = some_size (entry_at row).form in
    let room = mark_room p.here (size_of_row row) p.taken i.taken_size h.room in
    let mine : IsTaken q.taken t =
    λ k at. subst (λ (x : Plan). get_or x.taken k false ≡ true) h.is
    (mark_sets p.here (size_of_row row) p.taken room k at.0 at.1) in
    let tasks : q.tasks ≡ p.tasks = sym (ap (λ (x : Plan). x.tasks) h.is) in
    record {
      size = j.size;
      taken_size = j.taken_size;
      begins_size = length-set q.begins p.here true ∙ j.begins_size;
      low = j.low;
      cpus_few = j.cpus_few;
      within = All-push IsWithin q.tasks t j.within (record { row = known; room = h.room some });
      taken_all = All-push (IsTaken q.taken) q.tasks t j.taken_all mine;
      apart = all_pairs_push AreApart q.tasks t j.apart (λ k d l x old new.
          let was : get_or p.taken x false ≡ true =
          subst (λ ts. All (IsTaken p.taken) ts) (sym tasks) i.taken_all k d l x old in
          false≢true (sym (h.free x new.0 new.1) ∙ was));
      marks = λ k e. elim (cases_eq k p.here) [
        | inl s ↦ record { task = t; among = Contains-push q.tasks t; begins = sym s }
        | inr o ↦ let b = j.marks k (sym (get_or-set_other q.begins p.here k true false o) ∙ e) in
            record {
              task = b.task;
              among = Contains-append_left q.tasks (t ∷ []) b.task b.among;
              begins = b.begins;
            }
      ];
    }

instruction_fits : (n row : ℕ) (mask : Option ℕ) (label line : List ℕ) (p q : Plan) → row < ROWS →
    instruction_line n label line row mask p ≡ Ok q → IsPlan p → IsPlan q
unfolding instruction_line started
instruction_fits n row mask label line p q known e i =
    let l = labelled label (pos p.here) p in
    let size = size_of_row row in
    let t = then_ok (started size l) (λ r. Ok (tasked n p.here line (Instruction row mask) r)) q e in
    let begun = λ (r : Plan). record r { begins = set r.begins p.here true } in
    let rest : Result Plan Kind = placed size l >>= λ r. Ok (begun r) in
    let u = unless_ok (p.here % 2 == 1) rest t.0 OutOfRange t.1 in
    let v = then_ok (placed size l) (λ r. Ok (begun r)) t.0 u.1 in
    let h = place_holds size l v.0 v.1 in
    let after = tasked n p.here line (Instruction row mask) in
    let fits : IsPlan (after t.0) =
    subst (λ (r : Plan). IsPlan (after r)) (same_ok (begun v.0) t.0 v.2)
    (begin_fits n row mask line l v.0 known h i) in
    subst IsPlan (same_ok (after t.0) q t.2) fits

-- ---- other lines

org_fits : (line : List ℕ) (ts : List Token) (p q : Plan) → org_line line ts p ≡ Ok q → IsPlan p → IsPlan q
unfolding org_line
org_fits line ts p q e i =
    let t = then_ok (value_on line ts p) _ q e in
    let w = where_ok _ _ q OutOfRange t.2 in
    subst IsPlan w.1 i

equ_fits : (label line : List ℕ) (ts : List Token) (p q : Plan) → equ_line label line ts p ≡ Ok q → IsPlan p →
    IsPlan q
unfolding equ_line
equ_fits label line ts p q e i =
    let t = then_ok (value_on line ts p) _ q e in
    let w = where_ok _ _ q OutOfRange t.2 in
    subst IsPlan w.1 i

pub ds_by : (b : Bool) (o : Result Plan Kind) (q : Plan) → (if b then o else Err OutOfRange) ≡ Ok q → o ≡ Ok q
ds_by true o q e = e
ds_by false o q e = absurd (cc)

ds_fits : (label line : List ℕ) (ts : List Token) (p q : Plan) → ds_line label line ts p ≡ Ok q → IsPlan p →
    IsPlan q
unfolding ds_line
ds_fits label line ts p q e i =
    let t = then_ok (value_on line ts p) _ q e in
    let l = labelled label (pos p.here) p in
    let f = ds_by (is_below 1048577 t.0) (placed (to_nat t.0) l) q t.2 in
    placed_fits (to_nat t.0) l q (place_holds (to_nat t.0) l q f) i

dc_fits : (label field : List ℕ) (p q : Plan) → dc_line label field p ≡ Ok q → IsPlan p → IsPlan q
unfolding dc_line
dc_fits label field p q e i =
    let t = then_ok (data_of field) _ q e in
    written_fits t.0 (labelled label (pos p.here) p) q t.2 i

-- a task that is no instruction
abbrev pub IsPlain : Operation → Type 0
IsPlain (Instruction row mask) = ⊥
IsPlain _ = Unit {0}

plain_within : (here : ℕ) (op : Operation) → IsPlain op → IsInTable op × IsInRoom here op
plain_within here (Instruction row mask) h = absurd h
plain_within here _ h = (tt, tt)

plain_places : (here : ℕ) (op : Operation) (k : ℕ) → IsPlain op → PlacesAt here op k → ⊥
plain_places here (Instruction row mask) k h a = h
plain_places here _ k h a = a

task_fits : (n : ℕ) (line : List ℕ) (op : Operation) (here : ℕ) (p : Plan) → IsPlain op → IsPlan p →
    IsPlan (tasked n here line op p)
task_fits n line op here p plain i =
    let t : Task = record { line = n; here = here; text = line; operation = op } in
    let w = plain_within here op plain in
    record {
      size = i.size;
      taken_size = i.taken_size;
      begins_size = i.begins_size;
      low = i.low;
      cpus_few = i.cpus_few;
      within = All-push IsWithin p.tasks t i.within (record { row = w.0; room = w.1 });
      taken_all = All-push (IsTaken p.taken) p.tasks t i.taken_all
          (λ k a. absurd (plain_places here op k plain a));
      apart = all_pairs_push AreApart p.tasks t i.apart (λ k d l x old new. plain_places here op x plain new);
      marks = λ k e. let b = i.marks k e in
          record {
            task = b.task;
            among = Contains-append_left p.tasks (t ∷ []) b.task b.among;
            begins = b.begins;
          };
    }

cpu_fits : (n : ℕ) (line : List ℕ) (p q : Plan) → cpu_line n line p ≡ Ok q → IsPlan p → IsPlan q
unfolding cpu_line
cpu_fits n line p q e i =
    let w = where_ok _ _ q OutOfRange e in
    let few : p.cpus < 16 = ltb-true _ _ w.0 in
    let more : IsPlan (record p { cpus = p.cpus + 1 }) =
    record {
      size = i.size;
      taken_size = i.taken_size;
      begins_size = i.begins_size;
      low = i.low;
      cpus_few = omega arith;
      within = i.within;
      taken_all = i.taken_all;
      apart = i.apart;
      marks = i.marks;
    } in
    subst IsPlan w.1 (task_fits n line Cpu p.here (record p { cpus = p.cpus + 1 }) tt more)

end_fits : (ts : List Token) (p q : Plan) → end_line ts p ≡ Ok q → IsPlan p → IsPlan q
unfolding end_line
end_fits ts p q e i = let w = where_ok _ _ q BadDirective e in subst IsPlan w.1 i

operation_fits : (op : Operation) (n : ℕ) (label line : List ℕ) (end : ℕ) (ts : List Token) (p q : Plan) →
    IsInTable op → operation_line op n label line end ts p ≡ Ok q → IsPlan p → IsPlan q
unfolding operation_line
operation_fits (Instruction row mask) n label line end ts p q known e i =
    instruction_fits n row mask label line p q known e i
operation_fits Org n label line end ts p q known e i = org_fits line ts p q e i
operation_fits Equ n label line end ts p q known e i = equ_fits label line ts p q e i
operation_fits Ds n label line end ts p q known e i = ds_fits label line ts p q e i
operation_fits Dc n label line end ts p q known e i = dc_fits label (field_behind end line) p q e i
operation_fits Cpu n label line end ts p q known e i = cpu_fits n line p q e i
operation_fits Reg n label line end ts p q known e i =
    subst IsPlan (same_ok _ q e) (task_fits n line Reg p.here p tt i)
operation_fits Show n label line end ts p q known e i =
    subst IsPlan (same_ok _ q e) (task_fits n line Show p.here p tt i)
operation_fits Tdb n label line end ts p q known e i =
    subst IsPlan (same_ok _ q e) (task_fits n line Tdb p.here p tt i)
operation_fits Sched n label line end ts p q known e i =
    subst IsPlan (same_ok _ q e) (task_fits n line Sched p.here p tt i)
operation_fits Parm n label line end ts p q known e i =
    subst IsPlan (same_ok _ q e) (task_fits n line Parm p.here p tt i)
operation_fits Prefix n label line end ts p q known e i =
    subst IsPlan (same_ok _ q e) (task_fits n line Prefix p.here p tt i)
operation_fits End n label line end ts p q known e i = end_fits ts p q e i

-- ---- operations are those of the table

abbrev pub IsAnyInTable : Option Operation → Type 0
IsAnyInTable None = Unit {0}
IsAnyInTable (Some op) = IsInTable op

abbrev IsBelow : ℕ → Option ℕ → Type 0
IsBelow m None = Unit {0}
IsBelow m (Some row) = row < m

either_row : (m n : ℕ) (b : Bool) (o : Option ℕ) → n < m → IsBelow m o → IsBelow m (if b then Some n else o)
either_row m n true o h r = h
either_row m n false o h r = r

row_below : (n m : ℕ) (es : List Entry) (name : List ℕ) → n + length es ≤ m → IsBelow m (row_from n es name)
row_below n m [] name h = tt
row_below n m (e ∷ es) name h =
    either_row m n (bytes_eq e.name name) (row_from (suc n) es name) (omega arith)
    (row_below (suc n) m es name (omega arith))

row_in_table : (name : List ℕ) → IsBelow ROWS (row_named name)
unfolding row_named
row_in_table name =
    let size : length table ≡ ROWS = sym (ap length same_table) in
    row_below 0 ROWS table name (omega arith)

either : (b : Bool) (op : Operation) (o : Option Operation) → IsInTable op → IsAnyInTable o →
    IsAnyInTable (if b then Some op else o)
either true op o h r = h
either false op o h r = r

directive_in_table : (name : List ℕ) → IsAnyInTable (directive_named name)
unfolding directive_named
directive_in_table name =
    let from_end : Option Operation = if bytes_eq name (codes "END") then Some End else None in
    let from_prefix : Option Operation = if bytes_eq name (codes "PREFIX") then Some Prefix else from_end in
    let from_parm : Option Operation = if bytes_eq name (codes "PARM") then Some Parm else from_prefix in
    let from_sched : Option Operation = if bytes_eq name (codes "SCHED") then Some Sched else from_parm in
    let from_tdb : Option Operation = if bytes_eq name (codes "TDB") then Some Tdb else from_sched in
    let from_show : Option Operation = if bytes_eq name (codes "SHOW") then Some Show else from_tdb in
    let from_reg : Option Operation = if bytes_eq name (codes "REG") then Some Reg else from_show in
    let from_cpu : Option Operation = if bytes_eq name (codes "CPU") then Some Cpu else from_reg in
    let from_dc : Option Operation = if bytes_eq name (codes "DC") then Some Dc else from_cpu in
    let from_ds : Option Operation = if bytes_eq name (codes "DS") then Some Ds else from_dc in
    let from_equ : Option Operation = if bytes_eq name (codes "EQU") then Some Equ else from_ds in
    either (bytes_eq name (codes "ORG")) Org from_equ tt
    (either (bytes_eq name (codes "EQU")) Equ from_ds tt
    (either (bytes_eq name (codes "DS")) Ds from_dc tt
    (either (bytes_eq name (codes "DC")) Dc from_cpu tt
    (either (bytes_eq name (codes "CPU")) Cpu from_reg tt
    (either (bytes_eq name (codes "REG")) Reg from_show tt
    (either (bytes_eq name (codes "SHOW")) Show from_tdb tt
    (either (bytes_eq name (codes "TDB")) Tdb from_sched tt
    (either (bytes_eq name (codes "SCHED")) Sched from_parm tt
    (either (bytes_eq name (codes "PARM")) Parm from_prefix tt
    (either (bytes_eq name (codes "PREFIX")) Prefix from_end tt
    (either (bytes_eq name (codes "END")) End None tt tt)))))))))))

instruction_in_table : (o mask : Option ℕ) → IsBelow ROWS o → IsAnyInTable (instruction o mask)
instruction_in_table None mask h = tt
instruction_in_table (Some row) mask h = h

first_in_table : (o u : Option Operation) → IsAnyInTable o → IsAnyInTable u → IsAnyInTable (or_else o u)
first_in_table None u a b = b
first_in_table (Some op) u a b = a

choice_in_table : (b : Bool) (o u : Option Operation) → IsAnyInTable o → IsAnyInTable u →
    IsAnyInTable (if b then o else u)
choice_in_table true o u x y = x
choice_in_table false o u x y = y

extended_in_table : (name : List ℕ) (mask : Option ℕ) → IsAnyInTable (extended name mask)
extended_in_table name (Some mask) = instruction_in_table (row_named (codes "BRC")) (Some mask)
    (row_in_table (codes "BRC"))
extended_in_table name None =
    choice_in_table (bytes_eq name (codes "BR")) (instruction (row_named (codes "BCR")) (Some 15)) None
    (instruction_in_table (row_named (codes "BCR")) (Some 15) (row_in_table (codes "BCR"))) tt

pub operation_in_table : (name : List ℕ) → IsAnyInTable (operation_named name)
unfolding operation_named
operation_in_table name =
    first_in_table (directive_named name) _ (directive_in_table name)
    (first_in_table (instruction (row_named name) None) _
    (instruction_in_table (row_named name) None (row_in_table name))
    (extended_in_table name (branch_mask name)))

-- ---- lines

named_fits : (o : Option Operation) (n : ℕ) (label line : List ℕ) (end : ℕ) (ts : List Token) (p q : Plan) →
    IsAnyInTable o → named_line o n label line end ts p ≡ Ok q → IsPlan p → IsPlan q
named_fits None n label line end ts p q known e i = absurd (cc)
named_fits (Some op) n label line end ts p q known e i =
    let a = unless_ok (is_bad_label op label) _ q BadDirective e in
    let b = unless_ok (is_defined label p.labels) _ q DoubleLabel a.1 in
    operation_fits op n label line end ts p q known b.1 i

said_fits : (n : ℕ) (line : List ℕ) (ts : List Token) (o : Option Token) (p q : Plan) →
    said_line n line ts o p ≡ Ok q → IsPlan p → IsPlan q
said_fits n line ts None p q e i = subst IsPlan (same_ok p q e) i
said_fits n line ts (Some o) p q e i =
    let a = unless_ok p.ended _ q BadDirective e in
    let name = span o.first o.end line in
    named_fits (operation_named name) n (label_in line ts) line o.end (operands_in ts) p q
    (operation_in_table name) a.1 i

line_fits : (n : ℕ) (line : List ℕ) (p q : Plan) → line_gives n line p ≡ Ok q → IsPlan p → IsPlan q
unfolding line_gives
line_fits n line p q e i =
    let t = then_ok (by_kind (tokens_of line)) (λ ts. said_line n line ts (operation_in ts) p) q e in
    said_fits n line t.0 (operation_in t.0) p q t.2 i

all_fit : (n : ℕ) (ls : List (List ℕ)) (p q : Plan) → First n ls p q → IsPlan p → IsPlan q
all_fit n [] p q h i = subst IsPlan h i
all_fit n (l ∷ ls) p q h i = all_fit (n + 1) ls h.0 q h.2 (line_fits n (without_end l) p h.0 h.1 i)

blank_fits : IsPlan blank
unfolding blank
blank_fits = record {
  size = copies_size 1048576 0;
  taken_size = copies_size 1048576 false;
  begins_size = copies_size 1048576 false;
  low = λ k h. copies_at 1048576 0 k;
  cpus_few = lit≤ tt;
  within = All-nil IsWithin;
  taken_all = All-nil (IsTaken (copies 1048576 false));
  apart = λ a b d l h. absurd (omega arith);
  marks = λ k e. absurd (false≢true (sym (copies_at 1048576 false k) ∙ e));
}

-- what the first reading of a text leaves
pub first_fits : (n : ℕ) (ls : List (List ℕ)) (q : Plan) → First n ls blank q → IsPlan q
first_fits n ls q h = all_fit n ls blank q h blank_fits
