-- Where instructions begin: at the locations of the statements that are instructions.
use Rattle.std.proofs.Common.{◌≡◌, ℕ, zero, suc, pos, ◌+◌, ◌<◌, ◌%◌, Bool, true, false, List, []}
use Rattle.std.proofs.Common.{◌∷◌}
use Rattle.std.proofs.Common.{length, get_or, Option, Ok, sym, ap, ◌∙◌, ◌==◌, subst}
use Rattle.std.proofs.Common.{arith}
use Rattle.std.proofs.Common.{inl, inr}
use Rattle.std.proofs.Math.ListN.{set}
use Rattle.std.specs.List.{Contains}
use Rattle.std.proofs.lemmas.Bool.{cases_eq}
use Rattle.std.proofs.lemmas.List.{get_or-set_other, get_or-set_same, length-set}
use Rattle.z_text.specs.declared.token.Token.{Token}
use Rattle.z_instr.specs.Table.{entry_at}
use Rattle.z_fields.specs.Data.{data_of}
use Rattle.z_operands.specs.Operations.{size_of_row}
use Rattle.z_fields.specs.declared.fault.Kind.TheVariants.{OutOfRange, BadDirective}
use Rattle.z_operands.specs.declared.operation.Operation.{Operation}
use Rattle.z_operands.specs.declared.operation.Operation.TheVariants.{Instruction, Org, Equ, Ds, Dc, Cpu, Reg}
use Rattle.z_operands.specs.declared.operation.Operation.TheVariants.{Show, Tdb, Sched, Parm, Prefix, End}
use Rattle.z_reading.specs.Listing.{Plan, labelled, value_on, placed, written, started}
use Rattle.z_reading.specs.Listing.{org_line, equ_line, ds_line, dc_line, instruction_line, cpu_line}
use Rattle.z_reading.specs.Listing.{end_line}
use Rattle.z_reading.specs.Listing.{operation_line, is_doubleword, is_below, to_nat, field_behind}
use Rattle.statement_laws.specs.Statements.{Statement, IsInstruction}
use Rattle.z_assemble.specs.Whole.{places_from}
use Rattle.statement_laws.proofs.Acted.{Acts, Walk, either_is, none_is, first_is, later_is}
use Rattle.z_assemble.proofs.Passed.{then_ok, where_ok, unless_ok, same_ok}
use Rattle.z_assemble.proofs.Plans.{place_holds, ds_by, some_size}

begins_from : (p r : Plan) → p ≡ r → r.begins ≡ p.begins
begins_from p r e = sym (ap (λ (x : Plan). x.begins) e)

placed_begins : (n : ℕ) (l r : Plan) → placed n l ≡ Ok r → r.begins ≡ l.begins
placed_begins n l r e = sym (ap (λ (x : Plan). x.begins) (place_holds n l r e).is)

written_begins : (bytes : List ℕ) (l r : Plan) → written bytes l ≡ Ok r → r.begins ≡ l.begins
unfolding written
written_begins bytes l r e =
    let t = then_ok (placed (length bytes) l) _ r e in
    begins_from _ r (same_ok _ r t.2) ∙ placed_begins (length bytes) l t.0 t.1

-- a mark is set within storage
record Begins (here : ℕ) (p r : Plan) : Type 0 where
  set_there : r.begins ≡ set p.begins here true
  room : here < 1048576

started_begins : (n : ℕ) (l r : Plan) → 0 < n → started n l ≡ Ok r → Begins l.here l r
unfolding started
started_begins n l r some e =
    let u = unless_ok (l.here % 2 == 1) _ r OutOfRange e in
    let t = then_ok (placed n l) (λ q. Ok (record q { begins = set q.begins l.here true })) r u.1 in
    let h = (place_holds n l t.0 t.1).room some in
    record {
      set_there = begins_from _ r (same_ok _ r t.2) ∙ ap (λ b. set b l.here true) (placed_begins n l t.0 t.1);
      room = omega (arith, h.1);
    }

instruction_begins : (row : ℕ) (mask : Option ℕ) (s : Statement) (p r : Plan) → s.here ≡ p.here →
    instruction_line s.number s.label s.text row mask p ≡ Ok r → Begins s.here p r
unfolding instruction_line
instruction_begins row mask s p r h e =
    let l = labelled s.label (pos p.here) p in
    let t = then_ok (started (size_of_row row) l) _ r e in
    let b = started_begins (size_of_row row) l t.0 (some_size (entry_at row).form) t.1 in
    record {
      set_there = begins_from _ r (same_ok _ r t.2) ∙ b.set_there ∙ ap (λ at. set p.begins at true) (sym h);
      room = subst (λ at. at < 1048576) (sym h) b.room;
    }

ds_begins : (label line : List ℕ) (ts : List Token) (p r : Plan) → ds_line label line ts p ≡ Ok r →
    r.begins ≡ p.begins
unfolding ds_line
ds_begins label line ts p r e =
    let t = then_ok (value_on line ts p) _ r e in
    let l = labelled label (pos p.here) p in
    placed_begins (to_nat t.0) l r (ds_by (is_below 1048577 t.0) (placed (to_nat t.0) l) r t.2)

dc_begins : (label field : List ℕ) (p r : Plan) → dc_line label field p ≡ Ok r → r.begins ≡ p.begins
unfolding dc_line
dc_begins label field p r e =
    let t = then_ok (data_of field) _ r e in
    written_begins t.0 (labelled label (pos p.here) p) r t.2

equ_begins : (label line : List ℕ) (ts : List Token) (p r : Plan) → equ_line label line ts p ≡ Ok r →
    r.begins ≡ p.begins
unfolding equ_line
equ_begins label line ts p r e =
    let t = then_ok (value_on line ts p) _ r e in
    let w = where_ok (is_doubleword t.0) (labelled label t.0 p) r OutOfRange t.2 in
    begins_from _ r w.1

org_begins : (line : List ℕ) (ts : List Token) (p r : Plan) → org_line line ts p ≡ Ok r → r.begins ≡ p.begins
unfolding org_line
org_begins line ts p r e =
    let t = then_ok (value_on line ts p) _ r e in
    let w = where_ok _ _ r OutOfRange t.2 in
    begins_from _ r w.1

end_begins : (ts : List Token) (p r : Plan) → end_line ts p ≡ Ok r → r.begins ≡ p.begins
unfolding end_line
end_begins ts p r e = let w = where_ok _ _ r BadDirective e in begins_from _ r w.1

cpu_begins : (n : ℕ) (line : List ℕ) (p r : Plan) → cpu_line n line p ≡ Ok r → r.begins ≡ p.begins
unfolding cpu_line
cpu_begins n line p r e = let w = where_ok _ _ r OutOfRange e in begins_from _ r w.1

abbrev BeginStep : Operation → Statement → Plan → Plan → Type 0
BeginStep (Instruction row mask) s p r = Begins s.here p r
BeginStep _ s p r = r.begins ≡ p.begins

begin_step : (op : Operation) (s : Statement) (p r : Plan) → s.here ≡ p.here →
    operation_line op s.number s.label s.text s.end s.operands p ≡ Ok r → BeginStep op s p r
unfolding operation_line
begin_step (Instruction row mask) s p r h e = instruction_begins row mask s p r h e
begin_step Org s p r h e = org_begins s.text s.operands p r e
begin_step Equ s p r h e = equ_begins s.label s.text s.operands p r e
begin_step Ds s p r h e = ds_begins s.label s.text s.operands p r e
begin_step Dc s p r h e = dc_begins s.label (field_behind s.end s.text) p r e
begin_step Cpu s p r h e = cpu_begins s.number s.text p r e
begin_step Reg s p r h e = begins_from _ r (same_ok _ r e)
begin_step Show s p r h e = begins_from _ r (same_ok _ r e)
begin_step Tdb s p r h e = begins_from _ r (same_ok _ r e)
begin_step Sched s p r h e = begins_from _ r (same_ok _ r e)
begin_step Parm s p r h e = begins_from _ r (same_ok _ r e)
begin_step Prefix s p r h e = begins_from _ r (same_ok _ r e)
begin_step End s p r h e = end_begins s.operands p r e

step_size : (op : Operation) (s : Statement) (p r : Plan) → BeginStep op s p r → length p.begins ≡ 1048576 →
    length r.begins ≡ 1048576
step_size (Instruction row mask) s p r b n = ap length b.set_there ∙ length-set p.begins s.here true ∙ n
step_size _ s p r b n = ap length b ∙ n

step_stays : (op : Operation) (s : Statement) (p r : Plan) (at : ℕ) → BeginStep op s p r →
    length p.begins ≡ 1048576 → get_or p.begins at false ≡ true → get_or r.begins at false ≡ true
step_stays (Instruction row mask) s p r at b n e =
    let room = b.room in
    ap (λ q. get_or q at false) b.set_there ∙ elim (cases_eq at s.here) [
      | inl same ↦ ap (λ q. get_or (set p.begins s.here true) q false) same
          ∙ get_or-set_same p.begins s.here true false (omega arith)
      | inr other ↦ get_or-set_other p.begins s.here at true false other ∙ e
    ]
step_stays _ s p r at b n e = ap (λ q. get_or q at false) b ∙ e

step_begins : (op : Operation) (s : Statement) (p r : Plan) → IsInstruction op → BeginStep op s p r →
    length p.begins ≡ 1048576 → get_or r.begins s.here false ≡ true
step_begins (Instruction row mask) s p r i b n =
    let room = b.room in
    ap (λ q. get_or q s.here false) b.set_there ∙ get_or-set_same p.begins s.here true false (omega arith)
step_begins _ s p r i b n = absurd i

acts_begin : (s : Statement) (p r : Plan) → Acts s p r → BeginStep s.operation s p r
acts_begin s p r a = begin_step s.operation s p r a.here a.does

stay_begun : (ss : List Statement) (p q : Plan) → Walk ss p q → length p.begins ≡ 1048576 → (at : ℕ) →
    get_or p.begins at false ≡ true → get_or q.begins at false ≡ true
stay_begun [] p q w n at e = sym (ap (λ (x : Plan). get_or x.begins at false) w) ∙ e
stay_begun (s ∷ ss) p q w n at e =
    let b = acts_begin s p w.0 w.1 in
    stay_begun ss w.0 q w.2 (step_size s.operation s p w.0 b n) at (step_stays s.operation s p w.0 at b n e)

-- each instruction's location is marked
pub all_begun : (ss : List Statement) (p q : Plan) → Walk ss p q → length p.begins ≡ 1048576 →
    (s : Statement) →
    Contains ss s → IsInstruction s.operation → get_or q.begins s.here false ≡ true
all_begun [] p q w n s c i = absurd (none_is s c)
all_begun (t ∷ ss) p q w n s c i =
    let b = acts_begin t p w.0 w.1 in
    let size = step_size t.operation t p w.0 b n in
    elim (either_is t s ss c) [
      | inl e ↦ subst (λ x. get_or q.begins x.here false ≡ true) e
          (stay_begun ss w.0 q w.2 size t.here
          (step_begins t.operation t p w.0 (subst (λ x. IsInstruction x.operation) (sym e) i) b n))
      | inr l ↦ all_begun ss w.0 q w.2 size s l i
    ]

-- ---- the places of marks

pub place_there : (n : ℕ) (marks : List Bool) (k at : ℕ) → at ≡ n + k → get_or marks k false ≡ true →
    Contains (places_from n marks) at
unfolding places_from
place_there n [] k at h e = absurd (cc)
place_there n (true ∷ marks) zero at h e =
    let is : n ≡ at = omega arith in
    subst (λ x. Contains (n ∷ places_from (suc n) marks) x) is (first_is n (places_from (suc n) marks))
place_there n (true ∷ marks) (suc k) at h e =
    later_is n at (places_from (suc n) marks) (place_there (suc n) marks k at (omega arith) e)
place_there n (false ∷ marks) zero at h e = absurd (cc)
place_there n (false ∷ marks) (suc k) at h e = place_there (suc n) marks k at (omega arith) e
