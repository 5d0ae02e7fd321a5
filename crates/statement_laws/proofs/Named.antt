-- The labels that statements leave.
use Rattle.std.proofs.Common.{◌≡◌, ◌≢◌, ℕ, ℤ, pos, Bool, true, false, List, [], ◌∷◌, length, Option, Some}
use Rattle.std.proofs.Common.{Ok, refl, sym, ap, ◌∙◌, subst, arith, inl, inr, ◌⊎◌}
use Rattle.std.specs.Prelude.{if◌then◌else◌, All, AllPairs, is_some}
use Rattle.std.specs.List.{Contains}
use Rattle.std.specs.Str.{bytes_eq}
use Rattle.std.proofs.lemmas.Bool.{false≢true, false_from_ne_true}
use Rattle.std.proofs.lemmas.Slice.Eq.{bytes_eq-Decides}
use Rattle.std.proofs.lemmas.List.Elements.{All-cons, All-nil}
use Rattle.std.proofs.lemmas.List.Kept.{AllPairs-cons}
use Rattle.z_text.specs.declared.token.Token.{Token}
use Rattle.z_fields.specs.Data.{data_of}
use Rattle.z_operands.specs.Operations.{size_of_row}
use Rattle.z_operands.specs.Values.{Table}
use Rattle.z_fields.specs.declared.fault.Kind.TheVariants.{OutOfRange, BadDirective}
use Rattle.z_operands.specs.declared.operation.Operation.{Operation}
use Rattle.z_operands.specs.declared.operation.Operation.TheVariants.{Instruction, Org, Equ, Ds, Dc, Cpu, Reg}
use Rattle.z_operands.specs.declared.operation.Operation.TheVariants.{Show, Tdb, Sched, Parm, Prefix, End}
use Rattle.z_reading.specs.Listing.{Plan, labelled, table_with, value_on, placed, written, started}
use Rattle.z_reading.specs.Listing.{org_line, equ_line, ds_line, dc_line, instruction_line, cpu_line}
use Rattle.z_reading.specs.Listing.{end_line}
use Rattle.z_reading.specs.Listing.{operation_line, is_defined, is_doubleword, is_below, to_nat}
use Rattle.z_reading.specs.Listing.{field_behind}
use Rattle.statement_laws.specs.Statements.{Statement, Defines, Gives, value_of, IsNamed, HaveOtherLabels}
use Rattle.statement_laws.proofs.Acted.{Acts, Walk, first_is, later_is, either_is, none_is}
use Rattle.z_assemble.proofs.Passed.{then_ok, where_ok, unless_ok, same_ok}
use Rattle.z_assemble.proofs.Plans.{place_holds, ds_by}
use Rattle.std.proofs.lemmas.Option.{same_Some}

-- ---- a table with one more label

chosen : (t : Bool) (old : Option ℤ) (w v : ℤ) → (if t then Some w else old) ≡ Some v →
    (old ≡ Some v) ⊎ ((t ≡ true) × (w ≡ v))
chosen true old w v e = inr (refl, same_Some w v e)
chosen false old w v e = inl e

with_from : (label : List ℕ) (w v : ℤ) (old : Table) (name : List ℕ) → table_with label w old name ≡ Some v →
    (old name ≡ Some v) ⊎ ((label ≡ name) × (name ≢ []) × (w ≡ v))
with_from [] w v old name e = inl e
with_from (b ∷ bs) w v old name e =
    elim (chosen (bytes_eq name (b ∷ bs)) (old name) w v e) [
      | inl o ↦ inl o
      | inr t ↦
          let is : name ≡ b ∷ bs = (bytes_eq-Decides name (b ∷ bs)).0 t.0 in
          inr (sym is, (λ n. not_nil b bs (sym is ∙ n)), t.1)
    ]
  where
    not_nil : (b : ℕ) (bs : List ℕ) → b ∷ bs ≡ [] → ⊥
    not_nil b bs e = absurd (cc)

with_label_here : (label : List ℕ) (w : ℤ) (old : Table) → label ≢ [] → table_with label w old label ≡ Some w
with_label_here [] w old n = absurd (n refl)
with_label_here (b ∷ bs) w old n =
    ap (λ t. if t then Some w else old (b ∷ bs)) ((bytes_eq-Decides (b ∷ bs) (b ∷ bs)).1 refl)

-- a label that the table has is none that was new
pub is_new : (label : List ℕ) (v : ℤ) (old : Table) → label ≢ [] → old label ≡ Some v →
    is_defined label old ≡ false → ⊥
is_new [] v old n e f = n refl
is_new (b ∷ bs) v old n e f = false≢true (sym f ∙ ap is_some e)

with_label_stays : (label : List ℕ) (w v : ℤ) (old : Table) (name : List ℕ) → is_defined label old ≡ false →
    old name ≡ Some v → table_with label w old name ≡ Some v
with_label_stays [] w v old name f e = e
with_label_stays (b ∷ bs) w v old name f e =
    let other : bytes_eq name (b ∷ bs) ≡ false =
    false_from_ne_true (bytes_eq name (b ∷ bs)) (λ t.
    let is : name ≡ b ∷ bs = (bytes_eq-Decides name (b ∷ bs)).0 t in
    false≢true (sym f ∙ ap is_some (subst (λ q. old q ≡ Some v) is e))) in
    ap (λ t. if t then Some w else old name) other ∙ e

-- ---- what a statement does to the labels

-- its label has the value that it gives
abbrev pub GivesLabel : Operation → Statement → Plan → Plan → Type 0
GivesLabel op s p r = (w : ℤ) × Gives op s w × (r.labels ≡ table_with s.label w p.labels)

abbrev pub LabelStep : Operation → Statement → Plan → Plan → Type 0
LabelStep (Instruction row mask) s p r = GivesLabel (Instruction row mask) s p r
LabelStep Equ s p r = GivesLabel Equ s p r
LabelStep Ds s p r = GivesLabel Ds s p r
LabelStep Dc s p r = GivesLabel Dc s p r
LabelStep _ s p r = r.labels ≡ p.labels

-- a value by the labels of the plan is that by those of the statement
pub value_same : (s : Statement) (p : Plan) → s.here ≡ p.here → s.labels ≡ p.labels →
    value_of s ≡ value_on s.text s.operands p
value_same s p h l = cc

labels_of : (p r : Plan) → p ≡ r → r.labels ≡ p.labels
labels_of p r e = sym (ap (λ (x : Plan). x.labels) e)

-- the labels of a line that places bytes
placed_labels : (n : ℕ) (l r : Plan) → placed n l ≡ Ok r → r.labels ≡ l.labels
placed_labels n l r e = sym (ap (λ (x : Plan). x.labels) (place_holds n l r e).is)

here_label : (s : Statement) (p r : Plan) → s.here ≡ p.here →
    r.labels ≡ (labelled s.label (pos p.here) p).labels → GivesLabel Ds s p r
here_label s p r h e = (pos p.here, ap pos (sym h), e)

written_labels : (bytes : List ℕ) (l r : Plan) → written bytes l ≡ Ok r → r.labels ≡ l.labels
unfolding written
written_labels bytes l r e =
    let t = then_ok (placed (length bytes) l) _ r e in
    labels_of _ r (same_ok _ r t.2) ∙ placed_labels (length bytes) l t.0 t.1

started_labels : (n : ℕ) (l r : Plan) → started n l ≡ Ok r → r.labels ≡ l.labels
unfolding started
started_labels n l r e =
    let u = unless_ok _ _ r OutOfRange e in
    let t = then_ok (placed n l) _ r u.1 in
    labels_of _ r (same_ok _ r t.2) ∙ placed_labels n l t.0 t.1

instruction_labels : (n row : ℕ) (mask : Option ℕ) (label line : List ℕ) (p r : Plan) →
    instruction_line n label line row mask p ≡ Ok r → r.labels ≡ (labelled label (pos p.here) p).labels
unfolding instruction_line
instruction_labels n row mask label line p r e =
    let l = labelled label (pos p.here) p in
    let t = then_ok (started (size_of_row row) l) _ r e in
    labels_of _ r (same_ok _ r t.2) ∙ started_labels (size_of_row row) l t.0 t.1

ds_labels : (label line : List ℕ) (ts : List Token) (p r : Plan) → ds_line label line ts p ≡ Ok r →
    r.labels ≡ (labelled label (pos p.here) p).labels
unfolding ds_line
ds_labels label line ts p r e =
    let t = then_ok (value_on line ts p) _ r e in
    let l = labelled label (pos p.here) p in
    placed_labels (to_nat t.0) l r (ds_by (is_below 1048577 t.0) (placed (to_nat t.0) l) r t.2)

dc_labels : (label field : List ℕ) (p r : Plan) → dc_line label field p ≡ Ok r →
    r.labels ≡ (labelled label (pos p.here) p).labels
unfolding dc_line
dc_labels label field p r e =
    let t = then_ok (data_of field) _ r e in
    written_labels t.0 (labelled label (pos p.here) p) r t.2

equ_labels : (s : Statement) (p r : Plan) → s.here ≡ p.here → s.labels ≡ p.labels →
    equ_line s.label s.text s.operands p ≡ Ok r → GivesLabel Equ s p r
unfolding equ_line
equ_labels s p r h l e =
    let t = then_ok (value_on s.text s.operands p) _ r e in
    let w = where_ok (is_doubleword t.0) (labelled s.label t.0 p) r OutOfRange t.2 in
    (t.0, value_same s p h l ∙ t.1, labels_of _ r w.1)

org_labels : (line : List ℕ) (ts : List Token) (p r : Plan) → org_line line ts p ≡ Ok r → r.labels ≡ p.labels
unfolding org_line
org_labels line ts p r e =
    let t = then_ok (value_on line ts p) _ r e in
    let w = where_ok _ _ r OutOfRange t.2 in
    labels_of _ r w.1

cpu_labels : (n : ℕ) (line : List ℕ) (p r : Plan) → cpu_line n line p ≡ Ok r → r.labels ≡ p.labels
unfolding cpu_line
cpu_labels n line p r e = let w = where_ok _ _ r OutOfRange e in labels_of _ r w.1

end_labels : (ts : List Token) (p r : Plan) → end_line ts p ≡ Ok r → r.labels ≡ p.labels
unfolding end_line
end_labels ts p r e = let w = where_ok _ _ r BadDirective e in labels_of _ r w.1

label_step : (op : Operation) (s : Statement) (p r : Plan) → s.here ≡ p.here → s.labels ≡ p.labels →
    operation_line op s.number s.label s.text s.end s.operands p ≡ Ok r → LabelStep op s p r
unfolding operation_line
label_step (Instruction row mask) s p r h l e =
    here_label s p r h (instruction_labels s.number row mask s.label s.text p r e)
label_step Org s p r h l e = org_labels s.text s.operands p r e
label_step Equ s p r h l e = equ_labels s p r h l e
label_step Ds s p r h l e = here_label s p r h (ds_labels s.label s.text s.operands p r e)
label_step Dc s p r h l e = here_label s p r h (dc_labels s.label (field_behind s.end s.text) p r e)
label_step Cpu s p r h l e = cpu_labels s.number s.text p r e
label_step Reg s p r h l e = labels_of _ r (same_ok _ r e)
label_step Show s p r h l e = labels_of _ r (same_ok _ r e)
label_step Tdb s p r h l e = labels_of _ r (same_ok _ r e)
label_step Sched s p r h l e = labels_of _ r (same_ok _ r e)
label_step Parm s p r h l e = labels_of _ r (same_ok _ r e)
label_step Prefix s p r h l e = labels_of _ r (same_ok _ r e)
label_step End s p r h l e = end_labels s.operands p r e

-- ---- what a table has, and what was given

-- a label with a value, where the operation is this one
abbrev Named : Operation → Statement → List ℕ → ℤ → Type 0
Named op s name v = (s.label ≡ name) × (name ≢ []) × Gives op s v

table_from : (op : Operation) (s : Statement) (p r : Plan) (name : List ℕ) (v : ℤ) → GivesLabel op s p r →
    r.labels name ≡ Some v → (p.labels name ≡ Some v) ⊎ Named op s name v
table_from op s p r name v g e =
    elim (with_from s.label g.0 v p.labels name (sym (ap (λ (t : Table). t name) g.2) ∙ e)) [
      | inl o ↦ inl o
      | inr t ↦ inr (t.0, t.1, subst (λ w. Gives op s w) t.2 g.1)
    ]

step_from : (op : Operation) (s : Statement) (p r : Plan) (name : List ℕ) (v : ℤ) → LabelStep op s p r →
    r.labels name ≡ Some v → (p.labels name ≡ Some v) ⊎ Named op s name v
step_from (Instruction row mask) s p r name v g e = table_from (Instruction row mask) s p r name v g e
step_from Equ s p r name v g e = table_from Equ s p r name v g e
step_from Ds s p r name v g e = table_from Ds s p r name v g e
step_from Dc s p r name v g e = table_from Dc s p r name v g e
step_from _ s p r name v g e = inl (sym (ap (λ (t : Table). t name) g) ∙ e)

step_stays : (op : Operation) (s : Statement) (p r : Plan) (name : List ℕ) (v : ℤ) → LabelStep op s p r →
    is_defined s.label p.labels ≡ false → p.labels name ≡ Some v → r.labels name ≡ Some v
step_stays (Instruction row mask) s p r name v g f e =
    ap (λ (t : Table). t name) g.2 ∙ with_label_stays s.label g.0 v p.labels name f e
step_stays Equ s p r name v g f e =
    ap (λ (t : Table). t name) g.2 ∙ with_label_stays s.label g.0 v p.labels name f e
step_stays Ds s p r name v g f e =
    ap (λ (t : Table). t name) g.2 ∙ with_label_stays s.label g.0 v p.labels name f e
step_stays Dc s p r name v g f e =
    ap (λ (t : Table). t name) g.2 ∙ with_label_stays s.label g.0 v p.labels name f e
step_stays _ s p r name v g f e = ap (λ (t : Table). t name) g ∙ e

-- only one value is given
one_given : (op : Operation) (s : Statement) (v w : ℤ) → Gives op s v → Gives op s w → v ≡ w
one_given (Instruction row mask) s v w a b = a ∙ sym b
one_given Equ s v w a b = same_ok v w (sym a ∙ b)
one_given Ds s v w a b = a ∙ sym b
one_given Dc s v w a b = a ∙ sym b
one_given _ s v w a b = absurd a

table_gives : (op : Operation) (s : Statement) (p r : Plan) (name : List ℕ) (v : ℤ) → GivesLabel op s p r →
    Named op s name v → r.labels name ≡ Some v
table_gives op s p r name v g n =
    ap (λ (t : Table). t name) g.2
    ∙ subst (λ q. table_with s.label g.0 p.labels q ≡ Some g.0) n.0
    (with_label_here s.label g.0 p.labels (λ e. n.1 (sym n.0 ∙ e)))
    ∙ ap Some (one_given op s g.0 v g.1 n.2)

step_gives : (op : Operation) (s : Statement) (p r : Plan) (name : List ℕ) (v : ℤ) → LabelStep op s p r →
    Named op s name v → r.labels name ≡ Some v
step_gives (Instruction row mask) s p r name v g n = table_gives (Instruction row mask) s p r name v g n
step_gives Equ s p r name v g n = table_gives Equ s p r name v g n
step_gives Ds s p r name v g n = table_gives Ds s p r name v g n
step_gives Dc s p r name v g n = table_gives Dc s p r name v g n
step_gives _ s p r name v g n = absurd n.2

-- ---- one statement

acts_label : (s : Statement) (p r : Plan) → Acts s p r → LabelStep s.operation s p r
acts_label s p r a = label_step s.operation s p r a.here a.labels a.does

named_of : (s : Statement) (name : List ℕ) (v : ℤ) → Defines s name v → Named s.operation s name v
named_of s name v d = (d.label, d.some, d.gives)

pub label_from : (s : Statement) (p r : Plan) (name : List ℕ) (v : ℤ) → Acts s p r → r.labels name ≡ Some v →
    (p.labels name ≡ Some v) ⊎ Defines s name v
label_from s p r name v a e =
    elim (step_from s.operation s p r name v (acts_label s p r a) e) [
      | inl o ↦ inl o
      | inr n ↦ inr (record { label = n.0; some = n.1; gives = n.2 })
    ]

pub label_stays : (s : Statement) (p r : Plan) (name : List ℕ) (v : ℤ) → Acts s p r → p.labels name ≡ Some v →
    r.labels name ≡ Some v
label_stays s p r name v a e = step_stays s.operation s p r name v (acts_label s p r a) a.new e

pub label_given : (s : Statement) (p r : Plan) (name : List ℕ) (v : ℤ) → Acts s p r → Defines s name v →
    r.labels name ≡ Some v
label_given s p r name v a d = step_gives s.operation s p r name v (acts_label s p r a) (named_of s name v d)

-- ---- all statements

pub labels_from : (ss : List Statement) (p q : Plan) (name : List ℕ) (v : ℤ) → Walk ss p q →
    q.labels name ≡ Some v → (p.labels name ≡ Some v) ⊎ IsNamed ss name v
labels_from [] p q name v w e = inl (ap (λ (x : Plan). x.labels name) w ∙ e)
labels_from (s ∷ ss) p q name v w e =
    elim (labels_from ss w.0 q name v w.2 e) [
      | inl o ↦ elim (label_from s p w.0 name v w.1 o) [
        | inl old ↦ inl old
        | inr d ↦ inr (record { statement = s; among = first_is s ss; defines = d })
      ]
      | inr n ↦ inr (record {
        statement = n.statement;
        among = later_is s n.statement ss n.among;
        defines = n.defines;
      })
    ]

pub labels_stay : (ss : List Statement) (p q : Plan) (name : List ℕ) (v : ℤ) → Walk ss p q →
    p.labels name ≡ Some v → q.labels name ≡ Some v
labels_stay [] p q name v w e = sym (ap (λ (x : Plan). x.labels name) w) ∙ e
labels_stay (s ∷ ss) p q name v w e = labels_stay ss w.0 q name v w.2 (label_stays s p w.0 name v w.1 e)

pub labels_given : (ss : List Statement) (p q : Plan) (s : Statement) (name : List ℕ) (v : ℤ) → Walk ss p q →
    Contains ss s → Defines s name v → q.labels name ≡ Some v
labels_given [] p q s name v w c d = absurd (none_is s c)
labels_given (t ∷ ss) p q s name v w c d =
    elim (either_is t s ss c) [
      | inl e ↦ labels_stay ss w.0 q name v w.2
          (label_given t p w.0 name v w.1 (subst (λ x. Defines x name v) (sym e) d))
      | inr l ↦ labels_given ss w.0 q s name v w.2 l d
    ]

-- ---- no label is given twice

never_again : (ss : List Statement) (p q : Plan) (name : List ℕ) (v : ℤ) → Walk ss p q →
    p.labels name ≡ Some v →
    All (λ s. (w : ℤ) → Defines s name w → ⊥) ss
never_again [] p q name v w e = All-nil (λ s. (x : ℤ) → Defines s name x → ⊥)
never_again (s ∷ ss) p q name v w e =
    All-cons (λ t. (x : ℤ) → Defines t name x → ⊥) s ss
    (λ x d. is_new s.label v p.labels (λ n. d.some (sym d.label ∙ n))
    (subst (λ l. p.labels l ≡ Some v) (sym d.label) e) w.1.new)
    (never_again ss w.0 q name v w.2 (label_stays s p w.0 name v w.1 e))

pub named_once : (ss : List Statement) (p q : Plan) → Walk ss p q → AllPairs HaveOtherLabels ss
named_once [] p q w = λ i j d l h. absurd (omega arith)
named_once (s ∷ ss) p q w =
    AllPairs-cons HaveOtherLabels s ss
    (λ k d l name v x a b. never_again ss w.0 q name v w.2 (label_given s p w.0 name v w.1 a) k d l x b)
    (named_once ss w.0 q w.2)
