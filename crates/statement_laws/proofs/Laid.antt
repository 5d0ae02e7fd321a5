-- The bytes that statements place in the first reading: each stands where it was placed, and no byte is
-- placed twice.
use Rattle.std.proofs.Common.{◌≡◌, ℕ, pos, ◌+◌, ◌<◌, ◌≤◌, ◌%◌, Bool, true, false, List, []}
use Rattle.std.proofs.Common.{◌∷◌, length, get_or, Option, Result, Ok, refl, sym, ap, ◌∙◌}
use Rattle.std.proofs.Common.{◌==◌}
use Rattle.std.proofs.Common.{subst, arith, inl, inr, ◌⊎◌}
use Rattle.std.specs.Prelude.{All, AllPairs}
use Rattle.std.specs.List.{Contains}
use Rattle.std.proofs.lemmas.Bool.{false≢true, cases_lt}
use Rattle.std.proofs.lemmas.List.Elements.{All-cons, All-nil}
use Rattle.std.proofs.lemmas.List.Kept.{AllPairs-cons}
use Rattle.z_text.specs.declared.token.Token.{Token}
use Rattle.z_fields.specs.Chain.{◌>>=◌}
use Rattle.z_fields.specs.Data.{data_of}
use Rattle.z_operands.specs.Operations.{size_of_row}
use Rattle.z_fields.specs.declared.fault.Kind.{Kind}
use Rattle.z_fields.specs.declared.fault.Kind.TheVariants.{OutOfRange, BadDirective}
use Rattle.z_operands.specs.declared.operation.Operation.{Operation}
use Rattle.z_operands.specs.declared.operation.Operation.TheVariants.{Instruction, Org, Equ, Ds, Dc, Cpu, Reg}
use Rattle.z_operands.specs.declared.operation.Operation.TheVariants.{Show, Tdb, Sched, Parm, Prefix, End}
use Rattle.z_reading.specs.Listing.{Plan, labelled, value_on, placed, tasked, written, started}
use Rattle.z_reading.specs.Listing.{org_line, equ_line, ds_line, dc_line, instruction_line, cpu_line}
use Rattle.z_reading.specs.Listing.{end_line}
use Rattle.z_reading.specs.Listing.{operation_line, is_doubleword, is_below, to_nat, field_behind}
use Rattle.statement_laws.specs.Statements.{Statement, value_of, bytes_with, Stand}
use Rattle.z_reading.specs.Text.{write_at, copies}
use Rattle.z_assemble.specs.Whole.{no_label}
use Rattle.statement_laws.proofs.Acted.{Acts, Walk, first_is, later_is}
use Rattle.statement_laws.proofs.Named.{value_same}
use Rattle.z_assemble.proofs.Over.{HasRoom, write_size, write_other, write_inside, copies_size, copies_at}
use Rattle.z_assemble.proofs.Passed.{then_ok, where_ok, unless_ok, same_ok}
use Rattle.z_assemble.proofs.Plans.{HasPlaced, place_holds, ds_by, mark_room, mark_sets}

-- ---- storage and its marks

-- what is not marked is zero
pub record IsClean (storage : List ℕ) (taken : List Bool) : Type 0 where
  pub size : length storage ≡ 1048576
  pub marks : length taken ≡ 1048576
  pub zero : (at : ℕ) → get_or taken at false ≡ false → get_or storage at 0 ≡ 0

abbrev pub IsInside : ℕ → ℕ → ℕ → Type 0
IsInside here n at = (here ≤ at) × (at < here + n)

-- the bytes are laid over bytes that were not marked
pub record Lays (here : ℕ) (bytes : List ℕ) (old : List ℕ) (marks : List Bool) (new : List ℕ)
    (taken : List Bool) :
    Type 0 where
  pub size : length new ≡ 1048576
  pub marks_size : length taken ≡ 1048576
  pub free : (at : ℕ) → IsInside here (length bytes) at → get_or marks at false ≡ false
  pub marked : (at : ℕ) → IsInside here (length bytes) at → get_or taken at false ≡ true
  pub others : (at : ℕ) → (IsInside here (length bytes) at → ⊥) →
      get_or taken at false ≡ get_or marks at false
  pub stand : Stand bytes here new
  pub beside : (at : ℕ) → (IsInside here (length bytes) at → ⊥) → get_or new at 0 ≡ get_or old at 0

abbrev LaysOn : Plan → List ℕ → Plan → Type 0
LaysOn p bytes r = Lays p.here bytes p.storage p.taken r.storage r.taken

nothing : (here : ℕ) (old new : List ℕ) (marks taken : List Bool) → IsClean old marks → new ≡ old →
    taken ≡ marks →
    Lays here [] old marks new taken
nothing here old new marks taken c s t = record {
  size = ap length s ∙ c.size;
  marks_size = ap length t ∙ c.marks;
  free = λ at i. absurd (omega (arith, i.0, i.1));
  marked = λ at i. absurd (omega (arith, i.0, i.1));
  others = λ at o. ap (λ m. get_or m at false) t;
  stand = λ i l. absurd (omega arith);
  beside = λ at o. ap (λ m. get_or m at 0) s;
}

-- marks alone: the bytes there are zeros already
zeros_laid : (n : ℕ) (l r : Plan) → HasPlaced n l r → IsClean l.storage l.taken → LaysOn l (copies n 0) r
zeros_laid n l r h c =
    let z : length (copies {X = ℕ} n 0) ≡ n = copies_size n 0 in
    let m : length (copies {X = Bool} n true) ≡ n = copies_size n true in
    let room = mark_room l.here n l.taken c.marks h.room in
    let marks : write_at l.here (copies n true) l.taken ≡ r.taken = ap (λ (x : Plan). x.taken) h.is in
    let same : l.storage ≡ r.storage = ap (λ (x : Plan). x.storage) h.is in
    record {
      size = ap length (sym same) ∙ c.size;
      marks_size = ap length (sym marks) ∙ write_size l.here (copies n true) l.taken room ∙ c.marks;
      free = λ at i. h.free at i.0 (omega (arith, i.1));
      marked = λ at i. ap (λ q. get_or q at false) (sym marks)
          ∙ mark_sets l.here n l.taken room at i.0 (omega (arith, i.1));
      others = λ at o. ap (λ q. get_or q at false) (sym marks)
          ∙ write_other l.here (copies n true) l.taken at false room (λ a b. o (a, omega arith));
      stand = λ i k. ap (λ q. get_or q (l.here + i) 0) (sym same)
          ∙ c.zero (l.here + i) (h.free (l.here + i) (omega arith) (omega arith)) ∙ sym (copies_at n 0 i);
      beside = λ at o. ap (λ q. get_or q at 0) (sym same);
    }

-- bytes written where they are marked
written_laid : (bytes : List ℕ) (l r : Plan) → written bytes l ≡ Ok r → IsClean l.storage l.taken →
    LaysOn l bytes r
unfolding written
written_laid bytes l r e c =
    let t = then_ok (placed (length bytes) l)
    (λ q. Ok (record q { storage = write_at l.here bytes q.storage })) r e in
    let h = place_holds (length bytes) l t.0 t.1 in
    let z = zeros_laid (length bytes) l t.0 h c in
    let n : length (copies {X = ℕ} (length bytes) 0) ≡ length bytes = copies_size (length bytes) 0 in
    let is = same_ok (record t.0 { storage = write_at l.here bytes t.0.storage }) r t.2 in
    let new : write_at l.here bytes t.0.storage ≡ r.storage = ap (λ (x : Plan). x.storage) is in
    let marks : t.0.taken ≡ r.taken = ap (λ (x : Plan). x.taken) is in
    let same : l.storage ≡ t.0.storage = ap (λ (x : Plan). x.storage) h.is in
    let size : length t.0.storage ≡ 1048576 = ap length (sym same) ∙ c.size in
    let room : HasRoom l.here bytes t.0.storage = λ some. let q = h.room some in omega (arith, q.1) in
    record {
      size = ap length (sym new) ∙ write_size l.here bytes t.0.storage room ∙ size;
      marks_size = ap length (sym marks) ∙ z.marks_size;
      free = λ at i. z.free at (i.0, omega (arith, i.1));
      marked = λ at i. ap (λ q. get_or q at false) (sym marks) ∙ z.marked at (i.0, omega (arith, i.1));
      others = λ at o. ap (λ q. get_or q at false) (sym marks)
          ∙ z.others at (λ i. o (i.0, omega (arith, i.1)));
      stand = λ i k. let f = room (omega arith) in
          ap (λ q. get_or q (l.here + i) 0) (sym new)
          ∙ write_inside l.here bytes t.0.storage i 0 (omega arith) k;
      beside = λ at o. ap (λ q. get_or q at 0) (sym new)
          ∙ write_other l.here bytes t.0.storage at 0 room (λ a b. o (a, b))
          ∙ ap (λ q. get_or q at 0) (sym same);
    }

-- ---- what each operation lays

-- zeros for an instruction, whose code is written in the second reading
abbrev pub laid_with : Operation → Statement → Result (List ℕ) Kind
laid_with (Instruction row mask) s = Ok (copies (size_of_row row) 0)
laid_with op s = bytes_with op no_label s

abbrev pub LaysBytes : Operation → Statement → Plan → Plan → Type 0
LaysBytes op s p r = (bytes : List ℕ) × (laid_with op s ≡ Ok bytes) × LaysOn p bytes r

started_laid : (n : ℕ) (l r : Plan) → started n l ≡ Ok r → IsClean l.storage l.taken → LaysOn l (copies n 0) r
unfolding started
started_laid n l r e c =
    let u = unless_ok (l.here % 2 == 1) _ r OutOfRange e in
    let t = then_ok (placed n l) _ r u.1 in
    subst (LaysOn l (copies n 0)) (same_ok _ r t.2) (zeros_laid n l t.0 (place_holds n l t.0 t.1) c)

instruction_laid : (n row : ℕ) (mask : Option ℕ) (label line : List ℕ) (p r : Plan) →
    instruction_line n label line row mask p ≡ Ok r → IsClean p.storage p.taken →
    LaysOn p (copies (size_of_row row) 0) r
unfolding instruction_line
instruction_laid n row mask label line p r e c =
    let l = labelled label (pos p.here) p in
    let t = then_ok (started (size_of_row row) l) (λ q. Ok (tasked n p.here line (Instruction row mask) q)) r
    e in
    subst (LaysOn l (copies (size_of_row row) 0)) (same_ok _ r t.2)
    (started_laid (size_of_row row) l t.0 t.1 c)

ds_laid : (s : Statement) (p r : Plan) → s.here ≡ p.here → s.labels ≡ p.labels →
    ds_line s.label s.text s.operands p ≡ Ok r → IsClean p.storage p.taken → LaysBytes Ds s p r
unfolding ds_line
ds_laid s p r h l e c =
    let t = then_ok (value_on s.text s.operands p) _ r e in
    let q = labelled s.label (pos p.here) p in
    let n = to_nat t.0 in
    let f = ds_by (is_below 1048577 t.0) (placed n q) r t.2 in
    let v : value_of s ≡ Ok t.0 = value_same s p h l ∙ t.1 in
    (copies n 0, ap (λ o. o >>= λ m. Ok (copies (to_nat m) 0)) v, zeros_laid n q r (place_holds n q r f) c)

dc_laid : (label field : List ℕ) (p r : Plan) → dc_line label field p ≡ Ok r → IsClean p.storage p.taken →
    (bytes : List ℕ) × (data_of field ≡ Ok bytes) × LaysOn p bytes r
unfolding dc_line
dc_laid label field p r e c =
    let t = then_ok (data_of field) (λ bytes. written bytes (labelled label (pos p.here) p)) r e in
    (t.0, t.1, written_laid t.0 (labelled label (pos p.here) p) r t.2 c)

-- an operation that leaves the bytes and the marks
leaves : (p x r : Plan) → x ≡ r → x.storage ≡ p.storage → x.taken ≡ p.taken → IsClean p.storage p.taken →
    LaysOn p [] r
leaves p x r e s t c = subst (LaysOn p []) e (nothing p.here p.storage x.storage p.taken x.taken c s t)

org_laid : (line : List ℕ) (ts : List Token) (p r : Plan) → org_line line ts p ≡ Ok r →
    IsClean p.storage p.taken → LaysOn p [] r
unfolding org_line
org_laid line ts p r e c =
    let t = then_ok (value_on line ts p) _ r e in
    let w = where_ok _ _ r OutOfRange t.2 in
    leaves p _ r w.1 refl refl c

equ_laid : (label line : List ℕ) (ts : List Token) (p r : Plan) → equ_line label line ts p ≡ Ok r →
    IsClean p.storage p.taken → LaysOn p [] r
unfolding equ_line
equ_laid label line ts p r e c =
    let t = then_ok (value_on line ts p) _ r e in
    let w = where_ok (is_doubleword t.0) (labelled label t.0 p) r OutOfRange t.2 in
    leaves p (labelled label t.0 p) r w.1 refl refl c

cpu_laid : (n : ℕ) (line : List ℕ) (p r : Plan) → cpu_line n line p ≡ Ok r → IsClean p.storage p.taken →
    LaysOn p [] r
unfolding cpu_line
cpu_laid n line p r e c = let w = where_ok _ _ r OutOfRange e in leaves p _ r w.1 refl refl c

end_laid : (ts : List Token) (p r : Plan) → end_line ts p ≡ Ok r → IsClean p.storage p.taken → LaysOn p [] r
unfolding end_line
end_laid ts p r e c = let w = where_ok _ _ r BadDirective e in leaves p _ r w.1 refl refl c

task_laid : (s : Statement) (op : Operation) (p r : Plan) → tasked s.number p.here s.text op p ≡ r →
    IsClean p.storage p.taken → LaysOn p [] r
task_laid s op p r e c = leaves p (tasked s.number p.here s.text op p) r e refl refl c

lays : (op : Operation) (s : Statement) (p r : Plan) → s.here ≡ p.here → s.labels ≡ p.labels →
    operation_line op s.number s.label s.text s.end s.operands p ≡ Ok r → IsClean p.storage p.taken →
    LaysBytes op s p r
unfolding operation_line
lays (Instruction row mask) s p r h l e c =
    (copies (size_of_row row) 0, refl, instruction_laid s.number row mask s.label s.text p r e c)
lays Org s p r h l e c = ([], refl, org_laid s.text s.operands p r e c)
lays Equ s p r h l e c = ([], refl, equ_laid s.label s.text s.operands p r e c)
lays Ds s p r h l e c = ds_laid s p r h l e c
lays Dc s p r h l e c = dc_laid s.label (field_behind s.end s.text) p r e c
lays Cpu s p r h l e c = ([], refl, cpu_laid s.number s.text p r e c)
lays Reg s p r h l e c = ([], refl, task_laid s Reg p r (same_ok _ r e) c)
lays Show s p r h l e c = ([], refl, task_laid s Show p r (same_ok _ r e) c)
lays Tdb s p r h l e c = ([], refl, task_laid s Tdb p r (same_ok _ r e) c)
lays Sched s p r h l e c = ([], refl, task_laid s Sched p r (same_ok _ r e) c)
lays Parm s p r h l e c = ([], refl, task_laid s Parm p r (same_ok _ r e) c)
lays Prefix s p r h l e c = ([], refl, task_laid s Prefix p r (same_ok _ r e) c)
lays End s p r h l e c = ([], refl, end_laid s.operands p r e c)

-- ---- a statement

-- the bytes that a statement lays in the first reading
pub record Laid (s : Statement) (storage : List ℕ) (taken : List Bool) : Type 0 where
  pub bytes : List ℕ
  pub are : laid_with s.operation s ≡ Ok bytes
  pub stand : Stand bytes s.here storage
  pub marked : (at : ℕ) → IsInside s.here (length bytes) at → get_or taken at false ≡ true

-- one of these bytes has this address
pub record LaysAt (s : Statement) (at : ℕ) : Type 0 where
  pub bytes : List ℕ
  pub are : laid_with s.operation s ≡ Ok bytes
  pub inside : IsInside s.here (length bytes) at

acts_lay : (s : Statement) (p r : Plan) → Acts s p r → IsClean p.storage p.taken → LaysBytes s.operation s p r
acts_lay s p r a c = lays s.operation s p r a.here a.labels a.does c

inside_cases : (here n at : ℕ) → IsInside here n at ⊎ (IsInside here n at → ⊥)
inside_cases here n at =
    elim (cases_lt at here) [
      | inl l ↦ inr (λ i. omega (arith, i.0))
      | inr g ↦ elim (cases_lt at (here + n)) [
        | inl l ↦ inl (g, l)
        | inr b ↦ inr (λ i. omega (arith, i.1))
      ]
    ]

clean_after : (here : ℕ) (bytes old : List ℕ) (marks : List Bool) (new : List ℕ) (taken : List Bool) →
    Lays here bytes old marks new taken → IsClean old marks → IsClean new taken
clean_after here bytes old marks new taken l c = record {
  size = l.size;
  marks = l.marks_size;
  zero = λ at e. elim (inside_cases here (length bytes) at) [
    | inl i ↦ absurd (false≢true (sym e ∙ l.marked at i))
    | inr o ↦ l.beside at o ∙ c.zero at (sym (l.others at o) ∙ e)
  ];
}

pub acts_clean : (s : Statement) (p r : Plan) → Acts s p r → IsClean p.storage p.taken →
    IsClean r.storage r.taken
acts_clean s p r a c = let b = acts_lay s p r a c in
    clean_after p.here b.0 p.storage p.taken r.storage r.taken b.2 c

-- what is marked is left alone
outside : (here : ℕ) (bytes old : List ℕ) (marks : List Bool) (new : List ℕ) (taken : List Bool) →
    Lays here bytes old marks new taken → (at : ℕ) → get_or marks at false ≡ true →
    IsInside here (length bytes) at → ⊥
outside here bytes old marks new taken l at e i = false≢true (sym (l.free at i) ∙ e)

mark_stays : (s : Statement) (p r : Plan) → Acts s p r → IsClean p.storage p.taken → (at : ℕ) →
    get_or p.taken at false ≡ true → get_or r.taken at false ≡ true
mark_stays s p r a c at e =
    let b = acts_lay s p r a c in
    b.2.others at (outside p.here b.0 p.storage p.taken r.storage r.taken b.2 at e) ∙ e

byte_stays : (s : Statement) (p r : Plan) → Acts s p r → IsClean p.storage p.taken → (at : ℕ) →
    get_or p.taken at false ≡ true → get_or r.storage at 0 ≡ get_or p.storage at 0
byte_stays s p r a c at e =
    let b = acts_lay s p r a c in
    b.2.beside at (outside p.here b.0 p.storage p.taken r.storage r.taken b.2 at e)

laid_here : (s : Statement) (p r : Plan) → Acts s p r → IsClean p.storage p.taken → Laid s r.storage r.taken
laid_here s p r a c =
    let b = acts_lay s p r a c in
    record {
      bytes = b.0;
      are = b.1;
      stand = subst (λ h. Stand b.0 h r.storage) (sym a.here) b.2.stand;
      marked = λ at i. b.2.marked at (subst (λ h. IsInside h (length b.0) at) a.here i);
    }

same_bytes : (o : Result (List ℕ) Kind) (a b : List ℕ) → o ≡ Ok a → o ≡ Ok b → a ≡ b
same_bytes o a b e f = same_ok a b (sym e ∙ f)

-- where the statement lays a byte, there was none and is one then
lays_free : (s : Statement) (p r : Plan) → Acts s p r → IsClean p.storage p.taken → (at : ℕ) → LaysAt s at →
    (get_or p.taken at false ≡ false) × (get_or r.taken at false ≡ true)
lays_free s p r a c at l =
    let b = acts_lay s p r a c in
    let same : l.bytes ≡ b.0 = same_bytes (laid_with s.operation s) l.bytes b.0 l.are b.1 in
    let i : IsInside p.here (length b.0) at =
    subst (λ h. IsInside h (length b.0) at) a.here
    (subst (λ x. IsInside s.here (length x) at) same l.inside) in
    (b.2.free at i, b.2.marked at i)

-- a mark that is new is the statement's
mark_from : (s : Statement) (p r : Plan) → Acts s p r → IsClean p.storage p.taken → (at : ℕ) →
    get_or r.taken at false ≡ true → (get_or p.taken at false ≡ true) ⊎ LaysAt s at
mark_from s p r a c at e =
    let b = acts_lay s p r a c in
    elim (inside_cases p.here (length b.0) at) [
      | inl i ↦ inr (record {
        bytes = b.0;
        are = b.1;
        inside = subst (λ h. IsInside h (length b.0) at) (sym a.here) i;
      })
      | inr o ↦ inl (sym (b.2.others at o) ∙ e)
    ]

-- ---- all statements

pub all_clean : (ss : List Statement) (p q : Plan) → Walk ss p q → IsClean p.storage p.taken →
    IsClean q.storage q.taken
all_clean [] p q w c = subst (λ (x : Plan). IsClean x.storage x.taken) w c
all_clean (s ∷ ss) p q w c = all_clean ss w.0 q w.2 (acts_clean s p w.0 w.1 c)

marks_stay : (ss : List Statement) (p q : Plan) → Walk ss p q → IsClean p.storage p.taken → (at : ℕ) →
    get_or p.taken at false ≡ true → get_or q.taken at false ≡ true
marks_stay [] p q w c at e = sym (ap (λ (x : Plan). get_or x.taken at false) w) ∙ e
marks_stay (s ∷ ss) p q w c at e =
    marks_stay ss w.0 q w.2 (acts_clean s p w.0 w.1 c) at (mark_stays s p w.0 w.1 c at e)

bytes_stay : (ss : List Statement) (p q : Plan) → Walk ss p q → IsClean p.storage p.taken → (at : ℕ) →
    get_or p.taken at false ≡ true → get_or q.storage at 0 ≡ get_or p.storage at 0
bytes_stay [] p q w c at e = sym (ap (λ (x : Plan). get_or x.storage at 0) w)
bytes_stay (s ∷ ss) p q w c at e =
    bytes_stay ss w.0 q w.2 (acts_clean s p w.0 w.1 c) at (mark_stays s p w.0 w.1 c at e)
    ∙ byte_stays s p w.0 w.1 c at e

laid_stays : (s : Statement) (ss : List Statement) (p q : Plan) → Walk ss p q → IsClean p.storage p.taken →
    Laid s p.storage p.taken → Laid s q.storage q.taken
laid_stays s ss p q w c l = record {
  bytes = l.bytes;
  are = l.are;
  stand = λ i h. bytes_stay ss p q w c (s.here + i) (l.marked (s.here + i) (omega arith, omega arith))
      ∙ l.stand i h;
  marked = λ at i. marks_stay ss p q w c at (l.marked at i);
}

-- each statement's bytes stand in the storage that all leave
pub all_laid : (ss : List Statement) (p q : Plan) → Walk ss p q → IsClean p.storage p.taken →
    All (λ s. Laid s q.storage q.taken) ss
all_laid [] p q w c = All-nil (λ s. Laid s q.storage q.taken)
all_laid (s ∷ ss) p q w c =
    let clean = acts_clean s p w.0 w.1 c in
    All-cons (λ t. Laid t q.storage q.taken) s ss
    (laid_stays s ss w.0 q w.2 clean (laid_here s p w.0 w.1 c)) (all_laid ss w.0 q w.2 clean)

avoided : (ss : List Statement) (p q : Plan) → Walk ss p q → IsClean p.storage p.taken → (at : ℕ) →
    get_or p.taken at false ≡ true → All (λ s. LaysAt s at → ⊥) ss
avoided [] p q w c at e = All-nil (λ s. LaysAt s at → ⊥)
avoided (s ∷ ss) p q w c at e =
    All-cons (λ t. LaysAt t at → ⊥) s ss
    (λ l. false≢true (sym (lays_free s p w.0 w.1 c at l).0 ∙ e))
    (avoided ss w.0 q w.2 (acts_clean s p w.0 w.1 c) at (mark_stays s p w.0 w.1 c at e))

abbrev pub LayApart : Statement → Statement → Type 0
LayApart some other = (at : ℕ) → LaysAt some at → LaysAt other at → ⊥

-- no byte is laid twice
pub laid_once : (ss : List Statement) (p q : Plan) → Walk ss p q → IsClean p.storage p.taken →
    AllPairs LayApart ss
laid_once [] p q w c = λ i j d l h. absurd (omega arith)
laid_once (s ∷ ss) p q w c =
    let clean = acts_clean s p w.0 w.1 c in
    AllPairs-cons LayApart s ss
    (λ k d l at a b. avoided ss w.0 q w.2 clean at (lays_free s p w.0 w.1 c at a).1 k d l b)
    (laid_once ss w.0 q w.2 clean)

-- one of the statements lays a byte there
pub record AreLaying (ss : List Statement) (at : ℕ) : Type 0 where
  pub statement : Statement
  pub among : Contains ss statement
  pub lays : LaysAt statement at

-- each mark that is new is a statement's
pub marks_from : (ss : List Statement) (p q : Plan) → Walk ss p q → IsClean p.storage p.taken → (at : ℕ) →
    get_or q.taken at false ≡ true → (get_or p.taken at false ≡ true) ⊎ AreLaying ss at
marks_from [] p q w c at e = inl (ap (λ (x : Plan). get_or x.taken at false) w ∙ e)
marks_from (s ∷ ss) p q w c at e =
    elim (marks_from ss w.0 q w.2 (acts_clean s p w.0 w.1 c) at e) [
      | inl m ↦ elim (mark_from s p w.0 w.1 c at m) [
        | inl old ↦ inl old
        | inr l ↦ inr (record { statement = s; among = first_is s ss; lays = l })
      ]
      | inr n ↦ inr (record {
        statement = n.statement;
        among = later_is s n.statement ss n.among;
        lays =
            n.lays;
      })
    ]
