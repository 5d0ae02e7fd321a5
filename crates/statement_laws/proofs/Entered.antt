-- The CPUs are those of the CPU lines, in their order, each with the line's address.
use Rattle.std.proofs.Common.{◌≡◌, ℕ, zero, suc, ◌+◌, ◌<◌, ◌≤◌, List, [], ◌∷◌, ◌++◌, length, get_or}
use Rattle.std.proofs.Common.{refl, sym, ap, ◌∙◌, subst, arith, append-nil}
use Rattle.std.specs.List.{flat_map}
use Rattle.std.proofs.lemmas.List.{length-append}
use Rattle.z_text.specs.declared.token.Token.{Token}
use Rattle.z_fields.specs.Chain.{◌>>=◌}
use Rattle.z_operands.specs.Values.{one_in, operands_on}
use Rattle.z_fields.specs.declared.fault.Kind.TheVariants.{BadDirective}
use Rattle.z_operands.specs.declared.operation.Operation.{Operation}
use Rattle.z_operands.specs.declared.operation.Operation.TheVariants as operations
use Rattle.z_regs.specs.Cpu.{Cpu}
use Rattle.z_reading.specs.Listing.{Plan, Task, operands_in, to_nat}
use Rattle.z_setup.specs.Machine.{Machine, Known, tokens_in, operands_for, change_at, with_address}
use Rattle.statement_laws.specs.Statements.{Statement, value_or_none, entry_with, entry_of}
use Rattle.z_assemble.specs.Whole.{Second}
use Rattle.statement_laws.proofs.Acted.{Walk}
use Rattle.statement_laws.proofs.Counted.{count_by, count_all}
use Rattle.statement_laws.proofs.Effects.{Effect, task_effect}
use Rattle.statement_laws.proofs.Gathered.{linked}
use Rattle.z_assemble.proofs.Machines.{change_length, change_other, change_same, same_part}
use Rattle.statement_laws.proofs.Tasks.{tasks_by, tasks_of}

abbrev entries_by : Operation → Known → Task → List Token → List ℕ
entries_by operations.Cpu k t ts = value_or_none (operands_for BadDirective k t (operands_in ts) >>= one_in)
entries_by _ k t ts = []

abbrev pub entries_again : Known → Task → List ℕ
entries_again k t = entries_by t.operation k t (tokens_in t.text)

abbrev pub address_in : Machine → ℕ → Cpu → ℕ
address_in m i d = (get_or m.cpus i d).address

abbrev Same : Machine → Machine → ℕ → Cpu → Type 0
Same m n i d = address_in n i d ≡ address_in m i d

-- a step in which these CPUs enter, one at most
abbrev Enters : List ℕ → Machine → Machine → Type 0
Enters [] m n =
    (n.entered ≡ m.entered) × (length n.cpus ≡ length m.cpus) × ((i : ℕ) (d : Cpu) → Same m n i d)
Enters (v ∷ vs) m n =
    (vs ≡ []) × (n.entered ≡ suc m.entered) × (length n.cpus ≡ length m.cpus)
    × ((d : Cpu) → m.entered < length m.cpus → address_in n m.entered d ≡ v)
    × ((i : ℕ) (d : Cpu) → i < m.entered → Same m n i d)

record Kept (m n : Machine) : Type 0 where
  entered : n.entered ≡ m.entered
  cpus : n.cpus ≡ m.cpus

still : (m n : Machine) → Kept m n → Enters [] m n
still m n k = (k.entered, ap length k.cpus, λ i d. ap (λ cs. (get_or cs i d).address) k.cpus)

changes : (j : ℕ) (f : Cpu → Cpu) (m n : Machine) → ((c : Cpu) → (f c).address ≡ c.address) →
    record m { cpus = change_at j f m.cpus } ≡ n → Enters [] m n
changes j f m n h e =
    let cs : change_at j f m.cpus ≡ n.cpus = ap (λ (x : Machine). x.cpus) e in (
      sym (ap (λ (x : Machine). x.entered) e),
      ap length (sym cs) ∙ change_length j f m.cpus,
      λ i d. ap (λ q. (get_or q i d).address) (sym cs) ∙ same_part (λ (c : Cpu). c.address) j f m.cpus i d h,
    )

enters : (v : ℕ) (m n : Machine) →
    record m { cpus = change_at m.entered (with_address v) m.cpus; entered = m.entered + 1 } ≡ n →
    Enters (v ∷ []) m n
enters v m n e =
    let cs : change_at m.entered (with_address v) m.cpus ≡ n.cpus = ap (λ (x : Machine). x.cpus) e in
    let more : m.entered + 1 ≡ n.entered = ap (λ (x : Machine). x.entered) e in (
      refl,
      omega arith,
      ap length (sym cs) ∙ change_length m.entered (with_address v) m.cpus,
      λ d h. ap (λ q. (get_or q m.entered d).address) (sym cs)
          ∙ ap (λ (c : Cpu). c.address) (change_same m.entered (with_address v) m.cpus d h),
      λ i d h. ap (λ q. (get_or q i d).address) (sym cs)
          ∙ ap (λ (c : Cpu). c.address)
          (change_other m.entered (with_address v) m.cpus i d (λ s. absurd (omega arith))),
    )

kept_by : (m x n : Machine) → x ≡ n → x.entered ≡ m.entered → x.cpus ≡ m.cpus → Kept m n
kept_by m x n e a c = record {
  entered = sym (ap (λ (y : Machine). y.entered) e) ∙ a;
  cpus = sym (ap (λ (y : Machine). y.cpus) e) ∙ c;
}

step : (op : Operation) (k : Known) (t : Task) (ts : List Token) (m n : Machine) → Effect op k t ts m n →
    Enters (entries_by op k t ts) m n
step operations.Cpu k t ts m n f =
    subst (λ o. Enters (value_or_none o) m n) (sym f.1) (enters (to_nat f.0) m n f.2)
step operations.Reg k t ts m n f = changes _ _ m n (λ c. refl) f.2
step operations.Prefix k t ts m n f = changes _ _ m n (λ c. refl) f.3
step operations.Sched k t ts m n f = still m n (kept_by m _ n f.2 refl refl)
step operations.Show k t ts m n f = still m n (kept_by m _ n f.2 refl refl)
step operations.Tdb k t ts m n f = still m n (kept_by m _ n f.2 refl refl)
step operations.Parm k t ts m n f = still m n (kept_by m _ n f.4 refl refl)
step _ k t ts m n f = still m n (kept_by m _ n f.1 refl refl)

-- ---- all lines

pub record AreEntered (values : List ℕ) (m q : Machine) : Type 0 where
  pub count : length q.cpus ≡ length m.cpus
  pub before : (i : ℕ) (d : Cpu) → i < m.entered → address_in q i d ≡ address_in m i d
  pub there : (j at : ℕ) (d : Cpu) → at ≡ m.entered + j → j < length values →
      address_in q at d ≡ get_or values j 0

join : (mine rest : List ℕ) (m n q : Machine) → Enters mine m n →
    m.entered + length (mine ++ rest) ≤ length m.cpus →
    (n.entered + length rest ≤ length n.cpus → AreEntered rest n q) → AreEntered (mine ++ rest) m q
join [] rest m n q e room more =
    let count = e.0 in
    let size = e.1 in
    let a = more (omega arith) in
    record {
      count = a.count ∙ e.1;
      before = λ i d h. a.before i d (omega arith) ∙ e.2 i d;
      there = λ j at d s h. a.there j at d (omega arith) h;
    }
join (v ∷ []) rest m n q e room more =
    let count = e.1 in
    let size = e.2 in
    let a = more (omega arith) in
    record {
      count = a.count ∙ e.2;
      before = λ i d h. a.before i d (omega arith) ∙ e.4 i d h;
      there = λ j at d s h. found j at d s h a;
    }
  where
    found : (j at : ℕ) (d : Cpu) → at ≡ m.entered + j → j < length (v ∷ rest) → AreEntered rest n q →
        address_in q at d ≡ get_or (v ∷ rest) j 0
    found zero at d s h a =
        let is : at ≡ m.entered = omega arith in
        let count = e.1 in
        ap (λ i. address_in q i d) is ∙ a.before m.entered d (omega arith) ∙ e.3 d (omega arith)
    found (suc j) at d s h a = let count = e.1 in a.there j at d (omega arith) (omega arith)
join (v ∷ w ∷ vs) rest m n q e room more = absurd (cc)

pub all_entered : (k : Known) (ts : List Task) (m q : Machine) → Second k ts m q →
    m.entered + length (flat_map (entries_again k) ts) ≤ length m.cpus →
    AreEntered (flat_map (entries_again k) ts) m q
all_entered k [] m q h room = record {
  count = ap (λ (x : Machine). length x.cpus) (sym h);
  before = λ i d l. ap (λ (x : Machine). address_in x i d) (sym h);
  there = λ j at d s l. absurd (omega arith);
}
all_entered k (t ∷ ts) m q h room =
    join (entries_again k t) (flat_map (entries_again k) ts) m h.0 q
    (step t.operation k t (tokens_in t.text) m h.0 (task_effect k t m h.0 h.1)) room
    (λ r. all_entered k ts h.0 q h.2 r)

-- ---- as many as there are CPU lines

abbrev tally : List Task → ℕ
tally [] = 0
tally (t ∷ ts) = count_by t.operation + tally ts

tally_append : (xs ys : List Task) → tally (xs ++ ys) ≡ tally xs + tally ys
tally_append [] ys = omega arith
tally_append (x ∷ xs) ys = let h = tally_append xs ys in omega (arith, h)

entry_count : (op : Operation) (k : Known) (t : Task) (ts : List Token) (m n : Machine) →
    Effect op k t ts m n →
    length (entries_by op k t ts) ≡ count_by op
entry_count operations.Cpu k t ts m n f = ap (λ o. length (value_or_none o)) f.1
entry_count _ k t ts m n f = refl

all_tallied : (k : Known) (ts : List Task) (m q : Machine) → Second k ts m q →
    length (flat_map (entries_again k) ts) ≡ tally ts
all_tallied k [] m q h = refl
all_tallied k (t ∷ ts) m q h =
    let one = entry_count t.operation k t (tokens_in t.text) m h.0 (task_effect k t m h.0 h.1) in
    let rest = all_tallied k ts h.0 q h.2 in
    length-append (entries_again k t) (flat_map (entries_again k) ts) ∙ (omega (arith, one, rest))

own_tally : (op : Operation) (s : Statement) → tally (tasks_by op s) ≡ count_by op
own_tally operations.Cpu s = refl
own_tally _ s = refl

tally_of : (ss : List Statement) → tally (flat_map tasks_of ss) ≡ count_all ss
tally_of [] = refl
tally_of (s ∷ ss) =
    let one = own_tally s.operation s in
    let rest = tally_of ss in
    tally_append (tasks_of s) (flat_map tasks_of ss) ∙ (omega (arith, one, rest))

pub entries_count : (k : Known) (ss : List Statement) (ts : List Task) (m q : Machine) →
    ts ≡ flat_map tasks_of ss → Second k ts m q → length (flat_map (entries_again k) ts) ≡ count_all ss
entries_count k ss ts m q e h = all_tallied k ts m q h ∙ ap tally e ∙ tally_of ss

-- ---- the statements

own_entries : (k : Known) (op : Operation) (s : Statement) → s.operands ≡ operands_in (tokens_in s.text) →
    flat_map (entries_again k) (tasks_by op s) ≡ entry_with op k.labels s
own_entries k operations.Cpu s e =
    append-nil (value_or_none (operands_on BadDirective s.text k.labels s.here
    (operands_in (tokens_in s.text)) >>= one_in))
    ∙ ap (λ os. value_or_none (operands_on BadDirective s.text k.labels s.here os >>= one_in)) (sym e)
own_entries k _ s e = refl

pub entries_of : (k : Known) (ss : List Statement) (p q : Plan) → Walk ss p q →
    flat_map (entries_again k) (flat_map tasks_of ss) ≡ flat_map (entry_of k.labels) ss
entries_of k ss p q w =
    linked (entries_again k) (entry_of k.labels) (λ s a b acts. own_entries k s.operation s acts.tokens) ss p
    q w
