-- The registers that CPUs start with: the last REG line of a register gives it.
use Rattle.std.proofs.Common.{◌≡◌, ℕ, ℤ, ◌<◌, Bool, true, false, ◌&&◌, List, [], ◌∷◌}
use Rattle.std.proofs.Common.{length, get_or, Ok, refl, sym, ap, ◌∙◌, subst, arith}
use Rattle.std.proofs.Common.{inl, inr, append-nil, ◌==◌, eq-eqb}
use Rattle.std.specs.Prelude.{if◌then◌else◌}
use Rattle.std.specs.List.{flat_map}
use Rattle.std.proofs.Math.ListN.{set}
use Rattle.std.proofs.lemmas.Bool.{false≢true, eqb-true, cases_eq}
use Rattle.std.proofs.lemmas.List.{get_or-set_other, get_or-set_same, length-set}
use Rattle.z_text.specs.declared.token.Token.{Token}
use Rattle.z_instr.specs.Reading.{modulo}
use Rattle.z_fields.specs.Chain.{◌>>=◌}
use Rattle.z_operands.specs.Values.{three_in, operands_on}
use Rattle.z_fields.specs.declared.fault.Kind.TheVariants.{BadDirective}
use Rattle.z_operands.specs.declared.operation.Operation.{Operation}
use Rattle.z_operands.specs.declared.operation.Operation.TheVariants as operations
use Rattle.z_regs.specs.Cpu.{Cpu}
use Rattle.z_reading.specs.Listing.{Plan, Task, operands_in, to_nat}
use Rattle.z_setup.specs.Machine.{Machine, Known, tokens_in, operands_for, change_at, with_address}
use Rattle.z_setup.specs.Machine.{with_general}
use Rattle.z_setup.specs.Machine.{with_prefix}
use Rattle.statement_laws.specs.Statements.{Statement, value_for, values_with, values_of, last_or}
use Rattle.z_assemble.specs.Whole.{Second}
use Rattle.statement_laws.proofs.Acted.{Walk}
use Rattle.statement_laws.proofs.Effects.{Effect, task_effect}
use Rattle.statement_laws.proofs.Gathered.{EachJoins, gathered, last_join}
use Rattle.z_assemble.proofs.Machines.{change_length, change_other, change_same, same_part}
use Rattle.statement_laws.proofs.Tasks.{tasks_by, tasks_of}

-- ---- one register of one CPU

module _ (cpu r : ℕ) (d : Cpu) where
  abbrev pub cpu_in : Machine → Cpu
  cpu_in m = get_or m.cpus cpu d

  abbrev pub register_in : Machine → ℕ
  register_in m = get_or (cpu_in m).general r 0

  abbrev values_by : Operation → Known → Task → List Token → List ℕ
  values_by operations.Reg k t ts = value_for cpu r
      (operands_for BadDirective k t (operands_in ts) >>= three_in)
  values_by _ k t ts = []

  abbrev values_again : Known → Task → List ℕ
  values_again k t = values_by t.operation k t (tokens_in t.text)

  -- the CPU is there, and has its registers
  pub record IsThere (m : Machine) : Type 0 where
    pub there : cpu < length m.cpus
    pub size : length (cpu_in m).general ≡ 16

  -- a step that gives these values, one at most
  record Moves (values : List ℕ) (m n : Machine) : Type 0 where
    count : length n.cpus ≡ length m.cpus
    size : length (cpu_in n).general ≡ length (cpu_in m).general
    value : register_in n ≡ last_or (register_in m) values

  still : (m n : Machine) → n.cpus ≡ m.cpus → Moves [] m n
  still m n e = record {
    count = ap length e;
    size = ap (λ cs. length (get_or cs cpu d).general) e;
    value = ap (λ cs. get_or (get_or cs cpu d).general r 0) e;
  }

  -- a change that leaves the general registers
  changes : (i : ℕ) (f : Cpu → Cpu) (m n : Machine) → ((c : Cpu) → (f c).general ≡ c.general) → IsThere m →
      n.cpus ≡ change_at i f m.cpus → Moves [] m n
  changes i f m n h t e =
      let g = same_part (λ (c : Cpu). c.general) i f m.cpus cpu d h in
      record {
        count = ap length e ∙ change_length i f m.cpus;
        size = ap (λ cs. length (get_or cs cpu d).general) e ∙ ap length g;
        value = ap (λ cs. get_or (get_or cs cpu d).general r 0) e ∙ ap (λ g. get_or g r 0) g;
      }

  -- a value for a register, of this CPU or another, this register or another
  by_register : (q v : ℕ) (old : List ℕ) (b : Bool) → (q == r) ≡ b → length old ≡ 16 → r < 16 →
      get_or (set old q v) r 0 ≡ last_or (get_or old r 0) (if b then v ∷ [] else [])
  by_register q v old true e n l =
      let same : q ≡ r = eqb-true q r e in
      ap (λ j. get_or (set old j v) r 0) same ∙ get_or-set_same old r v 0 (omega arith)
  by_register q v old false e n l =
      get_or-set_other old q r v 0 (λ s. false≢true (sym e ∙ eq-eqb q r (sym s)))

  by_cpu : (i q v : ℕ) (cpus : List Cpu) (b : Bool) → (i == cpu) ≡ b → cpu < length cpus →
      length (get_or cpus cpu d).general ≡ 16 → r < 16 →
      get_or (get_or (change_at i (with_general q v) cpus) cpu d).general r 0
      ≡ last_or (get_or (get_or cpus cpu d).general r 0) (if b && (q == r) then v ∷ [] else [])
  by_cpu i q v cpus true e there n l =
      let same : i ≡ cpu = eqb-true i cpu e in
      ap (λ j. get_or (get_or (change_at j (with_general q v) cpus) cpu d).general r 0) same
      ∙ ap (λ c. get_or c.general r 0) (change_same cpu (with_general q v) cpus d there)
      ∙ by_register q v (get_or cpus cpu d).general (q == r) refl n l
  by_cpu i q v cpus false e there n l =
      ap (λ c. get_or c.general r 0)
      (change_other i (with_general q v) cpus cpu d (λ s. false≢true (sym e ∙ eq-eqb i cpu (sym s))))

  size_set : (i q v : ℕ) (cpus : List Cpu) → cpu < length cpus →
      length (get_or (change_at i (with_general q v) cpus) cpu d).general ≡ length (get_or cpus cpu d).general
  size_set i q v cpus there =
      elim (cases_eq cpu i) [
        | inl e ↦
            ap (λ j. length (get_or (change_at j (with_general q v) cpus) cpu d).general) (sym e)
            ∙ ap (λ c. length c.general) (change_same cpu (with_general q v) cpus d there)
            ∙ length-set (get_or cpus cpu d).general q v
        | inr n ↦ ap (λ c. length c.general) (change_other i (with_general q v) cpus cpu d n)
      ]

  fills : (x : ℤ × ℤ × ℤ) (m n : Machine) → r < 16 → IsThere m →
      n.cpus ≡ change_at (to_nat x.0) (with_general (to_nat x.1) (modulo 64 x.2)) m.cpus →
      Moves (value_for cpu r (Ok x)) m n
  fills x m n l t e = record {
    count = ap length e ∙ change_length (to_nat x.0) (with_general (to_nat x.1) (modulo 64 x.2)) m.cpus;
    size = ap (λ cs. length (get_or cs cpu d).general) e
        ∙ size_set (to_nat x.0) (to_nat x.1) (modulo 64 x.2) m.cpus t.there;
    value = ap (λ cs. get_or (get_or cs cpu d).general r 0) e
        ∙ by_cpu (to_nat x.0) (to_nat x.1) (modulo 64 x.2) m.cpus (to_nat x.0 == cpu) refl t.there t.size l;
  }

  cpus_of : (m n : Machine) → m ≡ n → n.cpus ≡ m.cpus
  cpus_of m n e = sym (ap (λ (x : Machine). x.cpus) e)

  moves : (op : Operation) (k : Known) (t : Task) (ts : List Token) (m n : Machine) → r < 16 → IsThere m →
      Effect op k t ts m n → Moves (values_by op k t ts) m n
  moves operations.Reg k t ts m n l there f =
      subst (λ o. Moves (value_for cpu r o) m n) (sym f.1) (fills f.0 m n l there (cpus_of _ n f.2))
  moves operations.Cpu k t ts m n l there f =
      changes m.entered (with_address (to_nat f.0)) m n (λ c. refl) there (cpus_of _ n f.2)
  moves operations.Prefix k t ts m n l there f =
      changes (to_nat f.0.0) (with_prefix (to_nat f.0.1)) m n (λ c. refl) there (cpus_of _ n f.3)
  moves operations.Sched k t ts m n l there f = still m n (cpus_of _ n f.2)
  moves operations.Show k t ts m n l there f = still m n (cpus_of _ n f.2)
  moves operations.Tdb k t ts m n l there f = still m n (cpus_of _ n f.2)
  moves operations.Parm k t ts m n l there f = still m n (cpus_of _ n f.4)
  moves _ k t ts m n l there f = still m n (cpus_of _ n f.1)

  each_moves : (k : Known) → r < 16 → EachJoins register_in last_or values_again IsThere k
  each_moves k l t m n there g =
      let v = moves t.operation k t (tokens_in t.text) m n l there (task_effect k t m n g) in
      let in_range = there.there in
      let count = v.count in
      record { fine = record { there = omega arith; size = v.size ∙ there.size }; value = v.value }

  own_values : (k : Known) (op : Operation) (s : Statement) → s.operands ≡ operands_in (tokens_in s.text) →
      flat_map (values_again k) (tasks_by op s) ≡ values_with op k.labels cpu r s
  own_values k operations.Reg s e =
      append-nil (value_for cpu r
      (operands_on BadDirective s.text k.labels s.here (operands_in (tokens_in s.text)) >>= three_in))
      ∙ ap (λ os. value_for cpu r (operands_on BadDirective s.text k.labels s.here os >>= three_in)) (sym e)
  own_values k _ s e = refl

  pub registers_are : (k : Known) (ss : List Statement) (p q : Plan) (ts : List Task) (m n : Machine) →
      Walk ss p q → ts ≡ flat_map tasks_of ss → Second k ts m n → r < 16 → IsThere m → register_in m ≡ 0 →
      register_in n ≡ last_or 0 (flat_map (values_of k.labels cpu r) ss)
  registers_are k ss p q ts m n w e h l there none =
      gathered register_in last_or values_again IsThere k last_join (each_moves k l) (values_of k.labels cpu r)
      (λ s a b acts. own_values k s.operation s acts.tokens) ss p q ts m n w e h there
      ∙ ap (λ x. last_or x (flat_map (values_of k.labels cpu r) ss)) none
