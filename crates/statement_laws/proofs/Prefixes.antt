-- The prefix of a CPU is that of its one PREFIX line.
use Rattle.std.proofs.Common.{◌≡◌, ℕ, ℤ, ◌<◌, Bool, true, false, ◌&&◌, not, List, [], ◌∷◌, ◌++◌, length}
use Rattle.std.proofs.Common.{get_or, Option, Some, None, is_none, refl, sym, ap, ◌∙◌, subst, append-nil}
use Rattle.std.proofs.Common.{arith, ◌==◌, eq-eqb}
use Rattle.std.specs.Prelude.{if◌then◌else◌}
use Rattle.std.specs.List.{flat_map, list_any}
use Rattle.std.proofs.lemmas.Bool.{and_parts, false≢true, eqb-true}
use Rattle.std.proofs.lemmas.List.{get_or_default}
use Rattle.z_text.specs.declared.token.Token.{Token}
use Rattle.z_fields.specs.Chain.{◌>>=◌}
use Rattle.z_operands.specs.Values.{two_in, operands_on}
use Rattle.z_fields.specs.declared.fault.Kind.TheVariants.{BadDirective}
use Rattle.z_operands.specs.declared.operation.Operation.{Operation}
use Rattle.z_operands.specs.declared.operation.Operation.TheVariants as operations
use Rattle.z_regs.specs.Cpu.{Cpu, started}
use Rattle.z_reading.specs.Listing.{Plan, Task, operands_in, to_nat}
use Rattle.z_setup.specs.Machine.{Machine, Known, tokens_in, operands_for, change_at, with_address}
use Rattle.z_setup.specs.Machine.{with_general, with_prefix, is_free, is_prefix_for, is_area}
use Rattle.z_setup.specs.Machine.{task_places_in}
use Rattle.statement_laws.specs.Statements.{Statement, prefix_for, prefixes_with, prefixes_of, as_list}
use Rattle.z_assemble.specs.Whole.{Second}
use Rattle.statement_laws.proofs.Acted.{Walk}
use Rattle.statement_laws.proofs.Effects.{Effect, task_effect}
use Rattle.statement_laws.proofs.Gathered.{EachJoins, gathered, list_join}
use Rattle.z_assemble.proofs.Machines.{change_length, change_other, change_same, same_part}
use Rattle.statement_laws.proofs.Tasks.{tasks_by, tasks_of}

none_is : (o : Option ℕ) → is_none o ≡ true → as_list o ≡ []
none_is None e = refl
none_is (Some n) e = absurd (cc)

-- a line gives a prefix only to a CPU that has none
is_free_for : (tasks : List Task) (cpus : List Cpu) (x : ℤ × ℤ) → is_prefix_for tasks cpus x ≡ true →
    is_free (to_nat x.0) (to_nat x.1) cpus ≡ true
is_free_for tasks cpus x e =
    let there = and_parts _ (is_area x.1 && (is_free (to_nat x.0) (to_nat x.1) cpus && not
    (list_any (task_places_in (to_nat x.1)) tasks))) e in
    let area = and_parts (is_area x.1) _ there.1 in
    let free = and_parts (is_free (to_nat x.0) (to_nat x.1) cpus) _ area.1 in
    free.0

-- ---- the prefix of one CPU

module _ (cpu : ℕ) (d : Cpu) where
  abbrev prefix_at : List Cpu → List ℕ
  prefix_at cpus = as_list (get_or cpus cpu d).prefix

  abbrev pub prefix_in : Machine → List ℕ
  prefix_in m = prefix_at m.cpus

  abbrev prefixes_by : Operation → Known → Task → List Token → List ℕ
  prefixes_by operations.Prefix k t ts =
      prefix_for cpu (operands_for BadDirective k t (operands_in ts) >>= two_in)
  prefixes_by _ k t ts = []

  abbrev prefixes_again : Known → Task → List ℕ
  prefixes_again k t = prefixes_by t.operation k t (tokens_in t.text)

  abbrev pub IsThere : Machine → Type 0
  IsThere m = cpu < length m.cpus

  -- a step that gives these prefixes, one at most
  record Gives (new : List ℕ) (m n : Machine) : Type 0 where
    count : length n.cpus ≡ length m.cpus
    value : prefix_in n ≡ prefix_in m ++ new

  still : (m n : Machine) → n.cpus ≡ m.cpus → Gives [] m n
  still m n e = record { count = ap length e; value = ap prefix_at e ∙ sym (append-nil (prefix_in m)) }

  changes : (i : ℕ) (f : Cpu → Cpu) (m n : Machine) → ((c : Cpu) → (f c).prefix ≡ c.prefix) →
      n.cpus ≡ change_at i f m.cpus → Gives [] m n
  changes i f m n h e = record {
    count = ap length e ∙ change_length i f m.cpus;
    value = ap prefix_at e ∙ ap as_list (same_part (λ (c : Cpu). c.prefix) i f m.cpus cpu d h)
        ∙ sym (append-nil (prefix_in m));
  }

  free_has_none : (n : ℕ) (cpus : List Cpu) → cpu < length cpus → is_free cpu n cpus ≡ true →
      prefix_at cpus ≡ []
  free_has_none n cpus there free =
      let parts = and_parts (is_none (get_or cpus cpu (started 0)).prefix) _ free in
      ap (λ (c : Cpu). as_list c.prefix) (get_or_default cpus cpu d (started 0) there)
      ∙ none_is (get_or cpus cpu (started 0)).prefix parts.0

  by_cpu : (i n : ℕ) (cpus : List Cpu) (b : Bool) → (i == cpu) ≡ b → cpu < length cpus →
      is_free i n cpus ≡ true →
      prefix_at (change_at i (with_prefix n) cpus) ≡ prefix_at cpus ++ (if b then n ∷ [] else [])
  by_cpu i n cpus true e there free =
      let same : i ≡ cpu = eqb-true i cpu e in
      ap (λ j. prefix_at (change_at j (with_prefix n) cpus)) same
      ∙ ap (λ (c : Cpu). as_list c.prefix) (change_same cpu (with_prefix n) cpus d there)
      ∙ ap (λ xs. xs ++ n ∷ [])
      (sym (free_has_none n cpus there (subst (λ j. is_free j n cpus ≡ true) same free)))
  by_cpu i n cpus false e there free =
      ap (λ (c : Cpu). as_list c.prefix)
      (change_other i (with_prefix n) cpus cpu d (λ s. false≢true (sym e ∙ eq-eqb i cpu (sym s))))
      ∙ sym (append-nil (prefix_at cpus))

  cpus_of : (m n : Machine) → m ≡ n → n.cpus ≡ m.cpus
  cpus_of m n e = sym (ap (λ (x : Machine). x.cpus) e)

  gives : (op : Operation) (k : Known) (t : Task) (ts : List Token) (m n : Machine) → IsThere m →
      Effect op k t ts m n → Gives (prefixes_by op k t ts) m n
  gives operations.Prefix k t ts m n there f =
      let cpus : n.cpus ≡ change_at (to_nat f.0.0) (with_prefix (to_nat f.0.1)) m.cpus = cpus_of _ n f.3 in
      record {
        count = ap length cpus ∙ change_length (to_nat f.0.0) (with_prefix (to_nat f.0.1)) m.cpus;
        value = ap prefix_at cpus
            ∙ by_cpu (to_nat f.0.0) (to_nat f.0.1) m.cpus (to_nat f.0.0 == cpu) refl there
            (is_free_for k.tasks m.cpus f.0 f.2)
            ∙ ap (λ o. prefix_in m ++ prefix_for cpu o) (sym f.1);
      }
  gives operations.Cpu k t ts m n there f =
      changes m.entered (with_address (to_nat f.0)) m n (λ c. refl) (cpus_of _ n f.2)
  gives operations.Reg k t ts m n there f = changes _ (with_general _ _) m n (λ c. refl) (cpus_of _ n f.2)
  gives operations.Sched k t ts m n there f = still m n (cpus_of _ n f.2)
  gives operations.Show k t ts m n there f = still m n (cpus_of _ n f.2)
  gives operations.Tdb k t ts m n there f = still m n (cpus_of _ n f.2)
  gives operations.Parm k t ts m n there f = still m n (cpus_of _ n f.4)
  gives _ k t ts m n there f = still m n (cpus_of _ n f.1)

  each_gives : (k : Known) → EachJoins prefix_in (λ xs ys. xs ++ ys) prefixes_again IsThere k
  each_gives k t m n there g =
      let v = gives t.operation k t (tokens_in t.text) m n there (task_effect k t m n g) in
      let count = v.count in
      record { fine = omega arith; value = v.value }

  own_prefixes : (k : Known) (op : Operation) (s : Statement) →
      s.operands ≡ operands_in (tokens_in s.text) →
      flat_map (prefixes_again k) (tasks_by op s) ≡ prefixes_with op k.labels cpu s
  own_prefixes k operations.Prefix s e =
      append-nil (prefix_for cpu
      (operands_on BadDirective s.text k.labels s.here (operands_in (tokens_in s.text)) >>= two_in))
      ∙ ap (λ os. prefix_for cpu (operands_on BadDirective s.text k.labels s.here os >>= two_in)) (sym e)
  own_prefixes k _ s e = refl

  pub prefixes_are : (k : Known) (ss : List Statement) (p q : Plan) (ts : List Task) (m n : Machine) →
      Walk ss p q → ts ≡ flat_map tasks_of ss → Second k ts m n → IsThere m → prefix_in m ≡ [] →
      prefix_in n ≡ flat_map (prefixes_of k.labels cpu) ss
  prefixes_are k ss p q ts m n w e h there none =
      gathered prefix_in (λ xs ys. xs ++ ys) prefixes_again IsThere k list_join (each_gives k)
      (prefixes_of k.labels cpu) (λ s a b acts. own_prefixes k s.operation s acts.tokens) ss p q ts m n w e h
      there
      ∙ ap (λ x. x ++ flat_map (prefixes_of k.labels cpu) ss) none
