-- The numbers of the retry ladder: the last PARM line of a number gives it.
use Rattle.std.proofs.Common.{◌≡◌, ℕ, List, [], ◌∷◌, drop, Ok, refl, sym, ap, ◌∙◌}
use Rattle.std.proofs.Common.{append-nil}
use Rattle.std.specs.Prelude.{if◌then◌else◌}
use Rattle.std.specs.List.{flat_map}
use Rattle.z_text.specs.declared.token.Token.{Token}
use Rattle.z_fields.specs.Chain.{◌>>=◌}
use Rattle.z_operands.specs.Values.{one_in, operands_on}
use Rattle.z_fields.specs.declared.fault.Kind.TheVariants.{BadDirective}
use Rattle.z_operands.specs.declared.operation.Operation.{Operation}
use Rattle.z_operands.specs.declared.operation.Operation.TheVariants as operations
use Rattle.tx_ladder.specs.Parameters.{Parameters}
use Rattle.z_reading.specs.Listing.{Plan, Task, operands_in, to_nat}
use Rattle.z_setup.specs.Machine.{Machine, Known, tokens_in, operands_for, parameter_in, with_parameter}
use Rattle.statement_laws.specs.Statements.{Statement, number_in, number_for, numbers_with, numbers_of, last_or}
use Rattle.statement_laws.specs.Statements.{is_same}
use Rattle.z_assemble.specs.Whole.{Second}
use Rattle.z_setup.specs.declared.parameter.Parameter.{Parameter}
use Rattle.z_setup.specs.declared.parameter.Parameter.TheVariants.{Reject, Firm, Late, Starve, Stop, Delay}
use Rattle.statement_laws.proofs.Acted.{Walk}
use Rattle.statement_laws.proofs.Effects.{Effect, task_effect}
use Rattle.statement_laws.proofs.Gathered.{gathered, last_join}
use Rattle.statement_laws.proofs.Tasks.{tasks_by, tasks_of}

-- a value for a number, this one or another
by_number : (p q : Parameter) (n : ℕ) (old : Parameters) →
    number_in p (with_parameter q n old) ≡ last_or (number_in p old) (if is_same q p then n ∷ [] else [])
by_number Reject Reject n old = refl
by_number Firm Firm n old = refl
by_number Late Late n old = refl
by_number Starve Starve n old = refl
by_number Stop Stop n old = refl
by_number Delay Delay n old = refl
by_number _ _ n old = refl

module _ (p : Parameter) where
  abbrev pub number_of : Machine → ℕ
  number_of m = number_in p m.parms

  abbrev numbers_by : Operation → Known → Task → List Token → List ℕ
  numbers_by operations.Parm k t ts =
      number_for p (parameter_in t.text (operands_in ts))
      (operands_for BadDirective k t (drop 2 (operands_in ts)) >>= one_in)
  numbers_by _ k t ts = []

  abbrev numbers_again : Known → Task → List ℕ
  numbers_again k t = numbers_by t.operation k t (tokens_in t.text)

  step_joins : (op : Operation) (k : Known) (t : Task) (ts : List Token) (m r : Machine) →
      Effect op k t ts m r → number_of r ≡ last_or (number_of m) (numbers_by op k t ts)
  step_joins operations.Parm k t ts m r f =
      sym (ap number_of f.4)
      ∙ by_number p f.0 (to_nat f.2) m.parms
      ∙ ap (λ o. last_or (number_of m) (number_for p o (Ok f.2))) (sym f.1)
      ∙ ap (λ o. last_or (number_of m) (number_for p (parameter_in t.text (operands_in ts)) o)) (sym f.3)
  step_joins operations.Cpu k t ts m r f = sym (ap number_of f.2)
  step_joins operations.Reg k t ts m r f = sym (ap number_of f.2)
  step_joins operations.Prefix k t ts m r f = sym (ap number_of f.3)
  step_joins operations.Sched k t ts m r f = sym (ap number_of f.2)
  step_joins operations.Show k t ts m r f = sym (ap number_of f.2)
  step_joins operations.Tdb k t ts m r f = sym (ap number_of f.2)
  step_joins _ k t ts m r f = sym (ap number_of f.1)

  own_numbers : (k : Known) (op : Operation) (s : Statement) → s.operands ≡ operands_in (tokens_in s.text) →
      flat_map (numbers_again k) (tasks_by op s) ≡ numbers_with op k.labels p s
  own_numbers k operations.Parm s e =
      append-nil (number_for p (parameter_in s.text (operands_in (tokens_in s.text)))
      (operands_on BadDirective s.text k.labels s.here (drop 2 (operands_in (tokens_in s.text))) >>= one_in))
      ∙ ap (λ os. number_for p (parameter_in s.text os)
      (operands_on BadDirective s.text k.labels s.here (drop 2 os) >>= one_in)) (sym e)
  own_numbers k _ s e = refl

  pub numbers_are : (k : Known) (ss : List Statement) (a b : Plan) (ts : List Task) (m r : Machine) →
      Walk ss a b → ts ≡ flat_map tasks_of ss → Second k ts m r →
      number_of r ≡ last_or (number_of m) (flat_map (numbers_of k.labels p) ss)
  numbers_are k ss a b ts m r w e h =
      gathered number_of last_or numbers_again (λ x. Unit {0}) k last_join
      (λ t m r u g. record {
        fine = tt;
        value = step_joins t.operation k t (tokens_in t.text) m r (task_effect k t m r g);
      })
      (numbers_of k.labels p) (λ s x y acts. own_numbers k s.operation s acts.tokens) ss a b ts m r w e h tt
