-- What is shown is that of the SHOW and TDB lines, in their order.
use Rattle.std.proofs.Common.{◌≡◌, List, [], ◌++◌, refl, sym, ap, ◌∙◌, append-nil}
use Rattle.std.specs.List.{flat_map}
use Rattle.z_text.specs.declared.token.Token.{Token}
use Rattle.z_fields.specs.Chain.{◌>>=◌}
use Rattle.z_operands.specs.Values.{one_in, two_in, operands_on}
use Rattle.z_fields.specs.declared.fault.Kind.TheVariants.{BadDirective}
use Rattle.z_operands.specs.declared.operation.Operation.{Operation}
use Rattle.z_operands.specs.declared.operation.Operation.TheVariants as operations
use Rattle.tx_journal.specs.declared.image.Show.{Show}
use Rattle.z_reading.specs.Listing.{Plan, Task, operands_in}
use Rattle.z_setup.specs.Machine.{Machine, Known, tokens_in, operands_for}
use Rattle.statement_laws.specs.Statements.{Statement, range_or_none, block_or_none, shows_with, shows_of}
use Rattle.z_assemble.specs.Whole.{Second}
use Rattle.statement_laws.proofs.Acted.{Walk}
use Rattle.statement_laws.proofs.Effects.{Effect, task_effect}
use Rattle.statement_laws.proofs.Gathered.{gathered, list_join}
use Rattle.statement_laws.proofs.Tasks.{tasks_by, tasks_of}

-- ---- the lines that are read again

abbrev shows_by : Operation → Known → Task → List Token → List Show
shows_by operations.Show k t ts =
    range_or_none (operands_for BadDirective k t (operands_in ts) >>= two_in)
shows_by operations.Tdb k t ts = block_or_none (operands_for BadDirective k t (operands_in ts) >>= one_in)
shows_by _ k t ts = []

abbrev shows_again : Known → Task → List Show
shows_again k t = shows_by t.operation k t (tokens_in t.text)

abbrev shows_in : Machine → List Show
shows_in m = m.shows

kept : (m r : Machine) → m.shows ≡ r.shows → r.shows ≡ m.shows ++ []
kept m r e = sym e ∙ sym (append-nil m.shows)

step_adds : (op : Operation) (k : Known) (t : Task) (ts : List Token) (m r : Machine) → Effect op k t ts m r →
    r.shows ≡ m.shows ++ shows_by op k t ts
step_adds operations.Show k t ts m r f =
    sym (ap shows_in f.2) ∙ ap (λ o. m.shows ++ range_or_none o) (sym f.1)
step_adds operations.Tdb k t ts m r f =
    sym (ap shows_in f.2) ∙ ap (λ o. m.shows ++ block_or_none o) (sym f.1)
step_adds operations.Cpu k t ts m r f = kept m r (ap shows_in f.2)
step_adds operations.Reg k t ts m r f = kept m r (ap shows_in f.2)
step_adds operations.Prefix k t ts m r f = kept m r (ap shows_in f.3)
step_adds operations.Sched k t ts m r f = kept m r (ap shows_in f.2)
step_adds operations.Parm k t ts m r f = kept m r (ap shows_in f.4)
step_adds _ k t ts m r f = kept m r (ap shows_in f.1)

-- ---- the statements

own_shows : (k : Known) (op : Operation) (s : Statement) → s.operands ≡ operands_in (tokens_in s.text) →
    flat_map (shows_again k) (tasks_by op s) ≡ shows_with op k.labels s
own_shows k operations.Show s e =
    append-nil (range_or_none (operands_on BadDirective s.text k.labels s.here
    (operands_in (tokens_in s.text)) >>= two_in))
    ∙ ap (λ os. range_or_none (operands_on BadDirective s.text k.labels s.here os >>= two_in)) (sym e)
own_shows k operations.Tdb s e =
    append-nil (block_or_none (operands_on BadDirective s.text k.labels s.here
    (operands_in (tokens_in s.text)) >>= one_in))
    ∙ ap (λ os. block_or_none (operands_on BadDirective s.text k.labels s.here os >>= one_in)) (sym e)
own_shows k _ s e = refl

pub shows_are : (k : Known) (ss : List Statement) (p q : Plan) (ts : List Task) (m r : Machine) →
    Walk ss p q → ts ≡ flat_map tasks_of ss → Second k ts m r → m.shows ≡ [] →
    r.shows ≡ flat_map (shows_of k.labels) ss
shows_are k ss p q ts m r w e h none =
    gathered shows_in (λ xs ys. xs ++ ys) shows_again (λ x. Unit {0}) k list_join
    (λ t m r u g. record {
      fine = tt;
      value = step_adds t.operation k t (tokens_in t.text) m r (task_effect k t m r g);
    })
    (shows_of k.labels) (λ s a b acts. own_shows k s.operation s acts.tokens) ss p q ts m r w e h tt
    ∙ ap (λ x. x ++ flat_map (shows_of k.labels) ss) none
