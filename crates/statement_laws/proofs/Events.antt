-- The events of a text are those of its SCHED lines, in their order.
use Rattle.std.proofs.Common.{◌≡◌, ℕ, ◌+◌, List, [], ◌∷◌, ◌++◌, length, Option, Some, None, Ok, refl, sym, ap}
use Rattle.std.proofs.Common.{◌∙◌, ◌&&◌, nat_lt, nat_le, append_assoc, append-nil}
use Rattle.std.specs.List.{flat_map}
use Rattle.z_text.specs.declared.token.Token.{Token}
use Rattle.z_fields.specs.Pieces.{shortened}
use Rattle.z_fields.specs.Schedule.{scheduled, with_run, with_item, with_items, run_of}
use Rattle.z_fields.specs.declared.fault.Kind.TheVariants.{BadSchedule}
use Rattle.z_operands.specs.declared.operation.Operation.{Operation}
use Rattle.z_operands.specs.declared.operation.Operation.TheVariants as operations
use Rattle.z_fields.specs.declared.schedule.Run.{Run}
use Rattle.tx_journal.specs.declared.events.Event.{Event}
use Rattle.z_reading.specs.Listing.{Plan, Task, operation_in, field_behind}
use Rattle.z_setup.specs.Machine.{Machine, Known, tokens_in, end_of}
use Rattle.statement_laws.specs.Statements.{Statement, events_of_run, events_of_item, events_of_field}
use Rattle.statement_laws.specs.Statements.{events_with}
use Rattle.statement_laws.specs.Statements.{events_of}
use Rattle.z_assemble.specs.Whole.{Second}
use Rattle.statement_laws.proofs.Acted.{Walk}
use Rattle.statement_laws.proofs.Effects.{Effect, task_effect}
use Rattle.statement_laws.proofs.Gathered.{gathered, list_join}
use Rattle.z_assemble.proofs.Passed.{then_ok, where_ok, same_ok}
use Rattle.statement_laws.proofs.Tasks.{tasks_by, tasks_of}

-- ---- a field

run_adds : (cpus : ℕ) (o : Option Run) (es new : List Event) → with_run cpus o es ≡ Ok new →
    new ≡ es ++ events_of_run o
run_adds cpus None es new e = absurd (cc)
run_adds cpus (Some r) es new e =
    let w = where_ok (nat_lt r.cpu cpus && (nat_lt 0 r.count && nat_le (length es + r.count) 4194304)) _ new
    BadSchedule e in
    sym w.1

items_add : (cpus : ℕ) (is : List (List ℕ)) (es new : List Event) → with_items cpus is es ≡ Ok new →
    new ≡ es ++ flat_map events_of_item is
unfolding with_items
items_add cpus [] es new e = sym (same_ok es new e) ∙ sym (append-nil es)
items_add cpus (i ∷ is) es new e =
    let t = then_ok (with_item cpus i es) (with_items cpus is) new e in
    items_add cpus is t.0 new t.2
    ∙ ap (λ x. x ++ flat_map events_of_item is) (run_adds cpus (run_of (shortened i)) es t.0 t.1)
    ∙ append_assoc es (events_of_item i) (flat_map events_of_item is)

field_adds : (cpus : ℕ) (field : List ℕ) (es new : List Event) → scheduled cpus field es ≡ Ok new →
    new ≡ es ++ events_of_field field
unfolding scheduled
field_adds cpus field es new e = items_add cpus _ es new e

-- ---- the lines that are read again

abbrev events_by : Operation → Task → List Token → List Event
events_by operations.Sched t ts = events_of_field (field_behind (end_of (operation_in ts)) t.text)
events_by _ t ts = []

abbrev events_again : Task → List Event
events_again t = events_by t.operation t (tokens_in t.text)

schedule_of : (m r : Machine) → m ≡ r → r.schedule ≡ m.schedule
schedule_of m r e = sym (ap (λ (x : Machine). x.schedule) e)

kept : (m r : Machine) → r.schedule ≡ m.schedule → r.schedule ≡ m.schedule ++ []
kept m r e = e ∙ sym (append-nil m.schedule)

step_adds : (op : Operation) (k : Known) (t : Task) (ts : List Token) (m r : Machine) → Effect op k t ts m r →
    r.schedule ≡ m.schedule ++ events_by op t ts
step_adds operations.Sched k t ts m r f =
    schedule_of _ r f.2
    ∙ field_adds (length m.cpus) (field_behind (end_of (operation_in ts)) t.text) m.schedule f.0 f.1
step_adds operations.Cpu k t ts m r f = kept m r (schedule_of _ r f.2)
step_adds operations.Reg k t ts m r f = kept m r (schedule_of _ r f.2)
step_adds operations.Prefix k t ts m r f = kept m r (schedule_of _ r f.3)
step_adds operations.Show k t ts m r f = kept m r (schedule_of _ r f.2)
step_adds operations.Tdb k t ts m r f = kept m r (schedule_of _ r f.2)
step_adds operations.Parm k t ts m r f = kept m r (schedule_of _ r f.4)
step_adds _ k t ts m r f = kept m r (schedule_of _ r f.1)

-- ---- the statements

own_events : (op : Operation) (s : Statement) → s.end ≡ end_of (operation_in (tokens_in s.text)) →
    flat_map events_again (tasks_by op s) ≡ events_with op s
own_events operations.Sched s e =
    append-nil (events_of_field (field_behind (end_of (operation_in (tokens_in s.text))) s.text))
    ∙ ap (λ n. events_of_field (field_behind n s.text)) (sym e)
own_events _ s e = refl

pub events_are : (k : Known) (ss : List Statement) (p q : Plan) (ts : List Task) (m r : Machine) →
    Walk ss p q →
    ts ≡ flat_map tasks_of ss → Second k ts m r → m.schedule ≡ [] → r.schedule ≡ flat_map events_of ss
events_are k ss p q ts m r w e h none =
    gathered (λ (x : Machine). x.schedule) (λ xs ys. xs ++ ys) (λ k. events_again) (λ x. Unit {0}) k list_join
    (λ t m r u g. record {
      fine = tt;
      value = step_adds t.operation k t (tokens_in t.text) m r (task_effect k t m r g);
    })
    events_of (λ s a b acts. own_events s.operation s acts.end_is) ss p q ts m r w e h tt
    ∙ ap (λ x. x ++ flat_map events_of ss) none
