-- The second reading behind a schedule that was given already.
use Rattle.std.proofs.Common.{◌≡◌, ℕ, ◌+◌, Bool, true, false, not, ◌&&◌, ◌||◌, List, [], ◌∷◌, ◌++◌, length, map}
use Rattle.std.proofs.Common.{drop, Option, Some, None, refl, sym, ap, ◌∙◌, subst}
use Rattle.std.specs.Prelude.{ℤ, pos, Result, Ok, Err, if◌then◌else◌}
use Rattle.std.specs.List.{list_any}
use Rattle.std.proofs.lemmas.Bool.{false≢true}
use Rattle.z_text.specs.declared.token.Token.{Token}
use Rattle.z_instr.specs.Table.{entry_at}
use Rattle.z_fields.specs.Chain.{◌>>=◌}
use Rattle.z_operands.specs.Code.{code_for}
use Rattle.z_operands.specs.Values.{one_in, two_in, three_in}
use Rattle.z_fields.specs.declared.fault.Kind.{Kind}
use Rattle.z_fields.specs.declared.fault.Kind.TheVariants.{OutOfRange, BadDirective, WrongOperands}
use Rattle.z_operands.specs.declared.operand.Operand.{Operand}
use Rattle.z_operands.specs.declared.operation.Operation.{Operation}
use Rattle.z_operands.specs.declared.operation.Operation.TheVariants as operations
use Rattle.tx_journal.specs.declared.events.Event.{Event}
use Rattle.z_reading.specs.Listing.{Task, operands_in, heads_in, is_below, to_nat}
use Rattle.z_setup.specs.Machine.{Machine, Known, task_gives, read_again, tokens_in, operands_for, code_line}
use Rattle.z_setup.specs.Machine.{directive_line, entry_line, register_line, show_line, block_line, shown}
use Rattle.z_setup.specs.Machine.{parameter_line, named_parameter, parameter_in, prefix_line, is_register_value}
use Rattle.z_setup.specs.Machine.{is_prefix_for, task_places_in, is_area, is_free, is_accessible, has_room_for}
use Rattle.z_setup.specs.Machine.{is_choice, change_at, with_prefix}
use Rattle.z_assemble.specs.Whole.{Second}
use Rattle.z_setup.specs.declared.parameter.Parameter.{Parameter}
use Rattle.statement_laws.proofs.Effects.{Effect, task_effect}
use Rattle.schedule_laws.proofs.Moved.{later}

-- each is a line of a schedule
abbrev pub AreScheds : List Task → Type 0
AreScheds [] = Unit {0}
AreScheds (t ∷ ts) = (t.operation ≡ operations.Sched) × AreScheds ts

pub scheds_over : (ts us : List Task) → AreScheds ts → AreScheds us → AreScheds (ts ++ us)
scheds_over [] us h i = i
scheds_over (t ∷ ts) us h i = (h.0, scheds_over ts us h.1 i)

-- ---- a schedule stays given

given_still : (op : Operation) (k : Known) (t : Task) (ts : List Token) (m r : Machine) → Effect op k t ts m r
    → m.scheduled ≡ true → r.scheduled ≡ true
given_still operations.Sched k t ts m r f h = sym (ap (λ (x : Machine). x.scheduled) f.2)
given_still operations.Cpu k t ts m r f h = sym (ap (λ (x : Machine). x.scheduled) f.2) ∙ h
given_still operations.Reg k t ts m r f h = sym (ap (λ (x : Machine). x.scheduled) f.2) ∙ h
given_still operations.Prefix k t ts m r f h = sym (ap (λ (x : Machine). x.scheduled) f.3) ∙ h
given_still operations.Show k t ts m r f h = sym (ap (λ (x : Machine). x.scheduled) f.2) ∙ h
given_still operations.Tdb k t ts m r f h = sym (ap (λ (x : Machine). x.scheduled) f.2) ∙ h
given_still operations.Parm k t ts m r f h = sym (ap (λ (x : Machine). x.scheduled) f.4) ∙ h
given_still _ k t ts m r f h = sym (ap (λ (x : Machine). x.scheduled) f.1) ∙ h

stays_given : (k : Known) (ts : List Task) (m q : Machine) → Second k ts m q → m.scheduled ≡ true
    → q.scheduled ≡ true
stays_given k [] m q is h = sym (ap (λ (x : Machine). x.scheduled) is) ∙ h
stays_given k (t ∷ ts) m q s h =
    stays_given k ts s.0 q s.2
    (given_still t.operation k t (tokens_in t.text) m s.0 (task_effect k t m s.0 s.1) h)

-- a line of a schedule gives one
gives_one : (op : Operation) → op ≡ operations.Sched → (k : Known) (t : Task) (ts : List Token) (m r : Machine)
    → Effect op k t ts m r → r.scheduled ≡ true
gives_one op is k t ts m r f =
    let g = subst (λ (o : Operation). Effect o k t ts m r) is f in sym (ap (λ (x : Machine). x.scheduled) g.2)

module _ (n : ℕ) (front : List Task) (events : List Event) where
  -- with these events, where there were none
  abbrev pub given : Machine → Machine
  given m = record m { schedule = events; scheduled = true }

  abbrev over : Result Machine Kind → Result Machine Kind
  over (Ok m) = Ok (given m)
  over (Err e) = Err e

  abbrev pub behind : Known → Known
  behind k = record k { tasks = front ++ map (later n front) k.tasks }

  if_given : (b : Bool) (x y u v : Result Machine Kind) → u ≡ over x → v ≡ over y
      → (if b then u else v) ≡ over (if b then x else y)
  if_given true x y u v h i = h
  if_given false x y u v h i = i

  then_given : {X : Type 0} (r : Result X Kind) (f g : X → Result Machine Kind) → ((x : X) → g x ≡ over (f x))
      → (r >>= g) ≡ over (r >>= f)
  then_given (Ok x) f g h = h x
  then_given (Err e) f g h = refl

  -- lines of schedules place nothing
  none_in_front : (area : ℕ) (ts us : List Task) → AreScheds ts
      → list_any (task_places_in area) (ts ++ us) ≡ list_any (task_places_in area) us
  none_in_front area [] us h = refl
  none_in_front area (t ∷ ts) us h =
      ap (λ b. b || list_any (task_places_in area) (ts ++ us)) (places_nothing t h.0) ∙ none_in_front area ts us h.1
    where
      places_nothing : (t : Task) → t.operation ≡ operations.Sched → task_places_in area t ≡ false
      places_nothing t is = ap (λ (o : Operation). task_places_in area (record t { operation = o })) is

  same_places : (area : ℕ) (ts : List Task)
      → list_any (task_places_in area) (map (later n front) ts) ≡ list_any (task_places_in area) ts
  same_places area [] = refl
  same_places area (t ∷ ts) = ap (λ b. task_places_in area t || b) (same_places area ts)

  module _ (scheds : AreScheds front) (k : Known) where
    places_are : (area : ℕ)
        → list_any (task_places_in area) (front ++ map (later n front) k.tasks) ≡ list_any (task_places_in area) k.tasks
    places_are area = none_in_front area front (map (later n front) k.tasks) scheds ∙ same_places area k.tasks

    prefix_given : (os : List Operand) (m : Machine)
        → prefix_line (front ++ map (later n front) k.tasks) os (given m) ≡ over (prefix_line k.tasks os m)
    unfolding prefix_line
    prefix_given os m =
        then_given (two_in os) _ _ (λ x.
        ap (λ (b : Bool). if is_below (length m.cpus) x.0
        && (is_area x.1 && (is_free (to_nat x.0) (to_nat x.1) m.cpus && not b)) then Ok (given (prefixed x m))
        else Err OutOfRange) (places_are (to_nat x.1))
        ∙ if_given (is_prefix_for k.tasks m.cpus x) _ _ _ _ refl refl)
      where
        prefixed : ℤ × ℤ → Machine → Machine
        prefixed x m = record m { cpus = change_at (to_nat x.0) (with_prefix (to_nat x.1)) m.cpus }

    directive_given : (op : Operation) (os : List Operand) (m : Machine)
        → directive_line op (behind k) os (given m) ≡ over (directive_line op k os m)
    unfolding directive_line entry_line register_line show_line block_line shown
    directive_given operations.Cpu os m =
        then_given (one_in os) _ _ (λ v. if_given (is_below 1048576 v) _ _ _ _ refl refl)
    directive_given operations.Reg os m =
        then_given (three_in os) _ _ (λ x. if_given (is_register_value (length m.cpus) x) _ _ _ _ refl refl)
    directive_given operations.Show os m =
        then_given (two_in os) _ _
        (λ x. if_given (is_accessible x.0 x.1 && has_room_for (to_nat x.1) m.shows) _ _ _ _ refl refl)
    directive_given operations.Tdb os m =
        then_given (one_in os) _ _
        (λ e. if_given (is_accessible e (pos 256) && has_room_for 256 m.shows) _ _ _ _ refl refl)
    directive_given operations.Prefix os m = prefix_given os m
    directive_given (operations.Instruction row mask) os m = refl
    directive_given operations.Org os m = refl
    directive_given operations.Equ os m = refl
    directive_given operations.Ds os m = refl
    directive_given operations.Dc os m = refl
    directive_given operations.Sched os m = refl
    directive_given operations.Parm os m = refl
    directive_given operations.End os m = refl

    parameter_given : (o : Option Parameter) (t : Task) (ts : List Token) (m : Machine)
        → named_parameter o (behind k) (later n front t) ts (given m) ≡ over (named_parameter o k t ts m)
    unfolding parameter_line
    parameter_given None t ts m = refl
    parameter_given (Some p) t ts m =
        then_given (operands_for BadDirective k t ts) _ _ (λ os.
        then_given (one_in os) _ _ (λ v. if_given (is_choice p v) _ _ _ _ refl refl))

    usual_given : (op : Operation) (t : Task) (ts : List Token) (m : Machine)
        → (operands_for BadDirective k t (operands_in ts) >>= λ os. directive_line op (behind k) os (given m))
        ≡ over (operands_for BadDirective k t (operands_in ts) >>= λ os. directive_line op k os m)
    usual_given op t ts m =
        then_given (operands_for BadDirective k t (operands_in ts)) _ _ (λ os. directive_given op os m)

    -- a line of another operation does what it did
    again_given : (op : Operation) → (op ≡ operations.Sched → ⊥) → (t : Task) (ts : List Token) (m : Machine)
        → read_again op (behind k) (later n front t) ts (given m) ≡ over (read_again op k t ts m)
    unfolding read_again code_line
    again_given (operations.Instruction row mask) differs t ts m =
        then_given (operands_for WrongOperands k t (operands_in ts)) _ _ (λ os.
        then_given (code_for (entry_at row) mask t.here os) _ _ (λ bytes. refl))
    again_given operations.Sched differs t ts m = absurd (differs refl)
    again_given operations.Parm differs t ts m =
        parameter_given (parameter_in t.text (operands_in ts)) t (drop (heads_in ts + 2) ts) m
    again_given operations.Org differs t ts m = usual_given operations.Org t ts m
    again_given operations.Equ differs t ts m = usual_given operations.Equ t ts m
    again_given operations.Ds differs t ts m = usual_given operations.Ds t ts m
    again_given operations.Dc differs t ts m = usual_given operations.Dc t ts m
    again_given operations.Cpu differs t ts m = usual_given operations.Cpu t ts m
    again_given operations.Reg differs t ts m = usual_given operations.Reg t ts m
    again_given operations.Show differs t ts m = usual_given operations.Show t ts m
    again_given operations.Tdb differs t ts m = usual_given operations.Tdb t ts m
    again_given operations.Prefix differs t ts m = usual_given operations.Prefix t ts m
    again_given operations.End differs t ts m = usual_given operations.End t ts m

    task_given : (t : Task) → (t.operation ≡ operations.Sched → ⊥) → (m : Machine)
        → task_gives (behind k) (later n front t) (given m) ≡ over (task_gives k t m)
    unfolding task_gives
    task_given t differs m = again_given t.operation differs t (tokens_in t.text) m

    -- lines that give no schedule
    pub second_given : (ts : List Task) (m q : Machine) → Second k ts m q → q.scheduled ≡ false
        → Second (behind k) (map (later n front) ts) (given m) (given q)
    second_given [] m q is free = ap given is
    second_given (t ∷ ts) m q s free = (
      given s.0,
      task_given t differs m ∙ ap over s.1,
      second_given ts s.0 q s.2 free,
    )
      where
        differs : t.operation ≡ operations.Sched → ⊥
        differs is = false≢true (sym free ∙ stays_given k ts s.0 q s.2
            (gives_one t.operation is k t (tokens_in t.text) m s.0 (task_effect k t m s.0 s.1)))
