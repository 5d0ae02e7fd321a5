-- What each line of the second reading keeps of the machine: its CPUs, what is shown, its events and its
-- numbers.
use Rattle.std.proofs.Common.{◌≡◌, ◌≢◌, ℕ, zero, suc, ℤ, pos, negsuc, ◌+◌, ◌<◌, ◌≤◌, Bool, true, false, List}
use Rattle.std.proofs.Common.{[], ◌∷◌, ◌++◌, length, get_or, drop, replicate, Option, Some, None, Ok, refl}
use Rattle.std.proofs.Common.{sym, ap, ◌∙◌, subst, arith, ◌==◌, eq-eqb}
use Rattle.std.specs.Prelude.{All, AllPairs, sum_by}
use Rattle.std.specs.List.{list_any}
use Rattle.std.proofs.lemmas.Bool.{and_parts, ltb-true, leb-true, eqb-true, false≢true, not-true}
use Rattle.std.proofs.lemmas.List.Elements.{All-cons, All-head, All-tail, All-push, All-append, All-replicate}
use Rattle.std.proofs.lemmas.List.Sums.{sum_by-append}
use Rattle.std.proofs.lemmas.List.Folds.{list_any_at}
use Rattle.std.proofs.lemmas.Grind.{common_steps}
use Rattle.z_regs.specs.Cpu.{Cpu}
use Rattle.z_instr.specs.Reading.{modulo}
use Rattle.tx_journal.specs.Image.{IsStarting, AreApart, IsShown, cpu_of_event}
use Rattle.tx_journal.specs.declared.events.Event.{Event}
use Rattle.tx_journal.specs.declared.image.Show.{Show}
use Rattle.tx_ladder.specs.Parameters.{Parameters, IsAllowed}
use Rattle.z_operands.specs.Code.{code_for}
use Rattle.z_instr.specs.Table.{entry_at}
use Rattle.z_reading.specs.Listing.{Task, is_below, to_nat, field_behind, operation_in, operands_in}
use Rattle.z_reading.specs.Listing.{heads_in}
use Rattle.z_setup.specs.Machine.{Machine, Known, change_at, with_address, with_general, with_prefix}
use Rattle.z_setup.specs.Machine.{entry_line, register_line, size_of_show, is_accessible, has_room_for}
use Rattle.z_setup.specs.Machine.{show, shown, show_line, block_line, parameter_line, is_between}
use Rattle.z_setup.specs.Machine.{is_choice, with_parameter, is_area, has_prefix, is_same_prefix}
use Rattle.z_setup.specs.Machine.{task_places_in, prefix_line, schedule_line, code_line, named_parameter}
use Rattle.z_setup.specs.Machine.{parameter_in, directive_line, read_again, task_gives, tokens_in}
use Rattle.z_setup.specs.Machine.{operands_for, end_of}
use Rattle.z_fields.specs.Schedule.{event_of, with_run, with_item, with_items, scheduled, run_of}
use Rattle.z_fields.specs.Pieces.{shortened, pieces_by}
use Rattle.z_operands.specs.Values.{one_in, two_in, three_in}
use Rattle.z_assemble.specs.Whole.{Second}
use Rattle.z_fields.specs.declared.fault.Kind.TheVariants.{OutOfRange, BadDirective, WrongOperands}
use Rattle.z_fields.specs.declared.fault.Kind.TheVariants.{BadSchedule}
use Rattle.z_operands.specs.declared.operand.Operand.{Operand}
use Rattle.z_operands.specs.declared.operation.Operation.{Operation}
use Rattle.z_operands.specs.declared.operation.Operation.TheVariants as operations
use Rattle.z_setup.specs.declared.parameter.Parameter.{Parameter}
use Rattle.z_setup.specs.declared.parameter.Parameter.TheVariants.{Reject, Firm, Late, Starve, Stop, Delay}
use Rattle.z_fields.specs.declared.schedule.Run.{Run}
use Rattle.z_text.specs.declared.token.Token.{Token}
use Rattle.z_assemble.proofs.Passed.{then_ok, where_ok, same_ok, is_true}
use Rattle.std.proofs.lemmas.Option.{same_Some}

-- ---- one element changed

pub change_length : {X : Type 0} (i : ℕ) (f : X → X) (xs : List X) → length (change_at i f xs) ≡ length xs
change_length i f [] = refl
change_length zero f (x ∷ xs) = refl
change_length (suc i) f (x ∷ xs) = ap suc (change_length i f xs)

change_all : {X : Type 0} (P : X → Type 0) (i : ℕ) (f : X → X) (xs : List X) → ((x : X) → P x → P (f x)) →
    All P xs → All P (change_at i f xs)
change_all P i f [] h a = a
change_all P zero f (x ∷ xs) h a = All-cons P (f x) xs (h x (All-head P x xs a)) (All-tail P x xs a)
change_all P (suc i) f (x ∷ xs) h a = All-cons P x (change_at i f xs) (All-head P x xs a)
    (change_all P i f xs h (All-tail P x xs a))

pub change_other : {X : Type 0} (i : ℕ) (f : X → X) (xs : List X) (k : ℕ) (d : X) → k ≢ i →
    get_or (change_at i f xs) k d ≡ get_or xs k d
change_other i f [] k d n = refl
change_other zero f (x ∷ xs) zero d n = absurd (n refl)
change_other zero f (x ∷ xs) (suc k) d n = refl
change_other (suc i) f (x ∷ xs) zero d n = refl
change_other (suc i) f (x ∷ xs) (suc k) d n = change_other i f xs k d (λ e. n (ap suc e))

pub change_same : {X : Type 0} (i : ℕ) (f : X → X) (xs : List X) (d : X) → i < length xs →
    get_or (change_at i f xs) i d ≡ f (get_or xs i d)
change_same i f [] d h = absurd (omega arith)
change_same zero f (x ∷ xs) d h = refl
change_same (suc i) f (x ∷ xs) d h = change_same i f xs d (omega arith)

-- a part of the elements that the change leaves
pub same_part : {X A : Type 0} (part : X → A) (i : ℕ) (f : X → X) (xs : List X) (k : ℕ) (d : X) →
    ((x : X) → part (f x) ≡ part x) → part (get_or (change_at i f xs) k d) ≡ part (get_or xs k d)
same_part part i f [] k d h = refl
same_part part zero f (x ∷ xs) zero d h = h x
same_part part zero f (x ∷ xs) (suc k) d h = refl
same_part part (suc i) f (x ∷ xs) zero d h = refl
same_part part (suc i) f (x ∷ xs) (suc k) d h = same_part part i f xs k d h

-- ---- CPUs

abbrev prefix_of : Cpu → Option ℕ
prefix_of c = c.prefix

-- no task places an instruction in the CPU's area
abbrev pub IsClear : List Task → Cpu → Type 0
IsClear tasks c = (p : ℕ) → c.prefix ≡ Some p → list_any (task_places_in p) tasks ≡ false

pub record AreSound (tasks : List Task) (count : ℕ) (cpus : List Cpu) : Type 0 where
  pub count_is : length cpus ≡ count
  pub starting : All IsStarting cpus
  pub apart : AllPairs AreApart cpus
  pub clear : All (IsClear tasks) cpus

-- a change that leaves all prefixes
plainly : (tasks : List Task) (n i : ℕ) (f : Cpu → Cpu) (cpus : List Cpu) →
    ((c : Cpu) → (f c).prefix ≡ c.prefix) → ((c : Cpu) → IsStarting c → IsStarting (f c)) →
    AreSound tasks n cpus → AreSound tasks n (change_at i f cpus)
plainly tasks n i f cpus same h s = record {
  count_is = change_length i f cpus ∙ s.count_is;
  starting = change_all IsStarting i f cpus h s.starting;
  apart = λ a b d o l p x y.
      let la : b < length cpus = subst (λ q. b < q) (change_length i f cpus) l in
      s.apart a b d o la p (sym (same_part prefix_of i f cpus a d same) ∙ x)
      (sym (same_part prefix_of i f cpus b d same) ∙ y);
  clear = change_all (IsClear tasks) i f cpus (λ c h p e. h p (sym (same c) ∙ e)) s.clear;
}

addressed : (v : ℤ) (c : Cpu) → is_below 1048576 v ≡ true → IsStarting c →
    IsStarting (with_address (to_nat v) c)
addressed (pos a) c h s = record {
  address = ltb-true _ _ h;
  runs = s.runs;
  code = s.code;
  mask = s.mask;
  access = s.access;
  prefix = s.prefix;
}
addressed (negsuc a) c h s = absurd (cc)

general_set : (r v : ℕ) (c : Cpu) → IsStarting c → IsStarting (with_general r v c)
general_set r v c s = record {
  address = s.address;
  runs = s.runs;
  code = s.code;
  mask = s.mask;
  access = s.access;
  prefix = s.prefix;
}

prefixed : (v : ℤ) (c : Cpu) → is_area v ≡ true → IsStarting c → IsStarting (with_prefix (to_nat v) c)
prefixed (pos a) c h s = record {
  address = s.address;
  runs = s.runs;
  code = s.code;
  mask = s.mask;
  access = s.access;
  prefix = is_true _ h;
}
prefixed (negsuc a) c h s = absurd (cc)

same_number : (n : ℕ) (o : Option ℕ) → o ≡ Some n → (c : Cpu) → c.prefix ≡ o → has_prefix n c ≡ true
same_number n o e c h = subst (λ q. is_same_prefix n q ≡ true) (sym (h ∙ e)) (eq-eqb n n refl)

nobody_has : (n : ℕ) (cpus : List Cpu) (k : ℕ) (d : Cpu) → list_any (has_prefix n) cpus ≡ false →
    k < length cpus → (get_or cpus k d).prefix ≡ Some n → ⊥
nobody_has n cpus k d h l e =
    let y : list_any (has_prefix n) cpus ≡ true = list_any_at (has_prefix n) cpus k d l
    (same_number n _ e (get_or cpus k d) refl) in
    false≢true (sym h ∙ y)

-- one of two CPUs gets a prefix that nobody has
cases_at : (k i : ℕ) {C : Type 0} → (k ≡ i → C) → (k ≢ i → C) → C
cases_at k i {C} same other = by (k == i) refl
  where
    by : (b : Bool) → (k == i) ≡ b → C
    by true e = same (eqb-true k i e)
    by false e = other (λ s. false≢true (sym e ∙ eq-eqb k i s))

taken_prefix : (n i : ℕ) (cpus : List Cpu) → list_any (has_prefix n) cpus ≡ false → AllPairs AreApart cpus →
    AllPairs AreApart (change_at i (with_prefix n) cpus)
taken_prefix n i cpus none apart a b d o l p x y =
    let f = with_prefix n in
    let lb : b < length cpus = subst (λ q. b < q) (change_length i f cpus) l in
    let la : a < length cpus = omega arith in
    cases_at a i
    (λ at. let nb : b ≢ i = omega arith in
    let li : i < length cpus = subst (λ q. q < length cpus) at la in
    let mine : Some n ≡ Some p = sym (ap (λ c. c.prefix) (ap (λ q. get_or (change_at i f cpus) q d) at
    ∙ change_same i f cpus d li)) ∙ x in
    nobody_has n cpus b d none lb (sym (ap (λ c. c.prefix) (change_other i f cpus b d nb)) ∙ y ∙ sym mine))
    (λ na. cases_at b i
    (λ at. let li : i < length cpus = subst (λ q. q < length cpus) at lb in
    let other : Some n ≡ Some p = sym (ap (λ c. c.prefix) (ap (λ q. get_or (change_at i f cpus) q d) at
    ∙ change_same i f cpus d li)) ∙ y in
    nobody_has n cpus a d none la (sym (ap (λ c. c.prefix) (change_other i f cpus a d na)) ∙ x ∙ sym other))
    (λ nb. apart a b d o lb p (sym (ap (λ c. c.prefix) (change_other i f cpus a d na)) ∙ x)
    (sym (ap (λ c. c.prefix) (change_other i f cpus b d nb)) ∙ y)))

with_area : (tasks : List Task) (n i : ℕ) (v : ℤ) (cpus : List Cpu) → is_area v ≡ true →
    list_any (has_prefix (to_nat v)) cpus ≡ false → list_any (task_places_in (to_nat v)) tasks ≡ false →
    AreSound tasks n cpus → AreSound tasks n (change_at i (with_prefix (to_nat v)) cpus)
with_area tasks n i v cpus area none clear s = record {
  count_is = change_length i (with_prefix (to_nat v)) cpus ∙ s.count_is;
  starting = change_all IsStarting i (with_prefix (to_nat v)) cpus (λ c h. prefixed v c area h) s.starting;
  apart = taken_prefix (to_nat v) i cpus none s.apart;
  clear = change_all (IsClear tasks) i (with_prefix (to_nat v)) cpus
      (λ c h p e. subst (λ q. list_any (task_places_in q) tasks ≡ false)
      (same_Some (to_nat v) p e) clear) s.clear;
}

-- ---- what is shown

pub record AreShown (shows : List Show) : Type 0 where
  pub each : All IsShown shows
  pub count : length shows ≤ 64
  pub bytes : sum_by size_of_show shows ≤ 65536

one_shown : (e n : ℤ) (fields : Bool) → is_accessible e n ≡ true → (fields ≡ true → to_nat n ≡ 256) →
    IsShown (show (to_nat e) (to_nat n) fields)
one_shown (pos e) (pos n) fields h block =
    let first = and_parts _ _ h in
    let rest = and_parts _ _ first.1 in
    record {
      some = ltb-true _ _ first.0;
      low = leb-true _ _ rest.0;
      high = leb-true _ _ rest.1;
      block = block;
    }
one_shown (pos e) (negsuc n) fields h block = absurd (cc)
one_shown (negsuc e) n fields h block = absurd (cc)

more_shown : (shows : List Show) (s : Show) → has_room_for s.length shows ≡ true → IsShown s →
    AreShown shows → AreShown (shows ++ s ∷ [])
more_shown shows s h i a =
    let room = and_parts _ _ h in
    let few : length shows < 64 = ltb-true _ _ room.0 in
    let fit : sum_by size_of_show shows + s.length ≤ 65536 = leb-true _ _ room.1 in
    record {
      each = All-push IsShown shows s a.each i;
      count = grind (arith, common_steps);
      bytes = subst (λ q. q ≤ 65536) (sym (sum_by-append size_of_show shows (s ∷ []))) (omega arith);
    }

-- ---- events

pub record AreEvents (n : ℕ) (es : List Event) : Type 0 where
  pub few : length es ≤ 4194304
  pub known : All (λ e. cpu_of_event e < n) es

event_cpu : (external : Bool) (cpu n : ℕ) → cpu < n → cpu_of_event (event_of external cpu) < n
event_cpu true cpu n h = h
event_cpu false cpu n h = h

run_keeps : (n : ℕ) (o : Option Run) (es gs : List Event) → with_run n o es ≡ Ok gs → AreEvents n es →
    AreEvents n gs
run_keeps n None es gs e a = absurd (cc)
run_keeps n (Some r) es gs e a =
    let w = where_ok _ _ gs BadSchedule e in
    let outer = and_parts _ _ w.0 in
    let inner = and_parts _ _ outer.1 in
    let fit : length es + r.count ≤ 4194304 = leb-true _ _ inner.1 in
    let event = event_of r.external r.cpu in
    subst (AreEvents n) w.1 (record {
      few = grind (arith, common_steps);
      known = All-append (λ e. cpu_of_event e < n) es (replicate r.count event) a.known
          (All-replicate (λ e. cpu_of_event e < n) r.count event
          (event_cpu r.external r.cpu n (ltb-true _ _ outer.0)));
    })

items_keep : (n : ℕ) (is : List (List ℕ)) (es gs : List Event) → with_items n is es ≡ Ok gs → AreEvents n es →
    AreEvents n gs
unfolding with_items
items_keep n [] es gs e a = subst (AreEvents n) (same_ok es gs e) a
items_keep n (i ∷ is) es gs e a =
    let t = then_ok (with_item n i es) (with_items n is) gs e in
    items_keep n is t.0 gs t.2 (run_keeps n (run_of (shortened i)) es t.0 t.1 a)

-- ---- the numbers of the retry ladder

between : (least most : ℕ) (v : ℤ) → is_between least most v ≡ true → (least ≤ to_nat v) × (to_nat v ≤ most)
between least most (pos n) h = let p = and_parts _ _ h in (leb-true _ _ p.0, leb-true _ _ p.1)
between least most (negsuc n) h = absurd (cc)

chosen : (q : Parameter) (v : ℤ) (p : Parameters) → is_choice q v ≡ true → IsAllowed p →
    IsAllowed (with_parameter q (to_nat v) p)
chosen Reject v p h a = record {
  reject = between _ _ v h;
  firm = a.firm;
  late = a.late;
  starve = a.starve;
  stop = a.stop;
  delay = a.delay;
}
chosen Firm v p h a = record {
  reject = a.reject;
  firm = between _ _ v h;
  late = a.late;
  starve = a.starve;
  stop = a.stop;
  delay = a.delay;
}
chosen Late v p h a = record {
  reject = a.reject;
  firm = a.firm;
  late = between _ _ v h;
  starve = a.starve;
  stop = a.stop;
  delay = a.delay;
}
chosen Starve v p h a = record {
  reject = a.reject;
  firm = a.firm;
  late = a.late;
  starve = between _ _ v h;
  stop = a.stop;
  delay = a.delay;
}
chosen Stop v p h a = record {
  reject = a.reject;
  firm = a.firm;
  late = a.late;
  starve = a.starve;
  stop = between _ _ v h;
  delay = a.delay;
}
chosen Delay v p h a = record {
  reject = a.reject;
  firm = a.firm;
  late = a.late;
  starve = a.starve;
  stop = a.stop;
  delay = between _ _ v h;
}

-- ---- the machine

pub record IsMachine (tasks : List Task) (count : ℕ) (m : Machine) : Type 0 where
  pub cpus : AreSound tasks count m.cpus
  pub shows : AreShown m.shows
  pub events : AreEvents count m.schedule
  pub allowed : IsAllowed m.parms

entry_keeps : (tasks : List Task) (n : ℕ) (os : List Operand) (m r : Machine) → entry_line os m ≡ Ok r →
    IsMachine tasks n m → IsMachine tasks n r
unfolding entry_line
entry_keeps tasks n os m r e i =
    let t = then_ok (one_in os) _ r e in
    let w = where_ok _ _ r OutOfRange t.2 in
    subst (IsMachine tasks n) w.1 (record {
      cpus = plainly tasks n m.entered (with_address (to_nat t.0)) m.cpus (λ c. refl)
          (λ c s. addressed t.0 c w.0 s) i.cpus;
      shows = i.shows;
      events = i.events;
      allowed = i.allowed;
    })

register_keeps : (tasks : List Task) (n : ℕ) (os : List Operand) (m r : Machine) → register_line os m ≡ Ok r →
    IsMachine tasks n m → IsMachine tasks n r
unfolding register_line
register_keeps tasks n os m r e i =
    let t = then_ok (three_in os) _ r e in
    let w = where_ok _ _ r OutOfRange t.2 in
    let x = t.0 in
    subst (IsMachine tasks n) w.1 (record {
      cpus = plainly tasks n (to_nat x.0) (with_general (to_nat x.1) (modulo 64 x.2)) m.cpus (λ c. refl)
          (λ c s. general_set (to_nat x.1) (modulo 64 x.2) c s) i.cpus;
      shows = i.shows;
      events = i.events;
      allowed = i.allowed;
    })

prefix_keeps : (tasks : List Task) (n : ℕ) (os : List Operand) (m r : Machine) →
    prefix_line tasks os m ≡ Ok r → IsMachine tasks n m → IsMachine tasks n r
unfolding prefix_line
prefix_keeps tasks n os m r e i =
    let t = then_ok (two_in os) _ r e in
    let w = where_ok _ _ r OutOfRange t.2 in
    let x = t.0 in
    let outer = and_parts _ _ w.0 in
    let area = and_parts _ _ outer.1 in
    let free = and_parts _ _ area.1 in
    let single = and_parts _ _ free.0 in
    subst (IsMachine tasks n) w.1 (record {
      cpus = with_area tasks n (to_nat x.0) x.1 m.cpus area.0 (not-true _ single.1)
          (not-true _ free.1) i.cpus;
      shows = i.shows;
      events = i.events;
      allowed = i.allowed;
    })

shown_keeps : (tasks : List Task) (n : ℕ) (a b : ℤ) (fields : Bool) (m r : Machine) →
    (fields ≡ true → to_nat b ≡ 256) → shown a b fields m ≡ Ok r → IsMachine tasks n m → IsMachine tasks n r
unfolding shown
shown_keeps tasks n a b fields m r block e i =
    let w = where_ok _ _ r OutOfRange e in
    let p = and_parts _ _ w.0 in
    subst (IsMachine tasks n) w.1 (record {
      cpus = i.cpus;
      shows = more_shown m.shows (show (to_nat a) (to_nat b) fields) p.1
          (one_shown a b fields p.0 block) i.shows;
      events = i.events;
      allowed = i.allowed;
    })

show_keeps : (tasks : List Task) (n : ℕ) (os : List Operand) (m r : Machine) → show_line os m ≡ Ok r →
    IsMachine tasks n m → IsMachine tasks n r
unfolding show_line
show_keeps tasks n os m r e i =
    let t = then_ok (two_in os) _ r e in
    shown_keeps tasks n t.0.0 t.0.1 false m r (λ h. absurd (false≢true h)) t.2 i

block_keeps : (tasks : List Task) (n : ℕ) (os : List Operand) (m r : Machine) → block_line os m ≡ Ok r →
    IsMachine tasks n m → IsMachine tasks n r
unfolding block_line
block_keeps tasks n os m r e i =
    let t = then_ok (one_in os) _ r e in
    shown_keeps tasks n t.0 (pos 256) true m r (λ h. refl) t.2 i

parameter_keeps : (tasks : List Task) (n : ℕ) (p : Parameter) (os : List Operand) (m r : Machine) →
    parameter_line p os m ≡ Ok r → IsMachine tasks n m → IsMachine tasks n r
unfolding parameter_line
parameter_keeps tasks n p os m r e i =
    let t = then_ok (one_in os) _ r e in
    let w = where_ok _ _ r OutOfRange t.2 in
    subst (IsMachine tasks n) w.1 (record {
      cpus = i.cpus;
      shows = i.shows;
      events = i.events;
      allowed = chosen p t.0 m.parms w.0 i.allowed;
    })

schedule_keeps : (tasks : List Task) (n : ℕ) (field : List ℕ) (m r : Machine) → schedule_line field m ≡ Ok r →
    IsMachine tasks n m → IsMachine tasks n r
unfolding schedule_line scheduled
schedule_keeps tasks n field m r e i =
    let t = then_ok (scheduled (length m.cpus) field m.schedule) _ r e in
    let all : AreEvents n t.0 =
    items_keep n (pieces_by 44 (field ++ 44 ∷ [])) m.schedule t.0
    (ap (λ q. with_items q (pieces_by 44 (field ++ 44 ∷ [])) m.schedule) (sym i.cpus.count_is)
    ∙ t.1) i.events in
    subst (IsMachine tasks n) (same_ok _ r t.2) (record {
      cpus = i.cpus;
      shows = i.shows;
      events = all;
      allowed = i.allowed;
    })

code_keeps : (tasks : List Task) (n row : ℕ) (mask : Option ℕ) (here : ℕ) (os : List Operand)
    (m r : Machine) → code_line row mask here os m ≡ Ok r → IsMachine tasks n m → IsMachine tasks n r
unfolding code_line
code_keeps tasks n row mask here os m r e i =
    let t = then_ok (code_for (entry_at row) mask here os) _ r e in
    subst (IsMachine tasks n) (same_ok _ r t.2) (record {
      cpus = i.cpus;
      shows = i.shows;
      events = i.events;
      allowed = i.allowed;
    })

named_keeps : (o : Option Parameter) (k : Known) (n : ℕ) (t : Task) (ts : List Token) (m r : Machine) →
    named_parameter o k t ts m ≡ Ok r → IsMachine k.tasks n m → IsMachine k.tasks n r
named_keeps None k n t ts m r e i = absurd (cc)
named_keeps (Some p) k n t ts m r e i =
    let g = then_ok (operands_for BadDirective k t ts) _ r e in parameter_keeps k.tasks n p g.0 m r g.2 i

directive_keeps : (op : Operation) (k : Known) (n : ℕ) (os : List Operand) (m r : Machine) →
    directive_line op k os m ≡ Ok r → IsMachine k.tasks n m → IsMachine k.tasks n r
unfolding directive_line
directive_keeps operations.Cpu k n os m r e i = entry_keeps k.tasks n os m r e i
directive_keeps operations.Reg k n os m r e i = register_keeps k.tasks n os m r e i
directive_keeps operations.Show k n os m r e i = show_keeps k.tasks n os m r e i
directive_keeps operations.Tdb k n os m r e i = block_keeps k.tasks n os m r e i
directive_keeps operations.Prefix k n os m r e i = prefix_keeps k.tasks n os m r e i
directive_keeps _ k n os m r e i = subst (IsMachine k.tasks n) (same_ok m r e) i

read_keeps : (op : Operation) (k : Known) (n : ℕ) (t : Task) (ts : List Token) (m r : Machine) →
    read_again op k t ts m ≡ Ok r → IsMachine k.tasks n m → IsMachine k.tasks n r
unfolding read_again
read_keeps (operations.Instruction row mask) k n t ts m r e i =
    let g = then_ok (operands_for WrongOperands k t
    (operands_in ts)) _ r e in code_keeps k.tasks n row mask t.here g.0 m r g.2 i
read_keeps operations.Sched k n t ts m r e i = schedule_keeps k.tasks n
    (field_behind (end_of (operation_in ts)) t.text) m r e i
read_keeps operations.Parm k n t ts m r e i = named_keeps (parameter_in t.text (operands_in ts)) k n t
    (drop (heads_in ts + 2) ts) m r e i
read_keeps op k n t ts m r e i =
    let g = then_ok (operands_for BadDirective k t
    (operands_in ts)) _ r e in directive_keeps op k n g.0 m r g.2 i

pub task_keeps : (k : Known) (n : ℕ) (t : Task) (m r : Machine) → task_gives k t m ≡ Ok r →
    IsMachine k.tasks n m → IsMachine k.tasks n r
unfolding task_gives
task_keeps k n t m r e i = read_keeps t.operation k n t (tokens_in t.text) m r e i

pub all_keep : (k : Known) (n : ℕ) (ts : List Task) (m q : Machine) → Second k ts m q →
    IsMachine k.tasks n m → IsMachine k.tasks n q
all_keep k n [] m q h i = subst (IsMachine k.tasks n) h i
all_keep k n (t ∷ ts) m q h i = all_keep k n ts h.0 q h.2 (task_keeps k n t m h.0 h.1 i)
