-- Conflicts that are rejects are counted with the CPUs that asked.
use Rattle.std.proofs.Common.{◌≡◌, ◌≢◌, ℕ, zero, suc, ◌+◌, ◌<◌, false, List, [], ◌∷◌}
use Rattle.std.proofs.Common.{Option, Some}
use Rattle.std.proofs.Common.{None, cond, refl, sym, ap, ◌∙◌, subst, arith}
use Rattle.std.specs.Prelude.{count_by, if◌then◌else◌}
use Rattle.std.specs.List.{flat_map}
use Rattle.std.proofs.lemmas.List.Elements.{All-head, All-tail}
use Rattle.std.proofs.lemmas.List.Sums.{sum_by-append}
use Rattle.tx_control.specs.declared.causes.Why.{Why}
use Rattle.tx_control.specs.declared.causes.Why.TheVariants.{External, Starved}
use Rattle.tx_ladder.specs.Rungs.{Standing, rejecting, rejected}
use Rattle.tx_journal.specs.Image.{cpu_of_event}
use Rattle.tx_journal.specs.declared.entries.Entry.{Entry}
use Rattle.tx_journal.specs.declared.events.Event.{Event}
use Rattle.tx_journal.specs.declared.events.Event.TheVariants as event
use Rattle.tx_meaning.specs.declared.asking.Reject.{Reject}
use Rattle.tx_meaning.specs.Idle.{idle}
use Rattle.tx_meaning.specs.Limits.{Setting}
use Rattle.tx_meaning.specs.Meaning.{meaning, meaning_from}
use Rattle.tx_meaning.specs.State.{Numbers, State, beginning, is_live, standing_of, cpus_of}
use Rattle.tx_meaning.specs.Changes.{with_numbers, with_event, without_attempt, aborting, rejecting_one}
use Rattle.tx_meaning.specs.Turn.{happen, turn, turn_where, external}
use Rattle.tx_meaning.specs.Views.{AreKnown}
use Rattle.tx_meaning.proofs.Books.{idle_or_not}
use Rattle.std.proofs.lemmas.Bool.{cases_eq}
use borrow.Enum.Arm.{by_way}
use Rattle.tx_heat.specs.Sums.{sum_below}
use Rattle.tx_meaning.proofs.Walk.{Walk, at_put_case, at_put_kept, in_a_turn, externally, cause_case}
use Rattle.tx_meaning.proofs.Walk.{conflict_on}
use Rattle.tx_heat.specs.Conflicts.{Conflict, conflict_where, abort_of, aborts_by, rejects_by, entries_in}
use Rattle.tx_heat.specs.Conflicts.{conflicts_in, conflicts_from, conflicts}

total_same : (n : ℕ) (f g : ℕ → ℕ) → ((x : ℕ) → x < n → g x ≡ f x) → sum_below n g ≡ sum_below n f
unfolding sum_below
total_same zero f g h = refl
total_same (suc n) f g h =
    let below = total_same n f g (λ x lo. h x (omega arith)) in
    let here : g n ≡ f n = h n (omega arith) in
    omega (arith, below, here)

total_more : (n : ℕ) (f g : ℕ → ℕ) (i : ℕ) → i < n → g i ≡ f i + 1 → ((x : ℕ) → x ≢ i → g x ≡ f x)
    → sum_below n g ≡ sum_below n f + 1
unfolding sum_below
total_more zero f g i lo here others = absurd (omega arith)
total_more (suc n) f g i lo here others =
    by_way (cases_eq i n)
    (λ e.
    let below = total_same n f g (λ x less. let off : x ≢ i = omega arith in others x off) in
    let top : g n ≡ f n + 1 = subst (λ k. g k ≡ f k + 1) e here in
    omega (arith, below, top))
    (λ ne.
    let off : n ≢ i = λ e. ne (sym e) in
    let less : i < n = omega arith in
    let below = total_more n f g i less here others in
    let top = others n off in
    omega (arith, below, top))

total_none : (n : ℕ) → sum_below n (λ x. 0) ≡ 0
unfolding sum_below
total_none zero = refl
total_none (suc n) = let below = total_none n in omega (arith, below)

abbrev count : ℕ → State → ℕ
count n s = sum_below n (λ x. (s.numbers x).rejected)

abbrev Counts : ℕ → ℕ → Option Reject → State → Type 0
Counts n sum None s = count n s ≡ sum
Counts n sum (Some r) s = count n s ≡ sum + 1

module _ (n sum : ℕ) where
  abbrev P : State → Type 0
  P s = count n s ≡ sum

  abbrev Q : State → Type 0
  Q s = count n s ≡ sum + 1

  -- numbers change that tell of something else
  still : (i : ℕ) (v : Numbers) (s : State) → v.rejected ≡ (s.numbers i).rejected
      → count n (with_numbers i v s) ≡ count n s
  still i v s same =
      total_same n (λ x. (s.numbers x).rejected) (λ x. ((with_numbers i v s).numbers x).rejected)
      (λ x lo. at_put_kept (λ (w : Numbers). w.rejected) s.numbers i v same x)

  one_more : (i : ℕ) (v : Numbers) (s : State) → i < n → v.rejected ≡ (s.numbers i).rejected + 1
      → count n (with_numbers i v s) ≡ count n s + 1
  one_more i v s lo more =
      total_more n (λ x. (s.numbers x).rejected) (λ x. ((with_numbers i v s).numbers x).rejected) i lo
      (at_put_case (λ (w : Numbers). w.rejected ≡ (s.numbers i).rejected + 1) s.numbers i v i (λ _. more)
      (λ ne. absurd (ne refl)))
      (λ x ne. at_put_case (λ (w : Numbers). w.rejected ≡ (s.numbers x).rejected) s.numbers i v x
      (λ e. absurd (ne e)) (λ _. refl))

  aborted : (T : ℕ) (i : ℕ) (st : Standing) (k : ℕ) (w : Why) (s : State) → count n s ≡ T
      → count n (aborting i st k w s) ≡ T
  unfolding aborting
  aborted T i st k w s p =
      let t = without_attempt i s in
      let base : count n t ≡ T = still i (record (s.numbers i) { completed = 0 }) s refl ∙ p in
      cause_case (λ u. count n u ≡ T) i st w t base
      (λ d. still i (record (t.numbers i) { delay = d }) t refl ∙ base) base base

  module _ (m : Setting) (i : ℕ) (known : i < n) where
    walk : Walk m i P Q (Counts n sum)
    walk = record {
      asks = λ s p. still i _ s refl ∙ p;
      holds = λ s held p. p;
      rejects = λ s j there ne live head p.
          let t = rejecting_one j (standing_of m s j) s in
          let refused = if is_live s i then (rejected (standing_of m s i)).requests_rejected
          else (t.numbers i).refused in
          one_more i (record (t.numbers i) { rejected = (t.numbers i).rejected + 1; refused = refused }) t known refl
          ∙ ap (λ k. k + 1)
          (still j (record (s.numbers j) { given = (rejecting (standing_of m s j)).rejects_given }) s refl ∙ p);
      aborts = λ s j line stored there ne live p. aborted sum j _ _ (conflict_on stored line) s p;
      refused = λ r s q. q;
      starved = λ r s live q. aborted (sum + 1) i _ _ Starved s q;
      nothing = λ s p. p;
      ends = λ s k w p. aborted sum i _ k w s p;
      steps = λ s p. p;
      pauses = λ s turns p. still i _ s refl ∙ p;
      stores = λ s p. p;
      takes = λ s p. p;
      starts = λ s off p. still i _ s refl ∙ p;
      continues = λ s live p. still i _ s refl ∙ p;
      commits = λ s constrained k live p. still i (record (s.numbers i) { completed = 0 }) s refl ∙ p;
      waits = λ s p. still i _ s refl ∙ p;
      interrupted = λ s live p. aborted sum i _ _ External s p;
      unmet = λ s p. p;
    }

    turn_by : (s : State) → P s → Counts n sum (turn m i s).reject (turn m i s).state
    unfolding turn
    turn_by s p =
        idle_or_not (idle m s i)
        (λ o. (idle m s i ≡ o) → Counts n sum (turn_where (idle m s i) m i s).reject
        (turn_where (idle m s i) m i s).state)
        (λ o is e. subst (λ x. Counts n sum (turn_where x m i s).reject (turn_where x m i s).state) (sym is) p)
        (λ none e. in_a_turn m i P Q (Counts n sum) walk s
        (λ o is. absurd (let x : Some o ≡ None = sym is ∙ none in cc)) (λ _. still i _ s refl ∙ p)) refl

    outside_by : (s : State) → P s
        → Counts n sum (external m i (with_event (event.External i) s)).reject
        (external m i (with_event (event.External i) s)).state
    outside_by s p = externally m i P Q (Counts n sum) walk (with_event (event.External i) s) p

happened : (n : ℕ) (m : Setting) (e : Event) (s : State) → cpu_of_event e < n
    → Counts n (count n s) (happen m e s).reject (happen m e s).state
unfolding happen
happened n m (event.Turn i) s lo = turn_by n (count n s) m i lo s refl
happened n m (event.External i) s lo = outside_by n (count n s) m i lo s refl

-- ---- conflicts

aborts_none : (m : Setting) (s : State) (e : Event) (at : Option (ℕ × ℕ))
    → count_by (λ (c : Conflict). c.rejected) (conflict_where m s e false at) ≡ 0
aborts_none m s e None = refl
aborts_none m s e (Some at) = refl

no_rejects : (m : Setting) (s : State) (e : Event) (entries : List Entry)
    → count_by (λ (c : Conflict). c.rejected) (flat_map (aborts_by m s e) entries) ≡ 0
no_rejects m s e [] = refl
no_rejects m s e (x ∷ rest) =
    let one = aborts_none m s e (abort_of x) in
    let more = no_rejects m s e rest in
    let split = sum_by-append (λ (c : Conflict). cond c.rejected 1 0) (aborts_by m s e x)
    (flat_map (aborts_by m s e) rest) in
    omega (arith, one, more, split)

by_reject : (n sum : ℕ) (m : Setting) (s : State) (e : Event) (o : Option Reject) (t : State) → Counts n sum o t
    → count_by (λ (c : Conflict). c.rejected) (rejects_by m s e o) + sum ≡ count n t
by_reject n sum m s e None t is = omega (arith, is)
by_reject n sum m s e (Some r) t is = omega (arith, is)

in_event : (n : ℕ) (m : Setting) (s : State) (e : Event) → cpu_of_event e < n
    → count_by (λ (c : Conflict). c.rejected) (conflicts_in m s e) + count n s ≡ count n (happen m e s).state
unfolding conflicts_in
in_event n m s e lo =
    let t = happen m e s in
    let aborts = no_rejects m s e (entries_in s t.state) in
    let rejects = by_reject n (count n s) m s e t.reject t.state (happened n m e s lo) in
    let split = sum_by-append (λ (c : Conflict). cond c.rejected 1 0) (flat_map (aborts_by m s e) (entries_in s t.state))
    (rejects_by m s e t.reject) in
    omega (arith, aborts, rejects, split)

all_from : (m : Setting) (events : List Event) (s : State) → AreKnown m events
    → count_by (λ (c : Conflict). c.rejected) (conflicts_from m events s) + count (cpus_of m) s
    ≡ count (cpus_of m) (meaning_from m events s)
unfolding conflicts_from meaning_from
all_from m [] s known = omega arith
all_from m (e ∷ rest) s known =
    let here = in_event (cpus_of m) m s e (All-head (λ e. cpu_of_event e < cpus_of m) e rest known) in
    let later = all_from m rest (happen m e s).state (All-tail (λ e. cpu_of_event e < cpus_of m) e rest known) in
    let split = sum_by-append (λ (c : Conflict). cond c.rejected 1 0) (conflicts_in m s e)
    (conflicts_from m rest (happen m e s).state) in
    omega (arith, here, later, split)

-- as many as the CPUs have counted
pub all_rejects : (m : Setting) (events : List Event) → AreKnown m events
    → count_by (λ (c : Conflict). c.rejected) (conflicts m events)
    ≡ sum_below (cpus_of m) (λ i. ((meaning m events).numbers i).rejected)
all_rejects m events known =
    let all = all_from m events beginning known in
    let zero = total_none (cpus_of m) in
    omega (arith, all, zero)
