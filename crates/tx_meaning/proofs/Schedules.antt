-- Drawn and round schedules are turns of ready CPUs, and leave none ready.
use Rattle.std.proofs.Common.{◌≡◌, ℕ, zero, suc, ◌+◌, ◌*◌, ◌/◌, ◌%◌, ◌^◌, ◌<◌, ◌≤◌, Bool, true, false, cond}
use Rattle.std.proofs.Common.{List, [], ◌∷◌, Option, Some, None, length, get_or, refl, sym, ap, ◌∙◌, arith}
use Rattle.std.specs.Prelude.{nat_le, is_none, if◌then◌else◌, All}
use Rattle.std.specs.List.{filter, range_with_len}
use Rattle.std.proofs.lemmas.Bool.{cases_eq, le-leb}
use Rattle.std.proofs.lemmas.List.Elements.{All-nil, All-cons, All-head, All-tail}
use borrow.Enum.Arm.{by_way}
use Rattle.tx_serial.specs.Event.{Event}
use Rattle.tx_serial.specs.Event.TheVariants.{Turn}
use Rattle.tx_meaning.specs.declared.outcome.Outcome.{Outcome}
use Rattle.tx_meaning.specs.declared.outcome.Outcome.TheVariants as outcome
use Rattle.tx_meaning.specs.Limits.{RunLimits, Setting}
use Rattle.tx_meaning.specs.State.{State, beginning, cpus_of}
use Rattle.tx_meaning.specs.Idle.{idle, is_finished, is_spent, kept_back, is_ready}
use Rattle.tx_meaning.specs.Turn.{happen}
use Rattle.tx_meaning.specs.Meaning.{meaning_from}
use Rattle.tx_meaning.specs.Schedules.{Choosing, Drawing, Round, drawn_after, first_from, chosen, chosen_next}
use Rattle.tx_meaning.specs.Schedules.{with_next, turns_from, ready_cpus, most_turns, drawn, round}
use Rattle.tx_meaning.specs.Schedules.{IsComplete}
use Rattle.tx_meaning.specs.Schedules.{AreReadyTurns}
use Rattle.tx_meaning.proofs.Books.{idle_or_not, total, total_turned, total_full, Counts, counts_kept}
use Rattle.tx_meaning.proofs.Books.{counts_begin}

-- ---- who is ready

ready_idle : (m : Setting) (s : State) (i : ℕ) → is_ready m s i ≡ true → idle m s i ≡ None
ready_idle m s i ready =
    idle_or_not (idle m s i) (λ o. idle m s i ≡ None)
    (λ x e. let n : false ≡ true = sym (ap (λ o. is_none o) e) ∙ ready in cc)
    (λ none. none)

not_ready_by : (limits : RunLimits) (finished spent : Bool) (rest : Option Outcome) → spent ≡ true
    → is_none (if finished then Some outcome.Halted else (if spent then Some outcome.Spent else rest)) ≡ false
not_ready_by limits true spent rest h = refl
not_ready_by limits false true rest h = refl
not_ready_by limits false false rest h = let n : false ≡ true = h in cc

spent_unready : (m : Setting) (s : State) (i : ℕ) → m.limits.turns ≤ (s.numbers i).turns
    → is_ready m s i ≡ false
unfolding idle
spent_unready m s i all =
    not_ready_by m.limits (is_finished m s i) (is_spent m.limits (s.numbers i)) (kept_back s.queue i)
    (le-leb m.limits.turns (s.numbers i).turns all)

abbrev AreReady : Setting → State → List ℕ → Type 0
AreReady m s cpus = All (λ j. (j < cpus_of m) × (is_ready m s j ≡ true)) cpus

ready_at : (m : Setting) (s : State) (j : ℕ) (rest : List ℕ) (b : Bool) → is_ready m s j ≡ b → j < cpus_of m
    → AreReady m s rest → AreReady m s (cond b (j ∷ rest) rest)
ready_at m s j rest true e known ready =
    All-cons (λ k. (k < cpus_of m) × (is_ready m s k ≡ true)) j rest (known, e) ready
ready_at m s j rest false e known ready = ready

ready_among : (m : Setting) (s : State) (a n : ℕ) → a + n ≤ cpus_of m
    → AreReady m s (filter (is_ready m s) (range_with_len a n))
ready_among m s a zero h = All-nil (λ k. (k < cpus_of m) × (is_ready m s k ≡ true))
ready_among m s a (suc n) h =
    let here : a < cpus_of m = omega arith in
    let later : a + 1 + n ≤ cpus_of m = omega arith in
    ready_at m s a (filter (is_ready m s) (range_with_len (a + 1) n)) (is_ready m s a) refl here
    (ready_among m s (a + 1) n later)

are_ready : (m : Setting) (s : State) → AreReady m s (ready_cpus m s)
unfolding ready_cpus
are_ready m s = let all : 0 + cpus_of m ≤ cpus_of m = omega arith in ready_among m s 0 (cpus_of m) all

none_at : (j : ℕ) (rest : List ℕ) (b : Bool) → cond b (j ∷ rest) rest ≡ [] → b ≡ false
none_at j rest true e = let n : j ∷ rest ≡ [] = e in cc
none_at j rest false e = refl

none_behind : (j : ℕ) (rest : List ℕ) (b : Bool) → cond b (j ∷ rest) rest ≡ [] → rest ≡ []
none_behind j rest true e = let n : j ∷ rest ≡ [] = e in cc
none_behind j rest false e = e

none_among : (test : ℕ → Bool) (a n x : ℕ) → filter test (range_with_len a n) ≡ [] → a ≤ x → x < a + n
    → test x ≡ false
none_among test a zero x e low high = absurd (omega arith)
none_among test a (suc n) x e low high =
    let rest = filter test (range_with_len (a + 1) n) in
    by_way (cases_eq x a)
    (λ same. ap test same ∙ none_at a rest (test a) e)
    (λ ne.
    let above : a + 1 ≤ x = omega arith in
    let below : x < a + 1 + n = omega arith in
    none_among test (a + 1) n x (none_behind a rest (test a) e) above below)

none_ready : (m : Setting) (s : State) (i : ℕ) → ready_cpus m s ≡ [] → i < cpus_of m → is_ready m s i ≡ false
unfolding ready_cpus
none_ready m s i e known =
    let low : 0 ≤ i = omega arith in
    let high : i < 0 + cpus_of m = omega arith in
    none_among (is_ready m s) 0 (cpus_of m) i e low high

-- ---- who is chosen

first_by : (P : ℕ → Type 0) (cpu other : ℕ) (b : Bool) → P cpu → P other → P (if b then cpu else other)
first_by P cpu other true p q = p
first_by P cpu other false p q = q

first_among : (P : ℕ → Type 0) (from : ℕ) (all cpus : List ℕ) → P (get_or all 0 0) → All P cpus
    → P (first_from from all cpus)
first_among P from all [] lowest each = lowest
first_among P from all (cpu ∷ rest) lowest each =
    first_by P cpu (first_from from all rest) (nat_le from cpu) (All-head P cpu rest each)
    (first_among P from all rest lowest (All-tail P cpu rest each))

chosen_among : (P : ℕ → Type 0) (choosing : Choosing) (cpu : ℕ) (rest : List ℕ) → All P (cpu ∷ rest)
    → P (chosen choosing (cpu ∷ rest))
chosen_among P (Drawing x) cpu rest each =
    let n = drawn_after x / 2 ^ 33 in
    let some : 0 < length (cpu ∷ rest) = omega arith in
    let less : n % length (cpu ∷ rest) < length (cpu ∷ rest) = mod_less n (length (cpu ∷ rest)) some in
    each (n % length (cpu ∷ rest)) 0 less
  where
    mod_less : (n k : ℕ) → 0 < k → n % k < k
    mod_less n k some = omega arith
chosen_among P (Round from) cpu rest each =
    first_among P from (cpu ∷ rest) (cpu ∷ rest) (All-head P cpu rest each) each

-- ---- the list

-- turns are left as long as a CPU can be ready
record Enough (m : Setting) (most : ℕ) (s : State) : Type 0 where
  counts : Counts m s
  enough : cpus_of m * m.limits.turns ≤ total (cpus_of m) (λ x. (s.numbers x).turns) + most

record Leads (m : Setting) (events : List Event) (s : State) : Type 0 where
  turns : AreReadyTurns m events s
  complete : (i : ℕ) → i < cpus_of m → is_ready m (meaning_from m events s) i ≡ false

nothing_left : (m : Setting) (s : State) → Enough m 0 s → Leads m [] s
unfolding meaning_from
nothing_left m s e = record {
  turns = tt;
  complete = λ i known.
      let enough = e.enough in
      let full : cpus_of m * m.limits.turns ≤ total (cpus_of m) (λ x. (s.numbers x).turns) = omega arith in
      spent_unready m s i
      (total_full (cpus_of m) m.limits.turns (λ x. (s.numbers x).turns) i (λ x lo. e.counts.few x) full
      known);
}

nobody_left : (m : Setting) (s : State) → ready_cpus m s ≡ [] → Leads m [] s
unfolding meaning_from
nobody_left m s e = record { turns = tt; complete = λ i known. none_ready m s i e known }

one_more : (m : Setting) (s : State) (cpu : ℕ) (rest : List Event) → cpu < cpus_of m → is_ready m s cpu ≡ true
    → Leads m rest (happen m (Turn cpu) s).state → Leads m (Turn cpu ∷ rest) s
unfolding meaning_from
one_more m s cpu rest known ready leads = record {
  turns = (record { cpu = cpu; turn = refl; known = known; ready = ready }, leads.turns);
  complete = leads.complete;
}

enough_left : (m : Setting) (most : ℕ) (s : State) (cpu : ℕ) → cpu < cpus_of m → is_ready m s cpu ≡ true
    → Enough m (suc most) s → Enough m most (happen m (Turn cpu) s).state
unfolding happen
enough_left m most s cpu known ready e =
    let one = total_turned m cpu s known (ready_idle m s cpu ready) in
    let enough = e.enough in
    record { counts = counts_kept m (Turn cpu) s known e.counts; enough = omega arith }

abbrev Chosen : Setting → State → ℕ → Type 0
Chosen m s j = (j < cpus_of m) × (is_ready m s j ≡ true)

leads_next : (m : Setting) (most : ℕ) (choosing : Choosing) (s : State) (ready : List ℕ)
    → ready_cpus m s ≡ ready → AreReady m s ready
    → ((next : Choosing) (t : State) → Enough m most t → Leads m (turns_from most m next t) t)
    → Enough m (suc most) s → Leads m (with_next m choosing s (turns_from most m) ready) s
leads_next m most choosing s [] e all later enough = nobody_left m s e
leads_next m most choosing s (first ∷ rest) e all later enough =
    let cpu = chosen choosing (first ∷ rest) in
    let c = chosen_among (Chosen m s) choosing first rest all in
    let t = (happen m (Turn cpu) s).state in
    one_more m s cpu (turns_from most m (chosen_next choosing cpu) t) c.0 c.1
    (later (chosen_next choosing cpu) t (enough_left m most s cpu c.0 c.1 enough))

leads : (m : Setting) (most : ℕ) (choosing : Choosing) (s : State) → Enough m most s
    → Leads m (turns_from most m choosing s) s
unfolding turns_from
leads m zero choosing s enough = nothing_left m s enough
leads m (suc most) choosing s enough =
    leads_next m most choosing s (ready_cpus m s) refl (are_ready m s)
    (λ next t e. leads m most next t e) enough

at_first : (m : Setting) → Enough m (most_turns m) beginning
at_first m = record { counts = counts_begin m; enough = omega arith }

pub drawn_leads : (m : Setting) (seed : ℕ) → AreReadyTurns m (drawn m seed) beginning
drawn_leads m seed = (leads m (most_turns m) (Drawing seed) beginning (at_first m)).turns

pub drawn_complete : (m : Setting) (seed : ℕ) → IsComplete m (drawn m seed)
drawn_complete m seed = (leads m (most_turns m) (Drawing seed) beginning (at_first m)).complete

pub round_leads : (m : Setting) → AreReadyTurns m (round m) beginning
round_leads m = (leads m (most_turns m) (Round 0) beginning (at_first m)).turns

pub round_complete : (m : Setting) → IsComplete m (round m)
round_complete m = (leads m (most_turns m) (Round 0) beginning (at_first m)).complete
