-- The CPUs in the stop queue are CPUs of the machine, and so they are few.
use Rattle.std.proofs.Common.{◌≡◌, ℕ, suc, ◌<◌, ◌≤◌, Bool, true, false, List, [], ◌∷◌, ◌++◌}
use Rattle.std.proofs.Common.{length, refl, sym, ap, ◌∙◌, subst, arith}
use Rattle.std.specs.Prelude.{◌==◌, ◌||◌, if◌then◌else◌}
use Rattle.std.proofs.lemmas.Bool.{cases_eq, eq-eqb, ne_eqb, eqb-true, or_cases, or_left, or_right}
use Rattle.std.proofs.lemmas.Bool.{or_parts, true≢false}
use Rattle.z_regs.proofs.Elements.{second_holds}
use Rattle.std.proofs.lemmas.List.Elements.{All-head, All-tail}
use Rattle.std.proofs.lemmas.List.Folds.{list_any-append}
use borrow.Enum.Arm.{by_way}
use Rattle.bit_set.specs.Counts.{count_below, but_at, one_if}
use Rattle.bit_set.proofs.Counts.{count_agree, count_but_at, count_none, count_at_most}
use Rattle.tx_control.specs.declared.causes.Why.{Why}
use Rattle.tx_control.specs.declared.causes.Why.TheVariants.{Starved, External}
use Rattle.tx_ladder.specs.Rungs.{Standing, next_rung}
use Rattle.tx_ladder.specs.Waiting.{waits_in}
use Rattle.tx_journal.specs.Image.{cpu_of_event}
use Rattle.tx_journal.specs.declared.events.Event.{Event}
use Rattle.tx_journal.specs.declared.events.Event.TheVariants as event
use Rattle.tx_meaning.specs.Limits.{Setting}
use Rattle.tx_meaning.specs.Meaning.{meaning, meaning_from}
use Rattle.tx_meaning.specs.State.{State, beginning, standing_of, cpus_of}
use Rattle.tx_meaning.specs.Changes.{with_event, without_head, head_to_tail, without_attempt, aborting}
use Rattle.tx_meaning.specs.Turn.{happen}
use Rattle.tx_meaning.proofs.Walk.{Walk, conflict_on, rung_case, leaving_case, cause_case, in_a_turn}
use Rattle.tx_meaning.proofs.Walk.{externally}
use Rattle.tx_meaning.specs.Views.{AreKnown}
use Rattle.tx_bounds.proofs.Stopping.{Once}
use Rattle.tx_headline.specs.Queue.{others_before}

-- ---- lists without repetition

pub waits_first : (xs ys : List ℕ) (j : ℕ) → waits_in xs j ≡ true → waits_in (xs ++ ys) j ≡ true
waits_first xs ys j h = list_any-append (λ k. k == j) xs ys ∙ or_left (waits_in xs j) (waits_in ys j) h

pub waits_later : (xs ys : List ℕ) (j : ℕ) → waits_in ys j ≡ true → waits_in (xs ++ ys) j ≡ true
waits_later xs ys j h = list_any-append (λ k. k == j) xs ys ∙ or_right (waits_in xs j) (waits_in ys j) h

pub once_first : (xs ys : List ℕ) → Once (xs ++ ys) → Once xs
unfolding Once
once_first [] ys once = tt
once_first (x ∷ xs) ys once = (
  (or_parts (waits_in xs x) (waits_in ys x) (sym (list_any-append (λ k. k == x) xs ys) ∙ once.0)).0,
  once_first xs ys once.1,
)

-- who is in the later part is not in the first
pub parts_apart : (xs ys : List ℕ) (j : ℕ) → Once (xs ++ ys) → waits_in ys j ≡ true → waits_in xs j ≡ false
unfolding Once
parts_apart [] ys j once h = refl
parts_apart (x ∷ xs) ys j once h =
    let off : (x == j) ≡ false =
    ne_eqb x j (λ e. true≢false (sym (waits_later xs ys j h) ∙ ap (waits_in (xs ++ ys)) (sym e) ∙ once.0)) in
    ap (λ b. b || waits_in xs j) off ∙ parts_apart xs ys j once.1 h

as_put : (x k : ℕ) (b : Bool) → ((x == k) || b) ≡ (if k == x then true else b)
as_put x k b =
    by_way (cases_eq k x)
    (λ e.
    ap (λ c. c || b) (eq-eqb x k (sym e)) ∙ sym (ap (λ c. if c then true else b) (eq-eqb k x e)))
    (λ ne.
    ap (λ c. c || b) (ne_eqb x k (λ e. ne (sym e))) ∙ sym (ap (λ c. if c then true else b) (ne_eqb k x ne)))

-- as many as there are numbers that are in it
counted_once : (n : ℕ) (q : List ℕ) → Once q → ((x : ℕ) → waits_in q x ≡ true → x < n)
    → count_below n (waits_in q) ≡ length q
unfolding Once
counted_once n [] once known = count_none n (λ x. false) (λ x less. refl)
counted_once n (x ∷ rest) once known =
    let here : x < n = known x (or_left (x == x) (waits_in rest x) (eq-eqb x x refl)) in
    let later = counted_once n rest once.1 (λ y h. known y (or_right (x == y) (waits_in rest y) h)) in
    let same = count_agree n (waits_in (x ∷ rest)) (but_at (waits_in rest) x true)
    (λ k less. as_put x k (waits_in rest k)) in
    let put = count_but_at n (waits_in rest) x true here in
    let none : one_if (waits_in rest x) ≡ 0 = ap one_if once.0 in
    omega (arith, later, same, put, none)

pub few_once : (n : ℕ) (q : List ℕ) → Once q → ((x : ℕ) → waits_in q x ≡ true → x < n) → length q ≤ n
few_once n q once known =
    let count = counted_once n q once known in
    let most = count_at_most n (waits_in q) in
    omega (arith, count, most)

before_by : (b : Bool) (n most : ℕ) → (b ≡ false → n < most) → (if b then 0 else suc n) < suc most
before_by true n most h = omega arith
before_by false n most h = let less = h refl in omega (arith, less)

-- fewer stand before a CPU than there are in all
pub before_few : (i : ℕ) (q : List ℕ) → waits_in q i ≡ true → others_before i q < length q
before_few i [] h = absurd (true≢false (sym h))
before_few i (x ∷ rest) h =
    before_by (x == i) (others_before i rest) (length rest)
    (λ off. before_few i rest (second_holds (x == i) (waits_in rest i) h off))

-- ---- members of the queue

module _ (m : Setting) where
  abbrev AreCpus : List ℕ → Type 0
  AreCpus q = (x : ℕ) → waits_in q x ≡ true → x < cpus_of m

  abbrev InIt : State → Type 0
  InIt s = AreCpus s.queue

  joined : (q : List ℕ) (j : ℕ) → j < cpus_of m → AreCpus q → AreCpus (q ++ j ∷ [])
  joined q j here all x h =
      by_way
      (or_cases (waits_in q x) (waits_in (j ∷ []) x) (sym (list_any-append (λ k. k == x) q (j ∷ [])) ∙ h))
      (λ was. all x was)
      (λ last.
      by_way (or_cases (j == x) false last) (λ e. subst (λ y. y < cpus_of m) (eqb-true j x e) here)
      (λ no. absurd (true≢false (sym no))))

  rest_in : (head : ℕ) (rest : List ℕ) → AreCpus (head ∷ rest) → AreCpus rest
  rest_in head rest all x h = all x (or_right (head == x) (waits_in rest x) h)

  head_in : (head : ℕ) (rest : List ℕ) → AreCpus (head ∷ rest) → head < cpus_of m
  head_in head rest all = all head (or_left (head == head) (waits_in rest head) (eq-eqb head head refl))

  left_by : (b : Bool) (head : ℕ) (rest : List ℕ) → AreCpus (head ∷ rest)
      → AreCpus (if b then rest else head ∷ rest)
  left_by true head rest all = rest_in head rest all
  left_by false head rest all = all

  left_behind : (q : List ℕ) (i : ℕ) → AreCpus q → AreCpus (without_head i q)
  left_behind [] i all = all
  left_behind (head ∷ rest) i all = left_by (head == i) head rest all

  last_by : (b : Bool) (head : ℕ) (rest : List ℕ) → AreCpus (head ∷ rest)
      → AreCpus (if b then rest ++ head ∷ [] else head ∷ rest)
  last_by true head rest all = joined rest head (head_in head rest all) (rest_in head rest all)
  last_by false head rest all = all

  gone_last : (q : List ℕ) (i : ℕ) → AreCpus q → AreCpus (head_to_tail i q)
  gone_last [] i all = all
  gone_last (head ∷ rest) i all = last_by (head == i) head rest all

  aborted_in : (j : ℕ) (st : Standing) (n line : ℕ) (stored : Bool) (s : State) → j < cpus_of m → InIt s
      → InIt (aborting j st n (conflict_on stored line) s)
  unfolding aborting
  aborted_in j st n line true s here all =
      rung_case (λ t. InIt t) j (next_rung st) (without_attempt j s) all (λ turns. all)
      (joined s.queue j here all)
  aborted_in j st n line false s here all =
      rung_case (λ t. InIt t) j (next_rung st) (without_attempt j s) all (λ turns. all)
      (joined s.queue j here all)

  ended_in : (i : ℕ) (st : Standing) (n : ℕ) (w : Why) (s : State) → i < cpus_of m → InIt s
      → InIt (aborting i st n w s)
  unfolding aborting
  ended_in i st n w s here all =
      cause_case (λ t. InIt t) i st w (without_attempt i s) all (λ turns. all) (joined s.queue i here all)
      (left_behind s.queue i all)

  walked : (i : ℕ) → i < cpus_of m → Walk m i InIt InIt (λ o s. InIt s)
  walked i here = record {
    asks = λ s all. all;
    holds = λ s held all. all;
    rejects = λ s j known other live head all. all;
    aborts = λ s j line stored known other live all.
        aborted_in j (standing_of m s j) (s.numbers j).completed line stored s known all;
    refused = λ r s all. all;
    starved = λ r s live all. ended_in i (standing_of m s i) (s.numbers i).completed Starved s here all;
    nothing = λ s all. all;
    ends = λ s n w all. ended_in i (standing_of m s i) n w s here all;
    steps = λ s all. all;
    pauses = λ s turns all. all;
    stores = λ s all. all;
    takes = λ s all. all;
    starts = λ s live all. all;
    continues = λ s live all. all;
    commits = λ s constrained n live all.
        leaving_case (λ t. InIt t) i constrained (without_attempt i s) all (left_behind s.queue i all);
    waits = λ s all. all;
    interrupted = λ s live all.
        gone_last _ i (ended_in i (standing_of m s i) (s.numbers i).completed External s here all);
    unmet = λ s all. gone_last s.queue i all;
  }

  behind : (e : Event) (s : State) → cpu_of_event e < cpus_of m → InIt s → InIt (happen m e s).state
  unfolding happen
  behind (event.Turn i) s here all =
      in_a_turn m i InIt InIt (λ o s. InIt s) (walked i here) s (λ o e. all) (λ e. all)
  behind (event.External i) s here all =
      externally m i InIt InIt (λ o s. InIt s) (walked i here) (with_event (event.External i) s) all

  all_in : (events : List Event) (s : State) → AreKnown m events → InIt s → InIt (meaning_from m events s)
  unfolding meaning_from
  all_in [] s known all = all
  all_in (e ∷ rest) s known all =
      all_in rest (happen m e s).state (All-tail (λ e. cpu_of_event e < cpus_of m) e rest known)
      (behind e s (All-head (λ e. cpu_of_event e < cpus_of m) e rest known) all)

  -- after known events, each CPU in the queue is one of the machine
  pub members_known : (events : List Event) → AreKnown m events → InIt (meaning m events)
  members_known events known = all_in events beginning known (λ x h. absurd (true≢false (sym h)))
