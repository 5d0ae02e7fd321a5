-- A run that comes home as so many turns.
use Rattle.std.proofs.Common.{◌≡◌, ◌≢◌, ℕ, zero, suc, ◌+◌, ◌<◌, ◌≤◌, List, [], ◌++◌, Option, Some, None}
use Rattle.std.proofs.Common.{refl, sym, ap, ◌∙◌, subst, arith, length, replicate}
use Rattle.std.specs.Prelude.{All, count_by, cond, is_none}
use Rattle.std.proofs.lemmas.Bool.{false≢true, cases_eq}
use Rattle.std.proofs.lemmas.List.Elements.{All-append, All-nil, All-push, All-replicate}
use Rattle.std.proofs.lemmas.List.{append-nil}
use Rattle.std.proofs.lemmas.List.Sums.{sum_by-append}
use borrow.Enum.Arm.{by_way}
use Rattle.tx_journal.specs.Image.{cpu_of_event}
use Rattle.tx_journal.specs.declared.events.Event.{Event}
use Rattle.tx_journal.specs.declared.events.Event.TheVariants.{Turn}
use Rattle.tx_meaning.specs.Changes.{counting_turn}
use Rattle.tx_meaning.specs.Heads.{head_turns}
use Rattle.tx_meaning.specs.Limits.{Setting}
use Rattle.tx_meaning.specs.Meaning.{is_external, meaning}
use Rattle.tx_meaning.specs.State.{Numbers, State, cpus_of}
use Rattle.tx_meaning.specs.Stretches.{counted, is_counted_turn}
use Rattle.tx_meaning.specs.Turn.{Turned, happen, turned}
use Rattle.tx_meaning.specs.Views.{AreKnown, GoesOnWith, KeepsViews}
use Rattle.tx_meaning.specs.declared.outcome.Outcome.TheVariants.{Executed}
use Rattle.tx_meaning.proofs.Books.{total, total_at_most, one_counted, counts_of, all_externals}
use Rattle.tx_home.specs.Kept.{Kept, kept_beginning}
use Rattle.tx_home.specs.Keeping.{keeping, keeping_from}
use Rattle.tx_home.specs.Told.{turned_of}
use Rattle.tx_home.specs.Turn.{k_happen, k_turned}
use Rattle.tx_home.proofs.Events.{happens_alike, keeping_is, grows_only, views_kept, in_parts}
use Rattle.tx_meaning.proofs.Walk.{at_put_case}
use Rattle.tx_opacity.proofs.Heads.{heads_in_all}
use Rattle.tx_opacity.specs.Opacity.{SeesOneRun}
use Rattle.tx_opacity.proofs.Opaque.{opaque}
use Rattle.tx_headline.specs.Queue.{QueueChanges}
use Rattle.tx_headline.proofs.Queue.{queue_changes}
use Rattle.tx_home.specs.Works.{Works, Seat, IsSameSize, kept_by, numbers_of}
use Rattle.tx_home.specs.Taken.{HasRoomFor}
use Rattle.tx_home.specs.declared.place.Unlike.{Unlike}
use Rattle.tx_machine.specs.Machine.{Stands, nobody}
use Rattle.tx_machine.proofs.Going.{same_seat, owed_at_most}
use Rattle.tx_machine.proofs.Most.{by_kinds}
use Rattle.tx_machine.proofs.Read.{reads_state}

-- ---- by whether a place differs

pub by_answer : {P : Type 0} (o : Option Unlike) → (o ≡ None → P) → (o ≢ None → P) → P
by_answer None alike differs = alike refl
by_answer (Some unlike) alike differs = differs (λ e. false≢true (ap is_none e))

-- ---- there is room for so many turns more of a CPU, where it has them

abbrev counting : ℕ → ℕ → State → State
counting i zero s = s
counting i (suc k) s = counting_turn i (counting i k s)

abbrev turns_in : State → ℕ → ℕ
turns_in s x = (s.numbers x).turns

total_counted : (n i k : ℕ) (s : State) → i < n → total n (turns_in (counting i k s)) ≡ total n (turns_in s) + k
total_counted n i zero s lo = omega arith
total_counted n i (suc k) s lo =
    let one = one_counted n i (counting i k s) lo in
    let rest = total_counted n i k s lo in
    omega arith

own_counted : (i k : ℕ) (s : State) → turns_in (counting i k s) i ≡ turns_in s i + k
own_counted i zero s = omega arith
own_counted i (suc k) s =
    let t = counting i k s in
    let one : turns_in (counting i (suc k) s) i ≡ turns_in t i + 1 =
    at_put_case (λ (v : Numbers). v.turns ≡ turns_in t i + 1) t.numbers i _ i (λ _. refl) (λ ne. absurd (ne refl)) in
    let rest = own_counted i k s in
    omega arith

other_counted : (i k x : ℕ) (s : State) → x ≢ i → turns_in (counting i k s) x ≡ turns_in s x
other_counted i zero x s ne = refl
other_counted i (suc k) x s ne =
    let t = counting i k s in
    at_put_case (λ (v : Numbers). v.turns ≡ turns_in t x) t.numbers i _ x (λ e. absurd (ne e)) (λ _. refl)
    ∙ other_counted i k x s ne

few_counted : (most i k x : ℕ) (s : State) → ((y : ℕ) → turns_in s y ≤ most) → turns_in s i + k ≤ most
    → turns_in (counting i k s) x ≤ most
few_counted most i k x s few fits =
    by_way (cases_eq x i)
    (λ e.
    let own : turns_in (counting i k s) x ≡ turns_in s i + k = ap (turns_in (counting i k s)) e ∙ own_counted i k s in
    omega (arith, own, fits))
    (λ ne. let same = other_counted i k x s ne in let most = few x in omega (arith, same, most))

module _ (m : Setting) (w : Works) (remaining : ℕ) (s : Stands m w remaining) (i k : ℕ) (within : i < cpus_of m) where
  pub room_for : (rest : Seat) → ((kept_by rest w).state.numbers i).turns + k ≤ m.limits.turns → HasRoomFor k w
  room_for rest fits =
      let now = meaning m w.events in
      let counts = counts_of m w.events s.events.known in
      let there : i < length w.slots = subst (λ n. i < n) (sym s.cpus) within in
      let own : turns_in now i ≡ ((kept_by rest w).state.numbers i).turns =
      ap (λ (t : State). turns_in t i) (reads_state m w remaining s)
      ∙ ap (λ (seat : Seat). (numbers_of seat).turns) (same_seat m w remaining s rest i there) in
      let most = total_at_most (cpus_of m) m.limits.turns (turns_in (counting i k now))
      (λ x lo. few_counted m.limits.turns i k x now counts.few (omega (arith, own, fits))) in
      let more = total_counted (cpus_of m) i k now within in
      let kinds = by_kinds now.events in
      let outside = all_externals m w.events in
      let told : length now.events ≡ length w.events = ap (λ (t : State). length t.events) (reads_state m w remaining s) in
      let owed = owed_at_most m w remaining s in
      record {
        events = omega (arith, most, more, kinds, outside, told, counts.turns, s.events.externals, s.events_room);
        history = omega (arith, most, more, kinds, outside, told, owed, counts.turns, s.events.externals, s.room);
      }

-- ---- the machine behind them

none_external : (i k : ℕ) → count_by is_external (replicate k (Turn i)) ≡ 0
none_external i zero = refl
none_external i (suc k) = none_external i k

abbrev if_external : Event → ℕ
if_external e = cond (is_external e) 1 0

module _ (m : Setting) (w : Works) (remaining : ℕ) (s : Stands m w remaining) (i k : ℕ) (within : i < cpus_of m) where
  abbrev turns : ℕ → List Event
  turns j = replicate j (Turn i)

  known : (j : ℕ) → AreKnown m (w.events ++ turns j)
  known j =
      All-append (λ e. cpu_of_event e < cpus_of m) w.events (turns j) s.events.known
      (All-replicate (λ e. cpu_of_event e < cpus_of m) j (Turn i) within)

  more : (j : ℕ) → keeping m (w.events ++ turns j) ≡ keeping_from m (turns j) (kept_by (nobody m) w)
  more j = in_parts m w.events (turns j) (kept_beginning m) ∙ ap (keeping_from m (turns j)) (sym s.kept)

  pub stands_home : (later : Works) → IsSameSize w later → later.events ≡ w.events ++ turns k
      → kept_by (nobody m) later ≡ keeping_from m (turns k) (kept_by (nobody m) w) → Stands m later remaining
  stands_home later size events is =
      let count : count_by is_external later.events ≡ count_by is_external w.events =
      ap (count_by is_external) events ∙ sum_by-append if_external w.events (turns k)
      ∙ ap (λ n. count_by is_external w.events + n) (none_external i k) ∙ omega arith in
      record {
        setting = s.setting;
        events = record {
          known = subst (All (λ x. cpu_of_event x < cpus_of m)) (sym events) (known k);
          externals = omega (arith, count, s.events.externals);
        };
        kept = is ∙ sym (more k) ∙ ap (keeping m) (sym events);
        cpus = size.cpus ∙ s.cpus;
        externals = omega (arith, count, s.externals);
        room = omega (arith, size.room, s.room);
        events_room = omega (arith, size.events_room, s.events_room);
      }

  -- each of them is executed
  pub executed_home : (j : ℕ) → k_happen m (Turn i) (keeping_from m (turns j) (kept_by (nobody m) w))
      ≡ k_turned (keeping_from m (turns (suc j)) (kept_by (nobody m) w)) Executed
      → happen m (Turn i) (meaning m (w.events ++ turns j)) ≡ turned (meaning m (w.events ++ turns (suc j))) Executed
  executed_home j each =
      happens_alike m s.setting (w.events ++ turns j) (Turn i) (known j) within
      ∙ ap (λ (t : Kept). turned_of (k_happen m (Turn i) t)) (more j)
      ∙ ap turned_of each
      ∙ ap (λ (t : Kept). turned t.state Executed) (sym (more (suc j)))
      ∙ ap (λ (t : State). turned t Executed) (sym (keeping_is m s.setting (w.events ++ turns (suc j)) (known (suc j))))

  -- no live attempt sees a mixed state by one that is executed
  pub views_home : (j : ℕ) → happen m (Turn i) (meaning m (w.events ++ turns j))
      ≡ turned (meaning m (w.events ++ turns (suc j))) Executed
      → KeepsViews m (meaning m (w.events ++ turns j)) (meaning m (w.events ++ turns (suc j)))
  views_home j is =
      subst (λ (t : Turned). KeepsViews m (meaning m (w.events ++ turns j)) t.state) is
      (views_kept m s.setting (w.events ++ turns j) (Turn i) (known j) within)

  -- and what one has seen is one private run
  pub opaque_home : (j : ℕ) → happen m (Turn i) (meaning m (w.events ++ turns j))
      ≡ turned (meaning m (w.events ++ turns (suc j))) Executed
      → SeesOneRun m (meaning m (w.events ++ turns j)) (meaning m (w.events ++ turns (suc j)))
  opaque_home j is =
      subst (λ (t : Turned). SeesOneRun m (meaning m (w.events ++ turns j)) t.state) is
      (opaque m s.setting (w.events ++ turns j) (Turn i) (known j) within)

  -- the head of the stop queue has few turns
  pub head_home : (j head : ℕ) → head_turns m (w.events ++ turns j) head
      + counted (is_counted_turn m (meaning m (w.events ++ turns j)) (Turn i) head) ≤ 34
  head_home j head = heads_in_all m s.setting head (w.events ++ turns j) (Turn i) (known j)

  -- the stop queue changes for its reasons alone
  pub reasons_home : (j : ℕ) → QueueChanges m (meaning m (w.events ++ turns j)) (Turn i)
  reasons_home j =
      queue_changes m s.setting (w.events ++ turns j) (Turn i)
      (All-push (λ e. cpu_of_event e < cpus_of m) (w.events ++ turns j) (Turn i) (known j) within)

  pub grows_home : (later : Works) → later.events ≡ w.events ++ turns k
      → GoesOnWith (meaning m w.events).history (meaning m later.events).history
  grows_home later events =
      subst (λ es. GoesOnWith (meaning m w.events).history (meaning m es).history) (sym events)
      (grows_only m s.setting w.events (turns k) s.events.known
      (All-replicate (λ e. cpu_of_event e < cpus_of m) k (Turn i) within))

-- nothing has happened
pub grows_not : (m : Setting) (w : Works) (remaining : ℕ) → Stands m w remaining
    → GoesOnWith (meaning m w.events).history (meaning m w.events).history
grows_not m w remaining s =
    subst (λ es. GoesOnWith (meaning m w.events).history (meaning m es).history) (append-nil w.events)
    (grows_only m s.setting w.events [] s.events.known (All-nil (λ e. cpu_of_event e < cpus_of m)))
