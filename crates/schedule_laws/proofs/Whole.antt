-- A listing with a printed schedule at its head.
use Rattle.std.proofs.Common.{◌≡◌, ℕ, zero, suc, ◌+◌, ◌-◌, ◌*◌, ◌/◌, ◌<◌, ◌≤◌, true, false, List, [], ◌∷◌, ◌++◌}
use Rattle.std.proofs.Common.{length, map, take, drop, replicate, refl, sym, ap, ap₂, ◌∙◌, arith, subst, le-ltb}
use Rattle.std.proofs.Common.{append_assoc, length-append, length-drop}
use Rattle.std.specs.Prelude.{Ok, All}
use Rattle.std.specs.Char.{to_ascii_uppercase}
use Rattle.std.proofs.lemmas.List.{append-nil, map-append, length-take, length-replicate, take_all}
use Rattle.std.proofs.Math.Seq.{take-add}
use Rattle.z_regs.specs.Cpu.{Cpu, started}
use Rattle.z_text.specs.Line.{as_read}
use Rattle.tx_journal.specs.Content.{Content}
use Rattle.tx_journal.specs.Image.{cpu_of_event}
use Rattle.tx_journal.specs.Schedule.{row_text, rows_text, schedule_text}
use Rattle.tx_journal.specs.declared.events.Event.{Event}
use Rattle.z_fields.specs.Pieces.{pieces_by}
use Rattle.z_operands.specs.declared.operation.Operation.TheVariants.{Sched}
use Rattle.z_reading.specs.Listing.{Plan, Task, line_gives}
use Rattle.z_setup.specs.Machine.{Machine, Known}
use Rattle.z_reading.specs.Text.{lines_of}
use Rattle.z_assemble.specs.Whole.{blank, ready, ready_for, known_in, image_of, First, Second, Stands}
use Rattle.z_assemble.proofs.Images.{AreRead, are_read}
use Rattle.z_assemble.proofs.Plans.{first_fits}
use Rattle.deck_laws.proofs.Rows.{Row, ended, text_of_rows, rows_append, Runs, first_runs, runs_on}
use Rattle.deck_laws.proofs.Rows.{rows_count}
use Rattle.schedule_laws.specs.Taken.{MayTake, with_schedule}
use Rattle.schedule_laws.proofs.Marks.{AreBelow, all_below, fewer}
use Rattle.schedule_laws.proofs.Row as rows
use Rattle.schedule_laws.proofs.Row.{line_of, row, capital, line_kept, events_taken}
use Rattle.schedule_laws.proofs.Moved.{later, moved, first_moves}
use Rattle.schedule_laws.proofs.Again.{AreScheds, scheds_over, given, second_given}
use Rattle.statement_laws.proofs.Lines.{no_events_first}
use Rattle.listing_laws.proofs.Texts.{one_piece}
use Rattle.listing_laws.proofs.Stand.{second_on}

-- ---- lists

below_take : (n k : ℕ) (es : List Event) → AreBelow n es → AreBelow n (take k es)
below_take n zero es h = tt
below_take n (suc k) [] h = tt
below_take n (suc k) (e ∷ es) h = (h.0, below_take n k es h.1)

below_drop : (n k : ℕ) (es : List Event) → AreBelow n es → AreBelow n (drop k es)
below_drop n zero es h = h
below_drop n (suc k) [] h = tt
below_drop n (suc k) (e ∷ es) h = below_drop n k es h.1

first_behind : (n : ℕ) (xs ys : List (List ℕ)) (p r q : Plan) → First n xs p r → First (n + length xs) ys r q
    → First n (xs ++ ys) p q
first_behind n [] ys p r q h i =
    let same : n + 0 ≡ n = omega arith in
    subst (λ (s : Plan). First n ys s q) (sym h) (subst (λ m. First m ys r q) same i)
first_behind n (x ∷ xs) ys p r q h i =
    let same : n + suc (length xs) ≡ n + 1 + length xs = omega arith in
    (h.0, h.1, first_behind (n + 1) xs ys h.0 r q h.2 (subst (λ m. First m ys r q) same i))

pieces_before : (rs : List Row) (rest : List ℕ)
    → pieces_by 10 (text_of_rows rs ++ rest) ≡ map ended rs ++ pieces_by 10 rest
pieces_before [] rest = refl
pieces_before (r ∷ rs) rest =
    ap (pieces_by 10) (append_assoc (ended r) (text_of_rows rs) rest)
    ∙ one_piece r.text (text_of_rows rs ++ rest) r.visible
    ∙ ap (λ (ps : List (List ℕ)). ended r ∷ ps) (pieces_before rs rest)

all_there : (storage : List ℕ) (n : ℕ) → length (ready_for storage n).cpus ≡ n
unfolding ready_for
all_there storage n = length-replicate n (started 0)

module _ (text : List ℕ) (image : Content) (events : List Event) (may : MayTake text image events) where
  abbrev plan : Plan
  plan = may.stands.plan

  abbrev machine : Machine
  machine = may.stands.machine

  -- ---- the CPUs of the events

  read : AreRead plan machine
  read = are_read plan machine (first_fits 1 (lines_of text) plan may.stands.first) may.stands.second

  image_cpus : length image.cpus ≡ plan.cpus
  unfolding image_of
  image_cpus = ap (λ (i : Content). length i.cpus) may.stands.is ∙ read.machine.cpus.count_is

  below : AreBelow plan.cpus events
  below = all_below plan.cpus events (subst (λ n. All (λ e. cpu_of_event e < n) events) image_cpus may.known)

  low : AreBelow 16 events
  low = fewer plan.cpus 16 read.plan.cpus_few events below

  -- ---- the lines

  abbrev chunk : ℕ → List Event
  chunk j = take 16 (drop (16 * j) events)

  chunk_low : (j : ℕ) → AreBelow 16 (chunk j)
  chunk_low j = below_take 16 16 (drop (16 * j) events) (below_drop 16 (16 * j) events low)

  chunk_below : (j : ℕ) → AreBelow plan.cpus (chunk j)
  chunk_below j = below_take plan.cpus 16 (drop (16 * j) events) (below_drop plan.cpus (16 * j) events below)

  chunk_some : (j : ℕ) → 16 * j < length events → 0 < length (chunk j)
  chunk_some j h = omega (arith, length-take 16 (drop (16 * j) events), length-drop (16 * j) events)

  chunk_few : (j : ℕ) → length (chunk j) ≤ 16
  chunk_few j = omega (arith, length-take 16 (drop (16 * j) events))

  abbrev row_at : (j : ℕ) → 16 * j < length events → Row
  row_at j h = row (chunk j) (chunk_low j) (chunk_some j h) (chunk_few j)

  before : (n : ℕ) → 16 * suc n < length events + 16 → 16 * n < length events + 16
  before n h = omega arith

  now : (n : ℕ) → 16 * suc n < length events + 16 → 16 * n < length events
  now n h = omega arith

  unfoldable rows_to : (n : ℕ) → 16 * n < length events + 16 → List Row
  rows_to zero h = []
  rows_to (suc n) h = rows_to n (before n h) ++ row_at n (now n h) ∷ []

  abbrev task_at : (n : ℕ) → 16 * n < length events + 16 → Task
  task_at n h = record { line = 1 + length (rows_to n h); here = 16384; text = line_of (chunk n); operation = Sched }

  unfoldable tasks_to : (n : ℕ) → 16 * n < length events + 16 → List Task
  tasks_to zero h = []
  tasks_to (suc n) h = tasks_to n (before n h) ++ task_at n (before n h) ∷ []

  all_scheds : (n : ℕ) (h : 16 * n < length events + 16) → AreScheds (tasks_to n h)
  unfolding tasks_to
  all_scheds zero h = tt
  all_scheds (suc n) h =
      scheds_over (tasks_to n (before n h)) (task_at n (before n h) ∷ []) (all_scheds n (before n h)) (refl, tt)

  -- ---- their text

  row_read : (j : ℕ) (h : 16 * j < length events) → map to_ascii_uppercase (row_text (chunk j)) ≡ ended (row_at j h)
  row_read j h =
      map-append to_ascii_uppercase (line_of (chunk j)) (10 ∷ [])
      ∙ ap (λ (t : List ℕ). t ++ 10 ∷ [])
      (capital (chunk j) (chunk_low j) (chunk_some j h) (chunk_few j)
      ∙ sym (rows.row_text (chunk j) (chunk_low j) (chunk_some j h) (chunk_few j)))

  rows_read : (n : ℕ) (h : 16 * n < length events + 16)
      → map to_ascii_uppercase (rows_text events n) ≡ text_of_rows (rows_to n h)
  unfolding rows_to
  rows_read zero h = refl
  rows_read (suc n) h =
      map-append to_ascii_uppercase (rows_text events n) (row_text (chunk n))
      ∙ ap₂ (λ (s t : List ℕ). s ++ t) (rows_read n (before n h))
      (row_read n (now n h) ∙ sym (append-nil (ended (row_at n (now n h)))))
      ∙ sym (rows_append (rows_to n (before n h)) (row_at n (now n h) ∷ []))

  abbrev count : ℕ
  count = (length events + 15) / 16

  count_some : 0 < count
  count_some = omega (arith, may.some)

  few : 16 * count < length events + 16
  few = omega arith

  enough : length events ≤ 16 * count
  enough = omega arith

  abbrev front_rows : List Row
  front_rows = rows_to count few

  abbrev front : List Task
  front = tasks_to count few

  abbrev size : ℕ
  size = length front_rows

  lines_are : lines_of (schedule_text events ++ text) ≡ map ended front_rows ++ lines_of text
  unfolding lines_of
  lines_are =
      ap (pieces_by 10) (map-append to_ascii_uppercase (rows_text events count) text
      ∙ ap (λ (t : List ℕ). t ++ as_read text) (rows_read count few))
      ∙ pieces_before front_rows (as_read text)

  -- ---- the first reading

  abbrev with_tasks : List Task → Plan
  with_tasks ts = record blank { tasks = ts }

  row_gives : (n : ℕ) (h : 16 * suc n < length events + 16)
      → line_gives (1 + length (rows_to n (before n h))) (row_at n (now n h)).text (with_tasks (tasks_to n (before n h)))
      ≡ Ok (with_tasks (tasks_to (suc n) h))
  unfolding blank tasks_to
  row_gives n h =
      let p = with_tasks (tasks_to n (before n h)) in
      ap (λ (t : List ℕ). line_gives (1 + length (rows_to n (before n h))) t p)
      (rows.row_text (chunk n) (chunk_low n) (chunk_some n (now n h)) (chunk_few n))
      ∙ line_kept (chunk n) (chunk_low n) (chunk_some n (now n h)) (chunk_few n)
      (1 + length (rows_to n (before n h))) p refl

  rows_run : (n : ℕ) (h : 16 * n < length events + 16) → Runs 1 (rows_to n h) blank (with_tasks (tasks_to n h))
  unfolding rows_to tasks_to blank
  rows_run zero h = refl
  rows_run (suc n) h =
      let b = before n h in
      runs_on 1 (rows_to n b) (row_at n (now n h) ∷ []) blank (with_tasks (tasks_to n b))
      (with_tasks (tasks_to (suc n) h)) (rows_run n b)
      (with_tasks (tasks_to (suc n) h), row_gives n h, refl {a = with_tasks (tasks_to (suc n) h)})

  abbrev after : Plan
  after = moved size front plan

  start_moved : moved size front blank ≡ with_tasks front
  unfolding blank
  start_moved = ap with_tasks (append-nil front)

  first : First 1 (map ended front_rows ++ lines_of text) blank after
  first =
      first_behind 1 (map ended front_rows) (lines_of text) blank (with_tasks front) after
      (first_runs 1 front_rows blank (with_tasks front) (rows_run count few))
      (subst (λ (n : ℕ). First (1 + n) (lines_of text) (with_tasks front) after) (sym (rows_count front_rows))
      (subst (λ (p : Plan). First (1 + size) (lines_of text) p after) start_moved
      (first_moves size front 1 (lines_of text) blank plan may.stands.first)))

  -- ---- the second reading

  unfoldable filled : ℕ → Machine → Machine
  filled zero m = m
  filled (suc n) m =
      record (filled n m) { schedule = (filled n m).schedule ++ chunk n; scheduled = true }

  same_cpus : (n : ℕ) (m : Machine) → (filled n m).cpus ≡ m.cpus
  unfolding filled
  same_cpus zero m = refl
  same_cpus (suc n) m = same_cpus n m

  schedule_is : (n : ℕ) (m : Machine) → (filled n m).schedule ≡ m.schedule ++ take (16 * n) events
  unfolding filled
  schedule_is zero m = sym (append-nil m.schedule)
  schedule_is (suc n) m =
      let next : 16 * n + 16 ≡ 16 * suc n = omega arith in
      ap (λ (es : List Event). es ++ chunk n) (schedule_is n m)
      ∙ append_assoc m.schedule (take (16 * n) events) (chunk n)
      ∙ ap (λ (es : List Event). m.schedule ++ es) (sym (take-add (16 * n) 16 events)
      ∙ ap (λ (k : ℕ). take k events) next)

  all_set : (n : ℕ) (m : Machine) → 0 < n
      → filled n m ≡ record m { schedule = (filled n m).schedule; scheduled = true }
  unfolding filled
  all_set zero m some = absurd (omega arith)
  all_set (suc zero) m some = refl
  all_set (suc (suc n)) m some =
      ap (λ (x : Machine). record x {
        schedule = (filled (suc n) m).schedule ++ chunk (suc n);
        scheduled = true;
      }) (all_set (suc n) m (omega arith))

  module _ (k : Known) (m : Machine) (none : m.schedule ≡ []) (there : length m.cpus ≡ plan.cpus) where
    room : (n : ℕ) → length (filled n m).schedule + length (chunk n) ≤ 4194304
    unfolding filled
    room n = omega (
      arith,
      ap (λ (es : List Event). length es) (schedule_is (suc n) m),
      length-append (filled n m).schedule (chunk n),
      length-append m.schedule (take (16 * suc n) events),
      length-take (16 * suc n) events,
      ap (λ (es : List Event). length es) none,
      may.few,
    )

    known : (n : ℕ) → AreBelow (length (filled n m).cpus) (chunk n)
    known n =
        subst (λ (c : ℕ). AreBelow c (chunk n)) (sym (ap (λ (cs : List Cpu). length cs) (same_cpus n m) ∙ there))
        (chunk_below n)

    rows_passed : (n : ℕ) (h : 16 * n < length events + 16) → Second k (tasks_to n h) m (filled n m)
    unfolding tasks_to filled
    rows_passed zero h = refl {a = m}
    rows_passed (suc n) h =
        let b = before n h in
        second_on k (tasks_to n b) (task_at n b ∷ []) m (filled n m) (filled (suc n) m) (rows_passed n b) (
          filled (suc n) m,
          events_taken (chunk n) (chunk_low n) (chunk_some n (now n h)) (chunk_few n) k (task_at n b) (filled n m)
              refl refl (known n) (room n),
          refl {a = filled (suc n) m},
        )

    all_filled : filled count m ≡ given size front events m
    all_filled =
        all_set count m count_some
        ∙ ap (λ (es : List Event). record m { schedule = es; scheduled = true })
        (schedule_is count m ∙ ap (λ (es : List Event). es ++ take (16 * count) events) none
        ∙ take_all (16 * count) events enough)

    front_passed : Second k front m (given size front events m)
    front_passed = subst (λ (x : Machine). Second k front m x) all_filled (rows_passed count few)

  image_free : machine.scheduled ≡ false
  unfolding image_of
  image_free = sym (ap (λ (i : Content). i.scheduled) may.stands.is) ∙ may.free

  second : Second (known_in after) after.tasks (ready after) (given size front events machine)
  second =
      second_on (known_in after) front (map (later size front) plan.tasks) (ready plan)
      (given size front events (ready plan)) (given size front events machine)
      (front_passed (known_in after) (ready plan) (no_events_first plan.storage plan.cpus)
      (all_there plan.storage plan.cpus))
      (second_given size front events (all_scheds count few) (known_in plan) plan.tasks (ready plan) machine
      may.stands.second image_free)

  -- ---- the image

  image_is : with_schedule events image ≡ image_of after.begins (given size front events machine)
  unfolding image_of
  image_is = ap (with_schedule events) may.stands.is

  pub stands : Stands (schedule_text events ++ text) (with_schedule events image)
  stands = record {
    plan = after;
    machine = given size front events machine;
    size = le-ltb 16777216 (length (schedule_text events ++ text)) may.size;
    lines = le-ltb 262144 (length (lines_of (schedule_text events ++ text))) may.lines;
    first = subst (λ (ls : List (List ℕ)). First 1 ls blank after) (sym lines_are) first;
    second = second;
    some = may.stands.some;
    is = image_is;
  }

pub taken : (text : List ℕ) (image : Content) (events : List Event) → MayTake text image events
    → Stands (schedule_text events ++ text) (with_schedule events image)
taken text image events may = stands text image events may
