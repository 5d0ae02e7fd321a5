-- The report of a run whose numbers have their places is sound.
use Rattle.std.proofs.Common.{◌≡◌, sym, refl, subst, ℕ, ◌<◌, ◌≤◌, arith, Bool, true, false}
use Rattle.std.proofs.Common.{◌*◌}
use Rattle.std.proofs.Common.{List, length, get_or, Some, None, inl, inr}
use Rattle.std.specs.Prelude.{if◌then◌else◌}
use Rattle.std.proofs.lemmas.Bool.{cases_lt}
use Rattle.std.proofs.lemmas.List.{get_or_past}
use Rattle.std.proofs.lemmas.List.FromFn.{length-map-range_with_len}
use Rattle.std.proofs.lemmas.List.Sums.{count_by-le-length}
use Rattle.hex.specs.Hex.{IsBytes}
use Rattle.z_regs.specs.Prefix.{storage_size}
use Rattle.tx_journal.specs.Lines.{fields_of, line_of}
use Rattle.tx_journal.specs.declared.entries.Entry.{Entry}
use Rattle.tx_journal.specs.declared.entries.Entry.TheVariants.{Step, Commit, Abort, Tdb, Interrupt}
use Rattle.tx_journal.specs.declared.events.Event.{Event}
use Rattle.tx_serial.specs.Changes.{cpu_of_entry}
use Rattle.tx_serial.specs.Flat.{Storage, bytes_of}
use Rattle.tx_serial.proofs.Listed.{length-bytes_below, bytes_below_at}
use Rattle.tx_meaning.specs.Limits.{Setting}
use Rattle.tx_meaning.specs.Meaning.{IsSetting, AreEvents, meaning}
use Rattle.tx_meaning.specs.Room.{is_turn_of}
use Rattle.tx_meaning.proofs.Books.{turns_counted}
use Rattle.tx_report.proofs.Most.{at_most, entries_at_most}
use Rattle.std.proofs.Math.Nat.{mul-le-mul_left}
use Rattle.tx_meaning.specs.Shown.{commits_of, aborts_of}
use Rattle.tx_meaning.specs.State.{flat_of, attempt_of, cpus_of, is_live}
use Rattle.tx_meaning.specs.Views.{AreKnown}
use Rattle.tx_keeping.proofs.Events.{legal}
use Rattle.tx_report.specs.Report.{report_of}
use Rattle.tx_report.specs.Shown.{attempt_shown, cpu_shown, shown_in}
use Rattle.tx_check.specs.Sound.{IsSound}
use Rattle.form_laws.specs.Reportable.{IsShort, CanBeTold, CanBeReported}
use Rattle.form_laws.proofs.Whole.{has_form}
use Rattle.sound_laws.specs.Parts.{HasAtMost}
use Rattle.sound_laws.proofs.Legal.{known_cpus}
use Rattle.sound_laws.proofs.Sound.{all_sound}
use Rattle.sound_laws.proofs.Turns.{took_turns}
use Rattle.check_laws.specs.Places.{HasPlaces}
use Rattle.check_laws.proofs.Completed.{few_completed}
use Rattle.check_laws.proofs.Recorded.{deep, recorded}
use Rattle.check_laws.proofs.Left.{shown_at, is_left, are_live}

-- ---- entries

cpu_told : (e : Entry) → (fields_of (line_of e)).cpu ≡ cpu_of_entry e
cpu_told (Step i) = refl
cpu_told (Commit i n) = refl
cpu_told (Abort i n why) = refl
cpu_told (Tdb i) = refl
cpu_told (Interrupt i) = refl

few_told : (most : ℕ) (e : Entry) → HasAtMost most e → (fields_of (line_of e)).count ≤ most
few_told most (Step i) few = omega arith
few_told most (Commit i n) few = few
few_told most (Abort i n why) few = few
few_told most (Tdb i) few = omega arith
few_told most (Interrupt i) few = omega arith

-- ---- storage

all_bytes : (storage : Storage) → ((a : ℕ) → a < storage_size → storage a < 256) → IsBytes (bytes_of storage)
all_bytes storage small i =
    elim (cases_lt i storage_size) [
      | inl low ↦
          let is = bytes_below_at storage_size storage i low in
          let less = small i low in
          omega (arith, is, less)
      | inr high ↦
          let size = length-bytes_below storage_size storage in
          let is = get_or_past (bytes_of storage) i 0 (omega (arith, high, size)) in
          omega (arith, is)
    ]

-- ---- attempts

short_by : (most depth n : ℕ) (b : Bool) → most ≤ 200000 → depth ≤ n → (b ≡ true → n ≤ most)
    → IsShort (attempt_shown (if b then Some (depth, n) else None))
short_by most depth n true low deep few =
    let h = few refl in (omega (arith, low, deep, h), omega (arith, low, h))
short_by most depth n false low deep few = tt

module _ (m : Setting) (setting : IsSetting m) (events : List Event) (are : AreEvents m events)
    (places : HasPlaces m (meaning m events)) where
  -- no more events than all CPUs may have turns, and those from outside
  few_events : length (meaning m events).events ≤ 7394304
  few_events =
      let most = at_most m events are.known are.externals in
      let cpus = setting.image.few_cpus in
      let turns : cpus_of m * m.limits.turns ≤ cpus_of m * 200000 =
      mul-le-mul_left (cpus_of m) setting.limits.few_turns in
      let outside = setting.limits.few_externals in
      omega (arith, most, cpus, turns, outside)

  few_entries : length (meaning m events).history ≤ 7394304
  few_entries = let e = entries_at_most m events are.known in let f = few_events in omega (arith, e, f)

  few_turns : (i : ℕ) → ((meaning m events).numbers i).turns ≤ 7394304
  few_turns i =
      let is = turns_counted m events i in
      let c = count_by-le-length (is_turn_of i) (meaning m events).events in
      let f = few_events in
      omega (arith, is, c, f)

  can_be_told : (i : ℕ) → i < cpus_of m → CanBeTold (cpu_shown m (meaning m events) i)
  can_be_told i below =
      let s = meaning m events in
      let place = places.cpus i below in
      let registers = place.registers in
      let few = few_entries in
      record {
        general = registers.general;
        access = registers.access;
        condition = (let c = registers.condition in omega (arith, c));
        mask = registers.mask;
        attempt =
            short_by m.limits.turns (length (attempt_of m s i).nest) (s.numbers i).completed (is_live s i)
            setting.limits.few_turns (deep (flat_of m s) i (s.numbers i).completed)
            (few_completed m setting events are.known i below);
        counts = record {
          turns = (let t = few_turns i in omega (arith, t));
          asked = place.numbers.asked;
          rejected = place.numbers.rejected;
          commits = (let c = count_by-le-length (commits_of i) s.history in omega (arith, c, few));
          aborts = (let c = count_by-le-length (aborts_of i) s.history in omega (arith, c, few));
        };
      }

  can_be_reported : CanBeReported m.image (shown_in m (meaning m events))
  can_be_reported =
      let s = meaning m events in
      let is_legal = legal m setting events are.known in
      let some = setting.image.some_cpu in
      record {
        some = some;
        few = setting.image.few_cpus;
        count = length-map-range_with_len (cpu_shown m s) 0 (cpus_of m);
        cpus = λ i c at.
            let at_place = shown_at m s i c at in subst CanBeTold (sym at_place.0) (can_be_told i at_place.1);
        shows = refl;
        shown = setting.image.shown;
        bytes = all_bytes (flat_of m s).storage places.bytes;
        size = length-bytes_below storage_size (flat_of m s).storage;
        entries = λ k d lt.
            let e = get_or s.history k d in
            let cpu = known_cpus m.image s.history setting.image is_legal k d lt in
            let same = cpu_told e in
            let few = few_told m.limits.turns e (took_turns m events setting are.known k d lt) in
            let most = setting.limits.few_turns in
            record {
              sound = all_sound m events setting are.known k d lt;
              known = omega (arith, cpu, same);
              few = omega (arith, few, most);
            };
        few_entries = (let f = few_entries in omega (arith, f));
        events = λ k d lt. let there = recorded m events are.known k d lt in omega (arith, there);
        few_events = (let f = few_events in omega (arith, f));
      }

  pub report_sound : IsSound m.image (report_of m events) (length (meaning m events).history)
  unfolding report_of
  report_sound = record {
    events = length (meaning m events).events;
    form = has_form m.image (shown_in m (meaning m events)) can_be_reported;
    shown = shown_in m (meaning m events);
    after = flat_of m (meaning m events);
    left = is_left m setting events are.known;
    live = are_live m setting events are.known;
    text = refl;
  }
