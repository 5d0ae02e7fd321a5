-- What a state shows is what its history leaves, and its live attempts are such as the CPUs can have.
use Rattle.std.proofs.Common.{◌≡◌, ◌∙◌, ap, sym, refl, subst, ℕ, ◌<◌, arith, Bool, true, false}
use Rattle.std.proofs.Common.{List, length, Some, None}
use Rattle.std.specs.Prelude.{nat_lt, slice_get, if◌then◌else◌}
use Rattle.std.proofs.lemmas.Bool.{ltb-true, ltb-false}
use Rattle.std.proofs.lemmas.List.FromFn.{get_or-map-range_with_len, length-map-range_with_len}
use Rattle.std.proofs.lemmas.Option.{slice_get_within, get_or_from_slice_get, same_Some}
use Rattle.tx_journal.specs.declared.events.Event.{Event}
use Rattle.tx_serial.specs.Apply.{may_act}
use Rattle.tx_serial.specs.Attempt.{Run, Open}
use Rattle.tx_serial.specs.Flat.{FlatState}
use Rattle.tx_serial.specs.History.{replay}
use Rattle.tx_serial.specs.Run.{run}
use Rattle.tx_meaning.specs.Limits.{Setting}
use Rattle.tx_meaning.specs.Meaning.{IsSetting, meaning}
use Rattle.tx_meaning.specs.Shown.{levels_at}
use Rattle.tx_meaning.specs.State.{State, flat_of, flat_where, attempt_of, cpus_of, is_live}
use Rattle.tx_meaning.specs.Views.{AreKnown}
use Rattle.tx_keeping.specs.Keeping.{keeping}
use Rattle.tx_keeping.specs.Kept.{Kept}
use Rattle.tx_keeping.proofs.Events.{keeping_is, keeping_good, legal}
use Rattle.tx_keeping.proofs.Truth.{Truth, flat_is, attempt_is, live_is}
use Rattle.report_text.specs.Shown.{ShownCpu}
use Rattle.report_text.specs.declared.processors.Attempt.{Attempt}
use Rattle.tx_report.specs.Shown.{attempt_shown, cpu_shown, cpus_shown, shown_in}
use Rattle.tx_check.specs.Told.{IsTold, IsLeft, AreLive, cpu_in}
use Rattle.sound_laws.proofs.Sound.{all_sound}

-- ---- one CPU

at_rest : (f : FlatState) (i : ℕ) → (run f i 0).cpu ≡ f.cpus i
unfolding run
at_rest f i = refl

-- the CPU as it is told, by whether an attempt of so many instructions is live
told_by : (f : FlatState) (i n : ℕ) (b : Bool) → nat_lt 0 n ≡ b
    → (run f i n).cpu ≡ cpu_in f i (attempt_shown (if b then Some (length (run f i n).nest, n) else None))
told_by f i n true is = refl
told_by f i n false is =
    let none : n ≡ 0 = (let low = ltb-false 0 n is in omega (arith, low)) in
    ap (λ k. (run f i k).cpu) none ∙ at_rest f i

-- an attempt that is told is the live one
record Shows (f : FlatState) (i n : ℕ) (a : Attempt) : Type 0 where
  live : nat_lt 0 n ≡ true
  depth : length (run f i n).nest ≡ a.depth
  completed : n ≡ a.completed

shows_by : (f : FlatState) (i n : ℕ) (a : Attempt) (b : Bool) → nat_lt 0 n ≡ b
    → attempt_shown (if b then Some (length (run f i n).nest, n) else None) ≡ Some a → Shows f i n a
shows_by f i n a true live is =
    let same = same_Some _ _ is in
    record {
      live = live;
      depth = ap (λ (x : Attempt). x.depth) same;
      completed = ap (λ (x : Attempt). x.completed) same;
    }
shows_by f i n a false live is = absurd (let no : None ≡ Some a = is in cc)

-- ---- all CPUs

-- a CPU of those that are shown
pub shown_at : (m : Setting) (s : State) (i : ℕ) (c : ShownCpu) → slice_get (cpus_shown m s) i ≡ Some c
    → (c ≡ cpu_shown m s i) × (i < cpus_of m)
shown_at m s i c at =
    let within = slice_get_within (cpus_shown m s) i c at in
    let size = length-map-range_with_len (cpu_shown m s) 0 (cpus_of m) in
    let below : i < cpus_of m = omega (arith, within, size) in (
      sym (get_or_from_slice_get (cpus_shown m s) i c c at)
          ∙ get_or-map-range_with_len (cpu_shown m s) 0 (cpus_of m) i i c below (omega arith),
      below,
    )

-- what is known of a live attempt
record Goes (m : Setting) (s : State) (i : ℕ) : Type 0 where
  acts : may_act (flat_of m s) i ≡ true
  mark : (attempt_of m s i).mark ≡ Open

module _ (m : Setting) (setting : IsSetting m) (events : List Event) (known : AreKnown m events) where
  goes_kept : (k : Kept) → Truth m k → (i : ℕ) → is_live k.state i ≡ true → Goes m k.state i
  goes_kept k t i live =
      let followed = (t.each i).followed in
      record {
        acts =
            ap (λ (f : FlatState). may_act f i) (flat_is m k t)
            ∙ followed.acts (sym (live_is m k t i) ∙ live);
        mark = ap (λ (p : Run). p.mark) (attempt_is m k t i) ∙ followed.opens;
      }

  goes : (i : ℕ) → is_live (meaning m events) i ≡ true → Goes m (meaning m events) i
  goes i =
      subst (λ (s : State). is_live s i ≡ true → Goes m s i) (sym (keeping_is m setting events known))
      (goes_kept (keeping m events) (keeping_good m setting events known).truth i)

  replayed : replay m.image (meaning m events).history ≡ Some (flat_of m (meaning m events))
  unfolding flat_of
  replayed =
      let l = legal m setting events known in
      l.replayed ∙ ap Some (sym (ap (flat_where m) l.replayed))

  told : (i : ℕ) → IsTold (flat_of m (meaning m events)) (meaning m events).history i (cpu_shown m
      (meaning m events) i)
  told i =
      let s = meaning m events in
      record {
        cpu = told_by (flat_of m s) i (s.numbers i).completed (is_live s i) refl;
        pending = refl;
        commits = refl;
        aborts = refl;
        finished = refl;
      }

  pub is_left : IsLeft m.image (shown_in m (meaning m events)) (flat_of m (meaning m events))
  is_left =
      let s = meaning m events in
      record {
        replayed = replayed;
        sound = all_sound m events setting known;
        count = length-map-range_with_len (cpu_shown m s) 0 (cpus_of m);
        cpus = λ i c at. subst (IsTold (flat_of m s) s.history i) (sym (shown_at m s i c at).0) (told i);
        shows = refl;
        storage = refl;
      }

  pub are_live : AreLive (flat_of m (meaning m events)) (shown_in m (meaning m events))
  are_live i c a at is =
      let s = meaning m events in
      let f = flat_of m s in
      let n = (s.numbers i).completed in
      let here : attempt_shown (levels_at m s i) ≡ Some a =
      sym (ap (λ (x : ShownCpu). x.attempt) (shown_at m s i c at).0) ∙ is in
      let shows = shows_by f i n a (is_live s i) refl here in
      let g = goes i shows.live in
      record {
        acts = g.acts;
        some = (let some = ltb-true 0 n shows.live in let e = shows.completed in omega (arith, some, e));
        mark = subst (λ k. (run f i k).mark ≡ Open) shows.completed g.mark;
        deep = subst (λ k. length (run f i k).nest ≡ a.depth) shows.completed shows.depth;
      }
