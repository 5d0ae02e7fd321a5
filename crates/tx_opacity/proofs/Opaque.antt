-- Attempts that go on see one private run.
use Rattle.std.proofs.Common.{◌≡◌, ℕ, ◌<◌, ◌/◌, Bool, true, false, List, refl, sym, ap, ◌∙◌, subst}
use Rattle.std.proofs.Common.{inl, inr}
use Rattle.std.specs.Prelude.{◌⊎◌, ◌||◌, nat_lt}
use Rattle.std.proofs.lemmas.Bool.{cases_eq}
use borrow.Enum.Arm.{by_way}
use Rattle.tx_footprint.specs.Sizes.{line_size}
use Rattle.tx_footprint.specs.Touched.{Sets}
use Rattle.tx_journal.specs.Image.{cpu_of_event}
use Rattle.tx_journal.specs.declared.events.Event.{Event}
use Rattle.tx_journal.specs.declared.events.Event.TheVariants as event
use Rattle.tx_serial.specs.Alike.{Track, track_of}
use Rattle.tx_serial.specs.Attempt.{footprint}
use Rattle.tx_serial.specs.Flat.{FlatState, Storage, laid_over}
use Rattle.tx_serial.specs.Run.{run}
use Rattle.tx_serial.proofs.Copies.{run_copy, laid_alike}
use Rattle.tx_meaning.specs.Limits.{Setting}
use Rattle.tx_meaning.specs.Meaning.{IsSetting, meaning}
use Rattle.tx_meaning.specs.State.{is_live, attempt_of, flat_of, cpus_of}
use Rattle.tx_meaning.specs.Turn.{Turned, happen}
use Rattle.tx_meaning.specs.Views.{AreKnown, IsSameView}
use Rattle.tx_bounds.specs.Kept.{Kept, kept_flat}
use Rattle.tx_bounds.specs.Keeping.{keeping}
use Rattle.tx_bounds.specs.Turn.{k_happen}
use Rattle.tx_bounds.specs.Told.{turned_of}
use Rattle.tx_bounds.proofs.Truth.{Truth, attempt_is, footprint_is, flat_is, same_flat}
use Rattle.tx_bounds.proofs.Moves.{IsGood}
use Rattle.tx_bounds.proofs.Asking.{Keeps}
use Rattle.tx_bounds.proofs.Turning.{own_stays, happen_ok, TurnOk}
use Rattle.tx_bounds.proofs.Events.{keeping_is, keeping_good}
use Rattle.tx_opacity.specs.Opacity.{SeesOneRun}
use Rattle.tx_opacity.proofs.Others.{Left, others_event}
use Rattle.tx_opacity.proofs.Own.{Saw, Own, own_event}

module _ (m : Setting) (s : IsSetting m) where
  -- the same stores over storage that is the same there
  same_byte : (f g : FlatState) (i n a : ℕ) → track_of (run g i n) ≡ track_of (run f i n)
      → g.storage a ≡ f.storage a → (run g i n).copy a ≡ (run f i n).copy a
  same_byte f g i n a same e =
      ap (λ (c : Storage). c a) (run_copy g i n)
      ∙ ap (λ (t : Track). laid_over g.storage t.stores a) same
      ∙ laid_alike (run f i n).stores f.storage g.storage a e
      ∙ sym (ap (λ (c : Storage). c a) (run_copy f i n))

  -- what an attempt has seen, it sees at a moment at which all that it has touched is as it was
  view : (k mid : Kept) (i : ℕ) → Truth m k → Truth m mid → Keeps k mid i
      → IsSameView (attempt_of m k.state i) (run (kept_flat m mid) i (k.state.numbers i).completed)
  view k mid i t u keeps =
      let f = kept_flat m k in
      let g = kept_flat m mid in
      let n = (k.locals i).attempt.count in
      let stays = own_stays m s k mid i t u keeps in
      let seen : IsSameView (run f i n) (run g i n) = record {
        shows = stays.track;
        bytes = λ a is. same_byte f g i n a stays.track (keeps.bytes a
            (ap (λ (sets : Sets). sets.fetched (a / line_size) || sets.stored (a / line_size))
            (sym (footprint_is m k t i) ∙ ap footprint (attempt_is m k t i)) ∙ is));
      } in
      subst (λ p. IsSameView p (run g i (k.state.numbers i).completed)) (sym (attempt_is m k t i))
      (subst (λ c. IsSameView (run f i n) (run g i c)) (sym (t.each i).count) seen)

  seen_by : (k q : Kept) (i : ℕ) → Truth m k → Truth m q → Saw m k q i
      → IsSameView (attempt_of m k.state i) (run (flat_of m q.state) i (k.state.numbers i).completed)
  seen_by k q i t u saw =
      subst (λ f. IsSameView (attempt_of m k.state i) (run f i (k.state.numbers i).completed))
      (sym (flat_is m q u ∙ same_flat m q saw.mid u saw.truth saw.history))
      (view k saw.mid i t saw.truth saw.keeps)

  -- ---- whose event it is

  over_not : {P : Type 0} (q : Kept) (i : ℕ) → is_live q.state i ≡ true → is_live q.state i ≡ false → P
  over_not q i live over = absurd (let x : true ≡ false = sym live ∙ over in cc)

  saw_by_left : (e : Event) (k : Kept) (x : ℕ) → IsGood m k → TurnOk m k (happen m e k.state) (k_happen m e k)
      → is_live k.state x ≡ true → is_live (k_happen m e k).kept.state x ≡ true
      → Left x (k.state.numbers x).completed (k_happen m e k).kept.state → Saw m k (k_happen m e k).kept x
  saw_by_left e k x g ok live lives (inl same) = record {
    mid = (k_happen m e k).kept;
    truth = ok.good.truth;
    keeps = ok.keeps x live same;
    history = refl;
  }
  saw_by_left e k x g ok live lives (inr gone) =
      over_not (k_happen m e k).kept x lives (ap (nat_lt 0) gone)

  saw_by_own : (k q : Kept) (x : ℕ) → is_live q.state x ≡ true → Own m k q x → Saw m k q x
  saw_by_own k q x lives (inl over) = over_not q x lives over
  saw_by_own k q x lives (inr saw) = saw

  saw : (e : Event) (k : Kept) (x : ℕ) → IsGood m k → cpu_of_event e < cpus_of m
      → TurnOk m k (happen m e k.state) (k_happen m e k)
      → is_live k.state x ≡ true → is_live (k_happen m e k).kept.state x ≡ true → Saw m k (k_happen m e k).kept x
  saw e k x g within ok live lives =
      by_way (cases_eq x (cpu_of_event e))
      (λ is. saw_by_own k (k_happen m e k).kept x lives
      (subst (Own m k (k_happen m e k).kept) (sym is)
      (own_event m s e k g within (ap (is_live k.state) (sym is) ∙ live))))
      (λ ne. saw_by_left e k x g ok live lives
      (subst (λ (t : Turned). Left x (k.state.numbers x).completed t.state) ok.is (others_event m e x k.state ne)))

  -- ---- over all events

  pub opaque : (events : List Event) (e : Event) → AreKnown m events → cpu_of_event e < cpus_of m
      → SeesOneRun m (meaning m events) (happen m e (meaning m events)).state
  opaque events e known within =
      let k = keeping m events in
      let g = keeping_good m s events known in
      let ok = happen_ok m s e k g within in
      let q = (k_happen m e k).kept in
      let seen : SeesOneRun m k.state q.state = λ i live lives same.
      seen_by k q i g.truth ok.good.truth (saw e k i g within ok live lives) in
      subst (λ t. SeesOneRun m t (happen m e t).state) (sym (keeping_is m s events known))
      (subst (λ (t : Turned). SeesOneRun m k.state t.state) (sym ok.is) seen)
