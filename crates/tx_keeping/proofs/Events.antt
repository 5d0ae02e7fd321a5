-- Over all events: the meaning is what is kept, histories are legal and only grow, and no live attempt sees a
-- mixed state.
use Rattle.std.proofs.Common.{◌≡◌, ℕ, ◌/◌, ◌<◌, true, false, List, [], ◌∷◌, ◌++◌}
use Rattle.std.proofs.Common.{Some, refl, sym, ap, subst, ◌∙◌}
use Rattle.std.specs.Prelude.{◌||◌}
use Rattle.std.proofs.lemmas.List.Elements.{All-head, All-tail}
use Rattle.tx_footprint.specs.Sizes.{line_size}
use Rattle.tx_footprint.specs.Touched.{Sets}
use Rattle.tx_journal.specs.Image.{cpu_of_event}
use Rattle.tx_journal.specs.declared.events.Event.{Event}
use Rattle.tx_serial.specs.Alike.{Track, track_of}
use Rattle.tx_serial.specs.Attempt.{footprint}
use Rattle.tx_serial.specs.Flat.{FlatState, Storage, laid_over}
use Rattle.tx_serial.specs.History.{IsLegal, replay, replay_from, start_of}
use Rattle.tx_serial.specs.Run.{run}
use Rattle.tx_serial.proofs.Copies.{run_copy, laid_alike}
use Rattle.tx_progress.specs.Local.{Local}
use Rattle.tx_progress.specs.Reached.{IsFollowed, progress_of}
use Rattle.tx_meaning.specs.Hits.{hits_from}
use Rattle.tx_meaning.specs.Limits.{Setting}
use Rattle.tx_meaning.specs.Meaning.{IsSetting, meaning, meaning_from}
use Rattle.tx_meaning.specs.State.{State, beginning, attempt_of, cpus_of}
use Rattle.tx_meaning.specs.Turn.{Turned, happen}
use Rattle.tx_keeping.specs.Kept.{Kept, kept_beginning, kept_flat, kept_footprint}
use Rattle.tx_keeping.specs.Keeping.{keeping, keeping_from, IsHeld}
use Rattle.tx_keeping.specs.Turn.{k_happen}
use Rattle.tx_meaning.specs.Views.{AreKnown, GoesOnWith, IsSameView, KeepsViews, HoldsTouched}
use Rattle.tx_keeping.specs.Told.{turned_of}
use Rattle.tx_keeping.proofs.Truth.{TrueAt, Truth, attempt_is, footprint_is}
use Rattle.bit_set.proofs.Counts.{count_none}
use Rattle.std.proofs.Common.{arith}
use Rattle.line_table.specs.Sizes.{storage_lines}
use Rattle.tx_keeping.proofs.Room.{AllWithin}
use Rattle.tx_keeping.proofs.Holding.{Holds}
use Rattle.tx_keeping.proofs.Moves.{IsGood}
use Rattle.tx_keeping.proofs.Asking.{Keeps, Grows, grows_not, grows_then}
use Rattle.tx_keeping.proofs.Turning.{happen_ok, own_stays}

-- ---- the start

begins_followed : (m : Setting) (i : ℕ)
    → IsFollowed (kept_flat m (kept_beginning m)) i ((kept_beginning m).locals i)
unfolding kept_beginning run progress_of
begins_followed m i = record {
  cpu = refl;
  pending = refl;
  waiting = refl;
  attempt = refl;
  opens = refl;
  acts = λ live. absurd (let x : false ≡ true = live in cc);
}

begins_true : (m : Setting) (i : ℕ) → TrueAt m (kept_beginning m) i
unfolding kept_beginning hits_from
begins_true m i = record {
  count = refl;
  followed = begins_followed m i;
  parms = refl;
  aborts = refl;
  kind = λ live. absurd (let x : false ≡ true = live in cc);
  given = refl;
  refused = refl;
}

begins_replayed : (m : Setting)
    → replay m.image (kept_beginning m).state.history ≡ Some (kept_flat m (kept_beginning m))
unfolding kept_beginning replay_from start_of
begins_replayed m = refl

begins_held : (m : Setting)
    → Holds (cpus_of m) (kept_beginning m).state.held (kept_footprint (kept_beginning m))
unfolding kept_beginning
begins_held m = record {
  alone = λ i other line e ne. refl;
  stored = λ i line e. absurd (let x : false ≡ true = e in cc);
  fetched = λ i line e. absurd (let x : false ≡ true = e in cc);
  known = λ i line far. refl;
}

pub begins_good : (m : Setting) → IsGood m (kept_beginning m)
begins_good m = record {
  truth = record { replayed = begins_replayed m; each = begins_true m };
  holds = begins_held m;
}

begins_state : (m : Setting) → (kept_beginning m).state ≡ beginning
unfolding kept_beginning
begins_state m = refl

-- ---- over events

pub record EventsOk (m : Setting) (k after : Kept) (s : State) : Type 0 where
  pub is : s ≡ after.state
  pub good : IsGood m after
  pub grows : Grows k after
  pub within : AllWithin k.state.held → AllWithin after.state.held

module _ (m : Setting) (s : IsSetting m) where
  pub events_ok : (events : List Event) (k : Kept) → IsGood m k → AreKnown m events
      → EventsOk m k (keeping_from m events k) (meaning_from m events k.state)
  unfolding meaning_from keeping_from
  events_ok [] k g known = record { is = refl; good = g; grows = grows_not k k refl; within = λ most. most }
  events_ok (e ∷ rest) k g known =
      let one = happen_ok m s e k g (All-head (λ e. cpu_of_event e < cpus_of m) e rest known) in
      let next = (k_happen m e k).kept in
      let all = events_ok rest next one.good (All-tail (λ e. cpu_of_event e < cpus_of m) e rest known) in
      record {
        is = ap (λ (t : Turned). meaning_from m rest t.state) one.is ∙ all.is;
        good = all.good;
        grows = grows_then k next (keeping_from m rest next) one.grows all.grows;
        within = λ most. all.within (one.within most);
      }

  whole : (events : List Event) → AreKnown m events
      → EventsOk m (kept_beginning m) (keeping m events) (meaning m events)
  whole events known =
      subst (λ t. EventsOk m (kept_beginning m) (keeping m events) (meaning_from m events t)) (begins_state m)
      (events_ok events (kept_beginning m) (begins_good m) known)

  pub keeping_is : (events : List Event) → AreKnown m events → meaning m events ≡ (keeping m events).state
  keeping_is events known = (whole events known).is

  pub keeping_good : (events : List Event) → AreKnown m events → IsGood m (keeping m events)
  keeping_good events known = (whole events known).good

  pub happens_alike : (events : List Event) (e : Event) → AreKnown m events → cpu_of_event e < cpus_of m
      → happen m e (meaning m events) ≡ turned_of (k_happen m e (keeping m events))
  happens_alike events e known within =
      ap (happen m e) (keeping_is events known)
      ∙ (happen_ok m s e (keeping m events) (keeping_good events known) within).is

  pub legal : (events : List Event) → AreKnown m events → IsLegal m.image (meaning m events).history
  legal events known = record {
    after = kept_flat m (keeping m events);
    replayed = ap (λ (s : State). replay m.image s.history) (keeping_is events known)
        ∙ (keeping_good events known).truth.replayed;
  }

  meaning_parts : (events more : List Event) (t : State)
      → meaning_from m (events ++ more) t ≡ meaning_from m more (meaning_from m events t)
  unfolding meaning_from
  meaning_parts [] more t = refl
  meaning_parts (e ∷ rest) more t = meaning_parts rest more (happen m e t).state

  pub grows_only : (events more : List Event) → AreKnown m events → AreKnown m more
      → GoesOnWith (meaning m events).history (meaning m (events ++ more)).history
  grows_only events more known also =
      let k = keeping m events in
      let e = keeping_is events known in
      let r = events_ok more k (keeping_good events known) also in
      record {
        more = r.grows.0;
        is = ap (λ (t : State). t.history ++ r.grows.0) e ∙ r.grows.1
            ∙ sym (ap (λ (t : State). t.history)
            (meaning_parts events more beginning ∙ ap (meaning_from m more) e ∙ r.is));
      }

  -- ---- what live attempts see

  copy_at : (f g : FlatState) (i n k : ℕ) (a : ℕ) → track_of (run g i k) ≡ track_of (run f i n)
      → g.storage a ≡ f.storage a → (run g i k).copy a ≡ (run f i n).copy a
  copy_at f g i n k a same e =
      ap (λ (s : Storage). s a) (run_copy g i k)
      ∙ ap (λ (t : Track). laid_over g.storage t.stores a) same
      ∙ laid_alike (run f i n).stores f.storage g.storage a e
      ∙ sym (ap (λ (s : Storage). s a) (run_copy f i n))

  view_kept : (k after : Kept) (i : ℕ) → Truth m k → Truth m after → Keeps k after i
      → IsSameView (attempt_of m k.state i) (attempt_of m after.state i)
  view_kept k after i t u keeps =
      let f = kept_flat m k in
      let g = kept_flat m after in
      let n = (k.locals i).attempt.count in
      let stays = own_stays m s k after i t u keeps in
      let same : run g i (after.locals i).attempt.count ≡ run g i n =
      ap (λ (l : Local). run g i l.attempt.count) keeps.local in
      let view : IsSameView (run f i n) (run g i n) = record {
        shows = stays.track;
        bytes = λ a is. copy_at f g i n n a stays.track (keeps.bytes a
            (ap (λ (sets : Sets). sets.fetched (a / line_size) || sets.stored (a / line_size))
            (sym (footprint_is m k t i) ∙ ap footprint (attempt_is m k t i)) ∙ is));
      } in
      subst (λ p. IsSameView p (attempt_of m after.state i)) (sym (attempt_is m k t i))
      (subst (IsSameView (run f i n)) (sym (attempt_is m after u i ∙ same)) view)

  pub views_kept : (events : List Event) (e : Event) → AreKnown m events → cpu_of_event e < cpus_of m
      → KeepsViews m (meaning m events) (happen m e (meaning m events)).state
  views_kept events e known within =
      let k = keeping m events in
      let g = keeping_good events known in
      let one = happen_ok m s e k g within in
      let after = (k_happen m e k).kept in
      let kept : KeepsViews m k.state after.state = λ i live same.
      view_kept k after i g.truth one.good.truth (one.keeps i live same) in
      subst (λ t. KeepsViews m t (happen m e t).state) (sym (keeping_is events known))
      (subst (λ (t : Turned). KeepsViews m k.state t.state) (sym one.is) kept)

  -- ---- what is held

  begins_within : AllWithin (kept_beginning m).state.held
  unfolding kept_beginning
  begins_within cpu = let none = count_none storage_lines (λ line. false) (λ k lt. refl) in omega (arith, none)

  pub held_so : (events : List Event) → AreKnown m events → IsHeld m (keeping m events)
  held_so events known =
      let g = keeping_good events known in
      record {
        sound = record { alone = g.holds.alone; within = (whole events known).within begins_within };
        stored = g.holds.stored;
        fetched = g.holds.fetched;
        known = g.holds.known;
      }

  holds_by : (k : Kept) → Truth m k → IsHeld m k → HoldsTouched m k.state
  holds_by k t h = record {
    sound = h.sound;
    stored = λ i line is. h.stored i line
        (ap (λ (sets : Sets). sets.stored line) (sym (footprint_is m k t i)) ∙ is);
    fetched = λ i line is. h.fetched i line
        (ap (λ (sets : Sets). sets.fetched line) (sym (footprint_is m k t i)) ∙ is);
  }

  pub touched_held : (events : List Event) → AreKnown m events → HoldsTouched m (meaning m events)
  touched_held events known =
      subst (HoldsTouched m) (sym (keeping_is events known))
      (holds_by (keeping m events) (keeping_good events known).truth (held_so events known))

-- events in two parts
pub in_parts : (m : Setting) (events more : List Event) (k : Kept)
    → keeping_from m (events ++ more) k ≡ keeping_from m more (keeping_from m events k)
unfolding keeping_from
in_parts m [] more k = refl
in_parts m (e ∷ rest) more k = in_parts m rest more (k_happen m e k).kept
