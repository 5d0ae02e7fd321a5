-- What one event more makes of what a machine stands for.
use Rattle.std.proofs.Common.{◌≡◌, ℕ, ◌+◌, ◌<◌, [], ◌∷◌, ◌++◌, sym, ap, ◌∙◌, subst, arith}
use Rattle.std.specs.Prelude.{All, cond, count_by}
use Rattle.std.proofs.lemmas.List.Elements.{All-push}
use Rattle.std.proofs.lemmas.List.Sums.{sum_by_push}
use borrow.Enum.Arm.{by_way}
use Rattle.tx_journal.specs.Image.{cpu_of_event}
use Rattle.tx_journal.specs.declared.events.Event.{Event}
use Rattle.tx_journal.specs.declared.events.Event.TheVariants as event
use Rattle.tx_meaning.specs.Limits.{Setting}
use Rattle.tx_meaning.specs.Meaning.{is_external, meaning}
use Rattle.tx_meaning.specs.Turn.{happen}
use Rattle.tx_home.specs.Told.{turned_of}
use Rattle.tx_home.proofs.Events.{happens_alike}
use Rattle.tx_meaning.specs.State.{cpus_of}
use Rattle.tx_home.specs.Kept.{Kept}
use Rattle.tx_home.specs.Keeping.{keeping}
use Rattle.tx_home.specs.Turn.{k_happen}
use Rattle.tx_home.specs.Works.{Works, IsSameSize, kept_by}
use Rattle.tx_machine.specs.Machine.{Stands, IsLeft, nobody}
use Rattle.tx_machine.proofs.Shown.{keeping_more, recorded, recorded_or_idle}

abbrev if_external : Event → ℕ
if_external e = cond (is_external e) 1 0

module _ (m : Setting) (w later : Works) (left after : ℕ) (s : Stands m w left) (e : Event)
    (within : cpu_of_event e < cpus_of m) (size : IsSameSize w later)
    (is : kept_by (nobody m) later ≡ (k_happen m e (kept_by (nobody m) w)).kept) where
  happens : kept_by (nobody m) later ≡ (k_happen m e (keeping m w.events)).kept
  happens = is ∙ ap (λ (k : Kept). (k_happen m e k).kept) s.kept

  own_events : (keeping m w.events).state.events ≡ w.events
  own_events = ap (λ (k : Kept). k.state.events) (sym s.kept)

  idle : (k_happen m e (keeping m w.events)).kept ≡ keeping m w.events → left ≡ after → Stands m later after
  idle same none =
      let kept = happens ∙ same in
      let events : later.events ≡ w.events = ap (λ (k : Kept). k.state.events) kept ∙ own_events in
      record {
        setting = s.setting;
        events = record {
          known = subst (All (λ x. cpu_of_event x < cpus_of m)) (sym events) s.events.known;
          externals = omega (arith, ap (count_by is_external) events, s.events.externals);
        };
        kept = kept ∙ ap (keeping m) (sym events);
        cpus = size.cpus ∙ s.cpus;
        externals = omega (arith, ap (count_by is_external) events, s.externals, none);
        room = omega (arith, size.room, s.room);
        events_room = omega (arith, size.events_room, s.events_room);
      }

  grown : (k_happen m e (keeping m w.events)).kept.state.events ≡ (keeping m w.events).state.events ++ e ∷ []
      → left ≡ after + if_external e → Stands m later after
  grown more one =
      let events : later.events ≡ w.events ++ e ∷ [] =
      ap (λ (k : Kept). k.state.events) happens ∙ more ∙ ap (λ es. es ++ e ∷ []) own_events in
      let count : count_by is_external later.events ≡ count_by is_external w.events + if_external e =
      ap (count_by is_external) events ∙ sum_by_push if_external w.events e in
      record {
        setting = s.setting;
        events = record {
          known = subst (All (λ x. cpu_of_event x < cpus_of m)) (sym events)
              (All-push (λ x. cpu_of_event x < cpus_of m) w.events e s.events.known within);
          externals = omega (arith, count, s.externals, one);
        };
        kept = happens ∙ sym (keeping_more m w.events e) ∙ ap (keeping m) (sym events);
        cpus = size.cpus ∙ s.cpus;
        externals = omega (arith, count, s.externals, one);
        room = omega (arith, size.room, s.room);
        events_room = omega (arith, size.events_room, s.events_room);
      }

pub stands_after : (m : Setting) (w later : Works) (left after : ℕ) → Stands m w left → (e : Event)
    → cpu_of_event e < cpus_of m → IsSameSize w later
    → kept_by (nobody m) later ≡ (k_happen m e (kept_by (nobody m) w)).kept → IsLeft e left after
    → Stands m later after
stands_after m w later left after s (event.Turn i) within size is one =
    let e = event.Turn i in
    by_way (recorded_or_idle m s.setting w.events s.events.known e within)
    (λ same. idle m w later left after s e within size is same one)
    (λ more. let plain : left ≡ after + 0 = omega (arith, one) in
    grown m w later left after s e within size is more plain)
stands_after m w later left after s (event.External i) within size is one =
    let e = event.External i in
    grown m w later left after s e within size is (recorded m s.setting w.events s.events.known e within tt) one

-- what comes of the event, as it means
pub tells : (m : Setting) (w : Works) (left : ℕ) → Stands m w left → (e : Event) → cpu_of_event e < cpus_of m
    → turned_of (k_happen m e (kept_by (nobody m) w)) ≡ happen m e (meaning m w.events)
tells m w left s e within =
    ap (λ (k : Kept). turned_of (k_happen m e k)) s.kept
    ∙ sym (happens_alike m s.setting w.events e s.events.known within)
