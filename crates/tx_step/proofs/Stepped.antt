-- Steps over events.
use Rattle.std.proofs.Common.{◌≡◌, ℕ, ◌+◌, ◌<◌, ◌≤◌, List, [], ◌∷◌, ◌++◌, length, get_or, sym, ap}
use Rattle.std.proofs.Common.{subst, ◌∙◌, arith, length-append, append-nil}
use Rattle.std.proofs.lemmas.Bool.{cases_lt}
use Rattle.std.proofs.lemmas.List.{take-append-le, take_all, get_or_push, get_or_append_left}
use borrow.Enum.Arm.{by_way}
use Rattle.tx_journal.specs.declared.events.Event.{Event}
use Rattle.tx_journal.specs.Content.{Content}
use Rattle.tx_meaning.specs.Limits.{Setting, RunLimits}
use Rattle.tx_meaning.specs.Meaning.{meaning}
use Rattle.tx_meaning.specs.State.{State, flat_of, flat_where}
use Rattle.tx_meaning.specs.Views.{GoesOnWith}
use Rattle.tx_serial.specs.Flat.{FlatState}
use Rattle.tx_serial.specs.History.{replay}
use Rattle.tx_machine.specs.Machine.{Seen, setting_of, state_of, event_of, after, opened}
use Rattle.step_changes.specs.Seen.{Sight, words_of}
use Rattle.step_changes.specs.Steps.{forward_by, back_by}
use Rattle.step_changes.specs.declared.view.Step.{Step}
use Rattle.step_changes.proofs.Listed.{cpus_size, words_size}
use Rattle.tx_step.specs.Sights.{shown_of, sight_of}
use Rattle.tx_step.specs.Traces.{IsTraced, IsStepAt, AreSteps, sight_behind}

-- what is shown behind some events is shown behind them where more events follow
pub sight_before : (m : Setting) (events rest : List Event) (p : ℕ) → p ≤ length events
    → sight_behind m (events ++ rest) p ≡ sight_behind m events p
sight_before m events rest p within = ap (λ l. sight_of m (meaning m l)) (take-append-le p events rest within)

-- what is shown behind all of them
pub sight_all : (m : Setting) (events : List Event) (p : ℕ) → length events ≤ p
    → sight_behind m events p ≡ sight_of m (meaning m events)
sight_all m events p all = ap (λ l. sight_of m (meaning m l)) (take_all p events all)

step_before : (m : Setting) (events rest : List Event) (p : ℕ) (s : Step) → p < length events
    → IsStepAt m events p s → IsStepAt m (events ++ rest) p s
step_before m events rest p s within is =
    let here = sight_before m events rest p (omega arith) in
    let next = sight_before m events rest (p + 1) (omega arith) in
    record {
      forward = ap (forward_by s) here ∙ is.forward ∙ sym next;
      back = ap (back_by s) next ∙ is.back ∙ sym here;
    }

-- one event more, and its step
steps_more : (m : Setting) (events : List Event) (e : Event) (steps : List Step) (step : Step)
    → length steps ≡ length events → AreSteps m events steps
    → IsStepAt m (events ++ e ∷ []) (length steps) step
    → AreSteps m (events ++ e ∷ []) (steps ++ step ∷ [])
steps_more m events e steps step count lead last p s low is =
    let size = length-append steps (step ∷ []) in
    by_way (cases_lt p (length steps))
    (λ old. step_before m events (e ∷ []) p s (omega arith)
    (lead p s old (sym (get_or_append_left steps (step ∷ []) s p old) ∙ is)))
    (λ new.
    let here : length steps ≡ p = omega arith in
    let same : step ≡ s = sym (get_or_push steps step s p here) ∙ is in
    subst (λ q. IsStepAt m (events ++ e ∷ []) q s) here
    (subst (λ (t : Step). IsStepAt m (events ++ e ∷ []) (length steps) t) same last))

-- what is shown at the end is what the machine shows
pub shown_now : (machine : Seen) (sight : Sight) (steps : List Step) → IsTraced machine sight steps (length steps)
    → sight ≡ sight_of (setting_of machine) (state_of machine)
shown_now machine sight steps t =
    let count = t.count in
    t.shown ∙ sight_all (setting_of machine) machine.events (length steps) (omega arith)

-- ---- histories that do not grow

none_more : {A : Type 0} (xs ys : List A) → length (xs ++ ys) ≡ length xs → xs ++ ys ≡ xs
none_more xs [] e = append-nil xs
none_more xs (y ∷ ys) e = let size = length-append xs (y ∷ ys) in absurd (omega arith)

same_flat : (m : Setting) (s t : State) → s.history ≡ t.history → flat_of m s ≡ flat_of m t
unfolding flat_of
same_flat m s t e = ap (λ h. flat_where m (replay m.image h)) e

-- where the history is as long as before, storage is as before
pub same_storage : (before next : Seen) (e : Event) (sight : Sight) (steps : List Step)
    → IsTraced before sight steps (length steps) → next ≡ after before e
    → GoesOnWith (state_of before).history (state_of next).history
    → sight.entries ≡ length (state_of next).history
    → sight.words ≡ words_of (flat_of (setting_of next) (state_of next)).storage
same_storage before next e sight steps t is grows size =
    let now = shown_now before sight steps t in
    let old = (state_of before).history in
    let long : length (old ++ grows.more) ≡ length old =
    ap length grows.is ∙ sym size ∙ ap (λ (v : Sight). v.entries) now in
    let history : old ≡ (state_of next).history = sym (none_more old grows.more long) ∙ grows.is in
    ap (λ (v : Sight). v.words) now
    ∙ ap (λ (f : FlatState). words_of f.storage)
    (same_flat (setting_of before) (state_of before) (state_of next) history
    ∙ ap (λ m. flat_of m (state_of next)) (sym (ap setting_of is)))

pub same_cpus : (before next : Seen) (e : Event) (sight : Sight) (steps : List Step)
    → IsTraced before sight steps (length steps) → next ≡ after before e
    → length sight.cpus ≡ length next.image.cpus
same_cpus before next e sight steps t is =
    ap (λ (v : Sight). length v.cpus) (shown_now before sight steps t)
    ∙ cpus_size (shown_of (setting_of before) (state_of before))
    ∙ sym (ap (λ (s : Seen). length s.image.cpus) is)

pub full_words : (before : Seen) (sight : Sight) (steps : List Step) → IsTraced before sight steps (length steps)
    → length sight.words ≡ 131072
full_words before sight steps t =
    ap (λ (v : Sight). length v.words) (shown_now before sight steps t)
    ∙ words_size (flat_of (setting_of before) (state_of before)).storage

-- nothing has happened yet, and there is no step
pub begins_traced : (image : Content) (limits : RunLimits) (machine : Seen) (sight : Sight) (steps : List Step)
    → machine ≡ opened image limits → sight ≡ sight_of (setting_of machine) (state_of machine) → steps ≡ []
    → IsTraced machine sight steps (length steps)
begins_traced image limits machine sight steps is shown none =
    let no_steps : length steps ≡ 0 = ap length none in
    let no_events : length machine.events ≡ 0 = ap (λ (s : Seen). length s.events) is in
    record {
      count = no_steps ∙ sym no_events;
      lead = λ p s low at. absurd (omega (arith, no_steps, low));
      within = omega arith;
      shown = shown ∙ sym (sight_all (setting_of machine) machine.events (length steps) (omega arith));
    }

-- an event that is not recorded
pub follows_idle : (before next : Seen) (e : Event) (sight : Sight) (steps : List Step)
    → next ≡ after before e → (event_of before e).state.events ≡ before.events
    → IsTraced before sight steps (length steps) → IsTraced next sight steps (length steps)
follows_idle before next e sight steps is same t =
    subst (λ (s : Seen). IsTraced s sight steps (length steps)) (sym is) record {
      count = t.count ∙ ap length (sym same);
      lead = subst (λ events. AreSteps (setting_of before) events steps) (sym same) t.lead;
      within = t.within;
      shown = t.shown ∙ ap (λ events. sight_behind (setting_of before) events (length steps)) (sym same);
    }

-- one that is, where what is shown behind it is known
module _ (before : Seen) (e : Event) (sight next_sight : Sight) (steps : List Step) (step : Step) where
  more_by : (m : Setting) (events : List Event) → length steps ≡ length events
      → AreSteps m events steps → sight ≡ sight_behind m events (length steps)
      → next_sight ≡ sight_of m (meaning m (events ++ e ∷ []))
      → forward_by step sight ≡ next_sight → back_by step next_sight ≡ sight
      → IsStepAt m (events ++ e ∷ []) (length steps) step
  more_by m events count lead shown next forward back =
      let size = length-append events (e ∷ []) in
      let here : sight ≡ sight_behind m (events ++ e ∷ []) (length steps) =
      shown ∙ sym (sight_before m events (e ∷ []) (length steps) (omega arith)) in
      let there : next_sight ≡ sight_behind m (events ++ e ∷ []) (length steps + 1) =
      next ∙ sym (sight_all m (events ++ e ∷ []) (length steps + 1) (omega arith)) in
      record {
        forward = ap (forward_by step) (sym here) ∙ forward ∙ there;
        back = ap (back_by step) (sym there) ∙ back ∙ here;
      }

  pub follows_more : (next : Seen) (next_steps : List Step) → next ≡ after before e
      → (event_of before e).state.events ≡ before.events ++ e ∷ []
      → next_steps ≡ steps ++ step ∷ []
      → IsTraced before sight steps (length steps)
      → next_sight ≡ sight_of (setting_of next) (state_of next)
      → forward_by step sight ≡ next_sight → back_by step next_sight ≡ sight
      → IsTraced next next_sight next_steps (length next_steps)
  follows_more next next_steps is recorded added t shown forward back =
      let m = setting_of before in
      let events = before.events ++ e ∷ [] in
      let setting : setting_of next ≡ m = ap setting_of is in
      let told : next.events ≡ events = ap (λ (s : Seen). s.events) is ∙ recorded in
      let state : state_of next ≡ meaning m events =
      ap (λ n. meaning n next.events) setting ∙ ap (meaning m) told in
      let sight_is : next_sight ≡ sight_of m (meaning m events) =
      shown ∙ ap (λ n. sight_of n (state_of next)) setting ∙ ap (sight_of m) state in
      let step_is = more_by m before.events t.count t.lead t.shown sight_is forward back in
      let more_events = length-append before.events (e ∷ []) in
      let more_steps = length-append steps (step ∷ []) in
      let count : length (steps ++ step ∷ []) ≡ length events = let c = t.count in omega arith in
      subst (λ l. IsTraced next next_sight l (length l)) (sym added) record {
        count = count ∙ ap length (sym told);
        lead =
            subst (λ n. AreSteps n next.events (steps ++ step ∷ [])) (sym setting)
            (subst (λ l. AreSteps m l (steps ++ step ∷ [])) (sym told)
            (steps_more m before.events e steps step t.count t.lead step_is));
        within = omega arith;
        shown =
            sight_is ∙ sym (sight_all m events (length (steps ++ step ∷ [])) (omega (arith, count)))
            ∙ ap (λ l. sight_behind m l (length (steps ++ step ∷ []))) (sym told)
            ∙ ap (λ n. sight_behind n next.events (length (steps ++ step ∷ []))) (sym setting);
      }

-- ---- moves

-- over the next event
pub goes_forward : (machine : Seen) (sight next : Sight) (steps : List Step) (step : Step) (p : ℕ)
    → IsTraced machine sight steps p → p < length steps → step ≡ get_or steps p step
    → next ≡ forward_by step sight → IsTraced machine next steps (p + 1)
goes_forward machine sight next steps step p t within is made = record {
  count = t.count;
  lead = t.lead;
  within = omega arith;
  shown = made ∙ ap (forward_by step) t.shown ∙ (t.lead p step within (sym is)).forward;
}

-- over the event before, back
pub goes_back : (machine : Seen) (sight next : Sight) (steps : List Step) (step : Step) (p q : ℕ)
    → IsTraced machine sight steps q → q ≡ p + 1 → step ≡ get_or steps p step
    → next ≡ back_by step sight → IsTraced machine next steps p
goes_back machine sight next steps step p q t last is made =
    let inside = t.within in
    let within : p < length steps = omega arith in
    record {
      count = t.count;
      lead = t.lead;
      within = omega arith;
      shown =
          made ∙ ap (back_by step) (t.shown ∙ ap (sight_behind (setting_of machine) machine.events) last)
          ∙ (t.lead p step within (sym is)).back;
    }
