-- A constrained transaction that nothing interrupts commits within its bound.
use Rattle.std.proofs.Common.{◌≡◌, ℕ, ◌+◌, ◌≤◌, true, false, List, [], ◌∷◌, ◌++◌}
use Rattle.std.proofs.Common.{length, drop, refl, sym, ap, ◌∙◌, subst, arith, inl, inr, append_assoc}
use Rattle.std.proofs.Common.{append-nil, None}
use Rattle.std.specs.Prelude.{◌⊎◌, ◌&&◌, is_none, count_by}
use Rattle.std.specs.List.{list_any}
use Rattle.std.proofs.lemmas.Bool.{true≢false, cases_Bool, or_parts, eqb-true, eq-eqb}
use Rattle.std.proofs.lemmas.List.Folds.{list_any-append}
use borrow.Enum.Arm.{by_way}
use Rattle.tx_journal.specs.declared.entries.Entry.{Entry}
use Rattle.tx_journal.specs.declared.entries.Entry.TheVariants.{Step, Commit, Abort, Tdb, Interrupt}
use Rattle.tx_journal.specs.declared.events.Event.{Event}
use Rattle.tx_journal.specs.declared.events.Event.TheVariants as event
use Rattle.tx_meaning.specs.Limits.{Setting}
use Rattle.tx_meaning.specs.Meaning.{IsSetting, meaning}
use Rattle.tx_meaning.specs.State.{State}
use Rattle.tx_meaning.specs.Stretches.{Stretch, stretch_of, stretch_after, counted, attempt_turns}
use Rattle.tx_meaning.specs.Stretches.{is_counted_turn}
use Rattle.tx_meaning.specs.Stretches.{is_interrupted_by, ends_transaction, is_end_of, bound}
use Rattle.tx_meaning.specs.Stretches.{new_entries}
use Rattle.tx_meaning.specs.Turn.{happen}
use Rattle.tx_bounds.specs.Kept.{Kept}
use Rattle.tx_bounds.specs.Keeping.{keeping}
use Rattle.tx_bounds.specs.Turn.{k_happen, k_idle}
use Rattle.tx_meaning.specs.Views.{AreKnown}
use Rattle.tx_bounds.proofs.Events.{keeping_is, keeping_good, grows_only}
use Rattle.tx_bounds.proofs.Turning.{idle_is}
use Rattle.tx_bounds.proofs.Stopped.{between, some_stop}
use Rattle.tx_bounds.proofs.OwnEvents.{extra}
use Rattle.tx_bounds.proofs.Stretched.{cost_of, held_over, some_starve, closes_at_an_end, ages_below}
use Rattle.tx_headline.specs.Since.{Opens, IsUninterrupted, CommitsAfter, entries_since, turns_after}
use Rattle.tx_headline.specs.Since.{is_conflict_abort_of, is_other_abort_of, is_program_abort_of}
use Rattle.tx_headline.proofs.Lists.{dropped, behind_part, any_behind}
use Rattle.tx_headline.proofs.Runs.{meant_more, kept_more, stretched_more}
use Rattle.tx_headline.proofs.Ages.{is_opened, is_longer, going_on}
use Rattle.tx_headline.proofs.Outside.{later_uninterrupted, not_interrupted}
use Rattle.tx_headline.proofs.Tally.{Plain, plain_of, Tally, Ended, Spends, event_tally}
use Rattle.tx_headline.proofs.After.{known_first, known_later, known_moved, kept_before, left_behind}

module _ (m : Setting) (s : IsSetting m) (c : ℕ) (before : List Entry) (start : ℕ) where
  abbrev stop : ℕ
  stop = m.image.parms.stop

  -- The transaction goes on: its counted turns since the start are its age, nothing from outside has come to
  -- it, and no entry has ended it.
  pub record Since (events : List Event) : Type 0 where
    pub open_now : (stretch_of m events c).is_open ≡ true
    pub aged : (stretch_of m events c).age + start ≡ turns_after m events c
    pub calm : (stretch_of m events c).externals ≡ 0
    pub tally : Tally c before (keeping m events)

  -- it has ended, and perhaps more entries follow
  pub record EndedIn (now : List Entry) : Type 0 where
    pub up_to : List Entry
    pub ended : Ended stop c before up_to
    pub later : List Entry
    pub is : up_to ++ later ≡ now

  -- ---- one event

  no_end_in : (k t : Kept) → Plain c before k → Plain c before t → ends_transaction k.state t.state c ≡ true
      → ⊥
  no_end_in k t n u is =
      let part : new_entries k.state t.state ≡ drop (length n.entries) u.entries =
      (λ x. drop (length (n.is x)) (u.is x)) ∙ behind_part before n.entries u.entries in
      true≢false (sym (any_behind (is_end_of c) (length n.entries) u.entries
      (sym (ap (list_any (is_end_of c)) part) ∙ is)) ∙ u.none)

  module _ (events : List Event) (e : Event) (known : AreKnown m (events ++ e ∷ []))
      (apart : is_interrupted_by m (meaning m events) e c ≡ false) where
    abbrev k : Kept
    k = keeping m events

    abbrev t : Kept
    t = keeping m (events ++ e ∷ [])

    first_known : AreKnown m events
    first_known = known_first m events (e ∷ []) known

    abbrev now : Stretch
    now = stretch_after m (meaning m events) e c (stretch_of m events c)

    -- the stretch is still open, since no entry ended the transaction
    still_open : Since events → Tally c before t → now.is_open ≡ true
    still_open so u =
        by_way (cases_Bool now.is_open) (λ is. is)
        (λ shut.
        let ended = closes_at_an_end m events e c so.open_now shut in
        let there : (happen m e (meaning m events)).state ≡ t.state =
        sym (meant_more m events e) ∙ keeping_is m s (events ++ e ∷ []) known in
        let same : ends_transaction (meaning m events) (happen m e (meaning m events)).state c
        ≡ ends_transaction k.state t.state c =
        (λ x. ends_transaction (keeping_is m s events first_known x) (there x) c) in
        absurd (no_end_in k t (plain_of so.tally) (plain_of u) (sym same ∙ ended)))

    goes_on : Since events → Tally c before t → Since (events ++ e ∷ [])
    goes_on so u =
        let is = still_open so u in
        let stretch = stretch_of m events c in
        let next = stretched_more m events e c in
        let longer = is_longer m (meaning m events) e c stretch is so.open_now in
        let turns = going_on m (meaning m events) e c stretch is so.open_now in
        let after : turns_after m (events ++ e ∷ []) c
        ≡ ((happen m e (meaning m events)).state.numbers c).turns =
        ap (λ (x : State). (x.numbers c).turns) (meant_more m events e) in
        let age : (stretch_of m (events ++ e ∷ []) c).age ≡ now.age = ap (λ (x : Stretch). x.age) next in
        let none : now.externals ≡ stretch.externals + counted (is_interrupted_by m (meaning m events) e c) =
        ap (λ (x : Stretch). x.externals) longer in
        let off : counted (is_interrupted_by m (meaning m events) e c) ≡ 0 = ap counted apart in
        let externals : (stretch_of m (events ++ e ∷ []) c).externals ≡ now.externals =
        ap (λ (x : Stretch). x.externals) next in
        let aged = so.aged in
        let calm = so.calm in
        record {
          open_now = ap (λ (x : Stretch). x.is_open) next ∙ is;
          aged = omega (arith, turns, after, age, aged);
          calm = omega (arith, none, off, externals, calm);
          tally = u;
        }

    -- a counted turn that nothing interrupts leaves less to the transaction
    spends_not : Since events → Spends m c before e k → ⊥
    spends_not so p =
        let busy = so.open_now in
        let after = left_behind m s events e known c in
        by_way (after.ends busy)
        (λ ended. no_end_in k (k_happen m e k).kept (plain_of so.tally) p.plain ended)
        (λ goes.
        let paid = goes.paid in
        let here = kept_before m s events e known in
        let none : extra (is_interrupted_by m k.state e c) (attempt_turns m.image.parms) ≡ 0 =
        ap (λ (x : State). extra (is_interrupted_by m x e c) (attempt_turns m.image.parms)) (sym here)
        ∙ ap (λ b. extra b (attempt_turns m.image.parms)) apart in
        let one : cost_of m k e c ≡ 1 = ap counted (its_turn e p.turn p.ready) in
        let less = p.less in
        absurd (omega (arith, paid, none, one, less)))
      where
        its_turn : (x : Event) → x ≡ event.Turn c → k_idle m k c ≡ None → is_counted_turn m k.state x c ≡ true
        its_turn x turn ready =
            ap (λ (y : Event). is_counted_turn m k.state y c) turn
            ∙ (λ y.
            eq-eqb c c refl y && is_none (idle_is m s c k (keeping_good m s events first_known).truth y))
            ∙ ap is_none ready

    next_event : Since events → Since (events ++ e ∷ [])
        ⊎ Ended stop c before (meaning m (events ++ e ∷ [])).history
    next_event so =
        let over = held_over m s c (some_starve m s) events first_known in
        let low = (between m events (some_stop m s)).is.counted.few c in
        let more = kept_more m events e in
        let off : is_interrupted_by m k.state e c ≡ false =
        ap (λ (x : State). is_interrupted_by m x e c) (sym (kept_before m s events e known)) ∙ apart in
        by_way (event_tally m c before e k so.tally (over.holds.amid so.open_now).kind low off)
        (λ u. inl (goes_on so (subst (Tally c before) (sym more) u)))
        (λ rest.
        by_way rest
        (λ ended.
        inr (subst (Ended stop c before)
        (ap (λ (x : Kept). x.state.history) (sym more)
        ∙ ap (λ (x : State). x.history) (sym (keeping_is m s (events ++ e ∷ []) known))) ended))
        (λ spends. absurd (spends_not so spends)))

  -- ---- all events

  abbrev Either : List Event → Type 0
  Either events = Since events ⊎ EndedIn (meaning m events).history

  ended_then : (events rest : List Event) → AreKnown m events → AreKnown m rest
      → Ended stop c before (meaning m events).history → EndedIn (meaning m (events ++ rest)).history
  ended_then events rest known also ended =
      let grown = grows_only m s events rest known also in
      record { up_to = (meaning m events).history; ended = ended; later = grown.more; is = grown.is }

  pub all_events : (events rest : List Event) → AreKnown m (events ++ rest) → IsUninterrupted m events rest c
      → Since events → Either (events ++ rest)
  all_events events [] known u so = subst Either (sym (append-nil events)) (inl so)
  all_events events (e ∷ rest) known u so =
      let moved = known_moved m events e rest known in
      let first = known_first m (events ++ e ∷ []) rest moved in
      subst Either (append_assoc events (e ∷ []) rest)
      (by_way (next_event events e first (not_interrupted m c events e rest u) so)
      (λ on. all_events (events ++ e ∷ []) rest moved (later_uninterrupted m c events e rest u) on)
      (λ ended.
      inr (ended_then (events ++ e ∷ []) rest first (known_later m (events ++ e ∷ []) rest moved) ended)))

-- ---- the commit

-- an end that is no program interruption is a commit
is_commit : (c : ℕ) (e : Entry) → is_end_of c e ≡ true → is_program_abort_of c e ≡ false
    → (n : ℕ) × (e ≡ Commit c n)
is_commit c (Commit j n) ends off = (n, ap (λ x. Commit x n) (eqb-true j c ends))
is_commit c (Abort j n w) ends off = absurd (true≢false (sym ends ∙ off))
is_commit c (Step j) ends off = let n : false ≡ true = ends in cc
is_commit c (Tdb j) ends off = let n : false ≡ true = ends in cc
is_commit c (Interrupt j) ends off = let n : false ≡ true = ends in cc

regrouped : (h es : List Entry) (e : Entry) (later : List Entry)
    → (h ++ (es ++ e ∷ [])) ++ later ≡ h ++ (es ++ e ∷ later)
regrouped h es e later =
    append_assoc h (es ++ e ∷ []) later ∙ ap (λ x. h ++ x) (append_assoc es (e ∷ []) later)

module _ (m : Setting) (s : IsSetting m) (c : ℕ) (first since : List Event) (e : Event)
    (known : AreKnown m ((first ++ e ∷ []) ++ since)) (o : Opens m first e c)
    (u : IsUninterrupted m (first ++ e ∷ []) since c) where
  abbrev begun : List Event
  begun = first ++ e ∷ []

  abbrev history : List Entry
  history = (meaning m begun).history

  abbrev start : ℕ
  start = turns_after m first c

  begun_known : AreKnown m begun
  begun_known = known_first m begun since known

  -- the turn that opens it is the first of the bound
  at_opening : Since m s c history start begun
  at_opening =
      let next = stretched_more m first e c in
      let is : (stretch_after m (meaning m first) e c (stretch_of m first c)).is_open ≡ true =
      sym (ap (λ (x : Stretch). x.is_open) next) ∙ o.open_now in
      let by = is_opened m (meaning m first) e c (stretch_of m first c) is o.shut in
      let one : (stretch_of m begun c).age ≡ 1 = ap (λ (x : Stretch). x.age) (next ∙ by.0) in
      let after : turns_after m begun c ≡ ((happen m e (meaning m first)).state.numbers c).turns =
      ap (λ (x : State). (x.numbers c).turns) (meant_more m first e) in
      let turns = by.1 in
      record {
        open_now = o.open_now;
        aged = omega (arith, one, after, turns);
        calm = ap (λ (x : Stretch). x.externals) (next ∙ by.0);
        tally = record {
          entries = [];
          is = ap (λ (x : State). x.history) (sym (keeping_is m s begun begun_known))
              ∙ sym (append-nil history);
          none = refl;
          few = omega arith;
          only = refl;
        };
      }

  commits_so : (last : Entry) (entries later : List Entry)
      → entries_since m begun since ≡ entries ++ last ∷ later → is_end_of c last ≡ true
      → list_any (is_program_abort_of c) (entries_since m begun since) ≡ false
      → list_any (is_end_of c) entries ≡ false
      → count_by (is_conflict_abort_of c) entries ≤ m.image.parms.stop
      → list_any (is_other_abort_of c) entries ≡ false
      → CommitsAfter m.image.parms.stop c (entries_since m begun since)
  commits_so last entries later is ends quiet none few only =
      let all = ap (list_any (is_program_abort_of c)) (sym is) ∙ quiet in
      let parts = or_parts (list_any (is_program_abort_of c) entries)
      (list_any (is_program_abort_of c) (last ∷ later))
      (sym (list_any-append (is_program_abort_of c) entries (last ∷ later)) ∙ all) in
      let off = (or_parts (is_program_abort_of c last) (list_any (is_program_abort_of c) later) parts.1).0 in
      let commit = is_commit c last ends off in
      record {
        before = entries;
        completed = commit.0;
        later = later;
        is = is ∙ ap (λ x. entries ++ x ∷ later) commit.1;
        first = none;
        few = few;
        no_other = only;
      }

  -- after as many counted turns as the bound it has committed
  pub commits : start + bound m.image.parms ≤ turns_after m (begun ++ since) c
      → list_any (is_program_abort_of c) (entries_since m begun since) ≡ false
      → CommitsAfter m.image.parms.stop c (entries_since m begun since)
  commits enough quiet =
      by_way (all_events m s c history start begun since known u at_opening)
      (λ on.
      let young = ages_below m (begun ++ since) c s known on.open_now on.calm in
      let aged = on.aged in
      absurd (omega (arith, young, aged, enough)))
      (λ over.
      let ended = over.ended in
      let whole : (meaning m (begun ++ since)).history
      ≡ history ++ (ended.entries ++ ended.last ∷ over.later) =
      sym over.is ∙ ap (λ h. h ++ over.later) ended.is
      ∙ regrouped history ended.entries ended.last over.later in
      let entries : entries_since m begun since ≡ ended.entries ++ ended.last ∷ over.later =
      ap (drop (length history)) whole ∙ dropped history (ended.entries ++ ended.last ∷ over.later) in
      commits_so ended.last ended.entries over.later entries ended.ends quiet ended.none ended.few
      ended.only)
