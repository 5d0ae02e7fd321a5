-- Where an event adds no abort to the history, attempts of other CPUs have completed what they had completed.
use Rattle.std.proofs.Common.{◌≡◌, ◌≢◌, ℕ, ◌+◌, ◌<◌, ◌≤◌, List, ◌++◌, drop, length}
use Rattle.std.proofs.Common.{cond, refl, sym, ap, ◌∙◌, subst, arith, inl, inr}
use Rattle.std.specs.Prelude.{◌⊎◌, if◌then◌else◌}
use Rattle.std.proofs.lemmas.List.{drop-append-le}
use Rattle.std.proofs.lemmas.List.Sums.{sum_by_push, sum_by-append}
use Rattle.std.proofs.Math.Seq.{drop-length}
use borrow.Enum.Arm.{by_way}
use Rattle.tx_control.specs.declared.causes.Why.{Why}
use Rattle.tx_control.specs.declared.causes.Why.TheVariants.{External, Starved}
use Rattle.tx_ladder.specs.Rungs.{Standing, rejecting, rejected}
use Rattle.tx_journal.specs.Image.{cpu_of_event}
use Rattle.tx_journal.specs.declared.entries.Entry.{Entry}
use Rattle.tx_journal.specs.declared.entries.Entry.TheVariants as entry
use Rattle.tx_journal.specs.declared.events.Event.{Event}
use Rattle.tx_journal.specs.declared.events.Event.TheVariants as event
use Rattle.tx_meaning.specs.Limits.{Setting}
use Rattle.tx_meaning.specs.State.{Numbers, State, is_live, standing_of}
use Rattle.tx_meaning.specs.Changes.{with_numbers, with_entry, with_event, without_attempt, aborting}
use Rattle.tx_meaning.specs.Changes.{rejecting_one, leaving, after_cause}
use Rattle.tx_meaning.specs.Turn.{happen}
use Rattle.tx_meaning.specs.Views.{GoesOnWith}
use Rattle.tx_meaning.proofs.Walk.{Walk, at_put_case, in_a_turn, externally, cause_case, conflict_on}
use Rattle.tx_heat.specs.Watched.{aborts, is_abort, StaysBeside}

-- so many instructions are completed as then, or the history has more aborts than then
record Quiet (x n told : ℕ) (s : State) : Type 0 where
  grows : told ≤ aborts s.history
  either : ((s.numbers x).completed ≡ n) ⊎ (told < aborts s.history)

abbrev Counts : ℕ → ℕ → ℕ → List Entry → Numbers → Type 0
Counts n told x history v = (v.completed ≡ n) ⊎ (told < aborts history)

module _ (x n told : ℕ) where
  abbrev P : State → Type 0
  P s = Quiet x n told s

  -- numbers of another CPU change
  elsewhere : (i : ℕ) (v : Numbers) (s : State) → x ≢ i → P s → P (with_numbers i v s)
  elsewhere i v s ne p = record {
    grows = p.grows;
    either = at_put_case (Counts n told x s.history) s.numbers i v x (λ e. absurd (ne e)) (λ _. p.either);
  }

  -- numbers change that tell of something else
  beside_it : (i : ℕ) (v : Numbers) (s : State) → v.completed ≡ (s.numbers i).completed → P s
      → P (with_numbers i v s)
  beside_it i v s same p = record {
    grows = p.grows;
    either =
        at_put_case (Counts n told x s.history) s.numbers i v x
        (λ e. subst (λ c. (c ≡ n) ⊎ (told < aborts s.history)) (ap (λ y. (s.numbers y).completed) e ∙ sym same)
        p.either) (λ _. p.either);
  }

  -- one entry more
  noted : (e : Entry) (s : State) → P s → P (with_entry e s)
  noted e s p =
      let more = sum_by_push (λ y. cond (is_abort y) 1 0) s.history e in
      record {
        grows = let was = p.grows in omega (arith, more, was);
        either = by_way p.either (λ same. inl same) (λ told. inr (omega (arith, more, told)));
      }

  -- an attempt is aborted, of whatever CPU
  aborted : (i : ℕ) (st : Standing) (k : ℕ) (w : Why) (s : State) → P s → P (aborting i st k w s)
  unfolding aborting
  aborted i st k w s p =
      let t = without_attempt i s in
      let was = p.grows in
      let kept : told ≤ aborts (after_cause i st w t).history =
      cause_case (λ u. told ≤ aborts u.history) i st w t was (λ d. was) was was in
      let more = sum_by_push (λ y. cond (is_abort y) 1 0) (after_cause i st w t).history (entry.Abort i k w) in
      record { grows = omega (arith, kept, more); either = inr (omega (arith, kept, more)) }

  module _ (m : Setting) (i : ℕ) (other : x ≢ i) where
    walk : Walk m i P P (λ r s. P s)
    walk = record {
      asks = λ s p. elsewhere i _ s other p;
      holds = λ s held p. record { grows = p.grows; either = p.either };
      rejects = λ s j known ne live head p.
          let t = rejecting_one j (standing_of m s j) s in
          let refused = if is_live s i then (rejected (standing_of m s i)).requests_rejected
          else (t.numbers i).refused in
          elsewhere i (record (t.numbers i) { rejected = (t.numbers i).rejected + 1; refused = refused }) t other
          (beside_it j (record (s.numbers j) { given = (rejecting (standing_of m s j)).rejects_given }) s refl p);
      aborts = λ s j line stored known ne live p. aborted j _ _ (conflict_on stored line) s p;
      refused = λ r s p. p;
      starved = λ r s live p. aborted i _ _ Starved s p;
      nothing = λ s p. p;
      ends = λ s k w p. aborted i _ k w s p;
      steps = λ s p. noted (entry.Step i) s p;
      pauses = λ s turns p. elsewhere i _ (with_entry (entry.Step i) s) other (noted (entry.Step i) s p);
      stores = λ s p. noted (entry.Tdb i) s p;
      takes = λ s p. noted (entry.Interrupt i) s p;
      starts = λ s off p. elsewhere i _ s other p;
      continues = λ s live p. elsewhere i _ s other p;
      commits = λ s constrained k live p.
          let q = elsewhere i (record (s.numbers i) { completed = 0 }) s other p in
          noted (entry.Commit i k) (leaving i constrained (without_attempt i s))
          (record { grows = q.grows; either = q.either });
      waits = λ s p. elsewhere i _ s other p;
      interrupted = λ s live p.
          let q = aborted i _ _ External s p in record { grows = q.grows; either = q.either };
      unmet = λ s p. record { grows = p.grows; either = p.either };
    }

    turned : (s : State) → P s → P (happen m (event.Turn i) s).state
    unfolding happen
    turned s p =
        in_a_turn m i P P (λ r t. P t) walk s (λ o e. p)
        (λ e.
        let q = elsewhere i _ s other p in record { grows = q.grows; either = q.either })

    interrupted : (s : State) → P s → P (happen m (event.External i) s).state
    unfolding happen
    interrupted s p =
        externally m i P P (λ r t. P t) walk (with_event (event.External i) s)
        (record { grows = p.grows; either = p.either })

module _ (m : Setting) (s : State) where
  starts_quiet : (x : ℕ) → Quiet x (s.numbers x).completed (aborts s.history) s
  starts_quiet x = record { grows = omega arith; either = inl refl }

  quiet_by : (e : Event) (x : ℕ) → x ≢ cpu_of_event e
      → Quiet x (s.numbers x).completed (aborts s.history) (happen m e s).state
  quiet_by (event.Turn i) x ne =
      turned x (s.numbers x).completed (aborts s.history) m i ne s (starts_quiet x)
  quiet_by (event.External i) x ne =
      interrupted x (s.numbers x).completed (aborts s.history) m i ne s (starts_quiet x)

  -- the history goes on with entries of which none tells of an abort
  pub stays_beside : (e : Event) → GoesOnWith s.history (happen m e s).state.history
      → aborts (drop (length s.history) (happen m e s).state.history) ≡ 0
      → StaysBeside s (happen m e s).state (cpu_of_event e)
  stays_beside e goes none = record {
    same = λ x ne.
        let after = (happen m e s).state.history in
        let entries : drop (length s.history) after ≡ goes.more =
        ap (drop (length s.history)) (sym goes.is)
        ∙ drop-append-le (length s.history) s.history goes.more (omega arith)
        ∙ ap (λ l. l ++ goes.more) (drop-length s.history) in
        let few = ap aborts (sym entries) ∙ none in
        let all = ap aborts (sym goes.is)
        ∙ sum_by-append (λ y. cond (is_abort y) 1 0) s.history goes.more in
        by_way (quiet_by e x ne).either (λ same. same) (λ more. absurd (omega (arith, few, all, more)));
  }
