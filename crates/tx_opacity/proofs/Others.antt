-- In an event of another CPU an attempt completes nothing: it goes on as it was, or it is over.
use Rattle.std.proofs.Common.{◌≡◌, ◌≢◌, ℕ, ◌<◌, Bool, true, false, Option, Some, None, refl, sym, ap, ◌∙◌, subst}
use Rattle.std.proofs.Common.{inl, inr}
use Rattle.std.specs.Prelude.{◌+◌, ◌⊎◌, if◌then◌else◌}
use Rattle.tx_control.specs.declared.causes.Why.{Why}
use Rattle.tx_control.specs.declared.causes.Why.TheVariants.{External, Starved}
use Rattle.tx_ladder.specs.Rungs.{Standing, rejecting, rejected}
use Rattle.tx_journal.specs.Image.{cpu_of_event}
use Rattle.tx_journal.specs.declared.events.Event.{Event}
use Rattle.tx_journal.specs.declared.events.Event.TheVariants as event
use Rattle.line_table.specs.Holders.{Holders}
use Rattle.tx_serial.specs.Flat.{at_put}
use Rattle.tx_meaning.specs.declared.asking.Reject.{Reject}
use Rattle.tx_meaning.specs.declared.outcome.Outcome.{Outcome}
use Rattle.tx_meaning.specs.Limits.{Setting}
use Rattle.tx_meaning.specs.State.{Numbers, State, is_live, standing_of}
use Rattle.tx_meaning.specs.Changes.{with_numbers, with_event, without_attempt, aborting, rejecting_one}
use Rattle.tx_meaning.specs.Turn.{happen, turn, external}
use Rattle.tx_meaning.proofs.Walk.{Walk, at_put_case, in_a_turn, externally, cause_case, conflict_on}

-- as many completed instructions as then, or none
abbrev pub Left : ℕ → ℕ → State → Type 0
Left x n s = ((s.numbers x).completed ≡ n) ⊎ ((s.numbers x).completed ≡ 0)

abbrev Counts : ℕ → Numbers → Type 0
Counts n v = (v.completed ≡ n) ⊎ (v.completed ≡ 0)

module _ (x n : ℕ) where
  -- numbers of another CPU change
  elsewhere : (i : ℕ) (v : Numbers) (s : State) → x ≢ i → Left x n s → Left x n (with_numbers i v s)
  elsewhere i v s ne p =
      at_put_case (Counts n) s.numbers i v x (λ e. absurd (ne e)) (λ _. p)

  -- numbers change that tell of something else
  beside_it : (i : ℕ) (v : Numbers) (s : State) → v.completed ≡ (s.numbers i).completed → Left x n s
      → Left x n (with_numbers i v s)
  beside_it i v s same p =
      at_put_case (Counts n) s.numbers i v x
      (λ e. subst (λ c. (c ≡ n) ⊎ (c ≡ 0)) (ap (λ y. (s.numbers y).completed) e ∙ sym same) p) (λ _. p)

  -- an attempt is over
  over : (i : ℕ) (s : State) → Left x n s → Left x n (without_attempt i s)
  over i s p =
      at_put_case (Counts n) s.numbers i (record (s.numbers i) { completed = 0 }) x (λ e. inr refl) (λ _. p)

  aborted : (i : ℕ) (st : Standing) (k : ℕ) (w : Why) (s : State) → Left x n s → Left x n (aborting i st k w s)
  unfolding aborting
  aborted i st k w s p =
      let t = without_attempt i s in
      let base = over i s p in
      cause_case (Left x n) i st w t base
      (λ d. beside_it i (record (t.numbers i) { delay = d }) t refl base) base base

  module _ (m : Setting) (i : ℕ) (other : x ≢ i) where
    walk : Walk m i (Left x n) (Left x n) (λ r s. Left x n s)
    walk = record {
      asks = λ s p. elsewhere i _ s other p;
      holds = λ s held p. p;
      rejects = λ s j known ne live head p.
          let t = rejecting_one j (standing_of m s j) s in
          let refused = if is_live s i then (rejected (standing_of m s i)).requests_rejected
          else (t.numbers i).refused in
          elsewhere i (record (t.numbers i) { rejected = (t.numbers i).rejected + 1; refused = refused }) t other
          (beside_it j (record (s.numbers j) { given = (rejecting (standing_of m s j)).rejects_given }) s refl p);
      aborts = λ s j line stored known ne live p. aborted j _ _ (conflict_on stored line) s p;
      refused = λ r s p. p;
      starved = λ r s live p. aborted i _ _ Starved s p;
      nothing = λ s p. p;
      ends = λ s k w p. aborted i _ k w s p;
      steps = λ s p. p;
      pauses = λ s turns p. elsewhere i _ s other p;
      stores = λ s p. p;
      takes = λ s p. p;
      starts = λ s off p. elsewhere i _ s other p;
      continues = λ s live p. elsewhere i _ s other p;
      commits = λ s constrained k live p. over i s p;
      waits = λ s p. elsewhere i _ s other p;
      interrupted = λ s live p. aborted i _ _ External s p;
      unmet = λ s p. p;
    }

    pub others_turn : (s : State) → (s.numbers x).completed ≡ n → Left x n (happen m (event.Turn i) s).state
    unfolding happen
    others_turn s is =
        in_a_turn m i (Left x n) (Left x n) (λ r t. Left x n t) walk s (λ o e. inl is)
        (λ e. elsewhere i _ s other (inl is))

    pub others_interruption : (s : State) → (s.numbers x).completed ≡ n
        → Left x n (happen m (event.External i) s).state
    unfolding happen
    others_interruption s is =
        externally m i (Left x n) (Left x n) (λ r t. Left x n t) walk (with_event (event.External i) s) (inl is)

-- and so in any event of another CPU
pub others_event : (m : Setting) (e : Event) (x : ℕ) (t : State) → x ≢ cpu_of_event e
    → Left x (t.numbers x).completed (happen m e t).state
others_event m (event.Turn i) x t ne = others_turn x (t.numbers x).completed m i ne t refl
others_event m (event.External i) x t ne = others_interruption x (t.numbers x).completed m i ne t refl
