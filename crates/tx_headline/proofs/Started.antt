-- Attempts of a CPU start in its own turns alone.
use Rattle.std.proofs.Common.{◌≡◌, ◌≢◌, ℕ, ◌+◌, Bool, true, false, refl, ◌∙◌}
use Rattle.tx_control.specs.declared.causes.Why.{Why}
use Rattle.tx_control.specs.declared.causes.Why.TheVariants.{Starved, External}
use Rattle.tx_ladder.specs.Rungs.{Standing, rejecting}
use Rattle.tx_journal.specs.declared.events.Event.TheVariants as event
use Rattle.tx_meaning.specs.Limits.{Setting}
use Rattle.tx_meaning.specs.State.{Numbers, State, is_live, standing_of}
use Rattle.tx_meaning.specs.Changes.{with_numbers, with_event, rejecting_one, without_attempt, aborting}
use Rattle.tx_meaning.specs.Turn.{turn, happen, interrupting}
use Rattle.tx_meaning.proofs.Walk.{Walk, at_put_kept, at_put_case, conflict_on, cause_case, leaving_case}
use Rattle.tx_meaning.proofs.Walk.{in_a_turn}

module _ (c started : ℕ) where
  abbrev Had : State → Type 0
  Had s = (s.numbers c).attempts ≡ started

  -- numbers change, but not those of attempts
  put : (j : ℕ) (v : Numbers) (s : State) → v.attempts ≡ (s.numbers j).attempts → Had s
      → Had (with_numbers j v s)
  put j v s same had = at_put_kept (λ (n : Numbers). n.attempts) s.numbers j v same c ∙ had

  dead : (j : ℕ) (s : State) → Had s → Had (without_attempt j s)
  dead j s had = put j (record (s.numbers j) { completed = 0 }) s refl had

  -- an abort starts nothing
  ended : (j : ℕ) (st : Standing) (n : ℕ) (w : Why) (s : State) → Had s → Had (aborting j st n w s)
  unfolding aborting
  ended j st n w s had =
      let t = without_attempt j s in
      let now = dead j s had in
      cause_case (λ r. Had r) j st w t now
      (λ d. put j (record (t.numbers j) { delay = d }) t refl now) now now

  others : (m : Setting) (i : ℕ) → c ≢ i → Walk m i Had Had (λ o s. Had s)
  others m i ne = record {
    asks = λ s had. put i (record (s.numbers i) { asked = (s.numbers i).asked + 1 }) s refl had;
    holds = λ s held had. had;
    rejects = λ s j known other live head had.
        let st = standing_of m s j in
        put i _ (rejecting_one j st s) refl
        (put j (record (s.numbers j) { given = (rejecting st).rejects_given }) s refl had);
    aborts = λ s j line stored known other live had.
        ended j (standing_of m s j) (s.numbers j).completed (conflict_on stored line) s had;
    refused = λ r s had. had;
    starved = λ r s live had. ended i (standing_of m s i) (s.numbers i).completed Starved s had;
    nothing = λ s had. had;
    ends = λ s n w had. ended i (standing_of m s i) n w s had;
    steps = λ s had. had;
    pauses = λ s turns had. put i (record (s.numbers i) { delay = turns }) s refl had;
    stores = λ s had. had;
    takes = λ s had. had;
    starts = λ s live had.
        at_put_case (λ (n : Numbers). n.attempts ≡ started) s.numbers i _ c (λ e. absurd (ne e)) (λ _. had);
    continues = λ s live had. put i _ s refl had;
    commits = λ s constrained n live had.
        leaving_case (λ r. Had r) i constrained (without_attempt i s) (dead i s had) (dead i s had);
    waits = λ s had. put i _ s refl had;
    interrupted = λ s live had. ended i (standing_of m s i) (s.numbers i).completed External s had;
    unmet = λ s had. had;
  }

  -- a turn of another CPU
  pub in_others_turn : (m : Setting) (i : ℕ) (s : State) → c ≢ i → Had s → Had (turn m i s).state
  in_others_turn m i s ne had =
      in_a_turn m i Had Had (λ o s. Had s) (others m i ne) s (λ o e. had) (λ e. put i _ s refl had)

  interruption : (live : Bool) (m : Setting) (i : ℕ) (s : State) → Had s
      → Had (interrupting live m i s).state
  interruption true m i s had = ended i (standing_of m s i) (s.numbers i).completed External s had
  interruption false m i s had = had

  -- an interruption from outside
  pub behind_interruption : (m : Setting) (i : ℕ) (s : State) → Had s
      → Had (happen m (event.External i) s).state
  unfolding happen
  behind_interruption m i s had = interruption (is_live s i) m i (with_event (event.External i) s) had
