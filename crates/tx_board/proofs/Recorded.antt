-- How many events a turn records: one where the CPU is ready, and else none.
use Rattle.std.proofs.Common.{◌≡◌, ℕ, ◌+◌, [], ◌∷◌, Bool, true, false, Option, Some, None, length, refl, sym}
use Rattle.std.proofs.Common.{ap, ◌∙◌, arith}
use Rattle.std.specs.Prelude.{not, is_none, if◌then◌else◌}
use Rattle.std.proofs.lemmas.List.{length-append}
use Rattle.tx_journal.specs.declared.events.Event.TheVariants.{Turn}
use Rattle.tx_meaning.specs.Idle.{idle, is_ready}
use Rattle.tx_meaning.specs.Limits.{Setting}
use Rattle.tx_meaning.specs.State.{State}
use Rattle.tx_meaning.specs.Turn.{happen}
use Rattle.tx_meaning.specs.declared.outcome.Outcome.{Outcome}
use Rattle.tx_meaning.proofs.Books.{turn_booked, unready_stays}
use Rattle.tx_meaning.proofs.IdleTurns.{outcome_tells}
use Rattle.tx_board.specs.Shares.{recorded_by}

-- a CPU is ready where no outcome is kept for its turn
none_kept : (o : Option Outcome) → is_none o ≡ true → o ≡ None
none_kept None ready = refl
none_kept (Some o) ready = let n : false ≡ true = ready in absurd (cc)

module _ (m : Setting) (i : ℕ) (s : State) where
  -- by whether the CPU is ready
  recorded_where : (ready : Bool) → is_ready m s i ≡ ready
      → recorded_by (happen m (Turn i) s).outcome ≡ (if ready then 1 else 0)
  recorded_where true ready =
      ap (λ idles. if idles then 0 else 1) (outcome_tells m s i ∙ ap not ready)
  recorded_where false ready =
      ap (λ idles. if idles then 0 else 1) (outcome_tells m s i ∙ ap not ready)

  pub ready_recorded : is_ready m s i ≡ true → recorded_by (happen m (Turn i) s).outcome ≡ 1
  ready_recorded ready = recorded_where true ready

  events_where : (ready : Bool) → is_ready m s i ≡ ready
      → length (happen m (Turn i) s).state.events ≡ length s.events + (if ready then 1 else 0)
  unfolding happen
  events_where true ready =
      ap length (turn_booked m i s (none_kept (idle m s i) ready)).recorded
      ∙ length-append s.events (Turn i ∷ [])
  events_where false ready =
      let same = ap (λ (t : State). length t.events) (unready_stays m s i ready) in
      omega (arith, same)

  -- there are as many events more as the outcome says
  pub events_recorded : length (happen m (Turn i) s).state.events
      ≡ length s.events + recorded_by (happen m (Turn i) s).outcome
  events_recorded =
      events_where (is_ready m s i) refl
      ∙ ap (λ more. length s.events + more) (sym (recorded_where (is_ready m s i) refl))
