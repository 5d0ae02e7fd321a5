-- A run and a machine that agree in all places: the run may be taken.
use Rattle.std.proofs.Common.{◌≡◌, ℕ, ◌+◌, ◌*◌, ◌%◌, ◌/◌, ◌<◌, Bool, true, false}
use Rattle.std.proofs.Common.{refl, sym, ap, ◌∙◌, arith}
use Rattle.std.specs.Prelude.{◌&&◌, ◌||◌, nat_eq, nat_lt, nat_le, is_none}
use Rattle.std.specs.FinSet.{items}
use Rattle.std.proofs.lemmas.Bool.{and_parts, eqb-true, leb-true, ltb-true, and_right}
use Rattle.std.proofs.lemmas.Bool.Decides.{nat_tests}
use Rattle.std.proofs.lemmas.Nat.{div-add-mod', mod-mul-add}
use Rattle.z_regs.proofs.Elements.{is_nothing}
use Rattle.line_table.specs.declared.table.Mode.{Mode}
use Rattle.tx_journal.specs.Content.{Content}
use Rattle.tx_meaning.specs.Apply.{is_running}
use Rattle.tx_meaning.specs.History.{start_of}
use Rattle.tx_works.specs.Parts.{local_of}
use Rattle.tx_works.specs.Stranger.{GoesOnLike, SeeAlike}
use Rattle.tx_works.specs.Marks.{mode_in}
use Rattle.tx_works.specs.Own.{given, is_touched}
use Rattle.tx_works.specs.Traces.{is_paged}
use Rattle.tx_meaning.specs.Asking.{is_there}
use Rattle.tx_meaning.specs.Limits.{RunLimits}
use Rattle.tx_meaning.specs.Turn.{is_tick}
use Rattle.tx_works.specs.Kept.{Kept}
use Rattle.tx_works.specs.RunLent.{Lent}
use Rattle.tx_works.specs.RunMade.{AgreeOnPages}
use Rattle.tx_home.specs.Places.{fits}
use Rattle.tx_home.specs.Taken.{AreAlikeInNumbers, MayTake}

-- ---- ticks

-- a number of so many times a tick and some more
further : (a b n j : ℕ) → a + b ≡ n → n + j + 1 ≡ a + (b + j + 1)
further a b n j is = omega arith

-- the rest of it is not 0
rests : (turns tick k j : ℕ) → turns % tick + k < tick → j < k → (turns + j + 1) % tick ≡ turns % tick + j + 1
rests turns tick k j below lt =
    ap (λ n. n % tick) (further (turns / tick * tick) (turns % tick) turns j (div-add-mod' turns tick))
    ∙ mod-mul-add (turns / tick) tick (turns % tick + j + 1) (omega arith)

not-zero : (n m : ℕ) → n ≡ m + 1 → nat_eq n 0 ≡ false
not-zero n m is = grind (arith, nat_tests)

-- no turn on the way is a tick
no-tick : (limits : RunLimits) (turns k j : ℕ) → fits limits turns k ≡ true → j < k → is_tick limits (turns + j + 1) ≡ false
no-tick limits turns k j fit lt = by-test (nat_eq limits.tick 0) refl
  where
    ticks : (nat_eq limits.tick 0 || nat_lt (turns % limits.tick + k) limits.tick) ≡ true
    ticks = (and_parts (nat_le (turns + k) limits.turns) _ fit).1

    by-test : (none : Bool) → nat_eq limits.tick 0 ≡ none → is_tick limits (turns + j + 1) ≡ false
    by-test true is =
        let zero : limits.tick ≡ 0 = eqb-true limits.tick 0 is in
        ap (λ tick. nat_lt 0 tick && nat_eq ((turns + j + 1) % limits.tick) 0) zero
    by-test false is =
        let below : nat_lt (turns % limits.tick + k) limits.tick ≡ true =
        sym (ap (λ none. none || nat_lt (turns % limits.tick + k) limits.tick) is) ∙ ticks in
        let rest = rests turns limits.tick k j (ltb-true (turns % limits.tick + k) limits.tick below) lt in
        and_right (nat_lt 0 limits.tick) _ (not-zero ((turns + j + 1) % limits.tick) (turns % limits.tick + j) rest)

-- ---- all of it

module _ (image : Content) (limits : RunLimits) (r : Lent) (t : Kept) (same : Bool) where
  pub may-take : AreAlikeInNumbers same limits r t.state.queue (t.locals r.cpu) (t.state.numbers r.cpu)
      → (t.state.numbers r.cpu).completed ≡ (t.locals r.cpu).attempt.count
      → is_running (local_of r.made.start).attempt.cpu.state ≡ true
      → (is_running (t.locals r.cpu).attempt.cpu.state ≡ true → is_running (local_of r.made.start).attempt.cpu.state ≡ true
      → (t.locals r.cpu).attempt.cpu ≡ (local_of r.made.start).attempt.cpu)
      → (same ≡ true → (t.locals r.cpu).attempt.cpu ≡ (local_of r.made.start).attempt.cpu
      → (t.locals r.cpu).attempt.count ≡ (local_of r.made.start).attempt.count
      → GoesOnLike (local_of r.made.start).attempt (t.locals r.cpu).attempt)
      → SeeAlike (is_touched r.made.own) (local_of r.made.start).attempt.overlay (given r.made.own)
      (t.locals r.cpu).attempt.overlay t.storage
      → AgreeOnPages (is_paged r.made.traces) r.text (items image.guard)
      → ((line : ℕ) (mode : Mode) → is_there mode (mode_in r.made.needed line) ≡ true
      → is_there mode (t.state.held r.cpu line) ≡ true)
      → MayTake (record { image = image; limits = limits }) r t
  unfolding start_of
  may-take numbers counted starts registers like alike pages held =
      let runs = and_parts (is_running (t.locals r.cpu).attempt.cpu.state) _ numbers.goes in
      let pending = and_parts (is_none (t.locals r.cpu).pending) _ runs.1 in
      let waiting = and_parts (is_none (t.locals r.cpu).waiting) _ pending.1 in
      let delay = and_parts (nat_eq (t.state.numbers r.cpu).delay 0) _ waiting.1 in
      let turns = and_parts (nat_le ((t.state.numbers r.cpu).turns + r.made.steps) limits.turns) _ delay.1 in
      record {
        like = like numbers.attempt (registers runs.0 starts) (sym counted ∙ numbers.completed);
        alike = alike;
        pages = pages;
        may = record {
          pending = is_nothing (t.locals r.cpu).pending pending.0;
          waiting = is_nothing (t.locals r.cpu).waiting waiting.0;
          runs = runs.0;
          completed = counted;
          delay = eqb-true (t.state.numbers r.cpu).delay 0 delay.0;
          queue = numbers.queue;
          turns = leb-true ((t.state.numbers r.cpu).turns + r.made.steps) limits.turns turns.0;
          ticks = λ j lt. no-tick limits (t.state.numbers r.cpu).turns r.made.steps j delay.1 lt;
          held = held;
        };
      }
