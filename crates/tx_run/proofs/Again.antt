-- Steps that are made again.
use Rattle.std.proofs.Common.{◌≡◌, ℕ, ◌<◌, List, sym, ap, subst, ◌∙◌}
use Rattle.tx_cpu.specs.Parts.{local_of}
use Rattle.tx_progress.specs.Local.{Beside}
use Rattle.tx_marks.specs.Away.{ran, GoAway, GoesAway}
use Rattle.tx_marks.specs.Marks.{mode_in}
use Rattle.tx_run.specs.Made.{Made, from, IsMade, MayBeMadeAgain, NextGoesAway, StartsAlike}

-- what begins alike is the same before the first step
pub same-from : (m other : Made) → StartsAlike m other → from other ≡ from m
same-from m other alike = λ j. record { local = local_of (alike.start j); storage = λ a. alike.given a j }

-- the next of them goes away
pub again-away : (text image : List ℕ) (m other : Made) → MayBeMadeAgain text image m → StartsAlike m other
    → IsMade text image other → other.steps < m.steps → NextGoesAway text other
again-away text image m other again alike made below = record {
  needed = again.needed;
  away = subst (GoesAway text again.needed)
      (ap (ran text other.steps) (sym (same-from m other alike)) ∙ made.makes) (again.away other.steps below);
}

-- where nothing has come of an instruction, all steps may be made again
pub stays-again : (text image : List ℕ) (m other : Made) → IsMade text image m → StartsAlike m other
    → other.steps ≡ m.steps → MayBeMadeAgain text image other
stays-again text image m other made alike same = record {
  needed = mode_in m.needed;
  away = subst (λ (b : Beside). GoAway text (mode_in m.needed) other.steps b) (sym (same-from m other alike))
      (subst (λ k. GoAway text (mode_in m.needed) k (from m)) (sym same) made.away);
  given = λ a is. alike.given a ∙ made.given a is;
}
