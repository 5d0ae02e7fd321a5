-- Why a turn is idle.
use Rattle.std.proofs.Common.{◌≡◌, ℕ, ◌<◌, ◌≤◌, Bool, true, false, Option, Some, sym, ap, ◌∙◌, arith}
use Rattle.std.specs.Prelude.{nat_le, if◌then◌else◌}
use Rattle.std.proofs.lemmas.Bool.Decides.{nat_tests}
use Rattle.tx_meaning.specs.Limits.{Setting}
use Rattle.tx_meaning.specs.Idle.{idle_by, kept_back}
use Rattle.tx_meaning.specs.declared.outcome.Outcome.{Outcome}
use Rattle.tx_meaning.specs.declared.outcome.Outcome.TheVariants.{Halted, Spent}
use Rattle.tx_keeping.specs.Kept.{Kept, kept_finished}
use Rattle.tx_keeping.specs.Turn.{k_idle}

pub halted-is : (m : Setting) (k : Kept) (i : ℕ) → kept_finished k i ≡ true → Some Halted ≡ k_idle m k i
unfolding k_idle
halted-is m k i ended =
    sym (ap (λ b. idle_by m.limits b k.state.queue (k.state.numbers i) i) ended)

by_spent : (m : Setting) (k : Kept) (i : ℕ) (b : Bool) → nat_le m.limits.turns (k.state.numbers i).turns ≡ b
    → kept_finished k i ≡ false
    → (if b then Some Spent else kept_back k.state.queue i) ≡ k_idle m k i
unfolding k_idle
by_spent m k i b spent runs =
    ap (λ c. if c then Some Spent else kept_back k.state.queue i) (sym spent)
    ∙ sym (ap (λ c. idle_by m.limits c k.state.queue (k.state.numbers i) i) runs)

pub spent-is : (m : Setting) (k : Kept) (i : ℕ) → kept_finished k i ≡ false
    → m.limits.turns ≤ (k.state.numbers i).turns → Some Spent ≡ k_idle m k i
spent-is m k i runs spent =
    let all : nat_le m.limits.turns (k.state.numbers i).turns ≡ true = grind (arith, nat_tests, spent) in
    by_spent m k i true all runs

pub back-is : (m : Setting) (k : Kept) (i : ℕ) (o : Option Outcome) → kept_finished k i ≡ false
    → (k.state.numbers i).turns < m.limits.turns → o ≡ kept_back k.state.queue i → o ≡ k_idle m k i
back-is m k i o runs few back =
    let left : nat_le m.limits.turns (k.state.numbers i).turns ≡ false = grind (arith, nat_tests, few) in
    back ∙ by_spent m k i false left runs
