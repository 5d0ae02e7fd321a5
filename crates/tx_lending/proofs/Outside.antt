-- Outside transactions turns go by the CPU alone, and what is left to do for it stays.
use Rattle.std.proofs.Common.{◌≡◌, ◌<◌, ℕ, zero, suc, Bool, true, false, List, Option, arith}
use Rattle.std.proofs.Common.{refl, sym, ap, subst, ◌∙◌}
use Rattle.z_regs.specs.declared.ranges.Range.{Range}
use Rattle.z_instr.specs.declared.instr.Instr.{Instr}
use Rattle.z_instr.specs.Roles.{begins}
use Rattle.z_instr.specs.Table.{entry_at}
use Rattle.z_effect.specs.Outcome.{Outcome, Did, Divides, Aborts}
use Rattle.z_effect.specs.Outcome as outcome
use Rattle.line_table.specs.declared.table.Mode.{Mode}
use Rattle.tx_serial.specs.Flat.{Storage}
use Rattle.tx_progress.specs.Doing.{executed, executed_where}
use Rattle.tx_progress.specs.Local.{Local, Beside}
use Rattle.tx_progress.specs.Progress.{is_live}
use Rattle.tx_progress.specs.Trial.{outcome_by}
use Rattle.tx_progress.specs.declared.done.Done.TheVariants.{Stepped}
use Rattle.tx_lending.specs.Away.{lent_by, lent_turn, ran, GoesAway, GoAway}
use Rattle.tx_lending.specs.Stranger.{left_as}
use Rattle.tx_lending.proofs.Along.{no_begin, fewer, last_one}
use Rattle.tx_lending.proofs.Touching.{on}
use Rattle.tx_lending.proofs.Turning.{all_left}

-- a CPU beside the same storage, with what is left to do for another
abbrev upon_own : Local → Beside → Beside
upon_own own b = on (left_as b.local own) b.storage

module _ (i : Instr) (ranges : List Range) (own : Local) (b : Beside) where
  left_where : (o : Outcome) → (executed_where false false i ranges b o).told ≡ Stepped
      → (executed_where false false i ranges (upon_own own b) o).after
      ≡ upon_own own (executed_where false false i ranges b o).after
  left_where (Did c bytes) told = refl
  left_where (outcome.Overflowed c bytes) told = absurd (cc)
  left_where Divides told = absurd (cc)
  left_where (Aborts code) told = refl

  abbrev At : Bool → Bool → Type 0
  At live begin =
      let o = outcome_by b.storage i ranges b.local.attempt in
      (executed_where live begin i ranges b o).told ≡ Stepped
      → (executed_where live begin i ranges (upon_own own b) o).after
      ≡ upon_own own (executed_where live begin i ranges b o).after

  left_so : is_live b.local.attempt ≡ false → begins (entry_at i.op.number) ≡ false
      → (executed i ranges b).told ≡ Stepped
      → (executed i ranges (upon_own own b)).after ≡ upon_own own (executed i ranges b).after
  unfolding executed
  left_so rests none =
      let first : At false false = left_where (outcome_by b.storage i ranges b.local.attempt) in
      let second : At false (begins (entry_at i.op.number)) = subst (At false) (sym none) first in
      subst (λ (live : Bool). At live (begins (entry_at i.op.number))) (sym rests) second

  -- and it tells the same
  told_where : (o : Outcome) → (executed_where false false i ranges (upon_own own b) o).told
      ≡ (executed_where false false i ranges b o).told
  told_where (Did c bytes) = refl
  told_where (outcome.Overflowed c bytes) = refl
  told_where Divides = refl
  told_where (Aborts code) = refl

  abbrev Tells : Bool → Bool → Type 0
  Tells live begin =
      let o = outcome_by b.storage i ranges b.local.attempt in
      (executed_where live begin i ranges (upon_own own b) o).told ≡ (executed_where live begin i ranges b o).told

  told_so : is_live b.local.attempt ≡ false → begins (entry_at i.op.number) ≡ false
      → (executed i ranges (upon_own own b)).told ≡ (executed i ranges b).told
  unfolding executed
  told_so rests none =
      let first : Tells false false = told_where (outcome_by b.storage i ranges b.local.attempt) in
      let second : Tells false (begins (entry_at i.op.number)) = subst (Tells false) (sym none) first in
      subst (λ (live : Bool). Tells live (begins (entry_at i.op.number))) (sym rests) second

one_turn : (text : List ℕ) (held : ℕ → Option Mode) (own : Local) (b : Beside) → is_live b.local.attempt ≡ false
    → GoesAway text held b → lent_turn text (upon_own own b) ≡ upon_own own (lent_turn text b)
one_turn text held own b rests away =
    ap (λ f. lent_by f (upon_own own b)) away.goes
    ∙ left_so away.instr away.ranges own b rests (no_begin away.instr away.plain) away.told
    ∙ sym (ap (λ f. upon_own own (lent_by f b)) away.goes)

one_goes : (text : List ℕ) (held : ℕ → Option Mode) (own : Local) (b : Beside) → is_live b.local.attempt ≡ false
    → GoesAway text held b → GoesAway text held (upon_own own b)
one_goes text held own b rests away = record {
  instr = away.instr;
  ranges = away.ranges;
  goes = away.goes;
  plain = away.plain;
  told = told_so away.instr away.ranges own b rests (no_begin away.instr away.plain) ∙ away.told;
  lines = away.lines;
}

module _ (text : List ℕ) (held : ℕ → Option Mode) (local own : Local) (s : Storage)
    (rests : is_live local.attempt ≡ false)
  where
    turns : own.cpu ≡ local.cpu → own.attempt ≡ local.attempt → (k : ℕ) → GoAway text held k (on local s)
        → ran text k (on own s) ≡ upon_own own (ran text k (on local s))
    unfolding ran
    turns cpu attempt zero away = λ z. on (record own { cpu = cpu z; attempt = attempt z }) s
    turns cpu attempt (suc k) away =
        let before = fewer text held k (on local s) away in
        let still = (all_left text held k (on local s) before).live ∙ rests in
        ap (lent_turn text) (turns cpu attempt k before)
        ∙ one_turn text held own (ran text k (on local s)) still (last_one text held k (on local s) away)

    goes_at : own.cpu ≡ local.cpu → own.attempt ≡ local.attempt → (j k : ℕ) → j < k → GoAway text held k (on local s)
        → GoesAway text held (ran text j (on own s))
    goes_at cpu attempt j k below away =
        let before : GoAway text held j (on local s) = λ i less. away i (omega (arith, less, below)) in
        let still = (all_left text held j (on local s) before).live ∙ rests in
        subst (GoesAway text held) (sym (turns cpu attempt j before))
        (one_goes text held own (ran text j (on local s)) still (away j below))

pub own_turns : (text : List ℕ) (held : ℕ → Option Mode) (local own : Local) (s : Storage)
    → is_live local.attempt ≡ false → own.cpu ≡ local.cpu → own.attempt ≡ local.attempt
    → (k : ℕ) → GoAway text held k (on local s)
    → ran text k (on own s) ≡ upon_own own (ran text k (on local s))
own_turns text held local own s rests cpu attempt k away = turns text held local own s rests cpu attempt k away

pub own_go : (text : List ℕ) (held : ℕ → Option Mode) (local own : Local) (s : Storage)
    → is_live local.attempt ≡ false → own.cpu ≡ local.cpu → own.attempt ≡ local.attempt
    → (k : ℕ) → GoAway text held k (on local s) → GoAway text held k (on own s)
own_go text held local own s rests cpu attempt k away j below =
    goes_at text held local own s rests cpu attempt j k below away
