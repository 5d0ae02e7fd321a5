-- The next instruction, where it is known to go away.
use Rattle.std.proofs.Common.{◌≡◌, ℕ, true, List, refl, sym, subst, ◌∙◌}
use Rattle.z_regs.specs.declared.ranges.Range.{Range}
use Rattle.z_instr.specs.declared.instr.Instr.{Instr}
use Rattle.tx_serial.specs.Fate.{Goes}
use Rattle.tx_serial.proofs.Passing.{goes_alike}
use Rattle.tx_progress.specs.Doing.{executed}
use Rattle.std.proofs.lemmas.Bool.{true≢false}
use Rattle.tx_progress.specs.declared.done.Done.{Done}
use Rattle.tx_progress.specs.declared.done.Done.TheVariants.{Stepped, Began, Paused, Committed, Interrupted, Ended}
use Rattle.tx_marks.specs.Away.{is_plain}
use Rattle.tx_run.specs.Made.{Made, now, next_fate, NextGoesAway, is_stepped}

-- it may be made away, and completes
pub record IsAway (i : Instr) (ranges : List Range) (m : Made) : Type 0 where
  pub plain : is_plain i ≡ true
  pub told : (executed i ranges (now m)).told ≡ Stepped

pub away-is : (text : List ℕ) (m : Made) (i : Instr) (ranges : List Range) → NextGoesAway text m
    → next_fate text m ≡ Goes i ranges → IsAway i ranges m
away-is text m i ranges next goes =
    let away = next.away in
    let both = goes_alike away.instr i away.ranges ranges (sym away.goes ∙ goes) in
    let same : away.instr ≡ i = both.0 in
    let rest : away.ranges ≡ ranges = both.1 in
    record {
      plain = subst (λ x. is_plain x ≡ true) same away.plain;
      told = subst (λ rs. (executed i rs (now m)).told ≡ Stepped) rest
          (subst (λ x. (executed x away.ranges (now m)).told ≡ Stepped) same away.told);
    }

pub stepped-is : (d : Done) → is_stepped d ≡ true → d ≡ Stepped
stepped-is Stepped h = refl
stepped-is Began h = absurd (true≢false (sym h))
stepped-is (Paused turns) h = absurd (true≢false (sym h))
stepped-is (Committed count) h = absurd (true≢false (sym h))
stepped-is (Interrupted code) h = absurd (true≢false (sym h))
stepped-is (Ended why) h = absurd (true≢false (sym h))
