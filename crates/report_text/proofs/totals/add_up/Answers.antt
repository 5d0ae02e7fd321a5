use Rattle.std.proofs.Common.{sym, arith, ◌∙◌, ap₂, ℕ, ◌+◌}
use Rattle.report_text.specs.Shown.{ShownCpu}
use Rattle.report_text.proofs.Sums.{sum_more}
use Rattle.report_text.proofs.totals.add_up.Goals as goal

pub loop-cpu-preserved : goal.loop-cpu-preserved
loop-cpu-preserved c =
    let more = λ (count : ShownCpu → ℕ). sum_more count c.args.cpus.now c.loop-cpu.cpu-index
    c.cpu-item.result c.loop-cpu-test.true (sym c.cpu-item.is) in
    let kept = c.loop-cpu.invariant in record {
      turns = ap₂ (λ x y. x + y) kept.turns c.widened-turns.ensures.value
          ∙ sym (more (λ s. s.counts.turns));
      commits = ap₂ (λ x y. x + y) kept.commits c.widened-commits.ensures.value
          ∙ sym (more (λ s. s.counts.commits));
      aborts = ap₂ (λ x y. x + y) kept.aborts c.widened-aborts.ensures.value
          ∙ sym (more (λ s. s.counts.aborts));
      few_turns = omega arith;
      few_commits = omega arith;
      few_aborts = omega arith;
    }
