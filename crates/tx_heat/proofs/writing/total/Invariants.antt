-- The conflicts of the lines so far are added up.
use Rattle.std.proofs.Common.{◌≡◌, ◌≤◌, ◌*◌, ◌^◌, take, sum_by}
use Rattle.tx_heat.specs.declared.counting.LineHeat.{LineHeat}
use Rattle.tx_heat.proofs.writing.total.Given as goal

abbrev pub invariant-loop-heat : goal.invariant-loop-heat
invariant-loop-heat l = record {
  rejects : l.rejects ≡ sum_by (λ (h : LineHeat). h.rejects) (take l.heat-index l.lines);
  aborts : l.aborts ≡ sum_by (λ (h : LineHeat). h.aborts) (take l.heat-index l.lines);
  disjoint : l.disjoint ≡ sum_by (λ (h : LineHeat). h.disjoint) (take l.heat-index l.lines);
  few_rejects : l.rejects ≤ l.heat-index * 2 ^ 64;
  few_aborts : l.aborts ≤ l.heat-index * 2 ^ 64;
  few_disjoint : l.disjoint ≤ l.heat-index * 2 ^ 64;
}
