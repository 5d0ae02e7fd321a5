-- Nothing is marked.
use Rattle.std.proofs.Common.{ap, ◌∙◌, false, Bool, length}
use Rattle.std.proofs.lemmas.List.{length-replicate}
use Rattle.tx_heat.specs.Marks.{Marks}
use Rattle.tx_heat.proofs.Marked.{none_marked, all_off}
use Rattle.tx_heat.proofs.octowords.Octowords.none.Goals as goal

pub invariant_of-result : goal.invariant_of-result
invariant_of-result c = record {
  touched = ap length c.in_ok-touched.ensures ∙ length-replicate {A = Bool} 32768 false;
  stored = ap length c.in_ok-stored.ensures ∙ length-replicate {A = Bool} 32768 false;
}

pub returns : goal.returns
returns c =
    let marks : Marks = record { touched = c.in_ok-touched.touched; stored = c.in_ok-stored.stored } in
    none_marked marks (all_off c.in_ok-touched.touched 32768 c.in_ok-touched.ensures)
    (all_off c.in_ok-stored.stored 32768 c.in_ok-stored.ensures)
