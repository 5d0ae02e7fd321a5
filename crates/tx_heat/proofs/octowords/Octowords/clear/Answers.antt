-- Nothing is marked any more.
use Rattle.std.proofs.Common.{ap, ◌∙◌, false, Bool, length}
use Rattle.std.proofs.lemmas.List.{length-replicate}
use Rattle.tx_heat.proofs.Marked.{none_marked, all_off}
use Rattle.tx_heat.proofs.octowords.Octowords.clear.Goals as goal

pub invariant_of-self : goal.invariant_of-self
invariant_of-self c = record {
  touched = ap length c.clear.ensures ∙ length-replicate {A = Bool} (length c.self.inside.touched) false
      ∙ c.self.invariant.touched;
  stored = ap length c.clear-2.ensures ∙ length-replicate {A = Bool} (length c.self.inside.stored) false
      ∙ c.self.invariant.stored;
}

pub returns : goal.returns
returns c =
    none_marked (record { touched = c.clear.new.self; stored = c.clear-2.new.self })
    (all_off c.clear.new.self (length c.self.inside.touched) c.clear.ensures)
    (all_off c.clear-2.new.self (length c.self.inside.stored) c.clear-2.ensures)
