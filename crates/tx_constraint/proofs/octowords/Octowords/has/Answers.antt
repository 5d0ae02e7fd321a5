-- An octoword that stands at its place adds nothing.
use Rattle.std.proofs.Common.{◌∙◌}
use Rattle.std.proofs.lemmas.Bool.{OnTrue_from}
use Rattle.z_regs.proofs.Rising.{stays_at}
use Rattle.tx_constraint.proofs.octowords.Octowords.has.Goals as goal

pub returns : goal.returns
returns c = OnTrue_from c.is_at.result _ (λ here.
    stays_at c.args.octoword c.place-at.result c.args.self.now c.as_slice-2.result.now c.as_slice.result.now
    (c.as_slice-2.ensures.value ∙ c.self.view_is) (c.as_slice.ensures.value ∙ c.self.view_is)
    c.place-at.ensures.value (c.is_at.ensures.0 here))
