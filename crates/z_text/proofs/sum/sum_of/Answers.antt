use Rattle.std.proofs.Common.{◌≡◌, ap, ◌∙◌, Some, rules, to_z, of_z}
use mir.Syntax.{w128}
use Rattle.z_text.proofs.Terms.{sum_ends}
use Rattle.z_text.proofs.sum.sum_of.Goals as goal

pub returns : goal.returns
returns c =
    let inv = c.loop-token.invariant in
    let wrap : to_z w128 (of_z w128 c.loop-token.sum.value) ≡ c.loop-token.sum.value = search rules in
    ap Some wrap ∙ sum_ends _ _ _ c.loop-token.sum c.loop-token.token-index c.args.tokens.now _
    c.loop-token-test.false inv.total
