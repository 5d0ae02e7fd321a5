-- The CPU runs exactly where the word is its own.
use Rattle.std.proofs.Common.{ap, ◌∙◌}
use Rattle.std.specs.Str.{bytes_eq}
use Rattle.z_regs.specs.Psw.{psw_of, running_where, loaded}
use Rattle.z_regs.proofs.psw.load_psw.Goals as goal

pub returns : goal.returns
unfolding loaded
returns c =
    let fields = c.take_fields.ensures in
    let own = c.psw_of.ensures ∙ ap psw_of fields in
    let runs = c.state_where-image.ensures
    ∙ ap running_where (c.eq.ensures ∙ ap (λ l. bytes_eq l c.args.psw.now) own) in
    λ i. record (fields i) { state = runs i }
