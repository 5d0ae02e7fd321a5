use Rattle.std.proofs.Common.{◌≡◌, Decides}
use Rattle.std.proofs.lemmas.Bool.Decides.{Decides-like}
use Rattle.std.proofs.lemmas.Slice.Eq.{slice_eq-Decides}
use Rattle.tx_control.proofs.SameBegins.{are_equal, begins_Decide}
use Rattle.tx_control.proofs.nesting.Nest.same.Goals as goal

pub returns : goal.returns
returns c =
    let same : Decides c.eq.result (c.open.result.now ≡ c.open-2.result.now) =
    slice_eq-Decides {E = are_equal} begins_Decide c.open.result.now c.open-2.result.now c.eq.result
    c.eq.ensures in
    Decides-like c.eq.result (λ e. cc) (λ e. cc) same
