use Rattle.std.proofs.Common.{◌≡◌, ℕ, List, [], ◌∷◌, get_or, ap, subst}
use Rattle.z_instr.specs.Layouts.{spelled}
use Rattle.z_decode.specs.Code.{six}
use Rattle.z_decode.proofs.Rows.{six_is}
use Rattle.z_decode.proofs.spell.spell.Goals as goal

pub returns : goal.returns
returns c =
    let layout = c.args.layout.now in
    let held = λ (numbers : List ℕ). spelled layout (λ rank. get_or numbers rank 0) in
    subst (λ s. (c.byte_at.result ∷ c.byte_at-2.result ∷ c.byte_at-3.result ∷ c.byte_at-4.result ∷ c.byte_at-5.result ∷ c.byte_at-6.result ∷ []) ≡ six s)
    (ap held c.numbers_of-numbers.ensures)
    (six_is (held c.numbers_of-numbers.result) c.byte_at.ensures c.byte_at-2.ensures c.byte_at-3.ensures
    c.byte_at-4.ensures c.byte_at-5.ensures c.byte_at-6.ensures)
