-- Pieces added to a text, one after the other.
use Rattle.std.proofs.Common.{◌≡◌, ◌∙◌, ap, List, ◌++◌, append_assoc, sym, Result, Ok, Err}
use Rattle.std.specs.Prelude.{OnOk}

pub two_pieces : {T E X : Type 0} (result : Result T E) (old first second between new : List X)
    → between ≡ old ++ first → OnOk result (new ≡ between ++ second)
    → OnOk result (new ≡ old ++ (first ++ second))
two_pieces {T} {E} {X} (Ok x) old first second between new one other =
    other ∙ ap (λ (xs : List X). xs ++ second) one ∙ append_assoc old first second
two_pieces {T} {E} {X} (Err e) old first second between new one other = tt

-- one piece more behind those that are there
pub one_more : {X : Type 0} (old all some piece between new : List X)
    → between ≡ old ++ some → new ≡ between ++ piece → all ≡ some ++ piece → new ≡ old ++ all
one_more old all some piece between new one other is =
    other ∙ ap (λ xs. xs ++ piece) one ∙ append_assoc old some piece ∙ ap (λ xs. old ++ xs) (sym is)
