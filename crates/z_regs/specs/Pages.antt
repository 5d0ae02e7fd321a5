-- The pages that a list of marks stands for.
use Rattle.std.specs.Prelude.{ℕ, suc, Bool, cond, List, [], ◌∷◌}
use Rattle.std.specs.Ordering.{nat_cmp}
use Rattle.std.specs.FinSet.{FinSet, empty, insert}

-- the numbers of the marked places, where the first place has this number
unfoldable pub marked_from : ℕ → List Bool → FinSet nat_cmp
marked_from first [] = empty
marked_from first (mark ∷ marks) =
    cond mark (insert (marked_from (suc first) marks) first) (marked_from (suc first) marks)

abbrev pub marked : List Bool → FinSet nat_cmp
marked marks = marked_from 0 marks
