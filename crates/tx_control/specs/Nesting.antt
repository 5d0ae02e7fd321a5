-- A nest is the list of the open begins, oldest first.
use Rattle.std.specs.Prelude.{ℕ, Bool, false, List, [], ◌∷◌, Option, None, max}
use Rattle.std.specs.List.{list_all, fold}
use Rattle.tx_control.specs.declared.begins.Begin.{Begin}

-- changes of access registers, and floating point, are allowed where all open begins allow them
abbrev pub effective_a : List Begin → Bool
effective_a open_begins = list_all (λ b. b.a) open_begins

abbrev pub effective_f : List Begin → Bool
effective_f open_begins = list_all (λ b. b.f) open_begins

-- the greatest filtering control of all open begins
abbrev pub effective_pifc : List Begin → ℕ
effective_pifc open_begins = fold (λ greatest b. max greatest b.pifc) 0 open_begins

-- the mask, the block and the kind are those of the first begin; without one there is neither block nor kind
abbrev pub outermost_mask : List Begin → ℕ
outermost_mask [] = 0
outermost_mask (outermost ∷ inner) = outermost.mask

abbrev pub outermost_block : List Begin → Option ℕ
outermost_block [] = None
outermost_block (outermost ∷ inner) = outermost.block

abbrev pub is_constrained : List Begin → Bool
is_constrained [] = false
is_constrained (outermost ∷ inner) = outermost.constrained
