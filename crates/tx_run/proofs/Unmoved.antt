-- Operands of a CPU without a prefix, which lie where their addresses say.
use Rattle.std.proofs.Common.{◌≡◌, ℕ, ◌≤◌, List, [], ◌∷◌, Option, None, ap, ◌∙◌}
use Rattle.std.specs.Prelude.{All}
use Rattle.std.proofs.lemmas.List.Elements.{All-nil, All-cons, All-head, All-tail}
use Rattle.z_regs.specs.Absolute.{IsAccessible}
use Rattle.z_regs.specs.declared.ranges.Range.{Range}
use Rattle.z_regs.proofs.MovedBytes.{ranges_stay}
use Rattle.tx_marks.specs.Needs.{needs_of, operand_needs}

-- accessible operands are small
pub small-unmoved : (prefix : Option ℕ) (need : List Range) → All (IsAccessible prefix) need
    → All (λ (r : Range). r.length ≤ 256) need
small-unmoved prefix [] all = All-nil (λ (r : Range). r.length ≤ 256)
small-unmoved prefix (r ∷ rest) all =
    All-cons (λ (r : Range). r.length ≤ 256) r rest (All-head (IsAccessible prefix) r rest all).most
    (small-unmoved prefix rest (All-tail (IsAccessible prefix) r rest all))

-- they need the lines of their addresses
pub unmoved-needs : (prefix : Option ℕ) (need : List Range) → prefix ≡ None → operand_needs prefix need ≡ needs_of need
unmoved-needs prefix need none = ap (λ (p : Option ℕ). operand_needs p need) none ∙ ap needs_of (ranges_stay need)
