-- Where the operand of a plain instruction lies, by its shape.
use Rattle.std.proofs.Common.{◌≡◌, ℕ, true, false, List, [], refl, sym, ap}
use Rattle.std.specs.Prelude.{◌&&◌}
use Rattle.std.proofs.lemmas.Bool.{true≢false, and_parts}
use Rattle.tx_program.specs.declared.ready.Shape.{Shape}
use Rattle.tx_program.specs.declared.ready.Touch.{Touch}
use Rattle.tx_program.specs.declared.ready.Touch.TheVariants as touch
use Rattle.tx_program.specs.Shapes.{touched_by, is_in_line, is_nothing, is_open, is_placed, is_reached}

-- an operand that is open lies in a line, whatever the text pages are
open-placed : (t : Touch) (first size : ℕ) (text : List ℕ) → is_open t first size text ≡ true
    → is_open t first size [] ≡ true
open-placed touch.Nothing first size text opened = refl
open-placed touch.Fetch first size text opened = opened
open-placed touch.Store first size text opened = ap (λ b. b && true) (and_parts (is_in_line first size) _ opened).0
open-placed touch.Other first size text opened = opened

-- one that is reached lies so
pub reached-placed : (s : Shape) (first : ℕ) (text : List ℕ) → is_reached s first text ≡ true
    → is_placed s first ≡ true
reached-placed s first text reached = open-placed s.touch first s.size text (and_parts _ _ reached).1

-- nothing is touched where the shape says so
pub nothing-touched : (t : Touch) (first size : ℕ) → is_nothing t ≡ true → touched_by t first size ≡ []
nothing-touched touch.Nothing first size h = refl
nothing-touched touch.Fetch first size h = absurd (true≢false (sym h))
nothing-touched touch.Store first size h = absurd (true≢false (sym h))
nothing-touched touch.Other first size h = absurd (true≢false (sym h))
