-- What the next turn of a CPU asks for.
use Rattle.std.proofs.Common.{◌≡◌, ℕ, Bool, List, [], ◌∷◌, Option, Some, None, is_some, ap, refl}
use Rattle.z_regs.specs.Absolute.{absolute_ranges}
use Rattle.z_regs.specs.declared.ranges.Range.{Range}
use Rattle.z_regs.specs.declared.waiting.Waiting.{Waiting}
use Rattle.z_instr.specs.declared.instr.Instr.{Instr}
use Rattle.tx_serial.specs.Fate.{Fate, Goes, Ends, Stops}
use Rattle.tx_serial.specs.Flat.{Pending}
use Rattle.tx_serial.specs.Flat.{address_of}
use Rattle.tx_meaning.specs.Needs.{stored, interruption_ranges}
use Rattle.tx_works.specs.InTurn.{block_awaited}
use Rattle.tx_works.specs.Wanted.{real_ranges, operands_of}

-- a block that is pending
pub block-wanted : (p : Option Pending) (w : Option Waiting) (f : Fate) (a : ℕ) → Some a ≡ address_of p
    → stored a 256 ∷ [] ≡ real_ranges p w f
block-wanted None w f a e = absurd (cc)
block-wanted (Some b) w f a e = let same : a ≡ b.address = cc in ap (λ n. stored n 256 ∷ []) same

-- an interruption that waits, by places that are those of any block or of none
pub taken-places : (prefix : Option ℕ) (block : Bool) (p : Option Pending) (w : Option Waiting) (f : Fate)
    (places : List Range) → None ≡ address_of p → Some block ≡ block_awaited w
    → ((bytes : Option (List ℕ)) → is_some bytes ≡ block
    → places ≡ absolute_ranges prefix (interruption_ranges bytes))
    → places ≡ absolute_ranges prefix (real_ranges p w f)
taken-places prefix block (Some b) w f places none e told = absurd (cc)
taken-places prefix block None None f places none e told = absurd (cc)
taken-places prefix block None (Some w) f places none e told =
    told w.block (let same : is_some w.block ≡ block = cc in same)

-- the next instruction
pub next-wanted : (p : Option Pending) (w : Option Waiting) (f : Fate) → None ≡ address_of p
    → None ≡ block_awaited w → operands_of f ≡ real_ranges p w f
next-wanted (Some b) w f none e = absurd (cc)
next-wanted None (Some w) f none e = absurd (cc)
next-wanted None None f none e = refl

-- nothing where no instruction that goes touches anything
pub nothing-wanted : (f : Fate) → ((i : Instr) (need : List Range) → f ≡ Goes i need → need ≡ []) → operands_of f ≡ []
nothing-wanted (Goes i need) h = h i need refl
nothing-wanted (Ends why) h = refl
nothing-wanted (Stops e) h = refl
