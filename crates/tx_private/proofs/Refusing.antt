-- What a refusal makes of the next instruction.
use Rattle.std.proofs.Common.{◌≡◌, ℕ, true, List, [], ◌∷◌, Some, None, sym, ap, ◌∙◌}
use Rattle.z_regs.specs.Cpu.{Cpu}
use Rattle.z_regs.specs.Prefix.{is_prefix}
use Rattle.z_regs.specs.declared.ranges.Range.{Range}
use Rattle.z_instr.specs.declared.instr.Instr.{Instr}
use Rattle.tx_control.specs.declared.begins.Begin.{Begin}
use Rattle.tx_serial.specs.Flat.{Storage}
use Rattle.tx_serial.specs.Attempt.{Run}
use Rattle.tx_serial.specs.Fate.{Fate, Refusal, Excepts, Because, fate, fate_after, fate_by, fate_by_tests}
use Rattle.tx_serial.specs.Fate.{fetch_refusal, instruction_at, first_refusal, tests}
use Rattle.tx_serial.specs.Fate as fates
use Rattle.tx_private.specs.declared.attempt.Attempt.{Attempt}
use Rattle.tx_private.specs.declared.coming.Next.{Next}
use Rattle.tx_private.specs.declared.coming.Next.TheVariants.{Goes, Ends, Stops}
use Rattle.tx_private.specs.Shows.{Shows}
use Rattle.tx_private.specs.Coming.{Comes, fate_of}

never : (nest : List Begin) (r : Refusal) (i : Instr) (ranges : List Range)
    → fates.Goes i ranges ≡ fate_after nest r → ⊥
never [] (Excepts e) i ranges h = cc
never (b ∷ bs) (Excepts e) i ranges h = cc
never [] (Because why) i ranges h = cc
never (b ∷ bs) (Because why) i ranges h = cc

-- an answer of what comes of a refusal
pub comes_after : (text : List ℕ) (p : Run) (nest : List Begin) (r : Refusal) (n : Next)
    → fate text p ≡ fate_after nest r → fate_of n ≡ fate_after nest r → Comes text p n
comes_after text p nest r (Goes i admitted) h e = absurd (never nest r i admitted.touches e)
comes_after text p nest r (Ends why) h e = h ∙ sym e
comes_after text p nest r (Stops x) h e = h ∙ sym e

-- a refusal by the tests behind the fetch
pub refused_behind : (text : List ℕ) (p : Run) (i : Instr) (r : Refusal) → fetch_refusal text p ≡ None
    → instruction_at p ≡ Some i → first_refusal (tests text p i) ≡ Some r → fate text p ≡ fate_after p.nest r
unfolding fate
refused_behind text p i r f e h =
    ap (λ u. fate_by text p u (instruction_at p)) f ∙ ap (fate_by text p None) e ∙ ap (fate_by_tests p i) h

pub has_prefix : (base : Storage) (a : Attempt) (p : Run) → Shows base a p → is_prefix p.cpu.prefix ≡ true
has_prefix base a p shows = ap (λ (c : Cpu). is_prefix c.prefix) shows.cpu ∙ a.image.prefix_in
