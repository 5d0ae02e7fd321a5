-- What becomes of the next instruction, as code says it.
use Rattle.std.specs.Prelude.{◌≡◌, ℕ, List}
use Rattle.z_regs.specs.Absolute.{absolute_ranges}
use Rattle.tx_serial.specs.Attempt.{Run}
use Rattle.tx_serial.specs.Fate.{Fate, Passes, fate, operands}
use Rattle.tx_serial.specs.Fate as fate
use Rattle.tx_private.specs.declared.coming.Next.{Next}
use Rattle.tx_private.specs.declared.coming.Next.TheVariants.{Goes, Ends, Stops}

abbrev pub fate_of : Next → Fate
fate_of (Goes i admitted) = fate.Goes i admitted.touches
fate_of (Ends why) = fate.Ends why
fate_of (Stops e) = fate.Stops e

-- it goes by passing all tests, with these operands; or it ends or stops
abbrev pub Comes : List ℕ → Run → Next → Type 0
Comes text p (Goes i admitted) =
    Passes text p i admitted.touches × (admitted.absolute ≡ absolute_ranges p.cpu.prefix admitted.touches)
Comes text p (Ends why) = fate.fate text p ≡ fate.Ends why
Comes text p (Stops e) = fate.fate text p ≡ fate.Stops e
