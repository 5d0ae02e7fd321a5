-- Causes by which an attempt ends, and interruption codes.
use Rattle.std.specs.Prelude.{◌+◌, ◌<◌}
use Rattle.tx_control.specs.declared.causes.Why.{Why}
use Rattle.tx_control.specs.declared.causes.Why.TheVariants.{Program}
use Rattle.tx_serial.specs.Remains.{aborted_bit}

-- the interruption code has room for the bit that tells of an aborted transaction
abbrev pub HasRoom : Why → Type 0
HasRoom (Program e) = e.code + aborted_bit < 65536
HasRoom _ = Unit {0}
