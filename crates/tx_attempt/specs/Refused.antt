-- What tests find wrong, as code has it.
use Rattle.std.specs.Prelude.{Option, Some, None, Result, Ok, Err}
use Rattle.tx_serial.specs.Fate as fate
use Rattle.tx_attempt.specs.declared.refusal.Refusal.{Refusal}
use Rattle.tx_attempt.specs.declared.refusal.Refusal.TheVariants.{Excepts, Because}

abbrev pub refusal_of : Refusal → fate.Refusal
refusal_of (Excepts e) = fate.Excepts e
refusal_of (Because why) = fate.Because why

abbrev pub found : Result (Unit {0}) Refusal → Option fate.Refusal
found (Ok u) = None
found (Err refusal) = Some (refusal_of refusal)
