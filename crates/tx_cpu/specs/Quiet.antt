-- When nothing is left to do before the next instruction of a CPU, which has no prefix.
use Rattle.std.specs.Prelude.{◌≡◌, None}
use Rattle.tx_progress.specs.Local.{Local}

pub record IsQuiet (l : Local) : Type 0 where
  pub pending : l.pending ≡ None
  pub waiting : l.waiting ≡ None
  pub prefix : l.attempt.cpu.prefix ≡ None
