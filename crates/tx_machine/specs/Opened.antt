-- What a machine keeps before anything has happened.
use Rattle.std.specs.Prelude.{◌≡◌, List, All, map}
use Rattle.z_regs.specs.Cpu.{Cpu}
use Rattle.tx_ladder.specs.Parameters.{Parameters}
use Rattle.tx_ladder.specs.Rungs.{fresh}
use Rattle.tx_home.specs.Local.{Local, settled}
use Rattle.tx_home.specs.Parts.{local_of}
use Rattle.tx_home.specs.DeclaredSlot.Tally.{Tally}
use Rattle.tx_home.specs.Works.{Seat}

abbrev pub nothing_counted : Tally
nothing_counted = record { attempts = 0; delay = 0; turns = 0; asked = 0; rejected = 0 }

-- the CPU has suffered no conflict, and nothing is counted of it
pub record IsUnused (parms : Parameters) (s : Seat) : Type 0 where
  pub ladder : s.ladder ≡ fresh parms
  pub tally : s.tally ≡ nothing_counted

abbrev pub kept_of_seat : Seat → Local
kept_of_seat s = local_of s.cpu

-- CPUs without attempts, for which nothing is left to do
pub record AreUnused (parms : Parameters) (cpus : List Cpu) (slots : List Seat) : Type 0 where
  pub kept : map kept_of_seat slots ≡ map settled cpus
  pub each : All (IsUnused parms) slots
