use Rattle.std.proofs.Common.{◌≡◌, take}
use Rattle.std.specs.Prelude.{map}
use Rattle.z_regs.specs.Cpu.{cpu_of}
use Rattle.tx_flat.specs.Machine.{slot_parts, fresh}
use Rattle.tx_flat.proofs.flat.fresh_slots.Given as goal

abbrev pub invariant-loop-image : goal.invariant-loop-image
invariant-loop-image l = map slot_parts l.slots.items ≡ map fresh (map cpu_of (take l.image-index l.cpus))
