-- What a plan promises of the instruction that goes.
use Rattle.std.proofs.Common.{◌≡◌, ℕ, List, sym}
use Rattle.z_regs.specs.Cpu.{Cpu}
use Rattle.z_regs.specs.declared.ranges.Range.{Range}
use Rattle.z_instr.specs.declared.instr.Instr.{Instr}
use Rattle.tx_serial.specs.Flat.{Storage}
use Rattle.tx_progress.specs.Progress.{Progress}
use Rattle.tx_progress.specs.Trial.{fate_by_progress}
use Rattle.tx_cpu.specs.Going.{MayGo}
use Rattle.tx_cpu.specs.Plans.{fate_of, IsPrepared, IsPlanPrepared}
use Rattle.tx_attempt.specs.Tracked.{Tracked, IsSound, progress}
use Rattle.tx_cpu.specs.declared.plan.Plan.{Plan}
use Rattle.tx_cpu.specs.declared.plan.Plan.TheVariants as plan
use Rattle.tx_cpu.proofs.Goes.{goes-so}

pub plan-prepared : (text : List ℕ) (s : Storage) (q : Progress) (p : Plan)
    → fate_of p ≡ fate_by_progress text s q → IsPlanPrepared q p
plan-prepared text s q (plan.Go instr need) e = record { text = text; storage = s; goes = sym e }
plan-prepared text s q (plan.Ends why) e = tt
plan-prepared text s q (plan.Stops e) h = tt

pub may-go : (t : Tracked) (c : Cpu) (i : Instr) (need : List Range) → IsSound t
    → IsPrepared (progress t c) i need → MayGo t c i need
may-go t c i need sound p = goes-so p.text p.storage t c i need sound p.goes
