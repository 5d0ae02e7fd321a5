-- A register comes back with the value that it had.
use Rattle.std.proofs.Common.{get_or, sym, ap}
use Rattle.step_changes.specs.Seen.{CpuSeen}
use Rattle.step_changes.proofs.Parted.{general_back, access_back}
use Rattle.step_changes.proofs.seen.CpuSight.part_before.Goals as goal

pub returns-in-General : goal.returns-in-General
returns-in-General c =
    general_back c.args.self.now c.args.new.now c.in-General.r c.in-General.field-1
    (get_or c.self.inside.image.general c.in-General.r.number 0) c.in-General.is
    (ap (λ (s : CpuSeen). get_or s.cpu.general c.in-General.r.number 0) (sym c.self.view_is))

pub returns-in-Access : goal.returns-in-Access
returns-in-Access c =
    access_back c.args.self.now c.args.new.now c.in-Access.r c.in-Access.field-1
    (get_or c.self.inside.image.access c.in-Access.r.number 0) c.in-Access.is
    (ap (λ (s : CpuSeen). get_or s.cpu.access c.in-Access.r.number 0) (sym c.self.view_is))
