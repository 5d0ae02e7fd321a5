-- All of its tests say so.
use Rattle.std.proofs.Common.{sym, ◌∙◌}
use Rattle.z_regs.specs.Cpu.{cpu_of}
use Rattle.tx_program.specs.Shapes.{touched_by}
use Rattle.tx_attempt.specs.Tracked.{progress}
use Rattle.tx_cpu.proofs.Plainly.{attempt-admits}
use Rattle.tx_cpu.proofs.plain.admits_inside.Goals as goal

pub returns : goal.returns
returns c so =
    let r = c.args.ready.now in
    let keeps = c.keeps_limits.ensures so in
    attempt-admits (progress c.args.attempt.now (cpu_of c.args.image.now)) r.instr
    (touched_by r.shape.touch c.args.first r.shape.size) c.requires.prefix
    (c.has_stored.ensures c.if-has_stored.false) (sym c.requires.admitted ∙ c.if-not-ready.false) keeps.text keeps.place
    keeps.fits
