-- Where no attempt is live, nothing is asked.
use Rattle.std.proofs.Common.{◌≡◌, sym, ◌∙◌}
use Rattle.std.specs.Prelude.{nat_lt, false}
use Rattle.z_regs.specs.Cpu.{cpu_of}
use Rattle.tx_program.specs.Shapes.{touched_by}
use Rattle.tx_cpu.proofs.Plainly.{unbegun-admits}
use Rattle.tx_progress.proofs.Parts.{not_live}
use Rattle.tx_cpu.proofs.plain.admits.Goals as goal

pub returns-then-not-is_live : goal.returns-then-not-is_live
returns-then-not-is_live c live =
    let t = c.args.attempt.now in
    let cpu = cpu_of c.args.image.now in
    let r = c.args.ready.now in
    let quiet : nat_lt 0 t.count ≡ false = sym c.is_live.ensures ∙ c.if-not-is_live.true in
    unbegun-admits t cpu r.instr (touched_by r.shape.touch c.args.first r.shape.size)
    (c.is_sound.ensures.rests (not_live _ quiet) cpu)
