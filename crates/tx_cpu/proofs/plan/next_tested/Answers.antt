-- An instruction that was read before is the one that the attempt sees.
use Rattle.std.proofs.Common.{List, ℕ, ap, sym, ◌∙◌, get_or}
use Rattle.z_regs.specs.Cpu.{cpu_of}
use Rattle.z_instr.specs.Layout.{length_by}
use Rattle.tx_attempt.specs.Tracked.{progress}
use Rattle.tx_cpu.proofs.Programs.{plain_length, plain_reading}
use Rattle.tx_cpu.proofs.plan.next_tested.Goals as goal

pub fetched-requires-clause-length : goal.fetched-requires-clause-length
fetched-requires-clause-length c =
    let q = progress c.args.attempt.now (cpu_of c.args.image.now) in
    c.length_of-length.ensures
    ∙ ap (λ (bs : List ℕ). length_by (get_or bs c.in-Some.place 0)) c.bytes.ensures.value
    ∙ plain_length q c.args.program.now.storage c.in-Some.place c.in-Some.ensures

pub fetched-requires-clause-reading : goal.fetched-requires-clause-reading
fetched-requires-clause-reading c =
    let q = progress c.args.attempt.now (cpu_of c.args.image.now) in
    sym (plain_reading q c.args.program.now.storage c.in-Some.place c.bytes.ensures.size c.in-Some.ensures)
    ∙ c.in-Some-known.ensures.read
