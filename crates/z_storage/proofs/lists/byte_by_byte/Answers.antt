use Rattle.z_regs.specs.Cpu.{cpu_of}
use Rattle.z_storage.proofs.Whole.{leaves_results}
use Rattle.z_storage.proofs.lists.byte_by_byte.Goals as goal

pub returns : goal.returns
returns g c =
    leaves_results c.args.combination c.args.n c.args.instr.now (cpu_of c.args.image.now)
    (cpu_of c.combine.new.image) _ _ _ _ _ _
    c.first_address-target.ensures c.second_address-source.ensures c.bytes_named.ensures.count
    c.requires.inside
    c.combine.ensures.stored c.combine.ensures.code c.advance.ensures
