-- The register is kept apart, and the CPU goes on behind the instruction.
use Rattle.std.proofs.Common.{◌≡◌, List, ℕ, ap, subst, sym, ◌∙◌}
use Rattle.z_regs.specs.Cpu.{cpu_of}
use Rattle.z_instr.specs.Layout.{form_length}
use Rattle.z_instr.specs.Table.{Entry}
use Rattle.z_effect.specs.One.{one, length_of}
use Rattle.z_effect.specs.Registers.{advanced}
use Rattle.tx_attempt.specs.declared.performing.Ended.TheVariants as ended
use Rattle.tx_attempt.specs.Performed.{IsKeptApart}
use Rattle.tx_attempt.proofs.Registers.{register-kept}
use Rattle.tx_attempt.proofs.keeping.keep_register.Goals as goal

pub returns-clause-done : goal.returns-clause-done
returns-clause-done c depth bytes =
    let i = c.args.instr.now in
    let cpu = cpu_of c.args.image.now in
    let length : c.length_in.result ≡ length_of i =
    c.length_in.ensures ∙ ap (λ (e : Entry). form_length e.form) c.line.ensures.row in
    subst (λ (stored : List ℕ). IsKeptApart (one i cpu depth bytes) 8 cpu (cpu_of c.advance.new.image) stored
    ended.Completed) (sym c.write_u64.ensures)
    (register-kept i cpu (cpu_of c.advance.new.image) depth c.register-value.result bytes c.args.stored.now
    c.requires.kind c.register-value.ensures (c.advance.ensures ∙ ap (λ n. advanced n cpu) length))
