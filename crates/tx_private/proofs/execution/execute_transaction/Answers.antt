use Rattle.std.proofs.Common.{◌≤◌, ◌+◌, ◌∙◌, sym, ap, subst}
use Rattle.z_instr.specs.Operands.{first_address}
use Rattle.z_instr.specs.Layout.{form_length}
use Rattle.z_instr.specs.Table.{Entry}
use Rattle.z_regs.specs.Cpu.{cpu_of}
use Rattle.tx_private.specs.Done.{IsExecuted}
use Rattle.tx_private.specs.declared.execution.Completion.TheVariants as completion
use Rattle.tx_private.proofs.Executed.{abort_done, lasting_done, other_done, lasting_inside}
use Rattle.tx_private.proofs.execution.execute_transaction.Goals as goal

pub store_register-requires-clause-inside : goal.store_register-requires-clause-inside
store_register-requires-clause-inside c =
    subst (λ n. first_address c.args.instr.now c.args.image.now.general + 8 ≤ n) c.requires.size
    (lasting_inside c.args.instr.now c.args.kind (cpu_of c.args.image.now) c.args.seen.now c.requires.kind
    c.in-StoreLasting.is c.requires.inside)

pub returns-in-Abort-clause-done : goal.returns-in-Abort-clause-done
returns-in-Abort-clause-done c =
    let depth = c.args.depth in
    let i = c.args.instr.now in
    let cpu = cpu_of c.args.image.now in
    let s = c.args.seen.now in
    subst (λ a. IsExecuted depth i cpu cpu s s (completion.Aborts a)) (sym c.first_address.ensures)
    (abort_done depth c.length_in-n.result i c.args.kind cpu s c.requires.kind c.in-Abort.is
    (c.length_in-n.ensures ∙ ap (λ (e : Entry). form_length e.form) c.line.ensures.row))

pub returns-in-StoreLasting-clause-done : goal.returns-in-StoreLasting-clause-done
returns-in-StoreLasting-clause-done c =
    lasting_done c.args.depth c.length_in-n.result c.args.instr.now c.args.kind (cpu_of c.args.image.now)
    (cpu_of c.transact.new.image) c.args.seen.now c.store_register.new.seen c.requires.kind
    c.in-StoreLasting.is
    (c.length_in-n.ensures ∙ ap (λ (e : Entry). form_length e.form) c.line.ensures.row) c.transact.ensures
    c.store_register.ensures.stored

pub returns-in_default : goal.returns-in_default
returns-in_default c = record {
  done = other_done c.args.depth c.length_in-n.result c.args.instr.now c.args.kind (cpu_of c.args.image.now)
      (cpu_of c.transact-in_default.new.image) c.args.seen.now c.in_default.not-Abort
      c.in_default.not-StoreLasting
      c.requires.kind
      (c.length_in-n.ensures ∙ ap (λ (e : Entry). form_length e.form) c.line.ensures.row)
      c.transact-in_default.ensures;
  size = c.requires.size;
}
