use Rattle.std.proofs.Common.{List, ◌∙◌, subst, ap}
use Rattle.z_instr.specs.Operands.{Span}
use Rattle.z_instr.specs.Table.{Entry}
use Rattle.z_instr.specs.Layout.{form_length}
use Rattle.z_regs.specs.Cpu.{cpu_of}
use Rattle.z_effect.specs.After.{AreInside, ranges_of}
use Rattle.z_storage.proofs.Executing.{ranges_are, length_code, executes, leaves_size, leaves_elsewhere}
use Rattle.z_storage.proofs.run.execute_kind.Goals as goal

pub run-requires-clause-lists : goal.run-requires-clause-lists
run-requires-clause-lists g c =
    length_code c.args.instr.now c.args.kind.now c.args.instr.now.op.known c.requires.kind

pub run-requires-clause-inside : goal.run-requires-clause-inside
run-requires-clause-inside g c =
    subst (λ (rs : List Span). AreInside rs (g.V.Bytes.bytes c.args.view.now))
    (ranges_are c.args.instr.now (cpu_of c.args.image.now) c.args.kind.now c.args.instr.now.op.known
    c.requires.kind) c.requires.inside

pub returns-clause-does : goal.returns-clause-does
returns-clause-does g c depth =
    executes depth c.length_in-n.result c.args.instr.now c.args.kind.now _ _ _ _ _ c.args.instr.now.op.known
    c.requires.kind
    (c.length_in-n.ensures ∙ ap (λ (e : Entry). form_length e.form) c.line.ensures.row) c.run.ensures

pub returns-clause-beside : goal.returns-clause-beside
returns-clause-beside g c k beside =
    leaves_elsewhere (ranges_of c.args.instr.now (cpu_of c.args.image.now)) c.args.kind.now
    c.length_in-n.result c.args.instr.now _ _ _ _ _ k
    (ranges_are c.args.instr.now (cpu_of c.args.image.now) c.args.kind.now c.args.instr.now.op.known
    c.requires.kind) c.requires.inside beside c.run.ensures

pub returns-clause-size : goal.returns-clause-size
returns-clause-size g c =
    leaves_size (ranges_of c.args.instr.now (cpu_of c.args.image.now)) c.args.kind.now c.length_in-n.result
    c.args.instr.now _ _ _ _ _
    (ranges_are c.args.instr.now (cpu_of c.args.image.now) c.args.kind.now c.args.instr.now.op.known
    c.requires.kind) c.requires.inside c.run.ensures
    ∙ c.requires.size
