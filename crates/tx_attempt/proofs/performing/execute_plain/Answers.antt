-- Each call executes the instruction on storage.
use Rattle.std.proofs.Common.{List, ap, subst, ◌∙◌, length}
use Rattle.z_regs.specs.Cpu.{cpu_of}
use Rattle.z_instr.specs.Operands.{Span}
use Rattle.z_effect.specs.After.{AreInside}
use Rattle.tx_attempt.proofs.Effects.{operand-spans, plain-left}
use Rattle.tx_attempt.proofs.performing.execute_plain.Goals as goal

pub execute_kind-requires-clause-inside : goal.execute_kind-requires-clause-inside
execute_kind-requires-clause-inside g c =
    subst (λ (ss : List Span). AreInside ss (g.V.Bytes.bytes c.args.base.now))
    (operand-spans c.args.instr.now (cpu_of c.args.image.now) c.args.need.now c.requires.need)
    c.requires.inside

pub returns-in-Storage-clause-left : goal.returns-in-Storage-clause-left
returns-in-Storage-clause-left g c depth =
    plain-left depth c.args.instr.now c.args.need.now (cpu_of c.args.image.now) _
    (g.V.Bytes.bytes c.args.base.now) _ _ _
    c.requires.need (c.execute_kind.ensures.does depth) c.end_of.ensures

pub returns-in-General-clause-left : goal.returns-in-General-clause-left
returns-in-General-clause-left g c depth =
    plain-left depth c.args.instr.now c.args.need.now (cpu_of c.args.image.now) _
    (g.V.Bytes.bytes c.args.base.now) _ _ _
    c.requires.need (c.execute_kind-in-General.ensures.does depth) c.end_of-in-General.ensures

pub returns-in-General-clause-size : goal.returns-in-General-clause-size
returns-in-General-clause-size g c = ap length c.execute_kind-in-General.ensures.view ∙ c.requires.size

pub returns-in-Branch-clause-left : goal.returns-in-Branch-clause-left
returns-in-Branch-clause-left g c depth =
    plain-left depth c.args.instr.now c.args.need.now (cpu_of c.args.image.now) _
    (g.V.Bytes.bytes c.args.base.now) _ _ _
    c.requires.need (c.execute_kind-in-Branch.ensures.does depth) c.end_of-in-Branch.ensures

pub returns-in-Branch-clause-size : goal.returns-in-Branch-clause-size
returns-in-Branch-clause-size g c = ap length c.execute_kind-in-Branch.ensures.view ∙ c.requires.size
