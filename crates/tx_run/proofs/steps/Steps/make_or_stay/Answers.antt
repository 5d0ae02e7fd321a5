-- It is one step more, or all are made again.
use Rattle.std.proofs.Common.{◌≡◌, suc, ◌+◌, sym, ap, ◌∙◌, arith}
use Rattle.std.specs.Prelude.{if◌then◌else◌}
use Rattle.std.specs.FinSet.{items}
use Rattle.tx_cpu.specs.Parts.{local_of}
use Rattle.tx_marks.specs.Own.{bytes_at}
use Rattle.tx_run.proofs.Again.{stays-again}
use Rattle.tx_run.proofs.Frame.{goes-reached}
use Rattle.tx_run.proofs.Making.{one-more-made}
use Rattle.tx_run.proofs.Nexts.{stepped-is}
use Rattle.tx_run.proofs.steps.Steps.make_or_stay.Goals as goal

pub make-requires-clause-within : goal.make-requires-clause-within
make-requires-clause-within c =
    let text = items c.args.program.now.guard in
    let m = c.args.self.now in
    (goes-reached text (bytes_at m.own.now) (local_of m.reached).attempt c.args.instr.now c.args.need.now
    c.requires.area c.requires.goes).within

pub returns-then-make-clause-made : goal.returns-then-make-clause-made
returns-then-make-clause-made c =
    let text = items c.args.program.now.guard in
    let m = c.args.self.now in
    let so = c.if-make.true in
    let more : c.make.new.self.steps ≡ suc m.steps =
    c.make.ensures.steps ∙ ap (λ b. if b then m.steps + 1 else m.steps) so
    ∙ (let e : m.steps + 1 ≡ suc m.steps = omega arith in e) in
    one-more-made text c.args.program.now.storage m c.make.new.self c.args.instr.now c.args.need.now c.requires.made
    c.make.ensures.start more c.requires.goes c.requires.plain
    (stepped-is _ (sym c.make.ensures.told ∙ so)) (c.make.ensures.made so) c.requires.opens c.requires.area

pub make_again-requires-clause-again : goal.make_again-requires-clause-again
make_again-requires-clause-again c =
    let m = c.args.self.now in
    stays-again (items c.args.program.now.guard) c.args.program.now.storage m c.make.new.self c.requires.made
    c.make.ensures.start
    (c.make.ensures.steps ∙ ap (λ b. if b then m.steps + 1 else m.steps) c.if-make.false)
