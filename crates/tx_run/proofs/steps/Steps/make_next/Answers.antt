-- It is one step more.
use Rattle.std.proofs.Common.{◌≡◌, suc, ◌+◌, true, sym, ap, ◌∙◌, arith}
use Rattle.std.specs.Prelude.{if◌then◌else◌}
use Rattle.std.specs.FinSet.{items}
use Rattle.tx_progress.specs.declared.done.Done.{Done}
use Rattle.tx_cpu.specs.Parts.{local_of}
use Rattle.tx_marks.specs.Own.{bytes_at}
use Rattle.tx_run.specs.Made.{is_stepped}
use Rattle.tx_run.proofs.Frame.{goes-reached}
use Rattle.tx_run.proofs.Making.{one-more-made}
use Rattle.tx_run.proofs.Nexts.{away-is}
use Rattle.tx_run.proofs.steps.Steps.make_next.Goals as goal

pub make-requires-clause-within : goal.make-requires-clause-within
make-requires-clause-within c =
    let text = items c.args.program.now.guard in
    let m = c.args.self.now in
    (goes-reached text (bytes_at m.own.now) (local_of m.reached).attempt c.in-Go.instr c.in-Go.need
    c.in-Go.ensures.area (sym c.in-Go.ensures.fate)).within

pub returns-in-Go-clause-made : goal.returns-in-Go-clause-made
returns-in-Go-clause-made c =
    let text = items c.args.program.now.guard in
    let m = c.args.self.now in
    let i = c.in-Go.instr in
    let need = c.in-Go.need in
    let goes = sym c.in-Go.ensures.fate in
    let away = away-is text m i need c.requires.away goes in
    let so : c.make.result ≡ true = c.make.ensures.told ∙ ap (λ (d : Done). is_stepped d) away.told in
    let more : c.make.new.self.steps ≡ suc m.steps =
    c.make.ensures.steps ∙ ap (λ b. if b then m.steps + 1 else m.steps) so
    ∙ (let e : m.steps + 1 ≡ suc m.steps = omega arith in e) in
    one-more-made text c.args.program.now.storage m c.make.new.self i need c.requires.made c.make.ensures.start more goes
    away.plain away.told (c.make.ensures.made so) c.in-Go.ensures.opens c.in-Go.ensures.area
