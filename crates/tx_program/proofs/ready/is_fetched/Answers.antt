-- A CPU without a prefix fetches from its own address.
use Rattle.std.proofs.Common.{sym, ap, ◌∙◌}
use Rattle.std.proofs.lemmas.Bool.{true≢false}
use Rattle.std.specs.FinSet.{items}
use Rattle.z_regs.specs.Cpu.{Cpu}
use Rattle.z_instr.specs.Access.{accessible_pages, text_pages, unfetched}
use Rattle.z_touch.specs.Refusals.{fetch_answer}
use Rattle.tx_program.proofs.Fetches.{fetched-none}
use Rattle.tx_program.proofs.ready.is_fetched.Goals as goal

pub returns-in-Ok : goal.returns-in-Ok
returns-in-Ok c h =
    fetched-none _ c.in-Ok.field-0
    (c.in-Ok.ensures
    ∙ ap (λ (x : Cpu). fetch_answer (unfetched (accessible_pages x.prefix) (text_pages x.prefix
    (items c.args.guard.now)) x.address c.args.length)) c.entering.ensures)

pub returns-in-Err : goal.returns-in-Err
returns-in-Err c h = absurd (true≢false (sym h))
