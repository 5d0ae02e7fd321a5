-- The instruction is tried where it is fetched.
use Rattle.std.proofs.Common.{List, ap, ◌∙◌}
use Rattle.std.specs.FinSet.{FinSet, items}
use Rattle.std.specs.Ordering.{nat_cmp}
use Rattle.z_regs.specs.Cpu.{cpu_of}
use Rattle.z_instr.specs.Access.{accessible_pages, text_pages, unfetched}
use Rattle.z_touch.specs.Refusals.{fetch_answer}
use Rattle.tx_control.specs.declared.begins.Begin.{Begin}
use Rattle.tx_serial.specs.Flat.{Storage}
use Rattle.tx_serial.specs.Fate.{fate_after, Excepts, fetch_refusal}
use Rattle.tx_progress.specs.Trial.{at_hand, fate_by_progress}
use Rattle.tx_attempt.specs.Tracked.{progress}
use Rattle.tx_attempt.specs.Storages.{storage_of}
use Rattle.tx_program.proofs.Fetches.{fetched-none}
use Rattle.tx_cpu.proofs.Tests.{planned-unfetched, planned-read}
use Rattle.tx_cpu.proofs.plan.fetched.Goals as goal

pub returns-in-Err : goal.returns-in-Err
returns-in-Err c =
    let i = c.args.image.now in
    let storage : Storage = storage_of c.args.program.now.storage in
    let q = progress c.args.attempt.now (cpu_of i) in
    let pages = items c.guard-guard.result.now in
    let same = ap (λ (g : FinSet nat_cmp). fate_by_progress (items g) storage q) c.guard-guard.ensures in
    c.after_refusal.ensures
    ∙ ap (λ (n : List Begin). fate_after n (Excepts c.in-Err.e)) c.nest.ensures
    ∙ planned-unfetched pages storage q c.in-Err.e
    ((c.in-Err.ensures) ∙ ap (λ n. fetch_answer (unfetched (accessible_pages i.prefix) (text_pages i.prefix
    pages) i.address n)) c.requires.length)
    ∙ same

pub returns-in-Ok : goal.returns-in-Ok
returns-in-Ok c =
    let i = c.args.image.now in
    let storage : Storage = storage_of c.args.program.now.storage in
    let q = progress c.args.attempt.now (cpu_of i) in
    let pages = items c.guard-guard.result.now in
    let same = ap (λ (g : FinSet nat_cmp). fate_by_progress (items g) storage q) c.guard-guard.ensures in
    planned-read pages storage q c.args.instr.now _
    (fetched-none (fetch_refusal pages (at_hand storage q)) c.in-Ok.field-0
    ((c.in-Ok.ensures) ∙ ap (λ n. fetch_answer (unfetched (accessible_pages i.prefix) (text_pages i.prefix
    pages) i.address n)) c.requires.length))
    c.requires.reading (c.tried.ensures storage)
    ∙ same
