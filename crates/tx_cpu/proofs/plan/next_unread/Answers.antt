-- The instruction is tried where it is fetched and read.
use Rattle.std.proofs.Common.{List, false, ap, sym, ◌∙◌}
use Rattle.std.specs.FinSet.{FinSet, items}
use Rattle.std.specs.Ordering.{nat_cmp}
use Rattle.z_regs.specs.Cpu.{cpu_of}
use Rattle.z_instr.specs.Access.{accessible_pages, text_pages, unfetched}
use Rattle.z_instr.specs.Operands.{operation}
use Rattle.z_touch.specs.Refusals.{fetch_answer}
use Rattle.tx_control.specs.declared.begins.Begin.{Begin}
use Rattle.tx_serial.specs.Flat.{Storage}
use Rattle.tx_serial.specs.Fate.{fate_after, Excepts, fetch_refusal}
use Rattle.tx_progress.specs.Trial.{at_hand, fate_by_progress}
use Rattle.tx_attempt.specs.Tracked.{progress}
use Rattle.tx_attempt.specs.Storages.{storage_of}
use Rattle.tx_program.proofs.Fetches.{fetched-none}
use Rattle.tx_cpu.proofs.Tests.{planned-unfetched, planned-read, planned-unread}
use Rattle.tx_cpu.proofs.plan.next_unread.Goals as goal

pub returns-in-Err : goal.returns-in-Err
returns-in-Err c =
    let i = c.args.image.now in
    let storage : Storage = storage_of c.args.program.now.storage in
    let q = progress c.args.attempt.now (cpu_of i) in
    let pages = items c.guard-guard.result.now in
    let same = ap (λ (g : FinSet nat_cmp). fate_by_progress (items g) storage q) c.guard-guard.ensures in
    c.after_refusal.ensures
    ∙ ap (λ (n : List Begin). fate_after n (Excepts c.in-Err.e)) c.nest-nest.ensures
    ∙ planned-unfetched pages storage q c.in-Err.e
    ((c.in-Err.ensures) ∙ ap (λ n. fetch_answer (unfetched (accessible_pages i.prefix) (text_pages i.prefix
    pages) i.address n)) c.next_instruction-length.ensures.length)
    ∙ same

pub returns-in-None : goal.returns-in-None
returns-in-None c =
    let i = c.args.image.now in
    let storage : Storage = storage_of c.args.program.now.storage in
    let q = progress c.args.attempt.now (cpu_of i) in
    let pages = items c.guard-guard.result.now in
    let same = ap (λ (g : FinSet nat_cmp). fate_by_progress (items g) storage q) c.guard-guard.ensures in
    let count = c.next_instruction-length.ensures.length in
    planned-unread pages storage q _
    (fetched-none (fetch_refusal pages (at_hand storage q)) c.in-Ok.field-0
    ((c.in-Ok.ensures) ∙ ap (λ n. fetch_answer (unfetched (accessible_pages i.prefix) (text_pages i.prefix
    pages) i.address n)) count))
    (sym c.next_instruction-length.ensures.reading ∙ c.in-None.is)
    (c.after_refusal-in-None.ensures
    ∙ (λ j. fate_after (c.nest-nest.ensures j) (c.unreadable.ensures j))
    ∙ ap (λ n. fate_after q.nest (Excepts record { code = operation; fetch = false; length = n })) count)
    ∙ same

pub returns-in-Some : goal.returns-in-Some
returns-in-Some c =
    let i = c.args.image.now in
    let storage : Storage = storage_of c.args.program.now.storage in
    let q = progress c.args.attempt.now (cpu_of i) in
    let pages = items c.guard-guard.result.now in
    let same = ap (λ (g : FinSet nat_cmp). fate_by_progress (items g) storage q) c.guard-guard.ensures in
    planned-read pages storage q c.in-Some.instr _
    (fetched-none (fetch_refusal pages (at_hand storage q)) c.in-Ok.field-0
    ((c.in-Ok.ensures) ∙ ap (λ n. fetch_answer (unfetched (accessible_pages i.prefix) (text_pages i.prefix
    pages) i.address n)) c.next_instruction-length.ensures.length))
    (sym c.next_instruction-length.ensures.reading ∙ c.in-Some.is)
    (c.tried.ensures storage)
    ∙ same
