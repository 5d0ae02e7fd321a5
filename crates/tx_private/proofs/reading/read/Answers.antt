use Rattle.std.proofs.Common.{◌≡◌, ◌<◌, ◌∙◌, ap, sym, subst, arith, Some, None}
use Rattle.std.proofs.Common.{take, drop, false}
use Rattle.std.specs.FinSet.{items}
use Rattle.z_regs.specs.Cpu.{cpu_of}
use Rattle.z_regs.specs.Prefix.{storage_size}
use Rattle.z_instr.specs.Layout.{length_by}
use Rattle.z_instr.specs.Computing.{reading_of}
use Rattle.z_instr.specs.Operands.{operation}
use Rattle.z_instr.specs.Access.{accessible_pages, text_pages, unfetched}
use Rattle.z_touch.specs.Refusals.{fetch_answer}
use Rattle.tx_serial.specs.Fate.{Excepts, fate_after}
use Rattle.tx_private.proofs.Fetched.{refused_fate, found, unreadable_fate, goes_on, fetched_inside}
use Rattle.z_instr.proofs.Distinct.{some_length}
use Rattle.tx_private.proofs.reading.read.Goals as goal

pub returns-in-Err : goal.returns-in-Err
returns-in-Err c = λ p e copy.
    let i = c.args.image.now in
    refused_fate (items c.args.guard.now) c.args.seen.now p (cpu_of i) c.first_byte.result c.in-Err.exception
    e copy
    i.prefix_in c.first_byte.ensures
    (c.in-Err.ensures
    ∙ ap (λ n. fetch_answer (unfetched (accessible_pages i.prefix) (text_pages i.prefix (items
    c.args.guard.now))
    i.address n)) c.length_of-length.ensures)

pub decode_at-requires-clause-inside : goal.decode_at-requires-clause-inside
decode_at-requires-clause-inside c =
    let i = c.args.image.now in
    let some = some_length c.first_byte.result in
    let same = c.length_of-length.ensures in
    fetched_inside i.prefix (text_pages i.prefix (items c.args.guard.now)) i.address c.length_of-length.result
    (omega (arith, some, same)) (goes_on _ c.in-Ok.ensures)

pub decode_at-requires-clause-length : goal.decode_at-requires-clause-length
decode_at-requires-clause-length c =
    let i = c.args.image.now in
    let some = some_length c.first_byte.result in
    let same = c.length_of-length.ensures in
    let room = fetched_inside i.prefix (text_pages i.prefix (items c.args.guard.now)) i.address
    c.length_of-length.result (omega (arith, some, same)) (goes_on _ c.in-Ok.ensures) in
    let low : i.address < storage_size = omega (arith, some, same, room) in
    c.length_of-length.ensures ∙ ap length_by (c.first_byte.ensures low)

pub returns-in-Some : goal.returns-in-Some
returns-in-Some c = λ p e copy.
    let i = c.args.image.now in
    let text = items c.args.guard.now in
    let seen = c.args.seen.now in
    let same = c.length_of-length.ensures in
    found text seen p (cpu_of i) c.first_byte.result (Some c.in-Some.instr) e copy i.prefix_in
    c.first_byte.ensures
    (subst (λ n. unfetched (accessible_pages i.prefix) (text_pages i.prefix text) i.address n ≡ None) same
    (goes_on _ c.in-Ok.ensures))
    (subst (λ n. Some c.in-Some.instr ≡ reading_of (take n (drop i.address seen))) same (c.in-Some.ensures))

pub returns-in-None : goal.returns-in-None
returns-in-None c = λ p e copy.
    let i = c.args.image.now in
    let text = items c.args.guard.now in
    let seen = c.args.seen.now in
    let same = c.length_of-length.ensures in
    unreadable_fate text seen p (cpu_of i) c.first_byte.result e copy i.prefix_in c.first_byte.ensures
    (subst (λ n. unfetched (accessible_pages i.prefix) (text_pages i.prefix text) i.address n ≡ None) same
    (goes_on _ c.in-Ok.ensures))
    (subst (λ n. None ≡ reading_of (take n (drop i.address seen))) same (c.in-None.ensures))
    ∙ ap (λ n. fate_after p.nest (Excepts record { code = operation; fetch = false; length = n })) (sym same)
