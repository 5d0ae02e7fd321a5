-- The bytes of both operands are lent, the instruction is executed, and they come back.
use Rattle.std.proofs.Common.{rules, ◌≤◌, ap, arith, length, take}
use Rattle.z_regs.specs.Cpu.{cpu_of}
use Rattle.z_regs.specs.Prefix.{absolute_of}
use Rattle.z_regs.specs.declared.ranges.Range.{Range}
use Rattle.store_cache.specs.Entries.{stores_of}
use Rattle.tx_progress.specs.Progress.{seen_through}
use Rattle.tx_attempt.specs.Storages.{storage_of}
use Rattle.tx_attempt.proofs.Borrowed.{borrowed-inside, borrowed-outcome, borrowed-image, borrowed-returned}
use Rattle.tx_attempt.proofs.Lent.{at-most-two}
use Rattle.tx_attempt.proofs.Small.{small-so, part-small, range-small, seen-small}
use Rattle.tx_attempt.proofs.performing.execute_lent.Goals as goal

pub see-requires-clause-few : goal.see-requires-clause-few
see-requires-clause-few g c =
    part-small c.operand-first.result.length c.args.stored.now
    (small-so c.args.image.now.prefix c.args.need.now 0 _ c.requires.accessible c.operand-first.ensures)

pub see-requires-2-clause-few : goal.see-requires-2-clause-few
see-requires-2-clause-few g c =
    part-small c.operand-second.result.length _
    (small-so c.args.image.now.prefix c.args.need.now 1 _ c.requires.accessible c.operand-second.ensures)

pub exchange-requires-clause-few : goal.exchange-requires-clause-few
exchange-requires-clause-few g c =
    seen-small (λ a. seen_through (stores_of c.args.attempt.now.stores).overlay (storage_of (g.V.Bytes.bytes c.args.base.now))
    (absolute_of c.args.image.now.prefix a)) c.operand-second.result.first _
    c.see-2.new.bytes c.see-2.ensures
    (part-small c.operand-second.result.length _
    (small-so c.args.image.now.prefix c.args.need.now 1 _ c.requires.accessible c.operand-second.ensures))

pub exchange-requires-2-clause-few : goal.exchange-requires-2-clause-few
exchange-requires-2-clause-few g c =
    seen-small (λ a. seen_through (stores_of c.args.attempt.now.stores).overlay (storage_of (g.V.Bytes.bytes c.args.base.now))
    (absolute_of c.args.image.now.prefix a)) c.operand-first.result.first (length (take c.operand-first.result.length c.args.stored.now))
    c.see.new.bytes c.see.ensures
    (part-small c.operand-first.result.length c.args.stored.now
    (small-so c.args.image.now.prefix c.args.need.now 0 _ c.requires.accessible c.operand-first.ensures))

pub exchange-requires-3-clause-few : goal.exchange-requires-3-clause-few
exchange-requires-3-clause-few g c =
    range-small (g.V.Bytes.bytes c.exchange.new.base) c.operand-first.result.first (length c.see.new.bytes)
    c.exchange-2.new.bytes c.exchange-2.ensures.bytes
    (seen-small (λ a. seen_through (stores_of c.args.attempt.now.stores).overlay (storage_of (g.V.Bytes.bytes c.args.base.now))
    (absolute_of c.args.image.now.prefix a)) c.operand-first.result.first (length (take c.operand-first.result.length c.args.stored.now))
    c.see.new.bytes c.see.ensures
    (part-small c.operand-first.result.length c.args.stored.now
    (small-so c.args.image.now.prefix c.args.need.now 0 _ c.requires.accessible c.operand-first.ensures)))

pub exchange-requires-4-clause-few : goal.exchange-requires-4-clause-few
exchange-requires-4-clause-few g c =
    range-small (g.V.Bytes.bytes c.args.base.now) c.operand-second.result.first (length c.see-2.new.bytes)
    c.exchange.new.bytes c.exchange.ensures.bytes
    (seen-small (λ a. seen_through (stores_of c.args.attempt.now.stores).overlay (storage_of (g.V.Bytes.bytes c.args.base.now))
    (absolute_of c.args.image.now.prefix a)) c.operand-second.result.first _
    c.see-2.new.bytes c.see-2.ensures
    (part-small c.operand-second.result.length _
    (small-so c.args.image.now.prefix c.args.need.now 1 _ c.requires.accessible c.operand-second.ensures)))

pub execute_plain-ended-requires-clause-inside : goal.execute_plain-ended-requires-clause-inside
execute_plain-ended-requires-clause-inside g c =
    let small-second : c.operand-second.result.length ≤ 256 =
    small-so c.args.image.now.prefix c.args.need.now 1 _ c.requires.accessible c.operand-second.ensures in
    borrowed-inside c.args.image.now.prefix
    (seen_through (stores_of c.args.attempt.now.stores).overlay (storage_of (g.V.Bytes.bytes c.args.base.now)))
    c.args.need.now (g.V.Bytes.bytes c.args.base.now) (g.V.Bytes.bytes c.exchange.new.base)
    (g.V.Bytes.bytes c.exchange-2.new.base) c.args.stored.now _ c.see.new.bytes c.see-2.new.bytes
    c.operand-first.result c.operand-second.result c.requires.accessible
    (at-most-two c.args.instr.now (cpu_of c.args.image.now) c.args.need.now c.requires.need) c.requires.size
    c.operand-first.ensures c.operand-second.ensures
    (omega (arith, c.requires.room, ap (λ (r : Range). r.length) c.operand-first.ensures)) (search rules)
    c.see.ensures c.see-2.ensures c.exchange.ensures.storage c.exchange-2.ensures.storage

pub returns-clause-value : goal.returns-clause-value
returns-clause-value g c =
    let small-second : c.operand-second.result.length ≤ 256 =
    small-so c.args.image.now.prefix c.args.need.now 1 _ c.requires.accessible c.operand-second.ensures in
    borrowed-outcome c.args.image.now.prefix
    (seen_through (stores_of c.args.attempt.now.stores).overlay (storage_of (g.V.Bytes.bytes c.args.base.now)))
    c.args.need.now (g.V.Bytes.bytes c.args.base.now) (g.V.Bytes.bytes c.exchange.new.base)
    (g.V.Bytes.bytes c.exchange-2.new.base) c.args.stored.now _ c.see.new.bytes c.see-2.new.bytes
    c.operand-first.result c.operand-second.result c.requires.accessible
    (at-most-two c.args.instr.now (cpu_of c.args.image.now) c.args.need.now c.requires.need) c.requires.size
    c.operand-first.ensures c.operand-second.ensures
    (omega (arith, c.requires.room, ap (λ (r : Range). r.length) c.operand-first.ensures)) (search rules)
    c.see.ensures c.see-2.ensures c.exchange.ensures.storage c.exchange-2.ensures.storage
    c.args.instr.now (cpu_of c.args.image.now) (cpu_of c.execute_plain-ended.new.image)
    (length c.args.attempt.now.nest) (g.V.Bytes.bytes c.execute_plain-ended.new.base) c.exchange-2.new.bytes
    c.execute_plain-ended.result c.requires.need
    (c.execute_plain-ended.ensures.left (length c.args.attempt.now.nest)) c.exchange-2.ensures.bytes
    c.exchange-3.new.bytes _ c.exchange-3.ensures.bytes c.execute_plain-ended.ensures.size

pub returns-clause-image : goal.returns-clause-image
returns-clause-image g c =
    let small-second : c.operand-second.result.length ≤ 256 =
    small-so c.args.image.now.prefix c.args.need.now 1 _ c.requires.accessible c.operand-second.ensures in
    borrowed-image c.args.image.now.prefix
    (seen_through (stores_of c.args.attempt.now.stores).overlay (storage_of (g.V.Bytes.bytes c.args.base.now)))
    c.args.need.now (g.V.Bytes.bytes c.args.base.now) (g.V.Bytes.bytes c.exchange.new.base)
    (g.V.Bytes.bytes c.exchange-2.new.base) c.args.stored.now _ c.see.new.bytes c.see-2.new.bytes
    c.operand-first.result c.operand-second.result c.requires.accessible
    (at-most-two c.args.instr.now (cpu_of c.args.image.now) c.args.need.now c.requires.need) c.requires.size
    c.operand-first.ensures c.operand-second.ensures
    (omega (arith, c.requires.room, ap (λ (r : Range). r.length) c.operand-first.ensures)) (search rules)
    c.see.ensures c.see-2.ensures c.exchange.ensures.storage c.exchange-2.ensures.storage
    c.args.instr.now (cpu_of c.args.image.now) (cpu_of c.execute_plain-ended.new.image)
    (length c.args.attempt.now.nest) (g.V.Bytes.bytes c.execute_plain-ended.new.base) c.exchange-2.new.bytes
    c.execute_plain-ended.result c.requires.need
    (c.execute_plain-ended.ensures.left (length c.args.attempt.now.nest)) c.exchange-2.ensures.bytes

pub returns-clause-same : goal.returns-clause-same
returns-clause-same g c =
    let small-second : c.operand-second.result.length ≤ 256 =
    small-so c.args.image.now.prefix c.args.need.now 1 _ c.requires.accessible c.operand-second.ensures in
    borrowed-returned c.args.image.now.prefix
    (seen_through (stores_of c.args.attempt.now.stores).overlay (storage_of (g.V.Bytes.bytes c.args.base.now)))
    c.args.need.now (g.V.Bytes.bytes c.args.base.now) (g.V.Bytes.bytes c.exchange.new.base)
    (g.V.Bytes.bytes c.exchange-2.new.base) c.args.stored.now _ c.see.new.bytes c.see-2.new.bytes
    c.operand-first.result c.operand-second.result c.requires.accessible
    (at-most-two c.args.instr.now (cpu_of c.args.image.now) c.args.need.now c.requires.need) c.requires.size
    c.operand-first.ensures c.operand-second.ensures
    (omega (arith, c.requires.room, ap (λ (r : Range). r.length) c.operand-first.ensures)) (search rules)
    c.see.ensures c.see-2.ensures c.exchange.ensures.storage c.exchange-2.ensures.storage
    c.args.instr.now (cpu_of c.args.image.now) (cpu_of c.execute_plain-ended.new.image)
    (length c.args.attempt.now.nest) (g.V.Bytes.bytes c.execute_plain-ended.new.base) c.exchange-2.new.bytes
    c.execute_plain-ended.result c.requires.need
    (c.execute_plain-ended.ensures.left (length c.args.attempt.now.nest)) c.exchange-2.ensures.bytes
    (g.V.Bytes.bytes c.exchange-3.new.base) (g.V.Bytes.bytes c.exchange-4.new.base) c.exchange.new.bytes
    c.exchange.ensures.bytes c.exchange-3.ensures.storage c.exchange-4.ensures.storage
