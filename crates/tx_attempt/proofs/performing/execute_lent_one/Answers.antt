-- The bytes of the operand are lent, the instruction is executed, and they come back.
use Rattle.std.proofs.Common.{[], refl, ap, sym, arith, length, take}
use Rattle.z_regs.specs.Cpu.{cpu_of}
use Rattle.z_regs.specs.Prefix.{absolute_of}
use Rattle.z_regs.specs.declared.ranges.Range.{Range}
use Rattle.z_regs.proofs.Writes.{written_none}
use Rattle.store_cache.specs.Entries.{stores_of}
use Rattle.tx_progress.specs.Progress.{seen_through}
use Rattle.tx_attempt.specs.Storages.{storage_of}
use Rattle.tx_attempt.specs.Performed.{no_range}
use Rattle.tx_attempt.proofs.Borrowed.{borrowed-inside, borrowed-outcome, borrowed-image, borrowed-returned}
use Rattle.tx_attempt.proofs.Lent.{no-second}
use Rattle.tx_attempt.proofs.Small.{small-so, part-small, range-small, seen-small}
use Rattle.tx_attempt.proofs.performing.execute_lent_one.Goals as goal

pub see-requires-clause-few : goal.see-requires-clause-few
see-requires-clause-few g c =
    part-small c.operand-first.result.length c.args.stored.now
    (small-so c.args.image.now.prefix c.args.need.now 0 _ c.requires.accessible c.operand-first.ensures)

pub exchange-requires-clause-few : goal.exchange-requires-clause-few
exchange-requires-clause-few g c =
    seen-small (λ a. seen_through (stores_of c.args.attempt.now.stores).overlay (storage_of (g.V.Bytes.bytes c.args.base.now))
    (absolute_of c.args.image.now.prefix a)) c.operand-first.result.first (length (take c.operand-first.result.length c.args.stored.now))
    c.see.new.bytes c.see.ensures (part-small c.operand-first.result.length c.args.stored.now
    (small-so c.args.image.now.prefix c.args.need.now 0 _ c.requires.accessible c.operand-first.ensures))

pub exchange-requires-2-clause-few : goal.exchange-requires-2-clause-few
exchange-requires-2-clause-few g c =
    range-small (g.V.Bytes.bytes c.args.base.now) c.operand-first.result.first (length c.see.new.bytes) c.exchange.new.bytes c.exchange.ensures.bytes
    (seen-small (λ a. seen_through (stores_of c.args.attempt.now.stores).overlay (storage_of (g.V.Bytes.bytes c.args.base.now))
    (absolute_of c.args.image.now.prefix a)) c.operand-first.result.first (length (take c.operand-first.result.length c.args.stored.now))
    c.see.new.bytes c.see.ensures (part-small c.operand-first.result.length c.args.stored.now
    (small-so c.args.image.now.prefix c.args.need.now 0 _ c.requires.accessible c.operand-first.ensures)))

pub execute_plain-ended-requires-clause-inside : goal.execute_plain-ended-requires-clause-inside
execute_plain-ended-requires-clause-inside g c =
    borrowed-inside c.args.image.now.prefix
    (seen_through (stores_of c.args.attempt.now.stores).overlay (storage_of (g.V.Bytes.bytes c.args.base.now)))
    c.args.need.now (g.V.Bytes.bytes c.args.base.now) (g.V.Bytes.bytes c.args.base.now)
    (g.V.Bytes.bytes c.exchange.new.base) c.args.stored.now [] c.see.new.bytes [] c.operand-first.result no_range
    c.requires.accessible (omega (arith, c.requires.one)) c.requires.size c.operand-first.ensures
    (sym (no-second c.args.need.now c.requires.one))
    (omega (arith, c.requires.room, ap (λ (r : Range). r.length) c.operand-first.ensures)) (omega arith)
    c.see.ensures refl (written_none (g.V.Bytes.bytes c.args.base.now) 0) c.exchange.ensures.storage

pub returns-clause-value : goal.returns-clause-value
returns-clause-value g c =
    borrowed-outcome c.args.image.now.prefix
    (seen_through (stores_of c.args.attempt.now.stores).overlay (storage_of (g.V.Bytes.bytes c.args.base.now)))
    c.args.need.now (g.V.Bytes.bytes c.args.base.now) (g.V.Bytes.bytes c.args.base.now)
    (g.V.Bytes.bytes c.exchange.new.base) c.args.stored.now [] c.see.new.bytes [] c.operand-first.result no_range
    c.requires.accessible (omega (arith, c.requires.one)) c.requires.size c.operand-first.ensures
    (sym (no-second c.args.need.now c.requires.one))
    (omega (arith, c.requires.room, ap (λ (r : Range). r.length) c.operand-first.ensures)) (omega arith)
    c.see.ensures refl (written_none (g.V.Bytes.bytes c.args.base.now) 0) c.exchange.ensures.storage
    c.args.instr.now (cpu_of c.args.image.now) (cpu_of c.execute_plain-ended.new.image)
    (length c.args.attempt.now.nest) (g.V.Bytes.bytes c.execute_plain-ended.new.base) c.exchange.new.bytes
    c.execute_plain-ended.result c.requires.need
    (c.execute_plain-ended.ensures.left (length c.args.attempt.now.nest)) c.exchange.ensures.bytes
    c.exchange-2.new.bytes _ c.exchange-2.ensures.bytes c.execute_plain-ended.ensures.size

pub returns-clause-image : goal.returns-clause-image
returns-clause-image g c =
    borrowed-image c.args.image.now.prefix
    (seen_through (stores_of c.args.attempt.now.stores).overlay (storage_of (g.V.Bytes.bytes c.args.base.now)))
    c.args.need.now (g.V.Bytes.bytes c.args.base.now) (g.V.Bytes.bytes c.args.base.now)
    (g.V.Bytes.bytes c.exchange.new.base) c.args.stored.now [] c.see.new.bytes [] c.operand-first.result no_range
    c.requires.accessible (omega (arith, c.requires.one)) c.requires.size c.operand-first.ensures
    (sym (no-second c.args.need.now c.requires.one))
    (omega (arith, c.requires.room, ap (λ (r : Range). r.length) c.operand-first.ensures)) (omega arith)
    c.see.ensures refl (written_none (g.V.Bytes.bytes c.args.base.now) 0) c.exchange.ensures.storage
    c.args.instr.now (cpu_of c.args.image.now) (cpu_of c.execute_plain-ended.new.image)
    (length c.args.attempt.now.nest) (g.V.Bytes.bytes c.execute_plain-ended.new.base) c.exchange.new.bytes
    c.execute_plain-ended.result c.requires.need
    (c.execute_plain-ended.ensures.left (length c.args.attempt.now.nest)) c.exchange.ensures.bytes

pub returns-clause-same : goal.returns-clause-same
returns-clause-same g c =
    borrowed-returned c.args.image.now.prefix
    (seen_through (stores_of c.args.attempt.now.stores).overlay (storage_of (g.V.Bytes.bytes c.args.base.now)))
    c.args.need.now (g.V.Bytes.bytes c.args.base.now) (g.V.Bytes.bytes c.args.base.now)
    (g.V.Bytes.bytes c.exchange.new.base) c.args.stored.now [] c.see.new.bytes [] c.operand-first.result no_range
    c.requires.accessible (omega (arith, c.requires.one)) c.requires.size c.operand-first.ensures
    (sym (no-second c.args.need.now c.requires.one))
    (omega (arith, c.requires.room, ap (λ (r : Range). r.length) c.operand-first.ensures)) (omega arith)
    c.see.ensures refl (written_none (g.V.Bytes.bytes c.args.base.now) 0) c.exchange.ensures.storage
    c.args.instr.now (cpu_of c.args.image.now) (cpu_of c.execute_plain-ended.new.image)
    (length c.args.attempt.now.nest) (g.V.Bytes.bytes c.execute_plain-ended.new.base) c.exchange.new.bytes
    c.execute_plain-ended.result c.requires.need
    (c.execute_plain-ended.ensures.left (length c.args.attempt.now.nest)) c.exchange.ensures.bytes
    (g.V.Bytes.bytes c.exchange-2.new.base) (g.V.Bytes.bytes c.exchange-2.new.base) [] refl
    c.exchange-2.ensures.storage (written_none (g.V.Bytes.bytes c.exchange-2.new.base) 0)
