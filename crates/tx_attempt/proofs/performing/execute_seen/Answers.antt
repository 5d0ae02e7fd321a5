-- What an attempt sees as it is in storage is executed there.
use Rattle.std.proofs.Common.{List, ℕ, arith, length, sym, ◌∙◌}
use Rattle.z_regs.specs.Cpu.{cpu_of}
use Rattle.store_cache.specs.Entries.{stores_of}
use Rattle.tx_progress.specs.Progress.{seen_through}
use Rattle.tx_attempt.specs.Storages.{storage_of}
use Rattle.tx_attempt.proofs.Lent.{at-most-two}
use Rattle.tx_attempt.proofs.Registers.{register-apart, register-long}
use Rattle.tx_attempt.proofs.performing.execute_seen.Goals as goal

pub are_bare-requires-clause-few : goal.are_bare-requires-clause-few
are_bare-requires-clause-few g c =
    at-most-two c.args.instr.now (cpu_of c.args.image.now) c.args.need.now c.requires.need

pub returns-then-are_bare-clause-value : goal.returns-then-are_bare-clause-value
returns-then-are_bare-clause-value g c =
    let s : List ℕ = g.V.Bytes.bytes c.args.base.now in
    (c.execute_there.ensures.done (seen_through (stores_of c.args.attempt.now.stores).overlay (storage_of s))
    (length c.args.attempt.now.nest) (c.are_bare.ensures c.if-are_bare.true s)).value

pub returns-then-are_bare-clause-image : goal.returns-then-are_bare-clause-image
returns-then-are_bare-clause-image g c =
    let s : List ℕ = g.V.Bytes.bytes c.args.base.now in
    (c.execute_there.ensures.done (seen_through (stores_of c.args.attempt.now.stores).overlay (storage_of s))
    (length c.args.attempt.now.nest) (c.are_bare.ensures c.if-are_bare.true s)).image

pub keep_register-requires-clause-room : goal.keep_register-requires-clause-room
keep_register-requires-clause-room g c =
    let long = register-long c.args.instr.now (cpu_of c.args.image.now) c.args.need.now c.requires.need
    (sym c.requires.kind ∙ c.stores_register.ensures c.if-stores_register.true) in
    omega (arith, long, c.requires.room)

pub returns-then-stores_register-clause-value : goal.returns-then-stores_register-clause-value
returns-then-stores_register-clause-value g c =
    register-apart c.args.instr.now (cpu_of c.args.image.now) _ (length c.args.attempt.now.nest) _ _
    c.args.need.now _ c.requires.need (sym c.requires.kind ∙ c.stores_register.ensures c.if-stores_register.true)
    (c.keep_register.ensures.done (length c.args.attempt.now.nest) _)

pub returns-then-stores_register-clause-image : goal.returns-then-stores_register-clause-image
returns-then-stores_register-clause-image g c =
    (c.keep_register.ensures.done (length c.args.attempt.now.nest) _).image
