-- The block is in storage.
use Rattle.std.proofs.Common.{ap, ◌∙◌}
use Rattle.z_regs.specs.Cpu.{Cpu}
use Rattle.tx_serial.specs.Flat.{with_bytes_at}
use Rattle.tx_cpu.specs.Blocks.{pending_of}
use Rattle.tx_attempt.specs.Storages.{storage_of}
use Rattle.tx_cpu.specs.contracts.one.Cpu.{the_view}
use Rattle.tx_cpu.proofs.Ends.{stored-is, unstored-is}
use Rattle.tx_cpu.proofs.one.Cpu.store_block.Goals as goal

pub returns-in-Some-clause-value : goal.returns-in-Some-clause-value
returns-in-Some-clause-value g c =
    let block = c.in-Some.block in
    let base = storage_of (g.V.Bytes.bytes c.args.base.now) in
    rw (← c.self.view_is)
    (stored-is (the_view c.self.inside) record { address = block.address; bytes = block.bytes } _ _
    (ap pending_of c.in-Some.is)
    (c.put_all.ensures.value
    ∙ ap (λ (x : Cpu). with_bytes_at x.prefix block.address block.bytes base) c.settled-settled.ensures))

pub returns-in-None-clause-value : goal.returns-in-None-clause-value
returns-in-None-clause-value g c =
    rw (← c.self.view_is) (unstored-is (the_view c.self.inside) _ (ap pending_of c.in-None.is))
