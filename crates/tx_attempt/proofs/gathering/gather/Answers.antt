-- Bytes that lie in one block are gathered at once.
use Rattle.std.proofs.Common.{◌+◌, ◌<◌, ◌≤◌, ◌%◌, length, ap, ◌∙◌, arith}
use Rattle.z_regs.specs.Prefix.{storage_size}
use Rattle.z_regs.proofs.Exchange.{absolute_within}
use Rattle.store_cache.specs.Overlay.{Overlay, with_bytes}
use Rattle.store_cache.specs.Entries.{stores_of}
use Rattle.store_cache.specs.Sizes.{block_size}
use Rattle.tx_attempt.proofs.GatheredBlocks.{first-room}
use Rattle.tx_attempt.proofs.GatheredRuns.{run-laid}
use Rattle.tx_attempt.proofs.gathering.gather.Goals as goal

pub store_bytes-requires-clause-room : goal.store_bytes-requires-clause-room
store_bytes-requires-clause-room c =
    let here : c.args.first < storage_size = omega (arith, c.requires.end) in
    let within = absolute_within c.args.prefix c.args.first c.requires.prefix_in here in
    let inside : c.place_of.result < 1048576 = omega (arith, within, c.place_of.ensures) in
    first-room (stores_of c.args.stores.now).overlay c.args.prefix c.args.first (length c.args.bytes.now)
    c.place_of.result c.requires.room (omega arith) c.place_of.ensures inside

pub returns : goal.returns
returns c =
    let old = stores_of c.args.stores.now in
    let fits : c.args.first % block_size + length c.args.bytes.now ≤ block_size = omega arith in
    c.store_bytes.ensures
    ∙ ap (λ a. record { overlay = with_bytes old.overlay a c.args.bytes.now; lasting = old.lasting })
    c.place_of.ensures
    ∙ ap (λ (o : Overlay). record { overlay = o; lasting = old.lasting })
    (run-laid c.args.prefix c.args.first c.args.bytes.now old.overlay c.requires.prefix_in fits)
