-- A doubleword is gathered, and lasts.
use Rattle.std.proofs.Common.{◌<◌, ◌/◌, ◌%◌, ap, ◌∙◌, arith}
use Rattle.byteorder.specs.Endian.{big_bytes}
use Rattle.z_regs.specs.Prefix.{storage_size}
use Rattle.z_regs.proofs.Exchange.{absolute_within}
use Rattle.store_cache.specs.Overlay.{with_bytes, with_one}
use Rattle.store_cache.specs.Stores.{Stores, lasting_bytes}
use Rattle.store_cache.specs.Entries.{stores_of}
use Rattle.tx_attempt.proofs.GatheredBlocks.{first-room}
use Rattle.tx_attempt.proofs.LastingDoublewords.{aligned-place, doubleword-laid, doubleword-lasts}
use Rattle.tx_attempt.proofs.gathering.gather_lasting.Goals as goal

pub ntstg-requires-clause-within : goal.ntstg-requires-clause-within
ntstg-requires-clause-within c =
    let here : c.args.first < storage_size = omega (arith, c.requires.end) in
    let within = absolute_within c.args.prefix c.args.first c.requires.prefix_in here in
    omega (arith, within, c.place_of.ensures)

pub ntstg-requires-clause-boundary : goal.ntstg-requires-clause-boundary
ntstg-requires-clause-boundary c =
    ap (λ a. a % 8) c.place_of.ensures
    ∙ aligned-place c.args.prefix c.args.first c.requires.prefix_in c.requires.boundary

pub ntstg-requires-clause-room : goal.ntstg-requires-clause-room
ntstg-requires-clause-room c =
    let here : c.args.first < storage_size = omega (arith, c.requires.end) in
    let within = absolute_within c.args.prefix c.args.first c.requires.prefix_in here in
    let inside : c.place_of.result < 1048576 = omega (arith, within, c.place_of.ensures) in
    first-room (stores_of c.args.stores.now).overlay c.args.prefix c.args.first 8 c.place_of.result
    c.requires.room (omega arith) c.place_of.ensures inside

pub returns-clause-overlay : goal.returns-clause-overlay
returns-clause-overlay c =
    ap (λ (s : Stores). s.overlay) c.ntstg.ensures
    ∙ ap (λ a. with_bytes (stores_of c.args.stores.now).overlay a (big_bytes 8 c.args.value)) c.place_of.ensures
    ∙ doubleword-laid c.args.prefix c.args.first c.args.value (stores_of c.args.stores.now).overlay
    c.requires.prefix_in c.requires.boundary

pub returns-clause-lasting : goal.returns-clause-lasting
returns-clause-lasting c =
    ap (λ (s : Stores). lasting_bytes s.lasting) c.ntstg.ensures
    ∙ ap (λ a. lasting_bytes (with_one (stores_of c.args.stores.now).lasting (a / 8) c.args.value))
    c.place_of.ensures
    ∙ doubleword-lasts c.args.prefix c.args.first c.args.value (stores_of c.args.stores.now).lasting
    c.requires.prefix_in c.requires.boundary
