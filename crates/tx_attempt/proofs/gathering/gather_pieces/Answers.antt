-- One piece more is gathered.
use Rattle.std.proofs.Common.{◌≡◌, ℕ, ◌+◌, ◌-◌, ◌<◌, ◌≤◌, List, take, drop, length, ap, ◌∙◌, arith, ◌/◌, ◌%◌}
use Rattle.z_regs.specs.Prefix.{storage_size, absolute_of}
use Rattle.z_regs.proofs.Exchange.{absolute_within}
use Rattle.store_cache.specs.Overlay.{Overlay, with_bytes}
use Rattle.store_cache.specs.Stores.{Stores, has_room}
use Rattle.store_cache.specs.Entries.{stores_of}
use Rattle.store_cache.specs.Sizes.{block_size}
use Rattle.tx_attempt.proofs.GatheredBlocks.{room-at}
use Rattle.tx_attempt.proofs.GatheredRuns.{piece-laid}
use Rattle.tx_attempt.proofs.gathering.gather_pieces.Goals as goal

pub store_bytes-requires-clause-room : goal.store_bytes-requires-clause-room
store_bytes-requires-clause-room c =
    let done = c.loop-done.done in
    let here : c.args.first + done < storage_size = omega (arith, c.requires.end) in
    let within = absolute_within c.args.prefix (c.args.first + done) c.requires.prefix_in here in
    let inside : c.place_of.result < 1048576 = omega (arith, within, c.place_of.ensures) in
    ap (λ (s : Stores). has_room s.overlay (c.place_of.result / block_size)) c.loop-done.invariant.value
    ∙ room-at (stores_of c.args.stores.now).overlay c.args.prefix c.args.first c.args.bytes.now done
    c.place_of.result c.requires.room (omega arith) c.place_of.ensures inside

pub loop-done-preserved : goal.loop-done-preserved
loop-done-preserved c =
    let done = c.loop-done.done in
    let count = c.min-count.result in
    let bytes = c.args.bytes.now in
    let old = stores_of c.args.stores.now in
    let within : done + count ≤ length bytes = omega (arith, c.min-count.ensures, c.loop-done.invariant.up_to) in
    let fits : (c.args.first + done) % block_size + count ≤ block_size = omega (arith, c.min-count.ensures) in
    let piece = take count (drop done bytes) in
    let slice : take (done + count - done) (drop done bytes) ≡ piece =
    let same : done + count - done ≡ count = omega arith in ap (λ n. take n (drop done bytes)) same in
    let laid =
    piece-laid c.args.prefix c.args.first bytes done count old.overlay c.requires.prefix_in within fits in
    record {
      up_to = within;
      value = c.store_bytes.ensures
          ∙ ap (λ (bs : List ℕ). record {
            overlay = with_bytes (stores_of c.loop-done.stores).overlay c.place_of.result bs;
            lasting = (stores_of c.loop-done.stores).lasting;
          }) slice
          ∙ ap (λ a. record {
            overlay = with_bytes (stores_of c.loop-done.stores).overlay a piece;
            lasting = (stores_of c.loop-done.stores).lasting;
          }) c.place_of.ensures
          ∙ ap (λ (s : Stores). record {
            overlay = with_bytes s.overlay (absolute_of c.args.prefix (c.args.first + done)) piece;
            lasting = s.lasting;
          }) c.loop-done.invariant.value
          ∙ ap (λ (o : Overlay). record { overlay = o; lasting = old.lasting }) laid;
    }
