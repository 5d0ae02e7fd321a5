-- One byte more is seen.
use Rattle.std.proofs.Common.{◌≡◌, ◌+◌, ◌<◌, ◌++◌, ◌∷◌, [], length, ap, sym, ◌∙◌, arith}
use Rattle.std.proofs.lemmas.List.{take_more_set, take_all}
use Rattle.z_regs.specs.Prefix.{absolute_of}
use Rattle.store_cache.specs.Entries.{stores_of}
use Rattle.tx_serial.specs.Flat.{Storage, bytes_seen}
use Rattle.tx_progress.specs.Progress.{seen_through}
use Rattle.tx_attempt.specs.Storages.{storage_of}
use Rattle.tx_attempt.proofs.Storages.{bytes_seen-more}
use Rattle.tx_attempt.proofs.lending.see_bytes.Goals as goal

pub loop-k-preserved : goal.loop-k-preserved
loop-k-preserved g c =
    let k = c.loop-k.k in
    let seen : Storage = seen_through (stores_of c.args.attempt.now.stores).overlay
    (storage_of (g.V.Bytes.bytes c.args.base.now)) in
    let here : k < length c.loop-k.bytes = omega arith in
    let byte : c.seen.result ≡ seen (absolute_of c.args.prefix (c.args.first + k)) =
    c.seen.ensures ∙ ap seen c.place_of.ensures in
    take_more_set c.loop-k.bytes k c.seen.result here
    ∙ ap (λ bs. bs ++ c.seen.result ∷ []) c.loop-k.invariant
    ∙ ap (λ b. bytes_seen c.args.prefix seen c.args.first k ++ b ∷ []) byte
    ∙ sym (bytes_seen-more c.args.prefix seen c.args.first k)

pub returns : goal.returns
returns g c =
    let all : length c.args.bytes.now ≡ c.loop-k.k = omega arith in
    sym (take_all c.loop-k.k c.loop-k.bytes (omega arith)) ∙ c.loop-k.invariant
    ∙ ap (bytes_seen c.args.prefix (seen_through (stores_of c.args.attempt.now.stores).overlay
    (storage_of (g.V.Bytes.bytes c.args.base.now))) c.args.first) (sym all)
