-- One byte more is read.
use Rattle.std.proofs.Common.{◌≡◌, ◌<◌, ◌++◌, ◌∷◌, [], length, ap, sym, ◌∙◌}
use Rattle.std.proofs.Common.{arith}
use Rattle.std.proofs.lemmas.List.{take_more_set, take_all, length-set}
use Rattle.store_cache.specs.Entries.{stores_of}
use Rattle.tx_serial.specs.Flat.{Storage, bytes_seen}
use Rattle.tx_progress.specs.Progress.{seen_through}
use Rattle.tx_attempt.specs.Storages.{storage_of}
use Rattle.tx_attempt.proofs.Storages.{bytes_seen-more}
use Rattle.tx_attempt.proofs.attempt.Attempt.text_bytes.Goals as goal

pub loop-k-preserved : goal.loop-k-preserved
loop-k-preserved c =
    let k = c.loop-k.k in
    let seen : Storage = seen_through (stores_of c.args.self.now.stores).overlay (storage_of c.args.text.now)
    in
    let here : k < length c.loop-k.bytes = omega (arith, c.loop-k.invariant.size) in
    record {
      read = take_more_set c.loop-k.bytes k c.text_byte.result here
          ∙ ap (λ bs. bs ++ c.text_byte.result ∷ []) c.loop-k.invariant.read
          ∙ ap (λ b. bytes_seen c.args.prefix seen c.args.first k ++ b ∷ []) c.text_byte.ensures
          ∙ sym (bytes_seen-more c.args.prefix seen c.args.first k);
      size = length-set c.loop-k.bytes k c.text_byte.result ∙ c.loop-k.invariant.size;
    }

pub returns : goal.returns
returns c =
    let seen : Storage = seen_through (stores_of c.args.self.now.stores).overlay (storage_of c.args.text.now)
    in
    let all : c.loop-k.k ≡ 6 = omega arith in
    sym (take_all c.loop-k.k c.loop-k.bytes (omega (arith, c.loop-k.invariant.size)))
    ∙ c.loop-k.invariant.read ∙ ap (bytes_seen c.args.prefix seen c.args.first) all
