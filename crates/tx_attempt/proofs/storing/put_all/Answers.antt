-- One byte more is stored at its place.
use Rattle.std.proofs.Common.{◌≡◌, ◌+◌, ◌<◌, List, ℕ, take, length, set, get_or, ap, sym, ◌∙◌, arith}
use Rattle.std.proofs.lemmas.List.{length-set, take_more, take_all, length-take-le}
use Rattle.z_regs.specs.Prefix.{storage_size, absolute_of}
use Rattle.z_regs.proofs.Exchange.{absolute_within}
use Rattle.tx_serial.specs.Flat.{Storage, at_put, with_bytes_at}
use Rattle.tx_attempt.specs.Storages.{storage_of}
use Rattle.tx_attempt.proofs.Storages.{storage_of-set, with_one_more}
use Rattle.tx_serial.proofs.StoredBytes.{with_none}
use Rattle.tx_attempt.proofs.storing.put_all.Goals as goal

pub loop-k-init : goal.loop-k-init
loop-k-init g c = record {
  value = sym (with_none c.args.prefix c.args.first (storage_of (g.V.Bytes.bytes c.args.base.now)));
  size = c.requires.size;
}

pub put-requires : goal.put-requires
put-requires g c =
    let here : c.args.first + c.loop-k.k < storage_size = omega (arith, c.requires.end) in
    let within = absolute_within c.args.prefix (c.args.first + c.loop-k.k) c.requires.prefix_in here in
    omega (arith, within, c.loop-k.invariant.size, c.place_of.ensures)

pub loop-k-preserved : goal.loop-k-preserved
loop-k-preserved g c =
    let bytes = c.args.bytes.now in
    let k = c.loop-k.k in
    let before = g.V.Bytes.bytes c.loop-k.base in
    let base = storage_of (g.V.Bytes.bytes c.args.base.now) in
    let place = absolute_of c.args.prefix (c.args.first + k) in
    let here : c.args.first + k < storage_size = omega (arith, c.requires.end) in
    let within = absolute_within c.args.prefix (c.args.first + k) c.requires.prefix_in here in
    let inside : place < length before = omega (arith, within, c.loop-k.invariant.size) in
    let so_far : length (take k bytes) ≡ k = length-take-le k bytes (omega arith) in
    let put : g.V.Bytes.bytes c.put.new.self ≡ set before place (get_or bytes k 0) =
    c.put.ensures ∙ ap (λ a. set before a (get_or bytes k 0)) c.place_of.ensures in
    record {
      value = ap storage_of put ∙ storage_of-set before place (get_or bytes k 0) inside
          ∙ ap (λ (s : Storage). at_put s place (get_or bytes k 0)) c.loop-k.invariant.value
          ∙ ap (λ n. at_put (with_bytes_at c.args.prefix c.args.first (take k bytes) base)
          (absolute_of c.args.prefix (c.args.first + n)) (get_or bytes k 0)) (sym so_far)
          ∙ sym (with_one_more c.args.prefix c.args.first (take k bytes) (get_or bytes k 0) base)
          ∙ ap (λ (bs : List ℕ). with_bytes_at c.args.prefix c.args.first bs base)
          (sym (take_more bytes k 0 (omega arith)));
      size = ap length put ∙ length-set before place (get_or bytes k 0) ∙ c.loop-k.invariant.size;
    }

pub returns-clause-value : goal.returns-clause-value
returns-clause-value g c =
    c.loop-k.invariant.value
    ∙ ap (λ (bs : List ℕ). with_bytes_at c.args.prefix c.args.first bs
    (storage_of (g.V.Bytes.bytes c.args.base.now))) (take_all c.loop-k.k c.args.bytes.now (omega arith))
