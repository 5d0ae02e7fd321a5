-- One byte more is fetched from its place.
use Rattle.std.proofs.Common.{◌≡◌, ◌+◌, ◌<◌, ◌++◌, ◌∷◌, [], length, get_or, ap, sym, ◌∙◌}
use Rattle.std.proofs.Common.{arith}
use Rattle.std.proofs.lemmas.List.{take_more_set, take_all}
use Rattle.z_regs.specs.Prefix.{storage_size, absolute_of}
use Rattle.z_regs.proofs.Exchange.{absolute_within}
use Rattle.tx_serial.specs.Flat.{bytes_seen}
use Rattle.tx_attempt.specs.Storages.{storage_of}
use Rattle.tx_attempt.proofs.Storages.{bytes_seen-more}
use Rattle.tx_attempt.proofs.storing.get_all.Goals as goal

pub get-requires : goal.get-requires
get-requires g c =
    let here : c.args.first + c.loop-k.k < storage_size = omega (arith, c.requires.end) in
    let within = absolute_within c.args.prefix (c.args.first + c.loop-k.k) c.requires.prefix_in here in
    omega (arith, within, c.requires.size, c.place_of.ensures)

pub loop-k-preserved : goal.loop-k-preserved
loop-k-preserved g c =
    let k = c.loop-k.k in
    let base = g.V.Bytes.bytes c.args.base.now in
    let here : k < length c.loop-k.bytes = omega arith in
    let byte : c.get.result ≡ get_or base (absolute_of c.args.prefix (c.args.first + k)) 0 =
    c.get.ensures ∙ ap (λ a. get_or base a 0) c.place_of.ensures in
    take_more_set c.loop-k.bytes k c.get.result here
    ∙ ap (λ bs. bs ++ c.get.result ∷ []) c.loop-k.invariant
    ∙ ap (λ b. bytes_seen c.args.prefix (storage_of base) c.args.first k ++ b ∷ []) byte
    ∙ sym (bytes_seen-more c.args.prefix (storage_of base) c.args.first k)

pub returns : goal.returns
returns g c =
    let all : length c.args.bytes.now ≡ c.loop-k.k = omega arith in
    sym (take_all c.loop-k.k c.loop-k.bytes (omega arith)) ∙ c.loop-k.invariant
    ∙ ap (bytes_seen c.args.prefix (storage_of (g.V.Bytes.bytes c.args.base.now)) c.args.first) (sym all)
