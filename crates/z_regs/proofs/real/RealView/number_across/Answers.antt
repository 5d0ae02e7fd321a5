use Rattle.std.proofs.Common.{◌≡◌, ◌∙◌, ◌+◌, ◌<◌, ap, sym, arith, length, rules}
use Rattle.byteorder.specs.Endian.{big_number, big_bytes}
use Rattle.z_regs.specs.Prefix.{storage_size}
use Rattle.z_regs.specs.Seen.{seen_by}
use Rattle.z_regs.proofs.Exchange.{length-seen}
use Rattle.z_regs.proofs.Items.{bytes_back, copied_more, number_copied}
use Rattle.z_regs.proofs.Numbers.{number_fits}
use Rattle.z_regs.proofs.real.RealView.number_across.Goals as goal

pub loop-k-preserved : goal.loop-k-preserved
loop-k-preserved g c =
    let view = c.args.self.now in
    let seen = seen_by view.prefix (g.V.Bytes.bytes view.below) in
    let size : length seen ≡ storage_size = length-seen view.prefix _ view.prefix_in view.sized in
    let inside : c.args.address + c.loop-k.k < length seen = omega (arith, size) in
    record {
      copied = copied_more c.loop-k.item seen c.args.address c.loop-k.k c.byte.result (omega arith) inside
          c.loop-k.invariant.copied c.byte.ensures;
      bytes = search rules;
      size = search rules;
    }

pub returns-clause-value : goal.returns-clause-value
returns-clause-value g c =
    let view = c.args.self.now in
    let seen = seen_by view.prefix (g.V.Bytes.bytes view.below) in
    let count : c.loop-k.k ≡ c.args.count = omega arith in
    c.read_uint.ensures
    ∙ ap (λ n. big_number n c.loop-k.item) c.from.ensures
    ∙ number_copied c.args.count c.loop-k.item seen c.args.address (rw (sym count) c.loop-k.invariant.copied)

pub returns-clause-fits : goal.returns-clause-fits
returns-clause-fits g c =
    number_fits c.read_uint.result c.args.count c.loop-k.item c.loop-k.invariant.bytes
    (c.read_uint.ensures ∙ ap (λ n. big_number n c.loop-k.item) c.from.ensures)

pub returns-clause-bytes : goal.returns-clause-bytes
returns-clause-bytes g c =
    let count : c.loop-k.k ≡ c.args.count = omega arith in
    ap (big_bytes c.args.count) (c.read_uint.ensures ∙ ap (λ n. big_number n c.loop-k.item) c.from.ensures)
    ∙ bytes_back c.args.count c.loop-k.item c.loop-k.invariant.bytes
    (omega (arith, c.loop-k.invariant.size, c.requires.high))
    ∙ rw (sym count) c.loop-k.invariant.copied
