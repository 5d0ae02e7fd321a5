use Rattle.std.proofs.Common.{◌≡◌, ◌∙◌, ◌+◌, ◌<◌, ap, sym, arith, length, rules}
use Rattle.byteorder.specs.Endian.{big_bytes}
use Rattle.z_regs.proofs.Items.{bytes_back, copied_more, number_copied}
use Rattle.z_regs.proofs.Numbers.{number_fits}
use Rattle.line_copies.proofs.lines.CoherentLines.number_across.Goals as goal

pub loop-k-preserved : goal.loop-k-preserved
loop-k-preserved c =
    let inside : c.args.address + c.loop-k.k < length c.args.self.now.bytes =
    omega (arith, c.size-size.ensures.bytes, c.requires.inside) in
    record {
      copied = copied_more c.loop-k.item c.args.self.now.bytes c.args.address c.loop-k.k c.fetch.result
          (omega arith)
          inside c.loop-k.invariant.copied c.fetch.ensures;
      bytes = search rules;
      size = search rules;
    }

pub returns-clause-value : goal.returns-clause-value
returns-clause-value c =
    let count : c.loop-k.k ≡ c.args.count = omega arith in
    c.read_uint.ensures
    ∙ number_copied c.args.count c.loop-k.item c.args.self.now.bytes c.args.address
    (rw (sym count) c.loop-k.invariant.copied)

pub returns-clause-fits : goal.returns-clause-fits
returns-clause-fits c =
    number_fits c.read_uint.result c.args.count c.loop-k.item c.loop-k.invariant.bytes c.read_uint.ensures

pub returns-clause-bytes : goal.returns-clause-bytes
returns-clause-bytes c =
    let count : c.loop-k.k ≡ c.args.count = omega arith in
    ap (big_bytes c.args.count) c.read_uint.ensures
    ∙ bytes_back c.args.count c.loop-k.item c.loop-k.invariant.bytes
    (omega (arith, c.loop-k.invariant.size, c.requires.high))
    ∙ rw (sym count) c.loop-k.invariant.copied
