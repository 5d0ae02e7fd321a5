use Rattle.std.proofs.Common.{◌≡◌, ◌∙◌, ap, sym, arith}
use Rattle.byteorder.specs.Endian.{big_bytes}
use Rattle.z_regs.proofs.Items.{bytes_back, number_copied}
use Rattle.z_regs.proofs.Numbers.{number_fits}
use Rattle.z_regs.proofs.number.number_at.Goals as goal

pub returns-clause-value : goal.returns-clause-value
returns-clause-value c =
    let count : c.loop-k.k ≡ c.args.count = omega arith in
    c.read_uint.ensures
    ∙ number_copied c.args.count c.loop-k.item c.args.bytes.now c.args.first
    (rw (sym count) c.loop-k.invariant.copied)

pub returns-clause-fits : goal.returns-clause-fits
returns-clause-fits c =
    number_fits c.read_uint.result c.args.count c.loop-k.item c.loop-k.invariant.bytes c.read_uint.ensures

pub returns-clause-bytes : goal.returns-clause-bytes
returns-clause-bytes c =
    let count : c.loop-k.k ≡ c.args.count = omega arith in
    ap (big_bytes c.args.count) c.read_uint.ensures
    ∙ bytes_back c.args.count c.loop-k.item c.loop-k.invariant.bytes
    (omega (arith, c.loop-k.invariant.size, c.requires.high))
    ∙ rw (sym count) c.loop-k.invariant.copied
