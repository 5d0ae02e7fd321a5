-- The bytes are the rightmost of the eight.
use Rattle.std.proofs.Common.{◌≡◌, ap, ◌∙◌, arith, length}
use Rattle.byteorder.specs.Endian.{big_bytes}
use Rattle.byteorder.specs.Numbers.{length-bytes_high_first}
use Rattle.z_regs.specs.Written.{written}
use Rattle.z_regs.proofs.Items.{slice_rightmost}
use Rattle.z_regs.proofs.storage.StorageBytes.put_word.Goals as goal

pub lay-requires-in_default : goal.lay-requires-in_default
lay-requires-in_default c =
    let n = c.from.result in
    let count : n ≡ c.args.count = c.from.ensures in
    let bytes =
    ap length (slice_rightmost n c.args.value c.to_be_bytes-item.result c.to_be_bytes-item.ensures
    (omega (arith, count, c.requires.high))) ∙ length-bytes_high_first n c.args.value in
    omega (arith, c.requires.inside, count, bytes)

pub returns-in_default : goal.returns-in_default
returns-in_default c =
    let count : c.from.result ≡ c.args.count = c.from.ensures in
    c.lay-in_default.ensures
    ∙ ap (written c.args.self.now c.args.address)
    (slice_rightmost c.from.result c.args.value c.to_be_bytes-item.result c.to_be_bytes-item.ensures
    (omega (arith, count, c.requires.high))
    ∙ ap (λ n. big_bytes n c.args.value) count)
