-- In one area the bytes are written at the absolute address.
use Rattle.std.proofs.Common.{◌≡◌, ◌≤◌, ◌+◌, ◌%◌, length, ap, ◌∙◌, arith}
use Rattle.std.proofs.lemmas.Bool.Decides.{nat_tests}
use Rattle.byteorder.specs.Endian.{big_bytes}
use Rattle.byteorder.specs.Numbers.{length-bytes_high_first}
use Rattle.z_regs.specs.Prefix.{storage_size}
use Rattle.z_regs.specs.Seen.{seen_by}
use Rattle.z_regs.specs.Written.{written}
use Rattle.z_regs.proofs.Exchange.{length-seen}
use Rattle.z_regs.proofs.Items.{slice_rightmost}
use Rattle.z_regs.proofs.OneArea.{end_within, written_seen}
use Rattle.z_regs.proofs.Writes.{length-written}
use Rattle.z_regs.proofs.real.RealViewBytes.put_word.Goals as goal

pub place_of-requires-clause-inside : goal.place_of-requires-clause-inside
place_of-requires-clause-inside g c =
    let view = c.args.self.now in
    omega (arith, length-seen view.prefix _ view.prefix_in view.sized, c.requires.inside, c.requires.low)

pub put_word-requires-clause-inside : goal.put_word-requires-clause-inside
put_word-requires-clause-inside g c =
    let view = c.args.self.now in
    let inside : c.args.address + c.args.count ≤ storage_size =
    omega (arith, length-seen view.prefix _ view.prefix_in view.sized, c.requires.inside) in
    let one : c.args.address % 8192 + c.args.count ≤ 8192 = grind (arith, nat_tests) in
    omega (
      arith,
      c.place_of.ensures,
      view.sized,
      end_within view.prefix c.args.address c.args.count view.prefix_in inside c.requires.low one,
    )

pub invariant_of-self : goal.invariant_of-self
invariant_of-self g c =
    let view = c.args.self.now in
    let inside : c.args.address + c.args.count ≤ storage_size =
    omega (arith, length-seen view.prefix _ view.prefix_in view.sized, c.requires.inside) in
    let one : c.args.address % 8192 + c.args.count ≤ 8192 = grind (arith, nat_tests) in
    let end = end_within view.prefix c.args.address c.args.count view.prefix_in inside c.requires.low one in
    let many = length-bytes_high_first c.args.count c.args.value in
    record {
      sized =
          ap length c.put_word.ensures
          ∙ length-written (g.V.Bytes.bytes view.below) c.place_of.result (big_bytes c.args.count c.args.value)
          (omega (arith, c.place_of.ensures, view.sized, end, many))
          ∙ view.sized;
      prefix_in = view.prefix_in;
    }

pub put_across-requires : goal.put_across-requires
put_across-requires g c =
    let view = c.args.self.now in
    let n = c.from.result in
    let count : n ≡ c.args.count = c.from.ensures in
    let bytes =
    ap length (slice_rightmost n c.args.value c.to_be_bytes-item.result c.to_be_bytes-item.ensures
    (omega (arith, count, c.requires.high))) ∙ length-bytes_high_first n c.args.value in
    omega (
      arith,
      length-seen view.prefix _ view.prefix_in view.sized,
      c.requires.inside,
      count,
      bytes,
    )

pub returns-then-are_in_one_area : goal.returns-then-are_in_one_area
returns-then-are_in_one_area g c =
    let view = c.args.self.now in
    let below = g.V.Bytes.bytes view.below in
    let bytes = big_bytes c.args.count c.args.value in
    let many : length bytes ≡ c.args.count = length-bytes_high_first c.args.count c.args.value in
    let inside : c.args.address + c.args.count ≤ storage_size =
    omega (arith, length-seen view.prefix _ view.prefix_in view.sized, c.requires.inside) in
    let one : c.args.address % 8192 + c.args.count ≤ 8192 = grind (arith, nat_tests) in
    ap (seen_by view.prefix) (c.put_word.ensures ∙ ap (λ a. written below a bytes) c.place_of.ensures)
    ∙ written_seen view.prefix below bytes c.args.address view.prefix_in view.sized
    (omega (arith, many, inside)) (omega (arith, many, c.requires.low)) (omega (arith, many, one))

pub returns-else-are_in_one_area : goal.returns-else-are_in_one_area
returns-else-are_in_one_area g c =
    let view = c.args.self.now in
    let count : c.from.result ≡ c.args.count = c.from.ensures in
    c.put_across.ensures
    ∙ ap (written (seen_by view.prefix (g.V.Bytes.bytes view.below)) c.args.address)
    (slice_rightmost c.from.result c.args.value c.to_be_bytes-item.result c.to_be_bytes-item.ensures
    (omega (arith, count, c.requires.high))
    ∙ ap (λ n. big_bytes n c.args.value) count)
