-- In one area the number is that of storage at the absolute address.
use Rattle.std.proofs.Common.{◌≤◌, ◌+◌, ◌%◌, ap, ◌∙◌, arith}
use Rattle.std.proofs.lemmas.Bool.Decides.{nat_tests}
use Rattle.byteorder.specs.Endian.{big_number}
use Rattle.z_regs.specs.Prefix.{storage_size}
use Rattle.z_regs.specs.Written.{range_at}
use Rattle.z_regs.proofs.Exchange.{length-seen}
use Rattle.z_regs.proofs.OneArea.{end_within, range_seen}
use Rattle.z_regs.proofs.real.RealViewBytes.word.Goals as goal

pub place_of-requires-clause-inside : goal.place_of-requires-clause-inside
place_of-requires-clause-inside g c =
    let view = c.args.self.now in
    omega (arith, length-seen view.prefix _ view.prefix_in view.sized, c.requires.inside, c.requires.low)

pub word-requires-clause-inside : goal.word-requires-clause-inside
word-requires-clause-inside g c =
    let view = c.args.self.now in
    let inside : c.args.address + c.args.count ≤ storage_size =
    omega (arith, length-seen view.prefix _ view.prefix_in view.sized, c.requires.inside) in
    let one : c.args.address % 8192 + c.args.count ≤ 8192 = grind (arith, nat_tests) in
    omega (
      arith,
      c.place_of.ensures,
      view.sized,
      end_within view.prefix c.args.address c.args.count view.prefix_in inside c.requires.low one,
    )

pub number_across-requires-clause-inside : goal.number_across-requires-clause-inside
number_across-requires-clause-inside g c =
    let view = c.args.self.now in
    omega (arith, length-seen view.prefix _ view.prefix_in view.sized, c.requires.inside)

pub returns-then-are_in_one_area-clause-value : goal.returns-then-are_in_one_area-clause-value
returns-then-are_in_one_area-clause-value g c =
    let view = c.args.self.now in
    let below = g.V.Bytes.bytes view.below in
    let inside : c.args.address + c.args.count ≤ storage_size =
    omega (arith, length-seen view.prefix _ view.prefix_in view.sized, c.requires.inside) in
    let one : c.args.address % 8192 + c.args.count ≤ 8192 = grind (arith, nat_tests) in
    c.word.ensures.value
    ∙ ap (λ a. big_number c.args.count (range_at below a c.args.count)) c.place_of.ensures
    ∙ ap (big_number c.args.count)
    (range_seen view.prefix below c.args.address c.args.count view.prefix_in view.sized inside
    c.requires.low one)

pub returns-then-are_in_one_area-clause-bytes : goal.returns-then-are_in_one_area-clause-bytes
returns-then-are_in_one_area-clause-bytes g c =
    let view = c.args.self.now in
    let below = g.V.Bytes.bytes view.below in
    let inside : c.args.address + c.args.count ≤ storage_size =
    omega (arith, length-seen view.prefix _ view.prefix_in view.sized, c.requires.inside) in
    let one : c.args.address % 8192 + c.args.count ≤ 8192 = grind (arith, nat_tests) in
    c.word.ensures.bytes
    ∙ ap (λ a. range_at below a c.args.count) c.place_of.ensures
    ∙ range_seen view.prefix below c.args.address c.args.count view.prefix_in view.sized inside
    c.requires.low one
