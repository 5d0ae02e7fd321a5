-- In one area the bytes are those at the absolute address.
use Rattle.std.proofs.Common.{◌≤◌, ◌+◌, ◌%◌, length, ap, ◌∙◌, arith}
use Rattle.std.proofs.lemmas.Bool.Decides.{nat_tests}
use Rattle.z_regs.specs.Prefix.{storage_size}
use Rattle.z_regs.specs.Written.{range_at}
use Rattle.z_regs.proofs.Exchange.{length-seen}
use Rattle.z_regs.proofs.OneArea.{end_within, range_seen}
use Rattle.z_regs.proofs.real.RealViewBytes.read_into.Goals as goal

pub place_of-requires-clause-inside : goal.place_of-requires-clause-inside
place_of-requires-clause-inside g c =
    let view = c.args.self.now in
    omega (arith, length-seen view.prefix _ view.prefix_in view.sized, c.requires.inside, c.requires.some)

pub read_into-requires-clause-inside : goal.read_into-requires-clause-inside
read_into-requires-clause-inside g c =
    let view = c.args.self.now in
    let n = length c.args.into.now in
    let inside : c.args.address + n ≤ storage_size =
    omega (arith, length-seen view.prefix _ view.prefix_in view.sized, c.requires.inside) in
    let one : c.args.address % 8192 + n ≤ 8192 = grind (arith, nat_tests) in
    omega (
      arith,
      c.place_of.ensures,
      view.sized,
      end_within view.prefix c.args.address n view.prefix_in inside c.requires.some one,
    )

pub read_across-requires : goal.read_across-requires
read_across-requires g c =
    let view = c.args.self.now in
    omega (arith, length-seen view.prefix _ view.prefix_in view.sized, c.requires.inside)

pub returns-then-are_in_one_area : goal.returns-then-are_in_one_area
returns-then-are_in_one_area g c =
    let view = c.args.self.now in
    let below = g.V.Bytes.bytes view.below in
    let n = length c.args.into.now in
    let inside : c.args.address + n ≤ storage_size =
    omega (arith, length-seen view.prefix _ view.prefix_in view.sized, c.requires.inside) in
    let one : c.args.address % 8192 + n ≤ 8192 = grind (arith, nat_tests) in
    c.read_into.ensures
    ∙ ap (λ a. range_at below a n) c.place_of.ensures
    ∙ range_seen view.prefix below c.args.address n view.prefix_in view.sized inside c.requires.some one
