-- In one area the bytes are written at the absolute address.
use Rattle.std.proofs.Common.{◌≤◌, ◌+◌, ◌%◌, length, ap, ◌∙◌, arith}
use Rattle.std.proofs.lemmas.Bool.Decides.{nat_tests}
use Rattle.z_regs.specs.Prefix.{storage_size}
use Rattle.z_regs.specs.Seen.{seen_by}
use Rattle.z_regs.specs.Written.{written}
use Rattle.z_regs.proofs.Exchange.{length-seen}
use Rattle.z_regs.proofs.OneArea.{end_within, written_seen}
use Rattle.z_regs.proofs.Writes.{length-written}
use Rattle.z_regs.proofs.real.RealViewBytes.put_all.Goals as goal

pub place_of-requires-clause-inside : goal.place_of-requires-clause-inside
place_of-requires-clause-inside g c =
    let view = c.args.self.now in
    omega (arith, length-seen view.prefix _ view.prefix_in view.sized, c.requires.inside, c.requires.some)

pub put_all-requires-clause-inside : goal.put_all-requires-clause-inside
put_all-requires-clause-inside g c =
    let view = c.args.self.now in
    let n = length c.args.items.now in
    let inside : c.args.address + n ≤ storage_size =
    omega (arith, length-seen view.prefix _ view.prefix_in view.sized, c.requires.inside) in
    let one : c.args.address % 8192 + n ≤ 8192 = grind (arith, nat_tests) in
    omega (
      arith,
      c.place_of.ensures,
      view.sized,
      end_within view.prefix c.args.address n view.prefix_in inside c.requires.some one,
    )

pub invariant_of-self : goal.invariant_of-self
invariant_of-self g c =
    let view = c.args.self.now in
    let n = length c.args.items.now in
    let inside : c.args.address + n ≤ storage_size =
    omega (arith, length-seen view.prefix _ view.prefix_in view.sized, c.requires.inside) in
    let one : c.args.address % 8192 + n ≤ 8192 = grind (arith, nat_tests) in
    let end = end_within view.prefix c.args.address n view.prefix_in inside c.requires.some one in
    record {
      sized =
          ap length c.put_all.ensures
          ∙ length-written (g.V.Bytes.bytes view.below) c.place_of.result c.args.items.now
          (omega (arith, c.place_of.ensures, view.sized, end))
          ∙ view.sized;
      prefix_in = view.prefix_in;
    }

pub put_across-requires : goal.put_across-requires
put_across-requires g c =
    let view = c.args.self.now in
    omega (arith, length-seen view.prefix _ view.prefix_in view.sized, c.requires.inside)

pub returns-then-are_in_one_area : goal.returns-then-are_in_one_area
returns-then-are_in_one_area g c =
    let view = c.args.self.now in
    let below = g.V.Bytes.bytes view.below in
    let bytes = c.args.items.now in
    let inside : c.args.address + length bytes ≤ storage_size =
    omega (arith, length-seen view.prefix _ view.prefix_in view.sized, c.requires.inside) in
    let one : c.args.address % 8192 + length bytes ≤ 8192 = grind (arith, nat_tests) in
    ap (seen_by view.prefix) (c.put_all.ensures ∙ ap (λ a. written below a bytes) c.place_of.ensures)
    ∙ written_seen view.prefix below bytes c.args.address view.prefix_in view.sized inside c.requires.some one
