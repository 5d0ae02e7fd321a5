-- What is known of an instruction is true where it is read.
use Rattle.std.proofs.Common.{Some, None, ap, sym, ◌∙◌, arith}
use Rattle.std.specs.FinSet.{items}
use Rattle.z_instr.specs.Access.{accessible_pages, text_pages, unfetched}
use Rattle.tx_program.proofs.program.ready_at.Goals as goal

pub returns : goal.returns
returns c =
    let text = items c.args.guard.now in
    let r = c.make_ready.result in
    record {
      read = sym c.in_ok-instr.ensures ∙ ap Some (sym c.make_ready.ensures.instr);
      size = c.requires.size;
      ends = omega (arith, c.requires.place, c.requires.size);
      fetches = λ known. ap (unfetched (accessible_pages None) (text_pages None text) c.args.place)
          (sym c.length_of-length.ensures)
          ∙ c.is_fetched-fetched.ensures (c.make_ready.ensures.shaped.fetches known);
      shape = c.make_ready.ensures.shaped.shape;
      admitted = c.make_ready.ensures.shaped.admitted;
    }
