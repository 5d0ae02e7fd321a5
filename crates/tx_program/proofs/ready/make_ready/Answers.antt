-- Of an instruction that cannot be fetched no shape is known.
use Rattle.std.proofs.Common.{◌≡◌, true, sym, ap, ◌∙◌}
use Rattle.std.proofs.lemmas.Bool.{true≢false}
use Rattle.z_instr.specs.Table.{Entry}
use Rattle.tx_program.specs.declared.ready.Shape.{Shape}
use Rattle.tx_program.specs.Shapes.{shape_by, is_other}
use Rattle.tx_program.proofs.ready.make_ready.Goals as goal

pub returns-then-fetched-clause-shaped : goal.returns-then-fetched-clause-shaped
returns-then-fetched-clause-shaped c =
    let demand = c.demand.ensures ∙ ap (λ (e : Entry). e.demand) c.line-kind.ensures.row in
    let operands = c.operands.ensures ∙ ap (λ (e : Entry). e.operands) c.line-kind.ensures.row in
    record {
      fetches = λ known. c.if-fetched.true;
      shape = λ known. c.shape_with-shape.ensures ∙ (λ k. shape_by (demand k) (operands k) c.args.instr);
      admitted = c.is_admitted-admitted.ensures;
    }

pub returns-clause-shaped : goal.returns-clause-shaped
returns-clause-shaped c =
    let other : is_other c.unknown.result.touch ≡ true = ap (λ (s : Shape). is_other s.touch) c.unknown.ensures in
    record {
      fetches = λ known. absurd (true≢false (sym other ∙ known));
      shape = λ known. absurd (true≢false (sym other ∙ known));
      admitted = c.is_admitted-admitted.ensures;
    }
