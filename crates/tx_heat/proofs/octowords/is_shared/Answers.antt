-- An octoword of a range is shared, or of none.
use Rattle.std.proofs.Common.{◌+◌, ◌*◌, take, ap, ◌∙◌, sym, arith}
use Rattle.std.specs.Prelude.{◌&&◌}
use Rattle.std.specs.List.{list_any}
use Rattle.std.proofs.lemmas.List.{take_all}
use Rattle.z_regs.specs.declared.ranges.Range.{Range}
use Rattle.tx_footprint.specs.Places.{has_place}
use Rattle.tx_heat.specs.Marks.{is_marked}
use Rattle.tx_heat.specs.Octowords.{asks}
use Rattle.z_regs.proofs.Elements.{list_any_passed}
use Rattle.tx_heat.proofs.Ranges.{any_more}
use Rattle.tx_heat.proofs.Marked.{neither_shared}
use Rattle.tx_heat.proofs.octowords.is_shared.Goals as goal

pub loop-i-preserved : goal.loop-i-preserved
loop-i-preserved c = λ k lt.
    let o = 8 * c.args.line + k in
    let test = λ (r : Range). has_place 32 r o in
    ap (λ b. b && is_marked c.args.set.now o) (any_more test c.args.asked.now c.loop-i.i c.at.result c.at.ensures)
    ∙ neither_shared (list_any test (take c.loop-i.i c.args.asked.now)) (test c.at.result)
    (is_marked c.args.set.now o) (c.loop-i.invariant k lt)
    (c.shares.ensures.none c.if-shares.false k lt)

pub returns-then-shares-clause-found : goal.returns-then-shares-clause-found
unfolding asks
returns-then-shares-clause-found c = λ is.
    let f = c.shares.ensures.found c.if-shares.true in (
      f.0,
      f.1,
      list_any_passed (λ (r : Range). has_place 32 r (8 * c.args.line + f.0)) c.args.asked.now c.loop-i.i c.at.result
          c.at.ensures f.2,
      f.3,
    )

pub returns-clause-none : goal.returns-clause-none
unfolding asks
returns-clause-none c = λ is k lt.
    let o = 8 * c.args.line + k in
    ap (λ xs. list_any (λ (r : Range). has_place 32 r o) xs && is_marked c.args.set.now o)
    (sym (take_all c.loop-i.i c.args.asked.now (omega arith)))
    ∙ c.loop-i.invariant k lt
