use Rattle.std.proofs.Common.{◌≡◌, ◌+◌, ◌-◌, ◌/◌, ◌%◌, false, cond, eqb, sym, ap, ◌∙◌, arith}
use Rattle.std.proofs.lemmas.Bool.{ne_eqb}
use Rattle.tx_constraint.proofs.Between.{last_is}
use Rattle.tx_constraint.proofs.pieces.pieces_of.Goals as goal

pub returns-clause-end : goal.returns-clause-end
returns-clause-end c =
    let r = c.args.range in
    let size = c.args.size in
    let some : eqb r.length 0 ≡ false = ne_eqb r.length 0 (c.if-range-eq0.false) in
    let last = last_is r.first r.length size (omega (arith, c.requires.least))
    (omega (arith, c.if-range-eq0.false)) in
    ap (λ l. r.first / size + (r.first % size + l - 1) / size + 1) c.from.ensures
    ∙ ap (λ n. n + 1) last
    ∙ sym (ap (λ b. cond b (r.first / size) ((r.first + r.length - 1) / size + 1)) some)
