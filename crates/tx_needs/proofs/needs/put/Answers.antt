-- A line that stands at its place is there, and one that does not is put there.
use Rattle.std.proofs.Common.{◌≡◌, ◌∙◌, refl, sym, true, false}
use Rattle.z_regs.proofs.Rising.{stays_at, put_at}
use Rattle.tx_needs.proofs.needs.put.Goals as goal

pub returns-then-is_at-clause-value : goal.returns-then-is_at-clause-value
returns-then-is_at-clause-value c =
    sym (stays_at c.args.line c.place-at.result c.args.lines.now.items c.as_slice-2.result.now
    c.as_slice.result.now c.as_slice-2.ensures.value c.as_slice.ensures.value c.place-at.ensures.value
    ((c.if-is_at.ensures).0 refl))

pub returns-clause-value : goal.returns-clause-value
returns-clause-value c =
    c.insert.ensures.items
    ∙ put_at c.args.line c.place-at.result c.args.lines.now.items c.as_slice-2.result.now c.as_slice.result.now
    c.as_slice-2.ensures.value c.as_slice.ensures.value c.place-at.ensures.value
    (λ e. let n : false ≡ true = (c.if-is_at.ensures).1 e in cc)
