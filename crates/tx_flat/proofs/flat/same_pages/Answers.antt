use Rattle.std.proofs.Common.{◌≡◌, arith, subst, sym}
use Rattle.tx_flat.proofs.Machines.{CopiedUpTo, nothing_copied, page_more, all_copied}
use Rattle.tx_flat.proofs.flat.same_pages.Goals as goal

pub loop-page-init : goal.loop-page-init
loop-page-init c =
    subst (λ pages. CopiedUpTo c.args.guard.now pages 0) (sym c.none-pages.ensures)
    (nothing_copied c.args.guard.now)

pub loop-page-preserved : goal.loop-page-preserved
loop-page-preserved c =
    page_more c.args.guard.now c.loop-page.pages c.add_where_there.new.pages c.loop-page.page
    c.add_where_there.ensures.there c.add_where_there.ensures.missing c.add_where_there.ensures.none
    c.loop-page.invariant

pub returns : goal.returns
returns c =
    let past : c.loop-page.page ≡ 256 = omega arith in
    all_copied c.args.guard.now c.loop-page.pages c.loop-page.page c.loop-page.invariant past
