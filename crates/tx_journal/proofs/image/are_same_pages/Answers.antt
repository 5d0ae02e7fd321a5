use Rattle.std.proofs.Common.{refl}
use Rattle.tx_journal.proofs.Pictures.{agreeing}
use Rattle.tx_journal.proofs.image.are_same_pages.Goals as goal

pub returns : goal.returns
returns c = (
  λ _. agreeing c.args.some.now c.args.others.now c.loop-page.page c.loop-page.invariant
      c.loop-page-test.false,
  λ _. refl,
)
