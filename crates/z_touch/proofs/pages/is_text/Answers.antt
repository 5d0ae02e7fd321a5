-- A page is text where its absolute page is.
use Rattle.std.proofs.Common.{◌≡◌, ap, sym, ◌∙◌, ◌/◌, ◌&&◌, ltb, true, false, nat_eq, arith}
use Rattle.std.proofs.lemmas.Bool.Decides.{nat_tests}
use Rattle.std.specs.List.{list_any}
use Rattle.std.specs.FinSet.{items, contains}
use Rattle.z_instr.specs.Access.{absolute_page}
use Rattle.z_touch.proofs.SmallRanges.{any-items, any-text_pages}
use Rattle.z_touch.proofs.pages.is_text.Goals as goal

pub returns-then-page : goal.returns-then-page
returns-then-page c =
    let below : ltb c.args.page 256 ≡ true = grind (arith, nat_tests) in
    let text = list_any (nat_eq (absolute_page c.args.prefix c.args.page)) (items c.args.guard.now) in
    c.has.ensures.there
    ∙ ap (λ a. contains c.args.guard.now (a / 4096)) c.place_of.ensures
    ∙ sym (any-items c.args.guard.now (absolute_page c.args.prefix c.args.page))
    ∙ sym (ap (λ b. b && text) below)
    ∙ sym (any-text_pages c.args.prefix (items c.args.guard.now) c.args.page)

pub returns-else-page : goal.returns-else-page
returns-else-page c =
    let beyond : ltb c.args.page 256 ≡ false = grind (arith, nat_tests) in
    let text = list_any (nat_eq (absolute_page c.args.prefix c.args.page)) (items c.args.guard.now) in
    beyond ∙ sym (ap (λ b. b && text) beyond)
    ∙ sym (any-text_pages c.args.prefix (items c.args.guard.now) c.args.page)
