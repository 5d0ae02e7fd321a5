use Rattle.std.proofs.Common.{◌∙◌, ◌++◌, ℕ, List, sym, ap}
use Rattle.std.proofs.lemmas.Result.{on_ok_weaker}
use Rattle.z_deck.specs.Listing.{data_line}
use Rattle.z_deck.proofs.Written.{zero_block, some_block}
use Rattle.z_deck.proofs.listing.add_block.Goals as goal

pub returns-then-is_zero : goal.returns-then-is_zero
returns-then-is_zero c = zero_block c.args.text.now.items c.args.storage.now c.block_at-block.result.now c.args.i
    c.block_at-block.ensures.is (sym c.is_zero.ensures ∙ c.if-is_zero.true)

pub returns : goal.returns
returns c = on_ok_weaker c.add_data.result (λ e. e
    ∙ ap (λ (t : List ℕ). t ++ data_line c.block_at-block.result.now) c.in_ok-add_org.ensures
    ∙ some_block c.args.text.now.items c.args.storage.now c.block_at-block.result.now c.args.i
    c.block_at-block.ensures.is (sym c.is_zero.ensures ∙ c.if-is_zero.false)) c.add_data.ensures
