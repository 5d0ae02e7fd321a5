use Rattle.std.proofs.Common.{◌≡◌, ◌++◌, ℕ, List, ap, ◌∙◌, arith}
use Rattle.z_deck.specs.Listing.{placing_lines, block_lines}
use Rattle.z_deck.proofs.Written.{no_blocks, more_blocks}
use Rattle.z_deck.proofs.listing.add_blocks.Goals as goal

pub loop-i-init : goal.loop-i-init
loop-i-init c = no_blocks c.args.text.now.items c.args.storage.now

pub loop-i-preserved : goal.loop-i-preserved
loop-i-preserved c = c.in_ok-add_block.ensures
    ∙ ap (λ (t : List ℕ). t ++ block_lines c.args.storage.now c.loop-i.i) c.loop-i.invariant
    ∙ more_blocks c.args.text.now.items c.args.storage.now c.loop-i.i

pub returns : goal.returns
returns c =
    let reached : c.loop-i.i ≡ 32512 = omega arith in
    c.loop-i.invariant ∙ ap (λ n. c.args.text.now.items ++ placing_lines n c.args.storage.now) reached
