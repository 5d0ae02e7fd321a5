use Rattle.std.proofs.Common.{◌≡◌, ℕ, ◌-◌, ◌≤◌, List, leb, length, subst, sym, ap, ◌∙◌, arith}
use Rattle.std.specs.List.{fold, range_with_len}
use Rattle.std.proofs.lemmas.Bool.{leb-true}
use Rattle.z_regs.specs.Rising.{with_number}
use Rattle.tx_constraint.proofs.Piling.{octowords_more, with_octowords-none, stays_full_after}
use Rattle.tx_constraint.proofs.octowords.Octowords.add_each.Goals as goal

-- octowords one after the other, beside some
abbrev in_turn : List ℕ → ℕ → ℕ → List ℕ
in_turn found first end = fold with_number found (range_with_len first (end - first))

pub loop-i-init : goal.loop-i-init
loop-i-init c =
    let P : List ℕ → Type 0 = λ xs. length xs ≤ 4 in (
      sym (with_octowords-none c.args.self.now),
      subst P c.self.view_is c.is_full-most.ensures.fits,
    )

pub returns-then-not-add_pieces-clause-room : goal.returns-then-not-add_pieces-clause-room
returns-then-not-add_pieces-clause-room c =
    let full = sym ((c.if-not-add_pieces.ensures).room) in
    sym (stays_full_after c.args.self.now c.args.touches.now c.loop-i.i c.at.result c.at.ensures
    ((λ i. leb (length
    (in_turn (sym c.loop-i.invariant.0 i) (sym c.pieces_of.ensures.first i)
    (sym c.pieces_of.ensures.end i))) 4) ∙ full))

pub loop-i-preserved : goal.loop-i-preserved
loop-i-preserved c =
    let added : c.add_pieces.new.self ≡
    in_turn c.loop-i.self c.pieces_of.result.first c.pieces_of.result.end =
    (c.if-not-add_pieces.ensures).added in
    let few : length (in_turn c.loop-i.self c.pieces_of.result.first c.pieces_of.result.end) ≤ 4 =
    leb-true _ _ (sym ((c.if-not-add_pieces.ensures).room)) in (
      added ∙ (λ i. in_turn (c.loop-i.invariant.0 i) (c.pieces_of.ensures.first i)
          (c.pieces_of.ensures.end i))
          ∙ sym (octowords_more c.args.self.now c.args.touches.now c.loop-i.i c.at.result c.at.ensures),
      omega (arith, ap length added, few),
    )
