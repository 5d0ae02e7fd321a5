use Rattle.std.proofs.Common.{◌≡◌, ℕ, ◌-◌, ◌+◌, ◌≤◌, List, leb, false, length, subst, sym, ap, ◌∙◌, arith}
use Rattle.std.specs.List.{fold, range_with_len}
use Rattle.std.proofs.lemmas.Bool.{le-leb, leb-true}
use Rattle.z_regs.specs.Rising.{with_number}
use Rattle.tx_constraint.proofs.Piling.{range_with, stays_full, pile_more}
use Rattle.tx_constraint.proofs.octowords.Octowords.add_pieces.Goals as goal

pub loop-octoword-init : goal.loop-octoword-init
loop-octoword-init c =
    let found = c.args.self.now in
    let nothing : 0 ≡ c.args.pieces.first - c.args.pieces.first = omega arith in
    let P : List ℕ → Type 0 = λ xs. length xs ≤ 4 in (
      ap (λ n. fold with_number found (range_with_len c.args.pieces.first n)) nothing,
      subst P c.self.view_is c.is_full-most.ensures.fits,
      omega arith,
    )

pub returns-then-not-add-clause-room : goal.returns-then-not-add-clause-room
returns-then-not-add-clause-room c =
    let found = c.args.self.now in
    let first = c.args.pieces.first in
    let end = c.args.pieces.end in
    let o = c.loop-octoword.octoword in
    let full : leb
    (length (with_number (fold with_number found (range_with_len first (o - first))) o)) 4 ≡ false =
    ap (λ xs. leb (length (with_number xs o)) 4) (sym c.loop-octoword.invariant.0)
    ∙ sym ((c.if-not-add.ensures).room) in
    sym (ap (λ xs. leb (length (fold with_number found xs)) 4)
    (range_with first end o c.loop-octoword.invariant.2 c.loop-octoword-test.true)
    ∙ stays_full found (range_with_len first (o - first)) (range_with_len (o + 1) (end - o - 1)) o full)

pub loop-octoword-preserved : goal.loop-octoword-preserved
loop-octoword-preserved c =
    let found = c.args.self.now in
    let first = c.args.pieces.first in
    let o = c.loop-octoword.octoword in
    let one : c.add.new.self ≡ with_number c.loop-octoword.self o = (c.if-not-add.ensures).added in
    let few : length (with_number c.loop-octoword.self o) ≤ 4 =
    leb-true _ _ (sym ((c.if-not-add.ensures).room)) in (
      one ∙ ap (λ xs. with_number xs o) c.loop-octoword.invariant.0
          ∙ sym (pile_more found first o c.loop-octoword.invariant.2),
      omega (arith, ap length one, few),
      omega (arith, c.loop-octoword.invariant.2),
    )

pub returns-clause-room : goal.returns-clause-room
returns-clause-room c =
    let first = c.args.pieces.first in
    let at_end : c.loop-octoword.octoword - first ≡ c.args.pieces.end - first =
    omega (arith, c.loop-octoword.auto.octoword-end) in
    let all = c.loop-octoword.invariant.0
    ∙ ap (λ n. fold with_number c.args.self.now (range_with_len first n)) at_end in
    sym (le-leb _ _ (omega (arith, ap length all, c.loop-octoword.invariant.1)))

pub returns-clause-added : goal.returns-clause-added
returns-clause-added c =
    let first = c.args.pieces.first in
    let at_end : c.loop-octoword.octoword - first ≡ c.args.pieces.end - first =
    omega (arith, c.loop-octoword.auto.octoword-end) in
    c.loop-octoword.invariant.0 ∙ ap (λ n. fold with_number c.args.self.now (range_with_len first n)) at_end
