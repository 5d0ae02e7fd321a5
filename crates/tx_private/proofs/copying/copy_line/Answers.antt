use Rattle.std.proofs.Common.{refl, arith, subst, ◌+◌, ◌*◌, ◌≡◌, ◌∙◌, ap₂, ℕ}
use Rattle.z_regs.specs.Written.{range_at, written}
use Rattle.tx_private.proofs.Turned.{Copied, copy_more}
use Rattle.tx_private.proofs.copying.copy_line.Goals as goal

pub loop-item-init : goal.loop-item-init
loop-item-init c = record {
  copied = λ j low. absurd (omega (arith, low));
  others = λ j apart. refl;
  size = c.requires.size;
}

next : (k : ℕ) → 8 * k + 8 ≡ 8 * (k + 1)
next k = omega arith

pub loop-item-preserved : goal.loop-item-preserved
loop-item-preserved c =
    let k = c.loop-item.item in
    subst (λ n. Copied c.args.from.now c.args.to.now c.copy_item.new.to (256 * c.args.line) (256 * c.args.from_line) n) (next k)
    (copy_more c.args.from.now c.args.to.now c.loop-item.to c.copy_item.new.to (256 * c.args.line)
    (256 * c.args.from_line) (8 * k) c.loop-item.invariant
    (omega (arith, c.loop-item-test.true, c.requires.line)) (omega (arith, c.loop-item-test.true, c.requires.from_line))
    c.requires.from_size
    (c.copy_item.ensures
    ∙ ap₂ (λ x y. written c.loop-item.to (256 * x + 8 * k) (range_at c.args.from.now (256 * y + 8 * k) 8))
    c.from-first.ensures c.from-from_first.ensures))

pub returns-clause-copied : goal.returns-clause-copied
returns-clause-copied c = λ k low. c.loop-item.invariant.copied k (omega (arith, low, c.loop-item-test.false))
