use Rattle.std.proofs.Common.{None, Some, refl, arith, sym, subst, ◌∙◌, ◌+◌}
use Rattle.z_text.proofs.Pieces.{Scans, scans_on, found_bad, scanned}
use Rattle.z_text.proofs.scan.split.Goals as goal

pub returns-in_default : goal.returns-in_default
returns-in_default c =
    found_bad c.args.line.now _ _ _ c.loop-at.at c.args.end 1 None c.loop-at.invariant c.loop-at-test.true
    c.requires.within (omega arith) (omega arith) (sym c.kind_at.ensures ∙ c.in_default.is) refl refl

pub returns-then-is_too_long : goal.returns-then-is_too_long
returns-then-is_too_long c =
    let size = c.size_of_token-size.ensures in
    found_bad c.args.line.now _ _ _ c.loop-at.at c.args.end c.size_of_token-size.result
    (Some c.in-Some.kind) c.loop-at.invariant c.loop-at-test.true c.requires.within size.some
    (omega arith) (sym c.kind_at.ensures ∙ c.in-Some.is) size.value (sym c.is_too_long.ensures ∙
    c.if-is_too_long.true)

pub loop-at-preserved : goal.loop-at-preserved
loop-at-preserved c =
    let size = c.size_of_token-size.ensures in
    let s = scans_on c.args.line.now _ _ _ c.loop-at.at c.args.end c.size_of_token-size.result c.in-Some.kind
    c.loop-at.invariant c.loop-at-test.true c.requires.within size.some (omega arith)
    (sym c.kind_at.ensures ∙ c.in-Some.is) size.value (sym c.is_too_long.ensures ∙ c.if-is_too_long.false) in
    subst (λ items. Scans c.args.line.now c.args.tokens.now.items items c.args.first
    (c.loop-at.at + c.size_of_token-size.result) c.args.end) (sym c.in_ok-push.ensures.items) s

pub returns : goal.returns
returns c =
    let s = c.loop-at.invariant in
    let h = scanned _ _ _ _ _ _ s c.loop-at-test.false in
    (h.0, h.1, s.lie, omega (arith, s.few, s.inside))
