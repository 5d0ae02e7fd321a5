-- The directive of six letters, and those of each part.
use Rattle.std.proofs.Common.{◌≡◌, ◌∙◌, Some, ap, refl, sym, subst}
use Rattle.std.specs.Prelude.{codes}
use Rattle.std.specs.Str.{bytes_eq}
use Rattle.z_text.proofs.Keys.{bytes_same}
use Rattle.z_operands.proofs.Directives.{in_two_parts}
use Rattle.z_operands.specs.Operations.{directive_named, machine_named, or_else}
use Rattle.z_operands.specs.declared.operation.Operation.TheVariants.{Prefix}
use Rattle.z_operands.proofs.operation.directive_named.Goals as goal

pub returns-then-eq-clause-is : goal.returns-then-eq-clause-is
unfolding directive_named
returns-then-eq-clause-is c =
    let same = ap (bytes_eq c.args.name.now) (sym c.as_slice.ensures) ∙ (sym c.eq.ensures ∙ c.if-eq.true) in
    subst (λ n. Some Prefix ≡ directive_named n) (sym (bytes_same c.args.name.now (codes "PREFIX") same)) refl

pub returns-in-Some-clause-is : goal.returns-in-Some-clause-is
returns-in-Some-clause-is c =
    let other = ap (bytes_eq c.args.name.now) (sym c.as_slice.ensures) ∙ (sym c.eq.ensures ∙ c.if-eq.false) in
    ap (λ o. or_else o (machine_named c.args.name.now)) c.in-Some.ensures.is
    ∙ sym (in_two_parts c.args.name.now other)

pub returns-clause-is : goal.returns-clause-is
returns-clause-is c =
    let other = ap (bytes_eq c.args.name.now) (sym c.as_slice.ensures) ∙ (sym c.eq.ensures ∙ c.if-eq.false) in
    c.machine_named.ensures.is ∙ (ap (λ o. or_else o (machine_named c.args.name.now)) c.in_default.ensures.is
    ∙ sym (in_two_parts c.args.name.now other))
