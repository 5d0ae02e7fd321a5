-- The instruction with the halfword's number is the one that is read there.
use Rattle.std.proofs.Common.{◌-◌, ◌/◌, List, ℕ, Some, get_or, ap, subst, ◌∙◌, arith}
use Rattle.std.specs.Prelude.{slice_get, IfSome}
use Rattle.std.specs.Prelude.{◌≡◌}
use Rattle.tx_program.specs.declared.ready.Ready.{Ready}
use Rattle.tx_program.proofs.Numbers.{number_read}
use Rattle.tx_program.proofs.program.Program.known.Goals as goal

pub returns : goal.returns
returns c =
    let number = c.number_of-number.result in
    let there = c.number_of-number.ensures
    ∙ ap (λ (ns : List ℕ). get_or ns (c.args.place / 2) 0) c.deref.ensures.value in
    let found = subst (λ (rs : List Ready). IfSome c.nth.result (λ r. slice_get rs (number - 1) ≡ Some r.now))
    c.deref-2.ensures.value c.nth.ensures in
    rw (← c.self.view_is)
    (number_read (λ r. r.now) _ _ _ _ c.args.place number c.nth.result c.self.invariant there
    (omega (arith, c.if-place-eq1.false)) c.if-number-eq0.false found)
