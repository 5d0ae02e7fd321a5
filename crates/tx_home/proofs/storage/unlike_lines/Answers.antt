use Rattle.std.proofs.Common.{ℕ, Option, Some, refl, sym, ap, ◌∙◌, arith}
use Rattle.tx_works.specs.Owned.{holders_in}
use Rattle.tx_works.specs.Marks.{mode_in}
use Rattle.tx_home.specs.Places.{lacking}
use Rattle.tx_home.specs.declared.place.Unlike.{Unlike}
use Rattle.tx_home.proofs.Firsts.{below-found, below-none, up-to, not-lacking}
use Rattle.tx_home.proofs.storage.unlike_lines.Goals as goal

pub returns-in-Some-lacking-clause-value : goal.returns-in-Some-lacking-clause-value
returns-in-Some-lacking-clause-value c =
    let held = holders_in c.args.lines.now c.args.run.now.cpu in
    let needed = mode_in c.args.run.now.made.needed in
    let f : ℕ → Option Unlike = λ line. lacking line (held line) (needed line) in
    below-found f 4096 c.in-Some.line c.in-Some-lacking.unlike (omega (arith, c.in-Some.ensures.inside))
    (up-to f c.loop-line.from c.in-Some.line c.loop-line.invariant.none
    (λ j low high. ap (lacking j (held j)) (c.in-Some.ensures.first j low high) ∙ not-lacking j (held j)))
    (ap (lacking c.in-Some.line (held c.in-Some.line)) c.in-Some.ensures.found.1
    ∙ (λ x. lacking c.in-Some.line (holders_in c.args.lines.now (sym c.cpu.ensures x) c.in-Some.line) (Some c.in-Some.mode))
    ∙ (λ x. lacking c.in-Some.line (sym c.mode_of.ensures x) (Some c.in-Some.mode))
    ∙ sym c.lacking.ensures.value ∙ c.in-Some-lacking.is)

pub returns-clause-value : goal.returns-clause-value
returns-clause-value c =
    let held = holders_in c.args.lines.now c.args.run.now.cpu in
    let needed = mode_in c.args.run.now.made.needed in
    let f : ℕ → Option Unlike = λ line. lacking line (held line) (needed line) in
    below-none f 4096
    (up-to f c.loop-line.from 4096 c.loop-line.invariant.none
    (λ j low high. ap (lacking j (held j)) (c.in_default.ensures.none refl j low) ∙ not-lacking j (held j)))
