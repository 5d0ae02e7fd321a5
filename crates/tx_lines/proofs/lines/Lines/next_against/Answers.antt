-- Who does not hold the line is passed over; a holder stands against the request or not.
use Rattle.std.proofs.Common.{rules, ◌≤◌, ◌<◌, ap, sym, subst, ◌∙◌, arith}
use Rattle.tx_lines.specs.Owned.{holders_in}
use Rattle.tx_lines.specs.Next.{first_of, stands_against}
use Rattle.tx_lines.proofs.Next.{found_next, passed_one, found_none, not_held}
use Rattle.tx_lines.proofs.lines.Lines.next_against.Goals as goal

pub returns-then-stands_against : goal.returns-then-stands_against
returns-then-stands_against c =
    let lines = c.args.self.now in
    let held = holders_in lines in
    let need = c.args.need in
    let found = (c.in-Some.ensures).found in
    found_next (stands_against held c.args.cpu need.line need.mode) lines.cpus c.loop-other.at c.in-Some.other
    (subst (λ v. c.in-Some.other < v.cpus) c.self.view_is ((c.in-Some.ensures).in_range)) found.from_on
    (λ k low high. not_held held c.args.cpu need.line need.mode k
    (sym (ap (λ v. holders_in v k need.line) c.self.view_is) ∙ found.first k low high))
    (sym (c.if-stands_against.ensures))
    ∙ sym (ap first_of c.loop-other.invariant.0)

pub overflow_add-at : goal.overflow_add-at
overflow_add-at c =
    let few : c.self.inside.lines.cpus ≤ 16 = c.self.invariant in
    let within : c.in-Some.other < c.self.inside.lines.cpus = (c.in-Some.ensures).in_range in
    search (rules, few, within)

pub loop-other-preserved : goal.loop-other-preserved
loop-other-preserved c =
    let lines = c.args.self.now in
    let held = holders_in lines in
    let need = c.args.need in
    let found = (c.in-Some.ensures).found in
    let within : c.in-Some.other < lines.cpus =
    subst (λ v. c.in-Some.other < v.cpus) c.self.view_is ((c.in-Some.ensures).in_range) in (
      c.loop-other.invariant.0
          ∙ passed_one (stands_against held c.args.cpu need.line need.mode) lines.cpus c.loop-other.at
          c.in-Some.other within found.from_on
          (λ k low high. not_held held c.args.cpu need.line need.mode k
          (sym (ap (λ v. holders_in v k need.line) c.self.view_is) ∙ found.first k low high))
          (sym (c.if-stands_against.ensures)),
      omega arith,
    )

pub returns : goal.returns
returns c =
    let lines = c.args.self.now in
    let held = holders_in lines in
    let need = c.args.need in
    found_none (stands_against held c.args.cpu need.line need.mode) lines.cpus c.loop-other.at
    c.loop-other.invariant.1
    (λ k low. not_held held c.args.cpu need.line need.mode k
    (sym (ap (λ v. holders_in v k need.line) c.self.view_is) ∙ (c.in_default.ensures).none k low))
    ∙ sym (ap first_of c.loop-other.invariant.0)
