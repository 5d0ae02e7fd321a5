-- Nothing is kept apart of an instruction that stores nothing.
use Rattle.std.proofs.Common.{◌≡◌, false, List, ℕ, ap, sym, subst, ◌∙◌, get_or}
use Rattle.z_regs.specs.Cpu.{cpu_of}
use Rattle.z_regs.specs.declared.ranges.Range.{Range}
use Rattle.tx_attempt.specs.Performed.{StoresFirst, no_range}
use Rattle.tx_attempt.proofs.Bare.{apart-so, none-apart, none-after}
use Rattle.tx_attempt.proofs.Fetching.{all-inside}
use Rattle.tx_attempt.proofs.Stored.{operands-first}
use Rattle.std.proofs.lemmas.Bool.{not-true}
use Rattle.tx_attempt.proofs.performing.execute_there.Goals as goal

pub execute_plain-requires-clause-inside : goal.execute_plain-requires-clause-inside
execute_plain-requires-clause-inside g c =
    all-inside c.args.image.now.prefix c.args.need.now (g.V.Bytes.bytes c.args.base.now) c.requires.size
    c.requires.accessible

pub returns-then-not-first-clause-done : goal.returns-then-not-first-clause-done
returns-then-not-first-clause-done g c =
    let need = c.args.need.now in
    let s : List ℕ = g.V.Bytes.bytes c.args.base.now in
    let t : List ℕ = g.V.Bytes.bytes c.execute_plain.new.base in
    let none : (get_or need 0 no_range).store ≡ false =
    ap (λ (r : Range). r.store) (sym c.operand-first.ensures)
    ∙ not-true c.operand-first.result.store c.if-not-first.true in
    apart-so c.args.instr.now (cpu_of c.args.image.now) (cpu_of c.execute_plain.new.image)
    c.args.image.now.prefix need s t _ _ c.requires.need c.requires.accessible c.requires.size
    c.execute_plain.ensures.left (none-apart need t _ none)

pub returns-then-not-first-clause-same : goal.returns-then-not-first-clause-same
returns-then-not-first-clause-same g c =
    let need = c.args.need.now in
    let none : (get_or need 0 no_range).store ≡ false =
    ap (λ (r : Range). r.store) (sym c.operand-first.ensures)
    ∙ not-true c.operand-first.result.store c.if-not-first.true in
    (c.execute_plain.ensures.left 0).view
    ∙ none-after need _ (g.V.Bytes.bytes c.args.base.now)
    (subst StoresFirst (sym c.requires.need) (operands-first c.args.instr.now (cpu_of c.args.image.now))) none
