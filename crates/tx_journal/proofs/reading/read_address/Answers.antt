use Rattle.std.proofs.Common.{rules, arith, subst, sym}
use Rattle.tx_journal.specs.Lines.{IsLineAddress}
use Rattle.tx_journal.proofs.Hexadecimal.{doubleword_injective}
use Rattle.tx_journal.proofs.reading.read_address.Goals as goal

pub returns-then-not-is_line_address-clause-none : goal.returns-then-not-is_line_address-clause-none
returns-then-not-is_line_address-clause-none c = λ a begins is.
    let same =
    doubleword_injective c.args.text.now c.in_ok-address.address a (omega arith) (omega (arith, begins.within))
    c.in_ok-address.ensures.some is in
    let there = c.is_line_address.ensures.1 (subst IsLineAddress (sym same) begins) in
    search (rules, there)
