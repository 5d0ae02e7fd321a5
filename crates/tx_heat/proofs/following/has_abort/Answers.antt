-- One entry more tells of no abort.
use Rattle.std.proofs.Common.{◌≡◌, ℕ, Bool, false, sym, ap, ◌∙◌, arith, cond, get_or}
use Rattle.std.proofs.lemmas.List.{take_all}
use Rattle.std.proofs.lemmas.List.Sums.{sum_by_more}
use Rattle.tx_journal.specs.declared.entries.Entry.{Entry}
use Rattle.tx_journal.specs.declared.entries.Entry.TheVariants.{Step}
use Rattle.tx_heat.specs.Watched.{aborts, is_abort}
use Rattle.tx_heat.proofs.following.has_abort.Goals as goal

abbrev number_if : Bool → ℕ
number_if b = cond b 1 0

pub loop-entry-preserved : goal.loop-entry-preserved
loop-entry-preserved c =
    let k = c.loop-entry.entry-index in
    let entries = c.args.entries.now in
    let x : Entry = get_or entries k (Step 0) in
    let none : is_abort x ≡ false = sym c.is_abort.ensures ∙ c.if-is_abort.false in
    let one : number_if (is_abort x) ≡ 0 = ap number_if none in
    let more = sum_by_more (λ y. cond (is_abort y) 1 0) entries k (Step 0) c.loop-entry-test.true in
    let before = c.loop-entry.invariant in
    omega (arith, one, more, before)

pub returns : goal.returns
returns c = λ off.
    sym (ap aborts (take_all c.loop-entry.entry-index c.args.entries.now (omega arith))) ∙ c.loop-entry.invariant
