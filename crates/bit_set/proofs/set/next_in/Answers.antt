-- The words so far have no bit that is one.
use Rattle.std.proofs.Common.{◌*◌, ◌+◌, ℕ, Option, Some, None, IfSome, ltb, subst}
use Rattle.std.proofs.Common.{arith}
use Rattle.std.proofs.lemmas.Bool.{cond-true, lt-ltb}
use Rattle.bit_set.specs.Bits.{bits_of, IsNext, NoneMarked}
use Rattle.bit_set.proofs.Marks.{none_in_word, next_found}
use Rattle.bit_set.proofs.set.next_in.Goals as goal

pub words-preserved : goal.words-preserved
words-preserved c =
    let none : NoneMarked (bits_of c.args.words.now) (64 * c.args.first) (c.words.at * 64 + 0) =
    λ k le lt. c.words.invariant k le (omega (arith, lt)) in
    let past =
    none_in_word c.args.words.now (64 * c.args.first) c.words.at 0 (omega arith) none
    c.in_default.ensures.none in
    λ k le lt. past k le (omega (arith, lt))

pub returns-in-Some-clause-found : goal.returns-in-Some-clause-found
returns-in-Some-clause-found c =
    let at = c.words.at * 64 + c.in-Some.bit in
    let end = 64 * c.args.past in
    let none : NoneMarked (bits_of c.args.words.now) (64 * c.args.first) (c.words.at * 64 + 0) =
    λ k le lt. c.words.invariant k le (omega (arith, lt)) in
    subst (λ (o : Option ℕ). IfSome o (λ n. IsNext (bits_of c.args.words.now) (64 * c.args.first) end n))
    (cond-true (ltb at end) (Some at) None (lt-ltb at end (omega (arith, c.in-Some.ensures.found.within))))
    (next_found c.args.words.now (64 * c.args.first) c.words.at 0 c.in-Some.bit end (omega arith) (omega arith)
    none c.in-Some.ensures.found)
