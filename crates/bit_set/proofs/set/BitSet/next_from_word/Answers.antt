-- Words that are not in use have no member.
use Rattle.std.proofs.Common.{◌*◌, ℕ, Option, IfSome, IfNone, sym, arith, subst, min, max}
use Rattle.bit_set.specs.Bits.{bits_of, IsNext, NoneMarked}
use Rattle.bit_set.proofs.Used.{found_in_all, none_but_found, none_in_all}
use Rattle.bit_set.proofs.set.BitSet.next_from_word.Goals as goal

pub returns-in_err-at-clause-none : goal.returns-in_err-at-clause-none
returns-in_err-at-clause-none c =
    let words = c.self.inside.words.items in
    rw c.from_residual.ensures
    (subst (λ marks. NoneMarked marks (64 * c.args.word) c.args.end) c.self.view_is
    (none_in_all words c.self.inside.low c.self.inside.high c.args.word c.div_ceil.result c.args.end
    c.self.invariant (omega (arith, c.div_ceil.ensures))
    (subst (λ low. NoneMarked (bits_of words) (64 * low) (64 * min c.div_ceil.result c.self.inside.high)) c.max-first.ensures
    (subst (λ high. NoneMarked (bits_of words) (64 * c.max-first.result) (64 * high)) c.min-past.ensures
    (subst (λ all. NoneMarked (bits_of all) (64 * c.max-first.result) (64 * c.min-past.result)) c.deref.ensures.value
    c.in_err-at.ensures.none)))))

module _ (c : goal.After-below) where
  next : IsNext (bits_of c.self.inside.words.items) (64 * max c.args.word c.self.inside.low)
      (64 * min c.div_ceil.result c.self.inside.high) c.in_ok-at.at
  next =
      let words = c.self.inside.words.items in
      subst (λ low. IsNext (bits_of words) (64 * low) (64 * min c.div_ceil.result c.self.inside.high) c.in_ok-at.at)
      c.max-first.ensures
      (subst (λ high. IsNext (bits_of words) (64 * c.max-first.result) (64 * high) c.in_ok-at.at) c.min-past.ensures
      (subst (λ all. IsNext (bits_of all) (64 * c.max-first.result) (64 * c.min-past.result) c.in_ok-at.at)
      c.deref.ensures.value c.in_ok-at.ensures.found))

pub returns-clause-found : goal.returns-clause-found
returns-clause-found c =
    let words = c.self.inside.words.items in
    subst (λ marks. IfSome c.below.result (λ at. IsNext marks (64 * c.args.word) c.args.end at)) c.self.view_is
    (subst (λ (o : Option ℕ). IfSome o (λ at. IsNext (bits_of words) (64 * c.args.word) c.args.end at))
    (sym c.below.ensures)
    (found_in_all words c.self.inside.low c.self.inside.high c.args.word c.div_ceil.result c.args.end
    c.self.invariant (omega (arith, c.div_ceil.ensures)) c.in_ok-at.at (next c)))

pub returns-clause-none : goal.returns-clause-none
returns-clause-none c =
    let words = c.self.inside.words.items in
    subst (λ marks. IfNone c.below.result (NoneMarked marks (64 * c.args.word) c.args.end)) c.self.view_is
    (subst (λ (o : Option ℕ). IfNone o (NoneMarked (bits_of words) (64 * c.args.word) c.args.end))
    (sym c.below.ensures)
    (none_but_found words c.self.inside.low c.self.inside.high c.args.word c.div_ceil.result c.args.end
    c.self.invariant (omega (arith, c.div_ceil.ensures)) c.in_ok-at.at (next c)))
