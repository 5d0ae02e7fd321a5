use Rattle.std.proofs.Common.{refl, ap, ◌∙◌, ◌+◌, ◌-◌, ◌/◌, ◌≡◌, false, true, arith}
use Rattle.bit_set.specs.Counts.{but_at}
use Rattle.tx_private.specs.declared.attempt.Attempt.{Attempt}
use Rattle.tx_flat.proofs.Kept.{fewer_kept, without, outside, outside_none, outside_more, no_store, no_length, whole_range, kept_with, kept_before, not_not}
use Rattle.tx_flat.proofs.mending.keep_range.Goals as goal

pub returns-then-not-range-clause-kept : goal.returns-then-not-range-clause-kept
returns-then-not-range-clause-kept c = λ test before.
    fewer_kept c.args.a.now.turned test (without test c.args.range) c.args.a.now.seen c.args.storage.now
    c.args.a.now.lasting
    (λ l within off. no_store test c.args.range l (not_not c.args.range.store false c.if-not-range.true) off)
    before c.requires.prefix_in

pub returns-then-range-eq0-clause-kept : goal.returns-then-range-eq0-clause-kept
returns-then-range-eq0-clause-kept c = λ test before.
    fewer_kept c.args.a.now.turned test (without test c.args.range) c.args.a.now.seen c.args.storage.now
    c.args.a.now.lasting (λ l within off. no_length test c.args.range l c.if-range-eq0.true off)
    before c.requires.prefix_in

pub loop-line-init : goal.loop-line-init
loop-line-init c = record {
  kept = λ test before.
      fewer_kept c.args.a.now.turned test (outside test (c.args.range.first / 256) (c.args.range.first / 256))
      c.args.a.now.seen c.args.storage.now c.args.a.now.lasting
      (λ l within off. outside_none test (c.args.range.first / 256) l off) before c.requires.prefix_in;
  rest = refl;
  size = c.requires.size;
}

pub loop-line-preserved : goal.loop-line-preserved
loop-line-preserved c = record {
  kept = λ test before.
      let first = c.args.range.first / 256 in
      let line = c.loop-line.line in
      let old = c.args.a.now in
      let a = c.loop-line.a in
      let inner = kept_with old a (outside test first line) c.loop-line.storage a.lasting c.loop-line.invariant.rest
      (c.loop-line.invariant.kept test before) in
      fewer_kept old.turned (but_at (outside test first line) line false) (outside test first (line + 1)) old.seen
      c.keep_line.new.storage c.keep_line.new.a.lasting
      (λ l within off. outside_more test first line l c.loop-line.auto.line off)
      (kept_before old a (but_at (outside test first line) line false) c.keep_line.new.storage
      c.keep_line.new.a.lasting c.loop-line.invariant.rest
      (c.keep_line.ensures.kept (outside test first line) inner))
      c.requires.prefix_in;
  rest = c.keep_line.ensures.rest
      ∙ ap (λ (x : Attempt). record x { lasting = c.keep_line.new.a.lasting }) c.loop-line.invariant.rest;
  size = c.keep_line.ensures.size;
}

pub returns-clause-kept : goal.returns-clause-kept
returns-clause-kept c = λ test before.
    let first = c.args.range.first / 256 in
    let end = (c.args.range.first + c.args.range.length - 1) / 256 + 1 in
    let some = c.if-range-eq0.false in
    let past : c.loop-line.line ≡ end = omega (arith, c.loop-line-test.false, c.from.ensures, c.loop-line.auto.line-end, some) in
    fewer_kept c.args.a.now.turned (outside test first c.loop-line.line) (without test c.args.range) c.args.a.now.seen
    c.loop-line.storage c.loop-line.a.lasting
    (λ l within off. ap (λ e. outside test first e l) past
    ∙ whole_range test c.args.range l (not_not c.args.range.store true c.if-not-range.false) (omega (arith, some)) off)
    (c.loop-line.invariant.kept test before) c.requires.prefix_in
