use Rattle.std.proofs.Common.{refl, ap, ◌∙◌, ◌+◌, drop, arith}
use Rattle.tx_footprint.specs.Places.{stores}
use Rattle.tx_footprint.proofs.Marking.{storage_at}
use Rattle.tx_private.specs.declared.attempt.Attempt.{Attempt}
use Rattle.tx_flat.proofs.Kept.{kept_at_first, fewer_kept, without, next_range, rest_of, none_left, kept_with, kept_before, all_kept, all_ready}
use Rattle.tx_flat.proofs.mending.keep_ranges.Goals as goal

pub loop-i-init : goal.loop-i-init
loop-i-init c = record {
  kept = kept_at_first c.args.a.now.turned (stores c.args.absolute.now) c.args.storage.now c.args.a.now.seen
      c.args.a.now.lasting c.requires.prefix_in c.requires.seen c.requires.lasting;
  rest = refl;
  size = c.requires.size;
}

pub keep_range-requires-clause-inside : goal.keep_range-requires-clause-inside
keep_range-requires-clause-inside c =
    storage_at c.args.absolute.now c.loop-i.i c.at.result c.requires.inside c.at.ensures

pub loop-i-preserved : goal.loop-i-preserved
loop-i-preserved c =
    let ranges = c.args.absolute.now in
    let i = c.loop-i.i in
    let old = c.args.a.now in
    let a = c.loop-i.a in
    let now = stores (drop i ranges) in
    record {
      kept = fewer_kept old.turned (without now c.at.result) (stores (drop (i + 1) ranges)) old.seen
          c.keep_range.new.storage c.keep_range.new.a.lasting
          (λ l within off. next_range ranges i c.at.result l (rest_of ranges i c.at.result c.at.ensures) off)
          (kept_before old a (without now c.at.result) c.keep_range.new.storage c.keep_range.new.a.lasting
          c.loop-i.invariant.rest
          (c.keep_range.ensures.kept now
          (kept_with old a now c.loop-i.storage a.lasting c.loop-i.invariant.rest c.loop-i.invariant.kept)))
          c.requires.prefix_in;
      rest = c.keep_range.ensures.rest
          ∙ ap (λ (x : Attempt). record x { lasting = c.keep_range.new.a.lasting }) c.loop-i.invariant.rest;
      size = c.keep_range.ensures.size;
    }

pub returns-clause-kept : goal.returns-clause-kept
returns-clause-kept c =
    let ranges = c.args.absolute.now in
    all_kept c.args.a.now.turned (stores (drop c.loop-i.i ranges)) c.args.a.now.seen c.loop-i.storage
    c.loop-i.a.lasting c.requires.prefix_in c.is_whole.ensures c.loop-i.invariant.size c.is_whole-3.ensures
    (λ l within. none_left ranges c.loop-i.i l (omega (arith, c.loop-i-test.false, c.count-i-end.ensures.value))) c.loop-i.invariant.kept

pub returns-clause-ready : goal.returns-clause-ready
returns-clause-ready c =
    let ranges = c.args.absolute.now in
    all_ready c.args.a.now.turned (stores (drop c.loop-i.i ranges)) c.args.a.now.seen c.loop-i.storage
    c.loop-i.a.lasting c.requires.prefix_in c.is_whole.ensures c.loop-i.invariant.size c.is_whole-3.ensures
    (λ l within. none_left ranges c.loop-i.i l (omega (arith, c.loop-i-test.false, c.count-i-end.ensures.value))) c.loop-i.invariant.kept c.loop-i.a
    (ap (λ (x : Attempt). x.turned) c.loop-i.invariant.rest) (ap (λ (x : Attempt). x.seen) c.loop-i.invariant.rest) refl
