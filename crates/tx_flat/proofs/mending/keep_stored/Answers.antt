use Rattle.std.proofs.Common.{refl, ap, ◌∙◌, ◌+◌, false, subst}
use Rattle.bit_set.specs.Counts.{but_at}
use Rattle.bit_set.specs.Bits.{IsNext, NoneMarked}
use Rattle.tx_footprint.specs.Touched.{sets_of}
use Rattle.tx_private.specs.declared.attempt.Attempt.{Attempt}
use Rattle.tx_flat.proofs.Kept.{kept_at_first, fewer_kept, later, later_all, later_next, later_none, kept_with, kept_before, all_kept, all_ready}
use Rattle.tx_flat.proofs.mending.keep_stored.Goals as goal

pub loop-line-init : goal.loop-line-init
loop-line-init c =
    let old = c.args.a.now in
    let test = (sets_of old.footprint).stored in
    record {
      kept = fewer_kept old.turned test (later 0 test) old.seen c.args.storage.now old.lasting
          (λ l within off. later_all test l off)
          (kept_at_first old.turned test c.args.storage.now old.seen old.lasting c.requires.prefix_in c.requires.seen
          c.requires.lasting) c.requires.prefix_in;
      rest = refl;
      size = c.requires.size;
    }

pub loop-line-preserved : goal.loop-line-preserved
loop-line-preserved c =
    let old = c.args.a.now in
    let a = c.loop-line.a in
    let line = c.in-Some.line in
    let from = c.loop-line.from in
    let test = (sets_of old.footprint).stored in
    let next = subst (λ (x : Attempt). IsNext x.footprint.stored from 4096 line) c.loop-line.invariant.rest
    c.in-Some.ensures.found in
    record {
      kept = fewer_kept old.turned (but_at (later from test) line false) (later (line + 1) test) old.seen
          c.keep_line.new.storage c.keep_line.new.a.lasting
          (λ l within off. later_next test from line l next.first off)
          (kept_before old a (but_at (later from test) line false) c.keep_line.new.storage c.keep_line.new.a.lasting
          c.loop-line.invariant.rest
          (c.keep_line.ensures.kept (later from test)
          (kept_with old a (later from test) c.loop-line.storage a.lasting c.loop-line.invariant.rest
          c.loop-line.invariant.kept)))
          c.requires.prefix_in;
      rest = c.keep_line.ensures.rest
          ∙ ap (λ (x : Attempt). record x { lasting = c.keep_line.new.a.lasting }) c.loop-line.invariant.rest;
      size = c.keep_line.ensures.size;
    }

pub returns-clause-kept : goal.returns-clause-kept
returns-clause-kept c =
    let old = c.args.a.now in
    let from = c.loop-line.from in
    let test = (sets_of old.footprint).stored in
    let none = subst (λ (x : Attempt). NoneMarked x.footprint.stored from 4096) c.loop-line.invariant.rest
    c.in_default.ensures.none in
    all_kept old.turned (later from test) old.seen c.loop-line.storage c.loop-line.a.lasting c.requires.prefix_in
    c.is_whole.ensures c.loop-line.invariant.size c.is_whole-3.ensures
    (λ l within. later_none test from l none within) c.loop-line.invariant.kept

pub returns-clause-ready : goal.returns-clause-ready
returns-clause-ready c =
    let old = c.args.a.now in
    let from = c.loop-line.from in
    let test = (sets_of old.footprint).stored in
    let none = subst (λ (x : Attempt). NoneMarked x.footprint.stored from 4096) c.loop-line.invariant.rest
    c.in_default.ensures.none in
    all_ready old.turned (later from test) old.seen c.loop-line.storage c.loop-line.a.lasting c.requires.prefix_in
    c.is_whole.ensures c.loop-line.invariant.size c.is_whole-3.ensures
    (λ l within. later_none test from l none within) c.loop-line.invariant.kept c.loop-line.a
    (ap (λ (x : Attempt). x.turned) c.loop-line.invariant.rest)
    (ap (λ (x : Attempt). x.seen) c.loop-line.invariant.rest) refl
