use Rattle.std.proofs.Common.{refl, sym, ap, ◌∙◌, ◌+◌, ◌≡◌, false, subst}
use Rattle.bit_set.specs.Counts.{but_at}
use Rattle.bit_set.specs.Bits.{IsNext, NoneMarked}
use Rattle.z_regs.specs.Prefix.{is_prefix}
use Rattle.z_regs.specs.Seen.{seen_by}
use Rattle.tx_footprint.specs.Touched.{sets_of}
use Rattle.tx_private.specs.declared.attempt.Attempt.{Attempt}
use Rattle.tx_flat.proofs.Kept.{fewer_near, later, later_all, later_next, later_none, near_with, near_before, all_near}
use Rattle.tx_flat.proofs.mending.restore.Goals as goal

pub loop-line-init : goal.loop-line-init
loop-line-init c =
    let old = c.args.a.now in
    let s = c.args.storage.now in
    let test = (sets_of old.footprint).stored in
    record {
      seen = fewer_near old.turned test (later 0 test) s old.seen (λ l within off. later_all test l off)
          c.requires.seen c.requires.prefix_in;
      lasting = fewer_near old.turned test (later 0 test) s old.lasting (λ l within off. later_all test l off)
          c.requires.lasting c.requires.prefix_in;
      rest = refl;
    }

pub loop-line-preserved : goal.loop-line-preserved
loop-line-preserved c =
    let old = c.args.a.now in
    let s = c.args.storage.now in
    let a = c.loop-line.a in
    let line = c.in-Some.line in
    let from = c.loop-line.from in
    let test = (sets_of old.footprint).stored in
    let before = later from test in
    let after = c.restore_line.new.a in
    let next = subst (λ (x : Attempt). IsNext x.footprint.stored from 4096 line) c.loop-line.invariant.rest
    c.in-Some.ensures.found in
    record {
      seen = fewer_near old.turned (but_at before line false) (later (line + 1) test) s after.seen
          (λ l within off. later_next test from line l next.first off)
          (near_before old a (but_at before line false) s after.seen c.loop-line.invariant.rest
          (c.restore_line.ensures.seen before
          (near_with old a before s a.seen c.loop-line.invariant.rest c.loop-line.invariant.seen)))
          c.requires.prefix_in;
      lasting = fewer_near old.turned (but_at before line false) (later (line + 1) test) s after.lasting
          (λ l within off. later_next test from line l next.first off)
          (near_before old a (but_at before line false) s after.lasting c.loop-line.invariant.rest
          (c.restore_line.ensures.lasting before
          (near_with old a before s a.lasting c.loop-line.invariant.rest c.loop-line.invariant.lasting)))
          c.requires.prefix_in;
      rest = c.restore_line.ensures.rest
          ∙ ap (λ (x : Attempt). record x { seen = after.seen; lasting = after.lasting }) c.loop-line.invariant.rest;
    }

pub returns : goal.returns
returns c =
    let old = c.args.a.now in
    let a = c.loop-line.a in
    let s = c.args.storage.now in
    let from = c.loop-line.from in
    let test = (sets_of old.footprint).stored in
    let none = subst (λ (x : Attempt). NoneMarked x.footprint.stored from 4096) c.loop-line.invariant.rest
    c.in_default.ensures.none in
    let turned : a.turned ≡ old.turned = ap (λ (x : Attempt). x.turned) c.loop-line.invariant.rest in
    record {
      prefix_in = ap is_prefix turned ∙ c.requires.prefix_in;
      seen = all_near old.turned (later from test) s a.seen c.requires.prefix_in c.is_whole.ensures c.is_whole-4.ensures
          (λ l within. later_none test from l none within) c.loop-line.invariant.seen
          ∙ ap (λ p. seen_by p s) (sym turned);
      lasting = all_near old.turned (later from test) s a.lasting c.requires.prefix_in c.is_whole.ensures
          c.is_whole-5.ensures (λ l within. later_none test from l none within) c.loop-line.invariant.lasting
          ∙ ap (λ p. seen_by p s) (sym turned);
    }
