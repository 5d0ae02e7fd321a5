use Rattle.std.proofs.Common.{refl, ap, false, true, ◌∙◌}
use Rattle.z_regs.specs.Prefix.{is_prefix}
use Rattle.z_regs.specs.Seen.{seen_by}
use Rattle.std.specs.FinSet.{items}
use Rattle.z_regs.specs.Cpu.{cpu_of}
use Rattle.tx_private.specs.Shows.{mark_of}
use Rattle.tx_flat.proofs.Applied.{may, may_not, committed, not_committed, is_committed, is_not, not_missing}
use Rattle.tx_flat.proofs.Near.{near_seen, near_lasting}
use Rattle.tx_flat.proofs.entries.commit.Goals as goal

pub returns-then-not-may_act-clause-applied : goal.returns-then-not-may_act-clause-applied
returns-then-not-may_act-clause-applied c = (
  λ f i h. may_not f i c.args.n (may f i c.args.storage.now (items c.args.guard.now) c.args.slot.now
      c.may_act.result
      false h c.may_act.ensures c.if-not-may_act.true),
  refl,
  refl,
)

pub returns-then-not-is_committed-clause-applied : goal.returns-then-not-is_committed-clause-applied
returns-then-not-is_committed-clause-applied c = (
  λ f i h. not_committed f i c.args.n c.args.storage.now (items c.args.guard.now) c.args.slot.now c.run.new.a h
      c.run.ensures.run
      (is_not (mark_of c.run.new.a.mark) c.is_committed.result c.is_committed.ensures
      c.if-not-is_committed.true),
  refl,
  refl,
)

pub keep_stored-requires-clause-prefix_in : goal.keep_stored-requires-clause-prefix_in
keep_stored-requires-clause-prefix_in c = ap is_prefix c.run.ensures.turned ∙ c.args.slot.now.image.prefix_in

pub keep_stored-requires-clause-seen : goal.keep_stored-requires-clause-seen
keep_stored-requires-clause-seen c =
    let there =
    is_committed (mark_of c.run.new.a.mark) c.is_committed.result c.is_committed.ensures
    c.if-not-is_committed.false in
    near_seen c.args.storage.now (items c.args.guard.now) (cpu_of c.args.slot.now.image) c.args.n c.run.new.a
    c.run.ensures.run (not_missing (mark_of c.run.new.a.mark) there) c.args.slot.now.image.prefix_in
    c.run.ensures.turned

pub keep_stored-requires-clause-lasting : goal.keep_stored-requires-clause-lasting
keep_stored-requires-clause-lasting c =
    let there =
    is_committed (mark_of c.run.new.a.mark) c.is_committed.result c.is_committed.ensures
    c.if-not-is_committed.false in
    near_lasting c.args.storage.now (items c.args.guard.now) (cpu_of c.args.slot.now.image) c.args.n c.run.new.a
    c.run.ensures.run (not_missing (mark_of c.run.new.a.mark) there) c.args.slot.now.image.prefix_in
    c.run.ensures.turned

pub returns-clause-applied : goal.returns-clause-applied
returns-clause-applied c = λ f i h.
    committed f i c.args.n c.args.storage.now (items c.args.guard.now) c.keep_stored.new.storage c.args.slot.now
    _ c.run.new.a
    h (may f i c.args.storage.now (items c.args.guard.now) c.args.slot.now c.may_act.result true h
    c.may_act.ensures
    c.if-not-may_act.false) c.run.ensures.run
    (is_committed (mark_of c.run.new.a.mark) c.is_committed.result c.is_committed.ensures
    c.if-not-is_committed.false)
    (c.keep_stored.ensures.kept ∙ ap (λ p. seen_by p c.run.new.a.seen) c.run.ensures.turned) refl refl refl
