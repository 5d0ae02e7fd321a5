use Rattle.std.proofs.Common.{refl, sym, ap, ◌∙◌, subst, false, true}
use Rattle.z_regs.specs.Seen.{seen_by}
use Rattle.tx_private.specs.declared.attempt.Attempt.{Attempt}
use Rattle.tx_flat.specs.Near.{Near}
use Rattle.tx_flat.proofs.Near.{near_seen, near_lasting}
use Rattle.tx_footprint.specs.Touched.{sets_of}
use Rattle.z_regs.specs.Prefix.{is_prefix}
use Rattle.std.specs.FinSet.{items}
use Rattle.z_regs.specs.Cpu.{cpu_of}
use Rattle.tx_flat.proofs.Aborted.{is_begun, is_inside, has_room, aborted, is_there_where_it_fits, may_not_abort, none_aborted, unfit}
use Rattle.tx_flat.proofs.Applied.{may}
use Rattle.tx_private.proofs.Resting.{some_run}
use Rattle.tx_flat.proofs.abort.abort.Goals as goal

pub returns-then-not-may_act-clause-applied : goal.returns-then-not-may_act-clause-applied
returns-then-not-may_act-clause-applied c = (
  λ f i h. may_not_abort f i c.args.ended.count c.args.ended.why (may f i c.args.storage.now (items c.args.guard.now)
      c.args.slot.now c.may_act.result false h c.may_act.ensures c.if-not-may_act.true),
  refl,
  refl,
)

pub returns-then-count-eq0-clause-applied : goal.returns-then-count-eq0-clause-applied
returns-then-count-eq0-clause-applied c = (λ f i h. none_aborted f i c.args.ended.count c.args.ended.why c.if-count-eq0.true, refl, refl)

pub fits-requires : goal.fits-requires
fits-requires c =
    some_run c.args.storage.now (items c.args.guard.now) (cpu_of c.args.slot.now.image) c.args.ended.count c.run.new.a
    c.run.ensures.run

pub returns-then-not-fits-clause-applied : goal.returns-then-not-fits-clause-applied
returns-then-not-fits-clause-applied c = (
  λ f i h. unfit f i c.args.ended.count c.args.storage.now (items c.args.guard.now) c.args.slot.now c.run.new.a
      c.args.ended.why c.fits.result h c.run.ensures.run c.fits.ensures.value c.if-not-fits.true,
  refl,
  refl,
)

pub left-new-requires-clause-begun : goal.left-new-requires-clause-begun
left-new-requires-clause-begun c =
    is_begun c.args.storage.now (items c.args.guard.now) (cpu_of c.args.slot.now.image) c.args.ended.count c.run.new.a
    c.fits.new.a c.fits.new.a.trial c.args.ended.why c.fits.result c.run.ensures.run c.if-count-eq0.false
    c.fits.ensures.value c.if-not-fits.false c.fits.ensures.rest

pub left-new-requires-clause-inside : goal.left-new-requires-clause-inside
left-new-requires-clause-inside c =
    is_inside c.args.storage.now (items c.args.guard.now) (cpu_of c.args.slot.now.image) c.args.ended.count c.run.new.a
    c.fits.new.a c.fits.new.a.trial c.args.ended.why c.fits.result c.run.ensures.run c.if-count-eq0.false
    c.fits.ensures.value c.if-not-fits.false c.fits.ensures.rest

pub left-new-requires-clause-room : goal.left-new-requires-clause-room
left-new-requires-clause-room c =
    has_room c.args.storage.now (items c.args.guard.now) (cpu_of c.args.slot.now.image) c.args.ended.count c.run.new.a
    c.fits.new.a c.fits.new.a.trial c.args.ended.why c.fits.result c.run.ensures.run c.if-count-eq0.false
    c.fits.ensures.value c.if-not-fits.false c.fits.ensures.rest

pub returns-clause-applied : goal.returns-clause-applied
returns-clause-applied c = λ f i h.
    aborted f i c.args.ended.count c.args.storage.now (items c.args.guard.now) c.keep_stored.new.storage c.args.slot.now
    c.left-new.result c.run.new.a c.fits.new.a c.fits.new.a.trial c.args.ended.why c.fits.result h
    (may f i c.args.storage.now (items c.args.guard.now) c.args.slot.now c.may_act.result true h
    c.may_act.ensures c.if-not-may_act.false)
    c.if-count-eq0.false c.run.ensures.run c.fits.ensures.value c.if-not-fits.false c.fits.ensures.rest
    (c.keep_stored.ensures.kept
    ∙ ap (λ (x : Attempt). seen_by x.turned x.seen) c.forget_plain_stores.ensures
    ∙ ap (λ (x : Attempt). seen_by x.turned c.fits.new.a.lasting) c.fits.ensures.rest
    ∙ ap (λ p. seen_by p c.fits.new.a.lasting) c.run.ensures.turned) c.left-new.ensures.cpu c.left-new.ensures.pending c.left-new.ensures.waiting

pub keep_stored-requires-clause-prefix_in : goal.keep_stored-requires-clause-prefix_in
keep_stored-requires-clause-prefix_in c =
    ap (λ (x : Attempt). is_prefix x.turned) (c.forget_plain_stores.ensures)
    ∙ ap (λ (x : Attempt). is_prefix x.turned) c.fits.ensures.rest
    ∙ ap is_prefix c.run.ensures.turned ∙ c.args.slot.now.image.prefix_in

pub keep_stored-requires-clause-seen : goal.keep_stored-requires-clause-seen
keep_stored-requires-clause-seen c =
    let a = c.run.new.a in
    let s = c.args.storage.now in
    let there =
    is_there_where_it_fits s (items c.args.guard.now) (cpu_of c.args.slot.now.image) c.args.ended.count a
    c.args.ended.why c.fits.result c.run.ensures.run c.fits.ensures.value c.if-not-fits.false in
    subst (λ (x : Attempt). Near x.turned (sets_of x.footprint).stored s x.seen) (sym c.forget_plain_stores.ensures)
    (subst (λ (x : Attempt). Near x.turned (sets_of x.footprint).stored s x.lasting) (sym c.fits.ensures.rest)
    (near_lasting s (items c.args.guard.now) (cpu_of c.args.slot.now.image) c.args.ended.count a c.run.ensures.run
    there c.args.slot.now.image.prefix_in c.run.ensures.turned))

pub keep_stored-requires-clause-lasting : goal.keep_stored-requires-clause-lasting
keep_stored-requires-clause-lasting c =
    let a = c.run.new.a in
    let s = c.args.storage.now in
    let there =
    is_there_where_it_fits s (items c.args.guard.now) (cpu_of c.args.slot.now.image) c.args.ended.count a
    c.args.ended.why c.fits.result c.run.ensures.run c.fits.ensures.value c.if-not-fits.false in
    subst (λ (x : Attempt). Near x.turned (sets_of x.footprint).stored s x.lasting) (sym c.forget_plain_stores.ensures)
    (subst (λ (x : Attempt). Near x.turned (sets_of x.footprint).stored s x.seen) (sym c.fits.ensures.rest)
    (near_seen s (items c.args.guard.now) (cpu_of c.args.slot.now.image) c.args.ended.count a c.run.ensures.run
    there c.args.slot.now.image.prefix_in c.run.ensures.turned))
