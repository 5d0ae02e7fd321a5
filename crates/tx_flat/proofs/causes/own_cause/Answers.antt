use Rattle.std.proofs.Common.{ap, sym, subst, ◌∙◌}
use Rattle.std.specs.FinSet.{items}
use Rattle.z_regs.specs.Cpu.{cpu_of}
use Rattle.z_regs.specs.Prefix.{is_prefix}
use Rattle.tx_footprint.specs.Touched.{sets_of}
use Rattle.tx_private.specs.declared.attempt.Attempt.{Attempt}
use Rattle.tx_flat.specs.Near.{Near}
use Rattle.tx_private.specs.Shows.{mark_of}
use Rattle.tx_flat.proofs.Near.{near_seen, near_lasting}
use Rattle.tx_private.proofs.Resting.{some_run}
use Rattle.tx_flat.proofs.causes.own_cause.Goals as goal

pub ending-why-requires : goal.ending-why-requires
ending-why-requires c =
    some_run c.args.storage.now (items c.args.guard.now) (cpu_of c.args.image.now) c.args.n c.run.new.a
    c.run.ensures.run

pub settle-requires-clause-prefix_in : goal.settle-requires-clause-prefix_in
settle-requires-clause-prefix_in c =
    ap (λ (x : Attempt). is_prefix x.turned) c.ending-why.ensures.rest ∙ ap is_prefix c.run.ensures.turned
    ∙ c.args.image.now.prefix_in

pub settle-requires-clause-seen : goal.settle-requires-clause-seen
settle-requires-clause-seen c = λ there.
    let a = c.run.new.a in
    subst (λ (x : Attempt). Near x.turned (sets_of x.footprint).stored c.args.storage.now x.seen)
    (sym c.ending-why.ensures.rest)
    (near_seen c.args.storage.now (items c.args.guard.now) (cpu_of c.args.image.now) c.args.n a c.run.ensures.run
    (λ gone. there (ap (λ (x : Attempt). mark_of x.mark) c.ending-why.ensures.rest ∙ gone))
    c.args.image.now.prefix_in c.run.ensures.turned)

pub settle-requires-clause-lasting : goal.settle-requires-clause-lasting
settle-requires-clause-lasting c = λ there.
    let a = c.run.new.a in
    subst (λ (x : Attempt). Near x.turned (sets_of x.footprint).stored c.args.storage.now x.lasting)
    (sym c.ending-why.ensures.rest)
    (near_lasting c.args.storage.now (items c.args.guard.now) (cpu_of c.args.image.now) c.args.n a c.run.ensures.run
    (λ gone. there (ap (λ (x : Attempt). mark_of x.mark) c.ending-why.ensures.rest ∙ gone))
    c.args.image.now.prefix_in c.run.ensures.turned)
