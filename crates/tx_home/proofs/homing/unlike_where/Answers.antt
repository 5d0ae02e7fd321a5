-- Where no place differs, the run may be taken.
use Rattle.std.proofs.Common.{◌≡◌, ◌<◌, true, length, refl, sym, ap, subst, ◌∙◌}
use Rattle.tx_meaning.specs.Apply.{is_running}
use Rattle.z_regs.specs.Cpu.{Cpu, cpu_of}
use Rattle.tx_works.specs.Parts.{Parts, local_of}
use Rattle.tx_works.specs.Stranger.{GoesOnLike, SeeAlike}
use Rattle.tx_works.specs.Own.{given, is_touched}
use Rattle.tx_meaning.specs.Limits.{Setting}
use Rattle.tx_works.specs.Works.{Seat, Works, numbers_of, seats_of, kept_by}
use Rattle.tx_works.specs.contracts.slot.Slot.{the_view}
use Rattle.tx_works.specs.contracts.works.Works as works
use Rattle.tx_works.proofs.Seats.{IsAt, seat-is}
use Rattle.tx_home.specs.Taken.{AreAlikeInNumbers, MayTake}
use Rattle.tx_home.proofs.Alike.{may-take}
use Rattle.tx_home.proofs.homing.unlike_where.Goals as goal

pub returns-clause-may : goal.returns-clause-may
returns-clause-may c rest none =
    let r = c.args.run.now in
    let m : Setting = record { image = c.args.program.now; limits = c.args.limits } in
    let old : Works = works.the_view c.works.inside in
    let s : Seat = the_view c.slot.inside in
    let at : IsAt old c.args.works.now c.cpu.result s = record {
      other = c.index-slot.result.now;
      view = c.works.view_is;
      known = subst (λ i. i < length c.args.works.now.slots) (sym c.cpu.ensures) c.requires.cpu;
      is = c.slot.view_is ∙ c.index-slot.ensures;
    } in
    let is : s ≡ seats_of rest old.slots r.cpu =
    seat-is old c.args.works.now c.cpu.result s rest at ∙ ap (λ (w : Works). seats_of rest w.slots c.cpu.result) (sym c.works.view_is)
    ∙ ap (seats_of rest old.slots) c.cpu.ensures in
    let as_lent : c.index-slot.result.now ≡ seats_of rest old.slots r.cpu = sym c.slot.view_is ∙ is in
    let own : cpu_of c.image.result.now ≡ ((kept_by rest old).locals r.cpu).attempt.cpu =
    c.image.ensures ∙ ap (λ (s : Seat). (local_of s.cpu).attempt.cpu) is in
    let start : cpu_of c.image-2.result.now ≡ (local_of r.made.start).attempt.cpu =
    c.image-2.ensures ∙ ap (λ (p : Parts). (local_of p).attempt.cpu) c.start.ensures in
    let there : MayTake m r (kept_by rest old) =
    may-take c.args.program.now c.args.limits r (kept_by rest old) c.args.same
    (subst (λ (s : Seat). AreAlikeInNumbers c.args.same c.args.limits r old.queue (local_of s.cpu) (numbers_of s)) as_lent
    (c.in_default.ensures.alike refl))
    refl
    c.is_lent.ensures.runs
    (λ runs starts. sym own ∙ c.in_default-unlike_registers.ensures.same refl
    (subst (λ (x : Cpu). is_running x.state ≡ true) (sym own) runs)
    (subst (λ (x : Cpu). is_running x.state ≡ true) (sym start) starts) ∙ start)
    (subst (λ (w : Works). c.args.same ≡ true
    → ((kept_by rest w).locals r.cpu).attempt.cpu ≡ (local_of r.made.start).attempt.cpu
    → ((kept_by rest w).locals r.cpu).attempt.count ≡ (local_of r.made.start).attempt.count
    → GoesOnLike (local_of r.made.start).attempt ((kept_by rest w).locals r.cpu).attempt) (sym c.works.view_is)
    (c.requires.like rest))
    (subst (λ (s : Seat). SeeAlike (is_touched r.made.own) (local_of r.made.start).attempt.overlay (given r.made.own)
    (local_of s.cpu).attempt.overlay (kept_by rest old).storage) is (c.unlike_in_storage.ensures.alike none))
    (c.unlike_in_storage.ensures.pages none)
    (c.unlike_in_storage.ensures.held none) in
    subst (λ (w : Works). MayTake m r (kept_by rest w)) c.works.view_is there
