-- One CPU more is ready, or it is not.
use Rattle.std.proofs.Common.{◌≡◌, ℕ, ◌<◌, ◌++◌, [], ◌∷◌, List, All, true, sym, ap, ◌∙◌, subst, arith}
use Rattle.std.proofs.lemmas.List.Elements.{All-push}
use Rattle.std.specs.List.{filter, range_with_len}
use Rattle.arrayvec.specs.ArrayVec.{array_vec_len}
use Rattle.tx_meaning.specs.Idle.{is_ready}
use Rattle.tx_meaning.specs.Schedules.{ready_cpus}
use Rattle.tx_meaning.specs.State.{cpus_of}
use Rattle.tx_machine.specs.Machine.{setting_of, state_of}
use Rattle.tx_schedule.proofs.Chosen.{more_ready, still_ready}
use Rattle.tx_schedule.proofs.choosing.ready_among.Goals as goal
use Rattle.tx_schedule.proofs.choosing.ready_among.Goals.{then-ready, else-ready}

pub loop-cpu-preserved : goal.loop-cpu-preserved
loop-cpu-preserved c =
    let m = setting_of c.args.machine.now in
    let test = is_ready m (state_of c.args.machine.now) in
    let cpu = c.loop-cpu.cpu in
    let known : cpu < cpus_of m = omega arith in
    elim c.if-ready.branch [
      | then-ready w ↦
          let items = ap (λ r. r.items) w.ready-is ∙ w.push.ensures.items in
          let count = ap array_vec_len w.ready-is ∙ w.push.ensures.len in
          record {
            ready =
                items ∙ ap (λ (l : List ℕ). l ++ cpu ∷ []) c.loop-cpu.invariant.ready
                ∙ sym (more_ready test cpu (sym c.ready.ensures ∙ w.if-ready.true));
            few = omega arith;
            known =
                subst (λ (l : List ℕ). All (λ i. i < cpus_of m) l) (sym items)
                (All-push (λ i. i < cpus_of m) c.loop-cpu.ready.items cpu c.loop-cpu.invariant.known known);
            each =
                subst (λ (l : List ℕ). All (λ i. test i ≡ true) l) (sym items)
                (All-push (λ i. test i ≡ true) c.loop-cpu.ready.items cpu c.loop-cpu.invariant.each
                (sym c.ready.ensures ∙ w.if-ready.true));
          }
      | else-ready w ↦
          let items = ap (λ r. r.items) w.ready-is in
          let count = ap array_vec_len w.ready-is in
          record {
            ready =
                items ∙ c.loop-cpu.invariant.ready
                ∙ sym (still_ready test cpu (sym c.ready.ensures ∙ w.if-ready.false));
            few = omega arith;
            known = subst (λ (l : List ℕ). All (λ i. i < cpus_of m) l) (sym items) c.loop-cpu.invariant.known;
            each = subst (λ (l : List ℕ). All (λ i. test i ≡ true) l) (sym items) c.loop-cpu.invariant.each;
          }
    ]

pub returns-clause-value : goal.returns-clause-value
unfolding ready_cpus
returns-clause-value c =
    let m = setting_of c.args.machine.now in
    let all : c.loop-cpu.cpu ≡ cpus_of m = omega arith in
    c.loop-cpu.invariant.ready
    ∙ ap (λ n. filter (is_ready m (state_of c.args.machine.now)) (range_with_len 0 n)) all
