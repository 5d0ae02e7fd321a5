-- One CPU more is that of the machine.
use Rattle.std.proofs.Common.{◌≡◌, ◌-◌, ◌<◌, false, refl, sym, ap, ◌∙◌, length, get_or, take, drop, arith, length-drop}
use Rattle.std.proofs.lemmas.List.{length-set, take_all}
use Rattle.step_changes.specs.Parts.{put_part}
use Rattle.step_changes.specs.Resting.{is_entered}
use Rattle.step_changes.specs.Seen.{CpuSeen}
use Rattle.step_changes.proofs.Changed.{adds_nothing, adds_on}
use Rattle.step_changes.proofs.Listed.{all_listed}
use Rattle.step_changes.proofs.Parted.{IsNoted, noted_at, passed_over, seen_more, ahead_more}
use Rattle.step_changes.proofs.view.note_cpus.Goals as goal
use Rattle.step_changes.proofs.view.note_cpus.Goals.{then-may_differ+in_ok-note_cpu, else-may_differ}

pub loop-cpu-init : goal.loop-cpu-init
loop-cpu-init g c = record {
  size = refl;
  seen = λ k d low. absurd (omega arith);
  ahead = λ k d high. refl;
  adds =
      adds_nothing put_part c.args.changes.now.items c.args.changes.now.items c.args.cpus.now c.args.cpus.now refl
      refl;
}

pub loop-cpu-preserved : goal.loop-cpu-preserved
loop-cpu-preserved g c =
    let v = g.S.Shows.shown c.args.machine.now in
    let n = c.loop-cpu.cpu in
    let cpus = c.loop-cpu.cpus in
    let next = c.if-may_differ.cpus in
    let kept = c.loop-cpu.invariant in
    let size : length cpus ≡ length c.args.cpus.now = kept.size in
    let within : n < length cpus = omega (arith, size) in
    let noted : IsNoted (v.cpu n) n c.loop-cpu.changes.items c.if-may_differ.changes.items cpus next =
    elim c.if-may_differ.branch [
      | then-may_differ+in_ok-note_cpu w ↦
          let r = w.index-cpus-cpu-then-may_differ.result in
          noted_at cpus next n c.loop-cpu.changes.items w.note_cpu.new.changes.items
          c.if-may_differ.changes.items (get_or cpus n r) w.note_cpu.new.sight (v.cpu n) within
          (ap (get_or cpus n) w.index-cpus-cpu-then-may_differ.is) (w.in_ok-note_cpu.ensures.value ∙ w.cpu.ensures)
          w.in_ok-note_cpu.ensures.adds w.cpus-is (ap (λ v. v.items) w.changes-is)
      | else-may_differ w ↦
          let d = c.index-cpus-cpu.result in
          let here : get_or cpus n d ≡ get_or c.args.cpus.now n d = kept.ahead n d (omega arith) in
          let live : (get_or c.args.cpus.now n d).live ≡ (v.cpu n).live =
          ap (λ (x : CpuSeen). x.live) (sym here)
          ∙ c.may_differ.ensures.live w.if-may_differ.false in
          let journal = c.journal.result.now in
          let before = c.args.before in
          let rest : take (length journal - before) (drop before journal) ≡ drop before v.history =
          take_all (length journal - before) (drop before journal) (omega (arith, length-drop before journal))
          ∙ ap (drop before) c.journal.ensures in
          let unentered : is_entered (drop before v.history) n ≡ false =
          ap (λ l. is_entered l n) (sym rest) ∙ c.may_differ.ensures.entries w.if-may_differ.false in
          let stays : get_or cpus n d ≡ v.cpu n =
          here ∙ c.requires.stay n d (omega (arith, within, size))
          unentered live in
          passed_over cpus next n c.loop-cpu.changes.items c.if-may_differ.changes.items (v.cpu n) d within
          stays w.cpus-is (ap (λ v. v.items) w.changes-is)
    ] in
    record {
      size = ap length noted.is ∙ length-set cpus n (v.cpu n) ∙ size;
      seen = seen_more v.cpu n cpus next within noted.is kept.seen;
      ahead = ahead_more v.cpu n cpus next within noted.is c.args.cpus.now kept.ahead;
      adds =
          adds_on put_part c.args.changes.now.items c.loop-cpu.changes.items c.if-may_differ.changes.items
          c.args.cpus.now cpus next kept.adds noted.adds;
    }

pub returns-clause-value : goal.returns-clause-value
returns-clause-value g c =
    let v = g.S.Shows.shown c.args.machine.now in
    all_listed v.cpu c.loop-cpu.cpus v.count
    (omega arith) (λ k d low. c.loop-cpu.invariant.seen k d (omega arith))
