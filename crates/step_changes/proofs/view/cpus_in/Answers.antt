-- One CPU more is seen.
use Rattle.std.proofs.Common.{◌∙◌, sym, ap, [], ◌∷◌, ◌++◌, arith}
use Rattle.std.proofs.lemmas.List.FromFn.{map-range_with_len_more}
use Rattle.step_changes.specs.Seen.{CpuSeen}
use Rattle.step_changes.proofs.view.cpus_in.Goals as goal

pub loop-cpu-preserved : goal.loop-cpu-preserved
loop-cpu-preserved g c =
    let f = (g.S.Shows.shown c.args.machine.now).cpu in
    let n = c.loop-cpu.cpu in
    c.in_ok-push.ensures.items
    ∙ ap (λ (s : CpuSeen). c.loop-cpu.cpus.items ++ s ∷ []) c.cpu.ensures
    ∙ ap (λ l. l ++ f n ∷ []) c.loop-cpu.invariant
    ∙ sym (map-range_with_len_more f 0 n n (omega arith))
