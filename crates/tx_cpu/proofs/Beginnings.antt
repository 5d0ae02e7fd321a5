-- What is kept of a CPU after an outermost begin.
use Rattle.std.proofs.Common.{◌≡◌, ℕ, true, false, List, []}
use Rattle.std.proofs.Common.{sym, ap, ◌∙◌}
use Rattle.std.specs.Prelude.{if◌then◌else◌, nat_lt}
use Rattle.z_regs.specs.Cpu.{Cpu}
use Rattle.z_regs.specs.declared.ranges.Range.{Range}
use Rattle.z_instr.specs.declared.instr.Instr.{Instr}
use Rattle.z_effect.specs.After.{cpu_after}
use Rattle.z_effect.specs.Outcome.{Outcome, Did}
use Rattle.tx_progress.proofs.Rows.{IsDone}
use Rattle.tx_progress.specs.Progress.{advanced, resting}
use Rattle.tx_progress.specs.Doing.{Executed, executed_where}
use Rattle.tx_progress.specs.declared.done.Done.TheVariants as done
use Rattle.tx_attempt.specs.Tracked.{Tracked, progress}
use Rattle.tx_cpu.specs.Parts.{Parts, local_of, beside}
use Rattle.tx_attempt.specs.Storages.{storage_of}
use Rattle.tx_cpu.proofs.Ends.{cpu-rests}

began-by : (p : Parts) (i : Instr) (need : List Range) (o : Outcome) (d : IsDone o) (image : Cpu)
    (attempt : Tracked) (old : List ℕ) → nat_lt 0 p.attempt.count ≡ false
    → ((x : Cpu) → progress p.attempt x ≡ resting x) → need ≡ [] → image ≡ cpu_after p.image o
    → ((x : Cpu) → progress attempt x ≡ advanced i [] x [] (resting p.image)) → attempt.count ≡ 1
    → ◌≡◌ {A = Executed} (record {
      after = beside (record p { image = image; saved = p.image; attempt = attempt }) old;
      told = done.Began;
    }) (executed_where false true i need (beside p old) (Did d.cpu d.bytes))
began-by p i need o d image attempt old live rests en ei ea ec =
    let same : image ≡ d.cpu = ei ∙ ap (cpu_after p.image) d.is in
    let there : (if nat_lt 0 attempt.count then p.image else image) ≡ (local_of p).cpu =
    ap (λ n. if nat_lt 0 n then p.image else image) ec ∙ sym (cpu-rests p live) in
    let next : progress attempt image ≡ advanced i [] d.cpu [] (progress p.attempt p.image) =
    ea image ∙ (λ j. advanced i [] (same j) [] (sym (rests p.image) j)) in
    let whole : ◌≡◌ {A = Executed} (record {
      after = beside (record p { image = image; saved = p.image; attempt = attempt }) old;
      told = done.Began;
    }) (executed_where false true i [] (beside p old) (Did d.cpu d.bytes)) =
    λ j. record {
      after = record {
        local =
            record { cpu = there j; attempt = next j; pending = p.pending; waiting = p.waiting };
        storage = storage_of old;
      };
      told = done.Began;
    } in
    whole ∙ ap (λ (rs : List Range). executed_where false true i rs (beside p old) (Did d.cpu d.bytes))
    (sym en)

pub began-is : (p : Parts) (i : Instr) (need : List Range) (o : Outcome) (image : Cpu) (attempt : Tracked)
    (old : List ℕ) → IsDone o → nat_lt 0 p.attempt.count ≡ false
    → ((x : Cpu) → progress p.attempt x ≡ resting x) → need ≡ [] → image ≡ cpu_after p.image o
    → ((x : Cpu) → progress attempt x ≡ advanced i [] x [] (resting p.image)) → attempt.count ≡ 1
    → ◌≡◌ {A = Executed} (record {
      after = beside (record p { image = image; saved = p.image; attempt = attempt }) old;
      told = done.Began;
    }) (executed_where false true i need (beside p old) o)
began-is p i need o image attempt old d live rests en ei ea ec =
    began-by p i need o d image attempt old live rests en ei ea ec
    ∙ ap (executed_where false true i need (beside p old)) (sym d.is)
