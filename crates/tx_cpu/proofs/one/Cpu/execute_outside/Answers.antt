-- What an instruction outside transactions leaves and tells.
use Rattle.std.proofs.Common.{◌≡◌, List, ℕ, ap, sym, subst, ◌∙◌}
use Rattle.std.specs.Prelude.{nat_lt, false}
use Rattle.z_regs.specs.Cpu.{cpu_of}
use Rattle.tx_progress.specs.Progress.{Progress}
use Rattle.tx_progress.specs.Trial.{outcome_by}
use Rattle.tx_attempt.specs.Performed.{IsLeftOutside}
use Rattle.tx_attempt.specs.Tracked.{progress}
use Rattle.tx_cpu.specs.Parts.{Parts}
use Rattle.tx_attempt.specs.Storages.{storage_of}
use Rattle.tx_cpu.specs.contracts.one.Cpu.{the_view}
use Rattle.tx_progress.proofs.Parts.{not_live}
use Rattle.tx_cpu.proofs.one.Cpu.execute_outside.Goals as goal

pub perform_outside-ended-requires-clause-rests : goal.perform_outside-ended-requires-clause-rests
perform_outside-ended-requires-clause-rests g c =
    let live : nat_lt 0 c.self.inside.attempt.count ≡ false =
    ap (λ (q : Parts). nat_lt 0 q.attempt.count) c.self.view_is ∙ c.requires.rests in
    c.is_sound.ensures.rests (not_live _ live)

pub returns-clause-value : goal.returns-clause-value
returns-clause-value g c =
    let p = the_view c.self.inside in
    let live : nat_lt 0 c.self.inside.attempt.count ≡ false =
    ap (λ (q : Parts). nat_lt 0 q.attempt.count) c.self.view_is ∙ c.requires.rests in
    let rests = c.is_sound.ensures.rests (not_live _ live) in
    let need = c.args.need.now in
    let old : List ℕ = g.V.Bytes.bytes c.args.base.now in
    let next : List ℕ = g.V.Bytes.bytes c.perform_outside-ended.new.base in
    let cpu = cpu_of c.perform_outside-ended.new.image in
    let left : IsLeftOutside need p.image cpu old next c.perform_outside-ended.result
    (outcome_by (storage_of old) c.args.instr.now need (progress p.attempt p.image)) =
    subst (λ (q : Progress). IsLeftOutside need p.image cpu old next c.perform_outside-ended.result
    (outcome_by (storage_of old) c.args.instr.now need q)) (sym (rests p.image))
    c.perform_outside-ended.ensures.left in
    rw (← c.self.view_is)
    (c.leave_outside.ensures p.image (outcome_by (storage_of old) c.args.instr.now need (progress p.attempt p.image))
    need old next left c.delay_after-turns.ensures)
