-- What a TEND leaves and tells that commits.
use Rattle.std.proofs.Common.{◌≡◌, ◌+◌, List, ℕ, sym, ap, ◌∙◌, arith, length}
use Rattle.z_regs.specs.Cpu.{cpu_of}
use Rattle.z_instr.specs.declared.kind.Transaction.TheVariants as transaction
use Rattle.store_cache.specs.Entries.{stores_of}
use Rattle.tx_progress.specs.Progress.{seen_through}
use Rattle.tx_progress.specs.Trial.{outcome_by}
use Rattle.tx_attempt.specs.Performed.{first_size}
use Rattle.tx_attempt.specs.Storages.{storage_of}
use Rattle.tx_attempt.specs.Tracked.{progress}
use Rattle.tx_cpu.specs.Parts.{Parts}
use Rattle.tx_cpu.specs.contracts.one.Cpu.{the_view}
use Rattle.tx_cpu.proofs.About.{size-known, ends-level, end-completes, completed-with}
use Rattle.tx_cpu.proofs.Inside.{committed-is, end-bare}
use Rattle.tx_cpu.proofs.one.Cpu.execute_last.Goals as goal

pub perform-requires-clause-room : goal.perform-requires-clause-room
perform-requires-clause-room g c =
    let size = size-known c.args.instr.now c.args.self.now.image transaction.End c.args.need.now
    c.requires.goes.operands_are c.requires.kind in
    omega (arith, size)

pub returns-clause-value : goal.returns-clause-value
returns-clause-value g c =
    let p = the_view c.self.inside in
    let i = c.args.instr.now in
    let need = c.args.need.now in
    let s = storage_of (g.V.Bytes.bytes c.args.base.now) in
    let ends = ends-level i.op.number c.requires.kind in
    let done = end-completes s i need (progress p.attempt p.image) c.requires.kind in
    rw (← c.self.view_is)
    (committed-is p i need (outcome_by s i need (progress p.attempt p.image)) (cpu_of c.perform.new.image)
    c.perform.new.stored _ _ _ _ ends
    (ap (λ (q : Parts). length q.attempt.nest) c.self.view_is ∙ c.requires.last)
    (c.requires.goes.operands_are ∙ end-bare i c.args.self.now.image ends)
    (completed-with _ _ _ (first_size need) (outcome_by s i need (progress p.attempt p.image)) done
    c.perform.ensures.value)
    c.commit.ensures.rests
    (c.commit.ensures.bytes ∙ ap (λ (b : List ℕ). seen_through (stores_of p.attempt.stores).overlay
    (storage_of b)) c.perform.ensures.same)
    (ap (λ n. n + 1) c.count-count.ensures))
