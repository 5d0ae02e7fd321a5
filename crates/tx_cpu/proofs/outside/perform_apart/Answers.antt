-- What is stored was kept apart before.
use Rattle.std.proofs.Common.{List, ℕ, ap, sym, subst, ◌∙◌, take}
use Rattle.z_regs.specs.Cpu.{cpu_of}
use Rattle.z_effect.specs.After.{cpu_after}
use Rattle.tx_progress.specs.Progress.{Progress, resting}
use Rattle.tx_progress.specs.Trial.{outcome_by}
use Rattle.tx_attempt.specs.Performed.{StoresFirst, first_size, trimmed, storage_outside}
use Rattle.tx_attempt.specs.Storages.{storage_of}
use Rattle.tx_attempt.proofs.Laying.{apart-left}
use Rattle.tx_attempt.proofs.Stored.{operands-first}
use Rattle.tx_cpu.proofs.outside.perform_apart.Goals as goal

pub store_outside-requires-clause-first : goal.store_outside-requires-clause-first
store_outside-requires-clause-first g c =
    subst StoresFirst (sym c.requires.need) (operands-first c.args.instr.now (cpu_of c.args.image.now))

pub returns-clause-left : goal.returns-clause-left
returns-clause-left g c =
    let i = c.args.instr.now in
    let need = c.args.need.now in
    let old = cpu_of c.args.image.now in
    let s : List ℕ = g.V.Bytes.bytes c.args.base.now in
    let bytes : List ℕ = take (first_size need) c.perform-ended.new.stored in
    let rests = c.requires.rests old in
    apart-left need (outcome_by (storage_of s) i need (resting old)) old
    (cpu_of c.perform-ended.new.image) s (g.V.Bytes.bytes c.store_outside.new.base) bytes
    c.perform-ended.result
    (subst StoresFirst (sym c.requires.need) (operands-first i old))
    (c.perform-ended.ensures.value
    ∙ ap (λ (q : Progress). trimmed (first_size need) (outcome_by (storage_of s) i need q)) rests)
    (c.perform-ended.ensures.image
    ∙ ap (λ (q : Progress). cpu_after old (outcome_by (storage_of s) i need q)) rests)
    (c.store_outside.ensures.value
    ∙ ap (λ (b : List ℕ). storage_outside c.args.image.now.prefix need c.perform-ended.result bytes
    (storage_of b)) c.perform-ended.ensures.same)
