-- Storage as it is, is what the CPU sees.
use Rattle.std.proofs.Common.{List, ℕ, [], refl, sym, subst, ◌∙◌, length}
use Rattle.z_regs.specs.Cpu.{cpu_of}
use Rattle.store_cache.specs.Entries.{stores_of}
use Rattle.tx_progress.specs.Progress.{seen_through}
use Rattle.tx_attempt.specs.Performed.{StoresFirst}
use Rattle.tx_attempt.specs.Storages.{storage_of}
use Rattle.tx_attempt.proofs.Bare.{apart-so, none-apart, none-after}
use Rattle.tx_attempt.proofs.Fetching.{all-inside}
use Rattle.tx_attempt.proofs.Laying.{plain-left-outside}
use Rattle.tx_attempt.proofs.Stored.{operands-first}
use Rattle.tx_cpu.proofs.There.{first-unstored}
use Rattle.tx_cpu.proofs.outside.perform_there.Goals as goal

pub execute_plain-requires-clause-inside : goal.execute_plain-requires-clause-inside
execute_plain-requires-clause-inside g c =
    all-inside c.args.image.now.prefix c.args.need.now (g.V.Bytes.bytes c.args.base.now) c.requires.size
    c.requires.accessible

pub returns-clause-outside : goal.returns-clause-outside
returns-clause-outside g c =
    let i = c.args.instr.now in
    let need = c.args.need.now in
    let old = cpu_of c.args.image.now in
    plain-left-outside i need 0 c.args.image.now.prefix old _ (g.V.Bytes.bytes c.args.base.now)
    (g.V.Bytes.bytes c.execute_plain.new.base) _ c.requires.none refl
    (subst StoresFirst (sym c.requires.need) (operands-first i old))
    (all-inside c.args.image.now.prefix need (g.V.Bytes.bytes c.args.base.now) c.requires.size
    c.requires.accessible) (c.execute_plain.ensures.left 0)

pub returns-clause-inside : goal.returns-clause-inside
returns-clause-inside g c t there =
    let need = c.args.need.now in
    let s : List ℕ = g.V.Bytes.bytes c.args.base.now in
    let new : List ℕ = g.V.Bytes.bytes c.execute_plain.new.base in
    apart-so c.args.instr.now (cpu_of c.args.image.now) (cpu_of c.execute_plain.new.image) c.args.image.now.prefix
    need s new [] _ c.requires.need c.requires.accessible c.requires.size c.execute_plain.ensures.left
    (none-apart need new [] (first-unstored need there.fetches))
    (seen_through (stores_of t.stores).overlay (storage_of s)) (length t.nest) (there.seen s)

pub returns-clause-same : goal.returns-clause-same
returns-clause-same g c fetches =
    let need = c.args.need.now in
    (c.execute_plain.ensures.left 0).view
    ∙ none-after need _ (g.V.Bytes.bytes c.args.base.now)
    (subst StoresFirst (sym c.requires.need) (operands-first c.args.instr.now (cpu_of c.args.image.now)))
    (first-unstored need fetches)
