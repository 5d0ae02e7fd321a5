-- There is no operand, or it is fetched and nothing is stored over it.
use Rattle.std.proofs.Common.{◌+◌, [], sym, ap, ◌∙◌}
use Rattle.store_cache.specs.Entries.{stores_of}
use Rattle.tx_cpu.specs.Parts.{Parts, local_of}
use Rattle.tx_program.specs.declared.ready.Touch.{Touch}
use Rattle.tx_program.specs.Shapes.{is_open}
use Rattle.tx_cpu.proofs.Plainly.{in-line, line-end}
use Rattle.tx_cpu.proofs.There.{nothing-there, fetched-there}
use Rattle.tx_cpu.proofs.one.Cpu.sees_there.Goals as goal

pub returns-in-Nothing : goal.returns-in-Nothing
returns-in-Nothing c h live =
    let shape = c.args.plain.now.ready.now.shape in
    nothing-there (local_of c.args.self.now).attempt shape.touch c.args.plain.now.first shape.size c.in-Nothing.is

pub is_bare-requires : goal.is_bare-requires
is_bare-requires c =
    let shape = c.args.plain.now.ready.now.shape in
    let first = c.args.plain.now.first in
    line-end first shape.size (in-line first shape.size
    (sym (ap (λ (t : Touch). is_open t first shape.size []) c.in-Fetch.is) ∙ c.requires.placed))

pub returns-in-Fetch : goal.returns-in-Fetch
returns-in-Fetch c h live =
    let shape = c.args.plain.now.ready.now.shape in
    fetched-there (local_of c.args.self.now).attempt shape.touch c.args.plain.now.first shape.size c.in-Fetch.is
    c.requires.bare
    (λ k lt. ap (λ (q : Parts). (stores_of q.attempt.stores).overlay (c.args.plain.now.first + k)) (sym c.self.view_is)
    ∙ c.is_bare.ensures h k lt)
