use Rattle.std.proofs.Common.{rules, ◌++◌, take}
use Rattle.ztx_io.proofs.InPieces.{came_more}
use Rattle.ztx_io.proofs.whole.read_all.Goals as goal

pub returns-then-n-limit-clause-err : goal.returns-then-n-limit-clause-err
returns-then-n-limit-clause-err g c =
    let came =
    came_more _ _ _ c.loop-n.bytes.items c.read.new.into c.in-Got.n (search rules) c.loop-n.invariant.came
    c.in-Got.ensures.step.1 in
    (c.loop-n.bytes.items ++ take c.in-Got.n c.read.new.into, came.bytes_came, search (rules, came.length_is))

pub returns-then-is_err-clause-err : goal.returns-then-is_err-clause-err
returns-then-is_err-clause-err g c =
    let came =
    came_more _ _ _ c.loop-n.bytes.items c.read.new.into c.in-Got.n (search rules) c.loop-n.invariant.came
    c.in-Got.ensures.step.1 in
    (c.loop-n.bytes.items ++ take c.in-Got.n c.read.new.into, came.bytes_came, search (rules, came.length_is))
