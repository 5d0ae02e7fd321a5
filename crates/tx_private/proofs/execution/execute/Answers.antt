use Rattle.tx_private.proofs.Executed.{executed}
use Rattle.tx_private.proofs.execution.execute.Goals as goal

pub returns-in-General-clause-done : goal.returns-in-General-clause-done
returns-in-General-clause-done c =
    executed c.args.depth c.args.instr.now _ _ _ _ _ _ c.ended_by.ensures (c.execute_kind.ensures.does
    c.args.depth)

pub returns-in-Storage-clause-done : goal.returns-in-Storage-clause-done
returns-in-Storage-clause-done c =
    executed c.args.depth c.args.instr.now _ _ _ _ _ _ c.ended_by-in-Storage.ensures
    (c.execute_kind-in-Storage.ensures.does c.args.depth)

pub returns-in-Branch-clause-done : goal.returns-in-Branch-clause-done
returns-in-Branch-clause-done c =
    executed c.args.depth c.args.instr.now _ _ _ _ _ _ c.ended_by-in-Branch.ensures
    (c.execute_kind-in-Branch.ensures.does c.args.depth)
