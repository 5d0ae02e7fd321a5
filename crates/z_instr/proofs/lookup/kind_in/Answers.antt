use Rattle.std.proofs.Common.{ap}
use Rattle.z_instr.specs.Table.{Entry, kind_at}
use Rattle.z_instr.proofs.TableFacts.{line_is}
use Rattle.z_instr.proofs.lookup.kind_in.Goals as goal

pub returns : goal.returns
unfolding kind_at
returns c = ap (λ (e : Entry). e.kind) (line_is c.args.op.number _ c.args.op.known)
