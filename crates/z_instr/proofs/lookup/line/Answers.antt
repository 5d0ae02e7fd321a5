use Rattle.std.proofs.Common.{sym, subst, ◌<◌}
use Rattle.std.specs.Str.{IsAscii}
use Rattle.z_instr.specs.Table.{Entry}
use Rattle.z_instr.specs.Layout.{place, room}
use Rattle.z_instr.proofs.TableFacts.{line_is, count_is, opcode_room, name_ascii}
use Rattle.z_instr.proofs.lookup.line.Goals as goal

pub returns-clause-row : goal.returns-clause-row
returns-clause-row c = line_is c.args.op.number _ c.args.op.known

pub returns-clause-count : goal.returns-clause-count
returns-clause-count c = count_is c.args.op.number _ c.args.op.known

pub returns-clause-room : goal.returns-clause-room
returns-clause-room c =
    subst (λ (e : Entry). e.opcode < room (place e.form))
    (sym (line_is c.args.op.number _ c.args.op.known)) (opcode_room c.args.op.number c.args.op.known)

pub returns-clause-ascii : goal.returns-clause-ascii
returns-clause-ascii c =
    subst (λ (e : Entry). IsAscii e.name) (sym (line_is c.args.op.number _ c.args.op.known))
    (name_ascii c.args.op.number c.args.op.known)
