-- Once its lines are there.
use Rattle.std.proofs.Common.{refl, ap, Option, Some, None, is_some}
use Rattle.z_regs.specs.Absolute.{absolute_ranges}
use Rattle.tx_keeping.specs.Turn.{k_executing}
use Rattle.tx_works.specs.declared.asking.Refused.{Refused}
use Rattle.tx_works.specs.Turned.{turned_as}
use Rattle.tx_works.specs.Works.{kept_by}
use Rattle.tx_works.proofs.Seats.{no_seat}
use Rattle.tx_works.proofs.Lined.{given-is, room-left}
use Rattle.tx_works.proofs.works.Works.go.Goals as goal

pub refuse-requires-clause-behind : goal.refuse-requires-clause-behind
refuse-requires-clause-behind c rest =
    c.get_operands.ensures.refused rest (ap (λ (o : Option Refused). is_some o) c.in-Some.is)

pub refuse-requires-clause-room : goal.refuse-requires-clause-room
refuse-requires-clause-room c =
    room-left c.args.self.now c.get_operands.new.self (c.get_operands.ensures.owed_no_more no_seat)
    (c.requires.acts no_seat).room c.get_operands.ensures.size

pub execute-requires-clause-room : goal.execute-requires-clause-room
execute-requires-clause-room c =
    room-left c.args.self.now c.get_operands.new.self (c.get_operands.ensures.owed_no_more no_seat)
    (c.requires.acts no_seat).room c.get_operands.ensures.size

pub returns-in-Some-clause-value : goal.returns-in-Some-clause-value
returns-in-Some-clause-value c rest m e =
    let k = kept_by rest c.args.self.now in
    let places = absolute_ranges (k.locals c.args.cpu).attempt.cpu.prefix c.args.need.now in
    given-is m c.args.cpu places places k (kept_by rest c.get_operands.new.self) (Some c.in-Some.refused.reject)
    (k_executing c.args.cpu c.args.instr.now c.args.need.now)
    (turned_as (kept_by rest c.refuse.new.self) c.refuse.new.turned) refl ((c.in-Some.ensures).kept rest m e)
    (c.refuse.ensures.value rest)

pub returns-in-None-clause-value : goal.returns-in-None-clause-value
returns-in-None-clause-value c rest m e =
    let k = kept_by rest c.args.self.now in
    let places = absolute_ranges (k.locals c.args.cpu).attempt.cpu.prefix c.args.need.now in
    given-is m c.args.cpu places places k (kept_by rest c.get_operands.new.self) None
    (k_executing c.args.cpu c.args.instr.now c.args.need.now)
    (turned_as (kept_by rest c.execute.new.self) c.execute.new.turned) refl ((c.in-None.ensures).kept rest m e)
    (c.execute.ensures.value rest)
