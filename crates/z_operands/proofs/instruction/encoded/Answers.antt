use Rattle.std.proofs.Common.{rules}
use Rattle.z_operands.proofs.Spelled.{allowed_code}
use Rattle.z_operands.proofs.instruction.encoded.Goals as goal

pub returns-in-Some-clause-code : goal.returns-in-Some-clause-code
returns-in-Some-clause-code c =
    allowed_code c.args.op c.args.fields c.in-Some.instr _
    (c.in-Some.ensures.allowed.0 (search rules)) c.in-Some.ensures.made c.encode.ensures.bytes
