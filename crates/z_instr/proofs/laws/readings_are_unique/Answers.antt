use Rattle.std.proofs.Common.{sym, ◌∙◌}
use Rattle.z_instr.proofs.Bytes.{reads_bytes}
use Rattle.z_instr.proofs.Distinct.{opcode_gives_length}
use Rattle.z_instr.proofs.Spelled.{reads_opcode, reads_length}
use Rattle.z_instr.proofs.OneReading.{one_reading}
use Rattle.z_instr.proofs.laws.readings_are_unique.Goals as goal

pub returns-clause-instruction : goal.returns-clause-instruction
returns-clause-instruction c bytes i j r t = one_reading bytes i j (reads_bytes bytes i r) r t

pub returns-clause-bytes : goal.returns-clause-bytes
returns-clause-bytes c some others i r t = r ∙ sym t

pub returns-clause-list : goal.returns-clause-list
returns-clause-list c = reads_bytes

pub returns-clause-length : goal.returns-clause-length
returns-clause-length c bytes i r =
    reads_length bytes i r
    ∙ sym (opcode_gives_length i.op.number bytes i.op.known (reads_bytes bytes i r)
    (reads_opcode bytes i r))
