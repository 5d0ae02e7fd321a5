-- Text as the CPU sees it is text where it lies.
use Rattle.z_regs.specs.Prefix.{absolute_of}
use Rattle.tx_progress.proofs.Lines.{text_there}
use Rattle.tx_cpu.proofs.Agreeing.{fate_by_progress-alike}
use Rattle.tx_cpu.proofs.laws.the_next_instruction_is_text.Goals as goal

pub returns : goal.returns
returns c text s t q ok same =
    fate_by_progress-alike text s t q
    (λ a h. same (absolute_of q.cpu.prefix a) (text_there q.cpu.prefix text a ok h))
