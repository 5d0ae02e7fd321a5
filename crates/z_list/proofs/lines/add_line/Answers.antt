use Rattle.std.proofs.Common.{ap, ◌++◌, ◌∙◌, List, ℕ}
use Rattle.std.proofs.lemmas.Result.{on_ok_weaker}
use Rattle.z_list.proofs.Codes.{line_is}
use Rattle.z_list.proofs.lines.add_line.Goals as goal

pub returns : goal.returns
returns c =
    let code = c.code_at-code.result.now in
    let line = line_is c.args.storage.now code c.args.start c.instruction_of-instr.result
    c.code_at-code.ensures.value c.instruction_of-instr.ensures in
    on_ok_weaker c.add_parts.result (λ grown. grown ∙ ap (λ (t : List ℕ). c.args.text.now.items ++ t) line)
    c.add_parts.ensures
