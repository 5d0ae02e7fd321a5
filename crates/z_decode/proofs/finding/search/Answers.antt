use Rattle.std.proofs.Common.{rules}
use Rattle.std.proofs.lemmas.List.Sorted.{answers_always}
use Rattle.z_instr.specs.declared.table.Line.{Line}
use Rattle.z_instr.specs.Lines.{entry_of}
use Rattle.z_decode.specs.Keys.{key_of}
use Rattle.z_decode.proofs.Keys.{key_found, no_row_key}
use Rattle.z_decode.proofs.finding.search.Goals as goal

pub returns-in-Ok-clause-found : goal.returns-in-Ok-clause-found
returns-in-Ok-clause-found c =
    key_found c.args.key c.in-Ok.at c.in-Ok.ensures.bound
    (c.in-Ok.ensures.position (λ (l : Line). key_of (entry_of l)) (answers_always _ _ _ (λ f a r g called. search rules)))

pub returns-in-Err-clause-none : goal.returns-in-Err-clause-none
returns-in-Err-clause-none c =
    no_row_key c.args.key c.in-Err.field-0
    (c.in-Err.ensures.position (λ (l : Line). key_of (entry_of l)) (answers_always _ _ _ (λ f a r g called. search rules)))
