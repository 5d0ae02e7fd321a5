use Rattle.std.proofs.Common.{[], ◌∷◌, ◌∙◌, sym}
use Rattle.std.specs.FinSet.{items}
use Rattle.tx_serial.specs.Fate.{text_refusal, restricted_refusal, specified_refusal, depth_refusal}
use Rattle.tx_serial.specs.Fate.{operand_refusal, place_refusal, overflow_refusal}
use Rattle.tx_private.specs.Refused.{refusal_of}
use Rattle.tx_private.proofs.Tested.{first_found, none_found, found_first, admits, specified_past}
use Rattle.tx_private.proofs.refusals.tested.Goals as goal

pub operand_test-requires : goal.operand_test-requires
operand_test-requires c = λ base p shows.
    specified_past p c.args.instr.now (sym (c.in-None.ensures base p shows))

pub returns-in-Some : goal.returns-in-Some
returns-in-Some c = λ base p shows.
    let i = c.args.instr.now in
    first_found (text_refusal p i ∷ restricted_refusal p i ∷ specified_refusal p i ∷ depth_refusal p i ∷ [])
    (operand_refusal (items c.args.guard.now) p i ∷ place_refusal p i ∷ overflow_refusal p i ∷ [])
    (refusal_of c.in-Some.refused) (sym (c.in-Some.ensures base p shows))

pub returns-in-Err : goal.returns-in-Err
returns-in-Err c = λ base p shows.
    let i = c.args.instr.now in
    let rest = place_refusal p i ∷ overflow_refusal p i ∷ [] in
    none_found (text_refusal p i ∷ restricted_refusal p i ∷ specified_refusal p i ∷ depth_refusal p i ∷ [])
    (operand_refusal (items c.args.guard.now) p i ∷ rest) (sym (c.in-None.ensures base p shows))
    ∙ found_first (operand_refusal (items c.args.guard.now) p i) rest (refusal_of c.in-Err.refused)
    (c.in-Err.ensures base p shows)

pub returns-in-Ok : goal.returns-in-Ok
returns-in-Ok c = λ base p shows.
    let i = c.args.instr.now in
    admits (text_refusal p i ∷ restricted_refusal p i ∷ specified_refusal p i ∷ depth_refusal p i ∷ [])
    (operand_refusal (items c.args.guard.now) p i) (place_refusal p i ∷ overflow_refusal p i ∷ []) p i
    c.tested_behind.result (sym (c.in-None.ensures base p shows)) (c.in-Ok.ensures base p shows).0
    (c.tested_behind.ensures base p shows)
