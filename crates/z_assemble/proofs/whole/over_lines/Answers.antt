use Rattle.std.proofs.Common.{◌≡◌, ◌==◌, false, Ok, subst, arith}
use Rattle.std.proofs.lemmas.Bool.Decides.{nat_tests}
use Rattle.z_reading.specs.Listing.{plan_of}
use Rattle.z_setup.specs.Setup.{machine_of}
use Rattle.z_fields.specs.Pieces.{pieces_by}
use Rattle.z_assemble.specs.Whole.{first_over}
use Rattle.z_assemble.proofs.Says.{lines_stand}
use Rattle.z_assemble.proofs.whole.over_lines.Goals as goal

pub returns : goal.returns
returns c =
    let some : (c.first_over.new.draft.cpus == 0) ≡ false = grind (arith, nat_tests) in
    let first = subst (λ t. first_over 1 (pieces_by 10 t) (plan_of c.in_ok-draft.draft) ≡
    Ok (plan_of c.first_over.new.draft)) c.in_ok-draft.ensures.text c.in_ok-first_over.ensures in
    lines_stand (pieces_by 10 c.args.text.now) (plan_of c.in_ok-draft.draft)
    (plan_of c.first_over.new.draft) (machine_of c.in_ok-setup.setup)
    (machine_of c.second_over.new.setup) c.in_ok-image.field-0
    c.requires.lines c.in_ok-draft.ensures.is first
    c.in_ok-setup.ensures.is c.in_ok-second_over.ensures some
    (rw c.deref.ensures.value at c.in_ok-image.ensures)
