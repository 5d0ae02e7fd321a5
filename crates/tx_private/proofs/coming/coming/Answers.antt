use Rattle.std.proofs.Common.{ap, ◌∙◌, List}
use Rattle.std.specs.FinSet.{items}
use Rattle.tx_control.specs.declared.begins.Begin.{Begin}
use Rattle.tx_serial.specs.Fate.{fate_after}
use Rattle.tx_private.specs.Refused.{refusal_of}
use Rattle.tx_private.proofs.Fetched.{copy_size}
use Rattle.tx_private.proofs.Refusing.{comes_after, refused_behind, has_prefix}
use Rattle.tx_private.proofs.coming.coming.Goals as goal

pub read-requires : goal.read-requires
read-requires c =
    let shows = c.requires.1.1 in
    copy_size c.args.a.now.seen c.requires.1.0 (has_prefix c.requires.0 c.args.a.now c.requires.1.0 shows)
    shows.copy

pub returns-in-Err-tested : goal.returns-in-Err-tested
returns-in-Err-tested c = λ base p shows.
    let text = items c.args.guard.now in
    let r = refusal_of c.in-Err-tested.refused in
    let reads = c.in-Ok.ensures p shows.cpu shows.copy in
    comes_after text p p.nest r c.after-in-Err-tested.result
    (refused_behind text p c.in-Ok.instr r reads.0 reads.1 (c.in-Err-tested.ensures base p shows))
    (c.after-in-Err-tested.ensures ∙ ap (λ (nest : List Begin). fate_after nest r) shows.nest)
