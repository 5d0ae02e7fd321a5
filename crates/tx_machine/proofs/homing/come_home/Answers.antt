-- So many turns of the CPU behind all events, or nothing.
use Rattle.std.proofs.Common.{sym, subst}
use Rattle.tx_meaning.specs.Limits.{Setting}
use Rattle.tx_meaning.specs.Meaning.{meaning}
use Rattle.tx_meaning.specs.Views.{GoesOnWith}
use Rattle.tx_home.specs.Works.{Works}
use Rattle.tx_machine.specs.Machine.{Stands, nobody}
use Rattle.tx_machine.proofs.Homes.{by_answer, room_for, stands_home, executed_home, grows_home, grows_not}
use Rattle.tx_machine.proofs.homing.come_home.Goals as goal

pub home-requires-clause-room : goal.home-requires-clause-room
home-requires-clause-room c rest fits =
    let m : Setting = record { image = c.args.program.now; limits = c.args.limits } in
    room_for m c.args.works.now _ c.requires.stands c.args.run.now.cpu c.args.run.now.made.steps c.requires.known rest fits

pub returns-clause-stands : goal.returns-clause-stands
returns-clause-stands c =
    let m : Setting = record { image = c.args.program.now; limits = c.args.limits } in
    by_answer c.home.result
    (λ none. stands_home m c.args.works.now _ c.requires.stands c.args.run.now.cpu c.args.run.now.made.steps c.requires.known
    c.home.new.works c.home.ensures.size (c.home.ensures.events none) (c.home.ensures.taken (nobody m) none))
    (λ some. subst (λ (w : Works). Stands m w c.args.left) (sym (c.home.ensures.stays some)) c.requires.stands)

pub returns-clause-executed : goal.returns-clause-executed
returns-clause-executed c j none lt =
    let m : Setting = record { image = c.args.program.now; limits = c.args.limits } in
    executed_home m c.args.works.now _ c.requires.stands c.args.run.now.cpu c.args.run.now.made.steps c.requires.known j
    (c.home.ensures.each (nobody m) j none lt)

pub returns-clause-grows : goal.returns-clause-grows
returns-clause-grows c =
    let m : Setting = record { image = c.args.program.now; limits = c.args.limits } in
    by_answer c.home.result
    (λ none. grows_home m c.args.works.now _ c.requires.stands c.args.run.now.cpu c.args.run.now.made.steps c.requires.known
    c.home.new.works (c.home.ensures.events none))
    (λ some. subst (λ (w : Works). GoesOnWith (meaning m c.args.works.now.events).history (meaning m w.events).history)
    (sym (c.home.ensures.stays some)) (grows_not m c.args.works.now _ c.requires.stands))
