-- The run stands at its place, and so its mark is cleared.
use Rattle.std.proofs.Common.{◌<◌, List, Bool, length, rules, subst, sym}
use Rattle.std.proofs.lemmas.List.{length-map, map-set}
use Rattle.tx_machine.specs.Runs.{is_away}
use Rattle.tx_machine.specs.declared.runs.Place.TheVariants.{Here}
use Rattle.tx_machine.proofs.Places.{own_put}
use Rattle.tx_machine.proofs.runs.Runs.put.Goals as goal

pub invariant_of-self : goal.invariant_of-self
invariant_of-self c =
    let places = c.self.inside.places.items in
    let inside : c.args.run.cpu < length places =
    subst (λ n. c.args.run.cpu < n) (length-map places is_away)
    (subst (λ (marks : List Bool). c.args.run.cpu < length marks) (sym c.self.view_is) c.requires) in
    own_put places c.cpu-cpu.result (Here c.args.run) c.self.invariant
    (subst (λ n. n < length places) (sym c.cpu-cpu.ensures) inside) (sym c.cpu-cpu.ensures)

pub returns : goal.returns
returns c = search (rules, map-set, c.self.view_is)
