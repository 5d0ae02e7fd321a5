-- What stood at the place is of the CPU of that number; the place is empty, and so its mark is set.
use Rattle.std.proofs.Common.{◌<◌, List, Bool, length, rules, subst, sym}
use Rattle.std.proofs.lemmas.List.{length-map, map-set}
use Rattle.tx_machine.specs.Runs.{IsOf, is_away}
use Rattle.tx_machine.proofs.Places.{own_at, own_put}
use Rattle.tx_machine.proofs.runs.Runs.take.Goals as goal

inside : (c : goal.After-run_at) → c.args.cpu < length c.self.inside.places.items
inside c =
    subst (λ n. c.args.cpu < n) (length-map c.self.inside.places.items is_away)
    (subst (λ (marks : List Bool). c.args.cpu < length marks) (sym c.self.view_is) c.requires)

pub invariant_of-self : goal.invariant_of-self
invariant_of-self c =
    own_put c.self.inside.places.items c.args.cpu c.replace.new.dest c.self.invariant (inside c)
    (subst (IsOf c.args.cpu) (sym c.replace.ensures.after) tt)

pub returns-clause-own : goal.returns-clause-own
returns-clause-own c =
    c.run_at.ensures.own c.args.cpu (subst (IsOf c.args.cpu) (sym c.replace.ensures.value)
    (own_at c.self.inside.places.items c.args.cpu c.index_mut.result.now c.self.invariant (inside c)
    c.index_mut.ensures.value))

pub returns-clause-away : goal.returns-clause-away
returns-clause-away c = search (rules, map-set, c.self.view_is)
